-- Times, speeds and runs as a document has them, in whole units.
use Rattle.std.specs.Prelude.{ℕ, ◌+◌, ◌-◌, ◌*◌, ◌/◌, List, [], ◌∷◌, sum_by, Bool, ◌==◌, ◌&&◌, ◌||◌, nat_lt, if◌then◌else◌, unwrap_or}
use Rattle.yds_trace.specs.declared.job.Stretch.{Stretch}

-- the units of a document, and the time that is its 0, in nanoseconds
pub record Units : Type 0 where
  pub zero : ℕ
  -- nanoseconds
  pub time : ℕ
  -- kilohertz
  pub speed : ℕ

-- a time is rounded down to a unit
abbrev pub written_time : Units → ℕ → ℕ
written_time units time = (time - units.zero) / units.time

-- a speed to the nearest unit
abbrev pub written_speed : Units → ℕ → ℕ
written_speed units khz = (2 * khz + units.speed) / (2 * units.speed)

-- the written speed is off by more than a twentieth, or is 0
abbrev pub is_coarse : Units → ℕ → Bool
is_coarse units khz =
    (written_speed units khz == 0)
    || nat_lt khz (20 * (written_speed units khz * units.speed - khz))
    || nat_lt khz (20 * (khz - written_speed units khz * units.speed))

-- a job has the processor from one unit of time to another, at a speed
pub record Run : Type 0 where
  pub from : ℕ
  pub to : ℕ
  pub speed : ℕ

abbrev pub run_of : Units → Stretch → Run
run_of units stretch = record {
  from = written_time units stretch.from;
  to = written_time units stretch.to;
  speed = written_speed units (unwrap_or stretch.khz 0);
}

-- A run before others. Two that meet at one speed are one run: less than a unit may have gone to another thread between them.
abbrev pub before : Run → List Run → List Run
before run [] = run ∷ []
before run (next ∷ runs) =
    if (run.to == next.from) && (run.speed == next.speed) then record { from = run.from; to = next.to; speed = run.speed } ∷ runs
    else run ∷ next ∷ runs

-- The runs of stretches in order of time. A stretch within one unit isn't written.
abbrev pub runs_of : Units → List Stretch → List Run
runs_of units [] = []
runs_of units (stretch ∷ stretches) =
    if nat_lt (run_of units stretch).from (run_of units stretch).to then before (run_of units stretch) (runs_of units stretches)
    else runs_of units stretches

abbrev pub work_of_run : Run → ℕ
work_of_run run = run.speed * (run.to - run.from)

abbrev pub work_of_runs : List Run → ℕ
work_of_runs runs = sum_by work_of_run runs

-- a stretch that takes time and isn't written
abbrev pub is_short : Units → Stretch → Bool
is_short units stretch = nat_lt stretch.from stretch.to && (written_time units stretch.from == written_time units stretch.to)

-- the end of the last run
abbrev pub runs_end : List Run → ℕ
runs_end [] = 0
runs_end (run ∷ []) = run.to
runs_end (run ∷ next ∷ runs) = runs_end (next ∷ runs)
