-- What a trace's document has to do with the stretches of time in which the tasks ran.
use Rattle.std.specs.Prelude.{◌≡◌, ℕ, zero, suc, ◌<◌, ◌≤◌, ◌⊎◌, List, [], ◌∷◌, true, false, Some}
use Rattle.std.specs.List.{All, Contains}
use Rattle.yds_kernel.specs.Event.{Said}
use Rattle.yds_trace.specs.declared.job.Stretch.{Stretch}
use Rattle.yds_trace.specs.Asked.{Asked}
use Rattle.yds_trace.specs.WrittenTime.{Units, Run, run_of}
use Rattle.yds_trace.specs.Document.{Judged, all_judged, stands, units_of, Written, with_runs, without_runs, Placed, Document, document_of}

-- the element stands at this place
abbrev pub IsAt : {A : Type 0} → List A → ℕ → A → Type 0
IsAt [] n x = ⊥
IsAt (y ∷ ys) zero x = y ≡ x
IsAt (y ∷ ys) (suc n) x = IsAt ys n x

-- # Runs and stretches

-- The run is these stretches, in order of time, each written in units. A stretch begins in the unit in which the one before it ended, and has its speed.
abbrev pub IsRounded : Units → Run → List Stretch → Type 0
IsRounded units run [] = ⊥
IsRounded units run (stretch ∷ []) = run_of units stretch ≡ run
IsRounded units run (stretch ∷ next ∷ more) =
    ((run_of units stretch).from ≡ run.from) × ((run_of units stretch).speed ≡ run.speed)
    × IsRounded units (record { from = (run_of units stretch).to; to = run.to; speed = run.speed }) (next ∷ more)

-- A stretch that the trace shows of a job: on the processor that is asked for, and at a speed that is known.
pub record IsShown (asked : Asked) (one : Judged) (stretch : Stretch) : Type 0 where
  pub own : Contains one.job.stretches stretch
  pub there : stretch.processor ≡ asked.processor
  pub khz : ℕ
  pub khz_is : stretch.khz ≡ Some khz

-- The job at this place of a document is one of these, and stands as it is: with its begin, its deadline and the sum of its runs.
pub record IsStanding (units : Units) (ones : List Judged) (document : Document) (place : ℕ) (one : Judged) : Type 0 where
  pub is_judged : Contains ones one
  pub stands_so : stands one ≡ true
  pub is_there : IsAt document.jobs place (with_runs units one)

-- A run of a document is of such a job, and is some of the stretches that the trace shows of it.
pub record IsTraced (asked : Asked) (units : Units) (ones : List Judged) (document : Document) (placed : Placed) : Type 0 where
  pub one : Judged
  pub standing : IsStanding units ones document placed.job one
  pub stretches : List Stretch
  pub shown : All (IsShown asked one) stretches
  pub rounded : IsRounded units placed.run stretches

-- A stretch within a run: at its speed, and not before or after it.
pub record IsWithinRun (units : Units) (stretch : Stretch) (run : Run) : Type 0 where
  pub not_before : run.from ≤ (run_of units stretch).from
  pub not_after : (run_of units stretch).to ≤ run.to
  pub same_speed : (run_of units stretch).speed ≡ run.speed

-- A run of the document has this stretch of a job that stands as it is.
pub record HasRun (units : Units) (ones : List Judged) (document : Document) (one : Judged) (stretch : Stretch) : Type 0 where
  pub placed : Placed
  pub is_there : Contains document.runs placed
  pub standing : IsStanding units ones document placed.job one
  pub within : IsWithinRun units stretch placed.run

-- Each stretch that ends in a later unit of time than it begins is in a run.
abbrev pub HasItsRuns : Units → List Judged → Document → Judged → Type 0
HasItsRuns units ones document one =
    stands one ≡ true → All (λ stretch. (run_of units stretch).from < (run_of units stretch).to → HasRun units ones document one stretch) one.job.stretches

-- # Jobs

-- A job of a document is one of these: it stands as it is, or it is late, and has no run.
pub record IsTracedJob (units : Units) (ones : List Judged) (job : Written) : Type 0 where
  pub one : Judged
  pub is_judged : Contains ones one
  pub written : ((stands one ≡ true) × (job ≡ with_runs units one))
      ⊎ ((stands one ≡ false) × ((by : ℕ) × (one.late ≡ Some by)) × (job ≡ without_runs units one))

-- The document has a job that stands as it is, and without a run one that doesn't and is late.
pub record HasItsJob (units : Units) (document : Document) (one : Judged) : Type 0 where
  pub standing : stands one ≡ true → Contains document.jobs (with_runs units one)
  pub late : stands one ≡ false → (by : ℕ) → one.late ≡ Some by → Contains document.jobs (without_runs units one)

-- # Documents

-- A document is faithful to these jobs in these units: no job and no run of it is invented, and none is missing.
pub record AreFaithful (asked : Asked) (units : Units) (ones : List Judged) (document : Document) : Type 0 where
  pub no_job_invented : All (IsTracedJob units ones) document.jobs
  pub no_job_missing : All (HasItsJob units document) ones
  pub no_run_invented : All (IsTraced asked units ones document) document.runs
  pub no_run_missing : All (HasItsRuns units ones document) ones

-- The trace's document is, to all jobs that are judged.
abbrev pub IsFaithful : Asked → List Said → Type 0
IsFaithful asked past = AreFaithful asked (units_of asked past) (all_judged asked past) (document_of asked past)
