-- The parts put together: one document, in the times of the whole trace.
use Rattle.std.specs.Prelude.{◌≡◌, ℕ, ◌+◌, List, [], ◌∷◌, ◌++◌, map, filter, length, max, Bool, not, ◌&&◌, if◌then◌else◌}
use Rattle.std.specs.List.{flat_map}
use Rattle.yds_kernel.specs.Event.{Said}
use Rattle.yds_trace.specs.Asked.{Asked}
use Rattle.yds_trace.specs.WrittenTime.{Units, Run}
use Rattle.yds_trace.specs.Document.{Judged, all_judged, stands, Written, Placed, Document}
use Rattle.yds_trace.specs.Others.{spans_within, others_of}
use Rattle.yds_trace.specs.Parts.{belongs, is_written}
use Rattle.yds_trace_laws.specs.InUnits.{document_in}
use Rattle.yds_trace_document.specs.Part.{whole_zero}
use Rattle.yds_trace_whole.specs.Parts.{Part}

-- # The whole

-- The units of the whole have the time 0 of all parts together.
abbrev pub whole_units : Asked → List Said → Units
whole_units asked past = record { zero = whole_zero asked past; time = asked.unit; speed = asked.khz }

-- one document of the whole trace, whatever its length, with the jobs that belong to it
abbrev pub whole_document : Asked → List Said → Document
whole_document asked past = document_in (whole_units asked past) (filter (belongs asked) (all_judged asked past))

-- # A part in the times of the whole

-- so many units later
abbrev pub run_later : ℕ → Run → Run
run_later shift run = record { from = run.from + shift; to = run.to + shift; speed = run.speed }

-- A late job that can't stand as it is, and whose begin isn't known, is released at 0: at that of its part there, and at that of the whole here.
abbrev pub is_at_zero : Judged → Bool
is_at_zero judged = not (stands judged) && not judged.job.begin_known

abbrev pub release_later : ℕ → Bool → ℕ → ℕ
release_later shift at_zero release = if at_zero then release else release + shift

abbrev pub job_later : ℕ → Judged → Written → Written
job_later shift judged job = record {
  name = job.name;
  release = release_later shift (is_at_zero judged) job.release;
  deadline = job.deadline + shift;
  work = job.work;
  runs = map (run_later shift) job.runs;
}

-- the jobs of a document, one for each of these judged jobs that is written
abbrev pub jobs_later : ℕ → List Judged → List Written → List Written
jobs_later shift [] jobs = []
jobs_later shift (judged ∷ more) [] = []
jobs_later shift (judged ∷ more) (job ∷ jobs) =
    if is_written judged then job_later shift judged job ∷ jobs_later shift more jobs else jobs_later shift more (job ∷ jobs)

abbrev pub jobs_of_part : Part → List Written
jobs_of_part part = jobs_later part.shift part.settled.judged part.settled.document.jobs

-- a run of a part that stands behind so many jobs
abbrev pub placed_later : ℕ → ℕ → Placed → Placed
placed_later before shift placed = record { job = before + placed.job; run = run_later shift placed.run }

abbrev pub runs_of_parts : ℕ → List Part → List Placed
runs_of_parts before [] = []
runs_of_parts before (part ∷ parts) =
    map (placed_later before part.shift) part.settled.document.runs ++ runs_of_parts (before + length part.settled.document.jobs) parts

-- # Put together

-- The jobs of one part after another, and their runs, each in the times of the whole.
abbrev pub put_together : List Part → Document
put_together parts = record { jobs = flat_map jobs_of_part parts; runs = runs_of_parts 0 parts }

-- # Who else had the processor

-- From its time 0 on, but not before the parts in front of it.
abbrev pub begin_of_part : Part → ℕ
begin_of_part part = max part.cut.boundary part.settled.units.zero

-- What the part tells is what the whole trace tells of the time between its begin and its end.
pub record HasItsSpans (asked : Asked) (past : List Said) (part : Part) : Type 0 where
  pub are : part.settled.others ≡ spans_within (begin_of_part part) part.until (others_of asked past)
