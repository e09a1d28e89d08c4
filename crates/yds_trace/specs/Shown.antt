-- What is known of the tasks behind some lines, of the jobs that aren't forgotten.
use Rattle.std.specs.Prelude.{◌≡◌, ℕ, ◌<◌, List, ◌++◌, map, filter, length}
use Rattle.std.specs.List.{slice_index_or, All}
use Rattle.yds_kernel.specs.Event.{Said}
use Rattle.yds_trace.specs.declared.shown.ShownTask.{ShownTask}
use Rattle.yds_trace.specs.declared.shown.Shown.{Shown}
use Rattle.yds_trace.specs.Asked.{Asked}
use Rattle.yds_trace.specs.Past.{first_time, last_time}
use Rattle.yds_trace.specs.Jobs.{Job}
use Rattle.yds_trace.specs.Document.{jobs_of, shares_of, began_before}
use Rattle.yds_trace.specs.Others.{goes_behind, others_from}
use Rattle.yds_trace.specs.Tally.{tally_of}
use Rattle.yds_trace.specs.Views.{job_read, span_read}

-- Of the task of this number each of these jobs is shown, in order of begin, but for the first ones, which begin before the boundary.
pub record IsShownTask (all : List Job) (asked : Asked) (past : List Said) (boundary number : ℕ) (shown : ShownTask) : Type 0 where
  pub forgotten : List Job
  pub jobs : all ≡ forgotten ++ map job_read shown.jobs.items
  pub earlier : All (λ job. job.begin < boundary) forgotten
  pub as_many : shown.forgotten ≡ length forgotten
  pub before : shown.before ≡ began_before (jobs_of asked past number)

pub record AreShown (jobs : ℕ → List Job) (asked : Asked) (past : List Said) (boundary : ℕ) (shown : Shown) : Type 0 where
  pub as_many : length shown.tasks.items ≡ length asked.tasks
  pub tasks : (number : ℕ) (default : ShownTask) → number < length asked.tasks →
      IsShownTask (jobs number) asked past boundary number (slice_index_or shown.tasks.items number default)
  -- but for the first ones, which end at the boundary or before it
  pub others : filter (goes_behind boundary) (map span_read shown.others.items) ≡ others_from asked past boundary
  pub first : shown.first ≡ first_time 0 past
  pub last : shown.last ≡ last_time past
  pub tally : shown.tally ≡ tally_of asked past

-- all that they ran
abbrev pub IsShown : Asked → List Said → ℕ → Shown → Type 0
IsShown asked past = AreShown (jobs_of asked past) asked past

-- each job as the documents of the processor that is asked for have it
abbrev pub IsShared : Asked → List Said → ℕ → Shown → Type 0
IsShared asked past = AreShown (shares_of asked past) asked past
