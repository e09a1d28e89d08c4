-- Jobs with their releases, deadlines and ties, and orders of them.
use Rattle.std.specs.Prelude.{◌≡◌, ℕ, ◌+◌, ◌*◌, ◌<◌, ◌≤◌, List, length, map, slice_index}
use Rattle.std.specs.List.{slice_index_or}
use Rattle.std.specs.List.Sorted.{IsPermutation, IsNonDecreasingBy}
use Rattle.base.specs.declared.limits.TheConstants.{MAX_JOBS}
use Rattle.yds_model.specs.Job.{Job, job_at}
use Rattle.yds_model.specs.Policy.{numbers_of}
use Rattle.yds_edf.specs.declared.due_order.TheConstants.{TIES}
use Rattle.yds_edf.specs.declared.due_order.Due.{Due}

abbrev pub due_job : List Job → List ℕ → ℕ → Due
due_job jobs ties number = record {
  release = (job_at jobs number).release;
  deadline = (job_at jobs number).deadline;
  tie = slice_index ties number;
  job = number;
}

-- all of them, in order of their numbers
abbrev pub due_jobs : List Job → List ℕ → List Due
due_jobs jobs ties = map (due_job jobs ties) (numbers_of jobs)

-- the one at a place
abbrev pub no_due : Due
no_due = record { release = 0; deadline = 0; tie = 0; job = 0 }

abbrev pub due_at : List Due → ℕ → Due
due_at order place = slice_index_or order place no_due

-- rises with the deadline, and at the same one with the tie
abbrev pub place_in_order : Due → ℕ
place_in_order due = due.deadline * TIES + due.tie

-- all jobs of the list, each once, in order of their deadlines
pub record AreByDeadline (jobs : List Job) (ties : List ℕ) (order : List Due) : Type 0 where
  pub same : IsPermutation (due_jobs jobs ties) order
  pub rising : IsNonDecreasingBy (λ due. due.deadline) order
  pub few : length order ≤ MAX_JOBS

-- an entry is that of its job
pub record IsDueJob (jobs : List Job) (ties : List ℕ) (due : Due) : Type 0 where
  pub known : due.job < length jobs
  pub release : due.release ≡ (job_at jobs due.job).release
  pub deadline : due.deadline ≡ (job_at jobs due.job).deadline
  pub tie : due.tie ≡ slice_index ties due.job
