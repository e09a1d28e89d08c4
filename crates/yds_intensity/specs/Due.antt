-- A row's deadline beside its number.
use Rattle.std.specs.Prelude.{ℕ, List}
use Rattle.std.specs.List.Sorted.{IsNonDecreasingBy}
use Rattle.yds_model.specs.Job.{Job, job_at}
use Rattle.yds_intensity.specs.declared.deadline_order.Due.{Due}

abbrev pub due_of : List Job → ℕ → Due
due_of jobs number = record { deadline = (job_at jobs number).deadline; number = number }

abbrev pub AreByDeadline : List Due → Type 0
AreByDeadline dues = IsNonDecreasingBy (λ due. due.deadline) dues
