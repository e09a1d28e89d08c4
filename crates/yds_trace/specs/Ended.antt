-- What is known of the tasks when a trace has ended.
use Rattle.std.specs.Prelude.{◌≡◌, ℕ, ◌+◌, List, [], ◌∷◌, map, Vec}
use Rattle.std.specs.declared.alloc.Global.{Global}
use Rattle.yds_kernel.specs.Event.{Said}
use Rattle.yds_trace.specs.declared.ended.Ended.{Ended as EndedKept}
use Rattle.yds_trace.specs.declared.job.Job.{Job as JobKept}
use Rattle.yds_trace.specs.Asked.{Task, Asked}
use Rattle.yds_trace.specs.Past.{first_time, last_time}
use Rattle.yds_trace.specs.Jobs.{Job}
use Rattle.yds_trace.specs.Document.{shares_of}
use Rattle.yds_trace.specs.Others.{others_of}
use Rattle.yds_trace.specs.Tally.{tally_of}
use Rattle.yds_trace.specs.Views.{job_read, asked_read, span_read}

-- the jobs of these tasks, from this number on, as the processor's document has them
abbrev pub jobs_from : Asked → List Said → ℕ → List Task → List (List Job)
jobs_from asked past number [] = []
jobs_from asked past number (task ∷ tasks) = shares_of asked past number ∷ jobs_from asked past (number + 1) tasks

abbrev pub in_order_of_begin : Vec JobKept Global → List Job
in_order_of_begin jobs = map job_read jobs.items

-- what the code knows is what these lines say
pub record IsEnded (asked : Asked) (past : List Said) (ended : EndedKept) : Type 0 where
  pub same_asked : asked_read ended.asked ≡ asked
  pub jobs : map in_order_of_begin ended.jobs.items ≡ jobs_from asked past 0 asked.tasks
  pub others : map span_read ended.others.items ≡ others_of asked past
  pub first : ended.first ≡ first_time 0 past
  pub last : ended.last ≡ last_time past
  pub tally : ended.tally ≡ tally_of asked past
