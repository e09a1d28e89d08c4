use Rattle.yds_model.proofs.Common.{◌≡◌, [], take, filter, All}
use Rattle.yds_textbook.specs.Waiting.{CanWait, job_has_work}
use Rattle.yds_textbook.proofs.waiting.jobs_with_work.Given as goal

abbrev pub invariant-loop-number : goal.invariant-loop-number
invariant-loop-number l = record {
  so_far : l.waiting.items ≡ filter (job_has_work l.rows) (take l.number-index l.number-items);
  can_wait : All (CanWait l.rows []) l.waiting.items;
}
