use Rattle.base.proofs.Common.{◌≡◌, take}
use Rattle.yds_trace_document.specs.Kept.{capped_jobs}
use Rattle.yds_trace_document.specs.Views.{units_read, judged_list, written_list}
use Rattle.yds_trace_document.proofs.written.written_jobs.Given as goal

abbrev pub invariant-loop-one : goal.invariant-loop-one
invariant-loop-one l = written_list l.jobs.items ≡ capped_jobs (units_read l.units) (judged_list (take l.one-index l.judged))
