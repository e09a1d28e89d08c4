use Rattle.base.proofs.Common.{◌≡◌, max, drop}
use Rattle.yds_trace_document.specs.Limits.{works_of, greatest}
use Rattle.yds_trace_document.specs.Views.{written_list}
use Rattle.yds_trace_document.proofs.limits.greatest_work.Given as goal

abbrev pub invariant-loop-job : goal.invariant-loop-job
invariant-loop-job l =
    max l.greatest (greatest (works_of (written_list (drop l.job-index l.jobs)))) ≡ greatest (works_of (written_list l.jobs))
