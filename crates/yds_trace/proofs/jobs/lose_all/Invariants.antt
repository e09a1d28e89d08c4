use Rattle.yds_trace.proofs.Listed.{LostBelow}
use Rattle.yds_trace.proofs.jobs.lose_all.Given as goal

abbrev pub invariant-loop-job : goal.invariant-loop-job
invariant-loop-job l = LostBelow l.time l.job-index l.initial.job-items l.job-items
