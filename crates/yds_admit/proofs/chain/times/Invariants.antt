use Rattle.yds_admit.proofs.Times.{TimesUpTo}
use Rattle.yds_admit.proofs.chain.times.Given as goal

abbrev pub invariant-loop-job : goal.invariant-loop-job
invariant-loop-job l = TimesUpTo l.by_deadline l.job-index l.times.items l.last
