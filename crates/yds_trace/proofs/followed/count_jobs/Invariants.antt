use Rattle.base.proofs.Common.{◌≡◌, take, sum_by}
use Rattle.yds_kernel.specs.Parts.{capped}
use Rattle.yds_trace.specs.Following.{jobs_in}
use Rattle.yds_trace.proofs.followed.count_jobs.Given as goal

abbrev pub invariant-loop-followed : goal.invariant-loop-followed
invariant-loop-followed l = l.count ≡ capped (sum_by jobs_in (take l.followed-index l.tasks))
