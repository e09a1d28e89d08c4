use Rattle.yds_model.proofs.Common.{◌≡◌, ◌++◌, take}
use Rattle.yds_search.specs.Beginning.{first_jobs}
use Rattle.yds_search.proofs.beginning.add_jobs.Given as goal

abbrev pub invariant-loop-job : goal.invariant-loop-job
invariant-loop-job l = l.jobs.items ≡ l.initial.jobs.items ++ first_jobs l.rows l.windows l.ranks (take l.job-index l.order)
