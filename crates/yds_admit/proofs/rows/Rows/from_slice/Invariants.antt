use Rattle.yds_model.proofs.Common.{◌≡◌, take}
use Rattle.yds_admit.specs.Rows.{listed_jobs, AreRows}
use Rattle.yds_admit.proofs.rows.Rows.from_slice.Given as goal

abbrev pub invariant-loop-job : goal.invariant-loop-job
invariant-loop-job l = record {
  are : AreRows l.releases.items l.deadlines.items l.works.items;
  jobs : listed_jobs l.releases.items l.deadlines.items l.works.items ≡ take l.job-index l.jobs;
}
