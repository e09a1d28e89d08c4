use Rattle.yds_laws.proofs.AdmittedRuns.{admitted_runs_within_top}
use Rattle.yds_laws.proofs.admission_laws.admitted_runs_are_within_the_top.Goals as goal

pub returns : goal.returns
returns c = admitted_runs_within_top
