use Rattle.yds_laws.proofs.ExactRuns.{optimal_available_is_exact as law}
use Rattle.yds_laws.proofs.run_laws.optimal_available_is_exact.Goals as goal

pub returns : goal.returns
returns c = law
