use Rattle.yds_laws.proofs.ExactRates.{average_rate_is_exact as law}
use Rattle.yds_laws.proofs.run_laws.average_rate_is_exact.Goals as goal

pub returns : goal.returns
returns c = law
