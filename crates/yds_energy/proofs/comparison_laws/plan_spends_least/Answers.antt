use Rattle.yds_energy.proofs.Compared.{plan_spends_least as law}
use Rattle.yds_energy.proofs.comparison_laws.plan_spends_least.Goals as goal

pub returns : goal.returns
returns c = law
