use Rattle.yds_energy.proofs.Compared.{plan_spends_its_rounding as law}
use Rattle.yds_energy.proofs.comparison_laws.plan_spends_its_rounding.Goals as goal

pub returns : goal.returns
returns c = law
