use Rattle.fraction_lemmas.proofs.Divisor.{divisor_is_greatest as law}
use Rattle.yds_laws.proofs.divisor_laws.divisor_is_greatest.Goals as goal

pub returns : goal.returns
returns c = law
