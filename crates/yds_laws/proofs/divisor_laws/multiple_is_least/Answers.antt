use Rattle.fraction_lemmas.proofs.Divisor.{multiple_is_least as law}
use Rattle.yds_laws.proofs.divisor_laws.multiple_is_least.Goals as goal

pub returns : goal.returns
returns c = law
