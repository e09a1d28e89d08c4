use Rattle.fraction_lemmas.proofs.Fractions.{multiple_of_values as law}
use Rattle.yds_laws.proofs.scale_laws.multiple_is_of_values.Goals as goal

pub returns : goal.returns
returns c = law
