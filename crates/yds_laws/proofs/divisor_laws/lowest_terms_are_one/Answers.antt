use Rattle.fraction_lemmas.proofs.Divisor.{lowest_terms_are_one as law}
use Rattle.yds_laws.proofs.divisor_laws.lowest_terms_are_one.Goals as goal

pub returns : goal.returns
returns c = law
