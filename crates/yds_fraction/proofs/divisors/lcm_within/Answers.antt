use Rattle.fraction_lemmas.proofs.Fractions.{den_positive}
use Rattle.yds_fraction.proofs.divisors.lcm_within.Goals as goal

pub nonzero_div-a : goal.nonzero_div-a
nonzero_div-a c = den_positive c.args.a c.gcd.result c.requires.first c.gcd.ensures.greatest.0
