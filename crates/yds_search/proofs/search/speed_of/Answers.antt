use Rattle.yds_model.proofs.Common.{arith}
use Rattle.fraction_lemmas.proofs.Divisor.{divisor_positive}
use Rattle.yds_search.proofs.search.speed_of.Goals as goal

pub nonzero_div-result : goal.nonzero_div-result
nonzero_div-result c = omega (arith, c.gcd-divisor.ensures.value, divisor_positive c.args.group.now.work c.args.group.now.length c.requires.some_length)

pub nonzero_div-result-2 : goal.nonzero_div-result-2
nonzero_div-result-2 c = nonzero_div-result c
