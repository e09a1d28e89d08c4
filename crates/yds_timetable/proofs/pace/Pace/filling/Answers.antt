use Rattle.yds_model.proofs.Common.{arith}
use Rattle.yds_fraction.proofs.OverDivisor.{IsGcd-positive}
use Rattle.yds_timetable.proofs.pace.Pace.filling.Goals as goal

pub nonzero_div-result : goal.nonzero_div-result
nonzero_div-result c = IsGcd-positive c.args.units c.from-length.result c.gcd-divisor.result
    (omega (arith, c.from-length.ensures, c.length.ensures.length, c.length.ensures.kept.has_length)) c.gcd-divisor.ensures.greatest

pub nonzero_div-result-2 : goal.nonzero_div-result-2
nonzero_div-result-2 c = IsGcd-positive c.args.units c.from-length.result c.gcd-divisor.result
    (omega (arith, c.from-length.ensures, c.length.ensures.length, c.length.ensures.kept.has_length)) c.gcd-divisor.ensures.greatest
