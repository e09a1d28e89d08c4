use Rattle.yds_fraction.proofs.OverDivisor.{IsGcd-positive, IsGcd-lowest, same_lowest, IsRatio-lowest}
use Rattle.yds_fraction.proofs.ratio.Ratio.reduced.Goals as goal

pub nonzero_div-result : goal.nonzero_div-result
nonzero_div-result g c = IsGcd-positive c.self.inside.num c.self.inside.den c.gcd-divisor.result c.self.invariant.has_parts c.gcd-divisor.ensures.greatest

pub nonzero_div-result-2 : goal.nonzero_div-result-2
nonzero_div-result-2 g c = IsGcd-positive c.self.inside.num c.self.inside.den c.gcd-divisor.result c.self.invariant.has_parts c.gcd-divisor.ensures.greatest

pub invariant_of-result : goal.invariant_of-result
invariant_of-result g c =
    IsRatio-lowest _ _ c.self.inside.num c.self.inside.den c.gcd-divisor.result c.self.invariant c.gcd-divisor.ensures.greatest

pub returns-clause-same : goal.returns-clause-same
returns-clause-same g c = rw (← c.self.view_is) (same_lowest c.self.inside.num c.self.inside.den c.gcd-divisor.result c.gcd-divisor.ensures.greatest)

pub returns-clause-lowest : goal.returns-clause-lowest
returns-clause-lowest g c = IsGcd-lowest c.self.inside.num c.self.inside.den c.gcd-divisor.result c.self.invariant.has_parts c.gcd-divisor.ensures.greatest

pub returns-clause-kept : goal.returns-clause-kept
returns-clause-kept g c =
    IsRatio-lowest _ _ c.self.inside.num c.self.inside.den c.gcd-divisor.result c.self.invariant c.gcd-divisor.ensures.greatest
