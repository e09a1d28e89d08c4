use Rattle.yds_fraction.proofs.OverDivisor.{IsGcd-positive, IsGcd-lowest, IsSame-lowest, IsMixed-lowest, parts_divide}
use Rattle.yds_fraction.proofs.WithinLimits.{some_parts}
use Rattle.yds_fraction.proofs.Values.{same_at_scales}
use Rattle.yds_fraction.proofs.mixed.Mixed.reduced.Goals as goal

pub nonzero_div-result : goal.nonzero_div-result
nonzero_div-result g c = IsGcd-positive c.self.inside.num c.self.inside.den c.gcd-divisor.result (some_parts _ c.self.invariant.fraction) c.gcd-divisor.ensures.greatest

pub nonzero_div-result-2 : goal.nonzero_div-result-2
nonzero_div-result-2 g c = IsGcd-positive c.self.inside.num c.self.inside.den c.gcd-divisor.result (some_parts _ c.self.invariant.fraction) c.gcd-divisor.ensures.greatest

pub invariant_of-result : goal.invariant_of-result
invariant_of-result g c =
    IsMixed-lowest _ c.self.inside.whole c.self.inside.num c.self.inside.den c.gcd-divisor.result c.self.invariant c.gcd-divisor.ensures.greatest

pub returns-clause-same : goal.returns-clause-same
returns-clause-same g c =
    rw (← c.self.view_is) (IsSame-lowest c.self.inside.whole c.self.inside.num c.self.inside.den c.gcd-divisor.result c.gcd-divisor.ensures.greatest)

pub returns-clause-lowest : goal.returns-clause-lowest
returns-clause-lowest g c = IsGcd-lowest c.self.inside.num c.self.inside.den c.gcd-divisor.result (some_parts _ c.self.invariant.fraction) c.gcd-divisor.ensures.greatest

pub returns-clause-parts : goal.returns-clause-parts
returns-clause-parts g c = rw (← c.self.view_is) (parts_divide c.self.inside.den c.gcd-divisor.result c.gcd-divisor.ensures.greatest.1)

pub returns-clause-kept : goal.returns-clause-kept
returns-clause-kept g c =
    IsMixed-lowest _ c.self.inside.whole c.self.inside.num c.self.inside.den c.gcd-divisor.result c.self.invariant c.gcd-divisor.ensures.greatest

pub returns-clause-at_scales : goal.returns-clause-at_scales
returns-clause-at_scales g c = same_at_scales c.args.self _ (returns-clause-parts g c) (returns-clause-same g c)
