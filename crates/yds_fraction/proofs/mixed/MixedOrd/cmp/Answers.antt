use Rattle.yds_fraction.proofs.WithinLimits.{some_parts}
use Rattle.yds_fraction.proofs.WholeFirst.{compared, MatchOrdering-fractions, order_at_scales}
use Rattle.yds_fraction.proofs.mixed.MixedOrd.cmp.Goals as goal

pub returns-clause-test : goal.returns-clause-test
returns-clause-test g c =
    let e = rw (c.cmp.ensures, c.cmp-2.ensures, c.from.ensures, c.from-2.ensures, c.from-3.ensures, c.from-4.ensures) at c.then.ensures in
    rw (← c.self.view_is, ← c.other.view_is) (compared _ _ _ c.then.result c.self.invariant c.other.invariant e)

pub returns-clause-order : goal.returns-clause-order
returns-clause-order g c =
    let e = rw (c.cmp.ensures, c.cmp-2.ensures, c.from.ensures, c.from-2.ensures, c.from-3.ensures, c.from-4.ensures) at c.then.ensures in
    rw (← c.self.view_is, ← c.other.view_is)
    (MatchOrdering-fractions _ _ c.then.result (some_parts _ c.self.invariant.fraction) (some_parts _ c.other.invariant.fraction)
    (compared _ _ _ c.then.result c.self.invariant c.other.invariant e))

pub returns-clause-at_scales : goal.returns-clause-at_scales
returns-clause-at_scales g c = order_at_scales c.args.self.now c.args.other.now c.then.result (returns-clause-order g c)
