use Rattle.yds_model.proofs.Common.{refl, false≢true}
use Rattle.yds_hull.proofs.Ends.{keeps_popped, convex_kept}
use Rattle.yds_hull.proofs.lower_hull.pop_above.Goals as goal

pub loop-hull-preserved : goal.loop-hull-preserved
loop-hull-preserved c =
    keeps_popped _ _ _ _ _ _ c.pop-above.ensures.items c.deref.ensures.value c.loop-hull.invariant (c.loop-hull-test.ensures.0 refl)

pub returns-clause-convex : goal.returns-clause-convex
returns-clause-convex c =
    convex_kept _ _ _ c.deref.ensures.value c.loop-hull.invariant.convex (λ ends. false≢true (c.loop-hull-test.ensures.1 ends))
