use Rattle.yds_model.proofs.Common.{◌≡◌, ◌++◌, ◌∷◌, [], List, ap, ◌∙◌, arith, Point, AreRising}
use Rattle.model_lemmas.proofs.HullOf.{hull_is_computed}
use Rattle.yds_table.proofs.PushedPoint.{rising_pushed, kept_pushed}
use Rattle.yds_table.proofs.table.Table.push.Goals as goal

pub hull-requires-clause-rising : goal.hull-requires-clause-rising
hull-requires-clause-rising c =
    let above = rw (c.top.ensures, ← c.self.view_is) at c.if-point-top.false in
    rw (c.deref-2.ensures.value, c.in_ok-points.ensures, c.deref.ensures.value, ← c.point.view_is)
    (rising_pushed c.self.inside.points.items _ c.self.invariant.table.table.rising above)

pub returns-in_default-clause-err : goal.returns-in_default-clause-err
returns-in_default-clause-err c =
    let above = rw (c.top.ensures, ← c.self.view_is) at c.if-point-top.false in
    let all : c.deref-2.result.now ≡ c.self.inside.points.items ++ c.args.point ∷ [] =
    c.deref-2.ensures.value ∙ c.in_ok-points.ensures ∙ ap (λ (points : List Point). points ++ c.args.point ∷ []) c.deref.ensures.value in
    let rising : AreRising c.deref-2.result.now = rw all (rw (← c.point.view_is) (rising_pushed c.self.inside.points.items _ c.self.invariant.table.table.rising above)) in
    let computed = hull_is_computed c.deref-2.result.now c.in_ok-lower.lower.items rising c.in_ok-lower.ensures.hull in
    rw (← c.self.view_is) (rw (← c.point.view_is) above, rw (← all, ← computed, ← c.deref-3.ensures.value) c.in_default.ensures)

pub invariant_of-self : goal.invariant_of-self
invariant_of-self c =
    let above = rw (c.top.ensures, ← c.self.view_is) at c.if-point-top.false in
    let all : c.deref-2.result.now ≡ c.self.inside.points.items ++ c.args.point ∷ [] =
    c.deref-2.ensures.value ∙ c.in_ok-points.ensures ∙ ap (λ (points : List Point). points ++ c.args.point ∷ []) c.deref.ensures.value in
    let rising : AreRising c.deref-2.result.now = rw all (rw (← c.point.view_is) (rising_pushed c.self.inside.points.items _ c.self.invariant.table.table.rising above)) in
    let lower = c.in_ok-lower.ensures in
    rw (← c.deref-2.ensures.value, all, ← c.point.view_is)
    (kept_pushed c.self.inside.points.items _ c.in_ok-lower.lower.items c.in-Some.gaps c.self.invariant.table c.point.invariant above (rw (← c.self.view_is) at c.requires)
    (rw (c.point.view_is, ← all) (record {
      is_hull = lower.hull;
      computed = hull_is_computed c.deref-2.result.now c.in_ok-lower.lower.items rising lower.hull;
      rising = lower.rising;
      some = omega (arith, lower.some, c.in_ok-lower.lower.ok.0);
      few = omega (arith, lower.few, c.in_ok-lower.lower.ok.0);
      first = lower.first;
      last = lower.last;
      limits = lower.limits;
    }))
    (rw (c.deref-3.ensures.value) at c.in-Some.ensures))
