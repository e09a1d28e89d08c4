use Rattle.yds_model.proofs.Common.{◌∙◌, ap, inr, sym, false≢true, Point}
use Rattle.yds_table.specs.Around.{IsFirstAtLeast}
use Rattle.yds_table.proofs.Neighbours.{not_above, neighbours}
use Rattle.yds_table.proofs.table.Table.around.Goals as goal

pub returns-then-from-den-clause-above : goal.returns-then-from-den-clause-above
returns-then-from-den-clause-above c =
    let at : IsFirstAtLeast c.self.inside.hull.items c.args.speed c.in_ok-place.place = rw (← c.deref.ensures.value) c.in_ok-place.ensures in (
      λ no. absurd (false≢true (sym no)),
      λ above. absurd (not_above c.args.self.now c.self.inside.hull.items c.args.speed c.in_ok-place.place
          (rw (← c.self.view_is) c.self.invariant.lower.last) c.self.invariant.lower.rising at above),
    )

pub returns-clause-above : goal.returns-clause-above
returns-clause-above c =
    let at : IsFirstAtLeast c.self.inside.hull.items c.args.speed c.in_ok-place.place = rw (← c.deref.ensures.value) c.in_ok-place.ensures in (
      λ no. absurd (false≢true (sym no)),
      λ above. absurd (not_above c.args.self.now c.self.inside.hull.items c.args.speed c.in_ok-place.place
          (rw (← c.self.view_is) c.self.invariant.lower.last) c.self.invariant.lower.rising at above),
    )

pub returns-clause-around : goal.returns-clause-around
returns-clause-around c =
    let at : IsFirstAtLeast c.self.inside.hull.items c.args.speed c.in_ok-place.place = rw (← c.deref.ensures.value) c.in_ok-place.ensures in
    rw (← c.self.view_is, ← c.self.invariant.lower.computed)
    (inr (neighbours c.self.inside.hull.items c.args.speed c.in_ok-place.place c.index.result.now c.index-high.result.now at
    (ap (λ (x : Point). x.speed) c.self.invariant.lower.first ∙ c.self.invariant.table.table.idle) c.index.ensures c.index-high.ensures
    (rw (← c.high.view_is, ← c.from.ensures, ← c.den.ensures.value, ← c.num.ensures.value) c.if-from-den.false)))
