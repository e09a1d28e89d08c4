use Rattle.yds_model.proofs.Common.{◌≡◌, ◌*◌, ap, ap₂, subst, ◌∙◌, get_or, get_or_read, Point, no_point}
use Rattle.yds_spending.specs.TimeShare.{IsFirstHolding}
use Rattle.yds_spending.proofs.Points.{found, found_share, idle_share}
use Rattle.yds_spending.proofs.time_share.TimeShare.of.Goals as goal

pub returns-then-place-eq0 : goal.returns-then-place-eq0
returns-then-place-eq0 c =
    let hull = c.hull-hull.result.now in
    let low : c.idle.inside.speed ≡ (get_or hull 0 no_point).speed =
    ap (λ (p : Point). p.speed) (c.idle.view_is ∙ get_or_read hull 0 c.index-hull-0.result c.hull-hull.ensures.some c.index-hull-0.is no_point) in
    idle_share c.args.table.now hull c.args.load c.idle.inside.speed (c.from.result * c.from-then-place-eq0.result) c.hull-hull.ensures.value
    c.hull-hull.ensures.rising c.hull-hull.ensures.some (ap (λ (p : Point). p.speed) c.hull-hull.ensures.first ∙ c.points-points.ensures.kept.table.idle) low
    (subst (λ n. IsFirstHolding hull c.args.load n) c.if-place-eq0.true c.in-Some.ensures)
    (ap₂ (λ a b. a * b) c.from.ensures (c.from-then-place-eq0.ensures ∙ c.gaps-multiple.ensures.value))

pub between-requires-clause-gap : goal.between-requires-clause-gap
between-requires-clause-gap c =
    (found c.args.table.now c.hull-hull.result.now c.args.load c.in-Some.place c.index-hull-place.result c.index-hull-place-2.result c.hull-hull.ensures.value
    c.hull-hull.ensures.rising c.in-Some.ensures c.if-place-eq0.false c.index-hull-place.is c.index-hull-place-2.is).rises

pub between-requires-clause-divides : goal.between-requires-clause-divides
between-requires-clause-divides c = rw (c.gaps-multiple.ensures.value)
    (found c.args.table.now c.hull-hull.result.now c.args.load c.in-Some.place c.index-hull-place.result c.index-hull-place-2.result c.hull-hull.ensures.value
    c.hull-hull.ensures.rising c.in-Some.ensures c.if-place-eq0.false c.index-hull-place.is c.index-hull-place-2.is).divides

pub between-requires-clause-above_low : goal.between-requires-clause-above_low
between-requires-clause-above_low c =
    (found c.args.table.now c.hull-hull.result.now c.args.load c.in-Some.place c.index-hull-place.result c.index-hull-place-2.result c.hull-hull.ensures.value
    c.hull-hull.ensures.rising c.in-Some.ensures c.if-place-eq0.false c.index-hull-place.is c.index-hull-place-2.is).above_low

pub returns : goal.returns
returns c =
    let at = found c.args.table.now c.hull-hull.result.now c.args.load c.in-Some.place c.index-hull-place.result c.index-hull-place-2.result c.hull-hull.ensures.value
    c.hull-hull.ensures.rising c.in-Some.ensures c.if-place-eq0.false c.index-hull-place.is c.index-hull-place-2.is in
    let multiple = c.gaps-multiple.ensures.value in
    found_share c.args.table.now c.hull-hull.result.now c.args.load c.index-hull-place.result c.index-hull-place-2.result c.between.result c.hull-hull.ensures.value at
    (rw (← multiple) c.between.ensures)
