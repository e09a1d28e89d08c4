use Rattle.yds_model.proofs.Common.{◌≡◌, ℕ, ◌*◌, ◌++◌, ◌∷◌, [], List, map, take, get_or, sym, ap, ap₂, ◌∙◌, arith, sum_by, take_more, map-append, sum_by_more, sum_by-take-le, mul-pos, Fraction, Point, hull_of, hull_multiple, in_lowest_terms, in_parts}
use Rattle.base.specs.declared.limits.TheConstants.{MAX_TIME, MAX_POINTS, MAX_POINT_POWER}
use Rattle.yds_spending.specs.declared.time_share.TimeShare.{TimeShare}
use Rattle.yds_spending.specs.TimeShare.{time_share_at}
use Rattle.yds_spending.specs.Spent.{time_of_loads}
use Rattle.yds_spending.proofs.Spending.{time_is, time_within, energy_within, next_within, whole_within, den_within}
use Rattle.yds_spending.proofs.spent.spend.Goals as goal

pub time_at-time-requires : goal.time_at-time-requires
time_at-time-requires c =
    let is = time_is (hull_multiple c.args.table.now) (hull_of c.args.table.now) c.args.loads.now c.in_ok-shares.shares.items c.point.inside.speed c.in_ok-shares.ensures in
    let short = time_within c.args.table.now c.args.unit c.args.loads.now c.in_ok-shares.shares.items c.in_ok-shares.ensures c.requires.time_in_range c.point.inside.speed in
    let den = den_within c.args.unit (hull_multiple c.args.table.now) c.requires.unit_in_range (omega (arith, c.gaps.ensures.value, c.gaps.ensures.within)) in
    rw (c.deref.ensures.value) (omega (arith, is, short, den))

pub overflow_mul-parts : goal.overflow_mul-parts
overflow_mul-parts c =
    let time = c.time_at-time.ensures ∙ ap (λ (s : List TimeShare). sum_by (λ share. time_share_at share c.point.inside.speed) s) c.deref.ensures.value
    ∙ time_is (hull_multiple c.args.table.now) (hull_of c.args.table.now) c.args.loads.now c.in_ok-shares.shares.items c.point.inside.speed c.in_ok-shares.ensures in
    let den = den_within c.args.unit (hull_multiple c.args.table.now) c.requires.unit_in_range (omega (arith, c.gaps.ensures.value, c.gaps.ensures.within)) in
    let next = next_within c.args.table.now c.args.unit c.args.loads.now c.in_ok-shares.shares.items c.in_ok-shares.ensures c.requires.time_in_range
    c.points-points.ensures.kept.within c.points-points.result.now c.points-points.ensures.value c.loop-point.point-index c.point-item.result c.loop-point-test.true c.point-item.is
    c.loop-point.parts (c.from.result * c.time_at-time.result) c.loop-point.invariant.parts
    (ap₂ (λ a b. a * b) c.from.ensures time ∙ ap (λ (p : Point). p.power * time_of_loads c.args.table.now c.args.loads.now p.speed) c.point.view_is) in
    omega (arith, next, den)

pub overflow_add-parts : goal.overflow_add-parts
overflow_add-parts c =
    let time = c.time_at-time.ensures ∙ ap (λ (s : List TimeShare). sum_by (λ share. time_share_at share c.point.inside.speed) s) c.deref.ensures.value
    ∙ time_is (hull_multiple c.args.table.now) (hull_of c.args.table.now) c.args.loads.now c.in_ok-shares.shares.items c.point.inside.speed c.in_ok-shares.ensures in
    let den = den_within c.args.unit (hull_multiple c.args.table.now) c.requires.unit_in_range (omega (arith, c.gaps.ensures.value, c.gaps.ensures.within)) in
    let next = next_within c.args.table.now c.args.unit c.args.loads.now c.in_ok-shares.shares.items c.in_ok-shares.ensures c.requires.time_in_range
    c.points-points.ensures.kept.within c.points-points.result.now c.points-points.ensures.value c.loop-point.point-index c.point-item.result c.loop-point-test.true c.point-item.is
    c.loop-point.parts (c.from.result * c.time_at-time.result) c.loop-point.invariant.parts
    (ap₂ (λ a b. a * b) c.from.ensures time ∙ ap (λ (p : Point). p.power * time_of_loads c.args.table.now c.args.loads.now p.speed) c.point.view_is) in
    omega (arith, next, den)

pub in_lowest_terms-requires-clause-whole_in_range : goal.in_lowest_terms-requires-clause-whole_in_range
in_lowest_terms-requires-clause-whole_in_range c =
    let time = c.time_at-time.ensures ∙ ap (λ (s : List TimeShare). sum_by (λ share. time_share_at share c.point.inside.speed) s) c.deref.ensures.value
    ∙ time_is (hull_multiple c.args.table.now) (hull_of c.args.table.now) c.args.loads.now c.in_ok-shares.shares.items c.point.inside.speed c.in_ok-shares.ensures in
    let short = time_within c.args.table.now c.args.unit c.args.loads.now c.in_ok-shares.shares.items c.in_ok-shares.ensures c.requires.time_in_range c.point.inside.speed in
    let whole = whole_within c.time_at-time.result MAX_TIME (c.args.unit * c.gaps.result) (mul-pos c.requires.some_unit c.gaps.ensures.some)
    (omega (arith, time, short, ap (λ n. c.args.unit * n) c.gaps.ensures.value)) in
    omega (arith, whole)

pub loop-point-preserved : goal.loop-point-preserved
loop-point-preserved c =
    let time = c.time_at-time.ensures ∙ ap (λ (s : List TimeShare). sum_by (λ share. time_share_at share c.point.inside.speed) s) c.deref.ensures.value
    ∙ time_is (hull_multiple c.args.table.now) (hull_of c.args.table.now) c.args.loads.now c.in_ok-shares.shares.items c.point.inside.speed c.in_ok-shares.ensures in
    let term : Point → ℕ = λ p. p.power * time_of_loads c.args.table.now c.args.loads.now p.speed in
    let next : c.from.result * c.time_at-time.result ≡ term c.point-item.result = ap₂ (λ a b. a * b) c.from.ensures time ∙ ap term c.point.view_is in
    let f : Point → Fraction = λ p. in_parts c.args.table.now c.args.unit (time_of_loads c.args.table.now c.args.loads.now p.speed) in
    let made : c.in_lowest_terms.result ≡ f c.point-item.result =
    c.in_lowest_terms.ensures ∙ ap₂ in_lowest_terms time (ap (λ n. c.args.unit * n) c.gaps.ensures.value) ∙ ap f c.point.view_is in
    record {
      parts = omega (
        arith,
        c.loop-point.invariant.parts,
        next,
        ap term c.point-item.is,
        sum_by_more term c.points-points.result.now c.loop-point.point-index c.point-item.result c.loop-point-test.true,
      );
      times = c.in_ok-push.ensures.items ∙ ap₂ (λ (xs : List Fraction) (x : Fraction). xs ++ x ∷ []) c.loop-point.invariant.times (made ∙ ap f c.point-item.is)
          ∙ sym (ap (map f) (take_more c.points-points.result.now c.loop-point.point-index c.point-item.result c.loop-point-test.true)
          ∙ map-append f (take c.loop-point.point-index c.points-points.result.now) (get_or c.points-points.result.now c.loop-point.point-index c.point-item.result ∷ []));
    }

pub in_lowest_terms-requires-2-clause-whole_in_range : goal.in_lowest_terms-requires-2-clause-whole_in_range
in_lowest_terms-requires-2-clause-whole_in_range c =
    let term : Point → ℕ = λ p. p.power * time_of_loads c.args.table.now c.args.loads.now p.speed in
    let all = energy_within c.args.table.now c.args.unit c.args.loads.now c.in_ok-shares.shares.items c.in_ok-shares.ensures c.requires.time_in_range c.points-points.ensures.kept.within in
    let whole = whole_within c.loop-point.parts (MAX_POINTS * (MAX_POINT_POWER * MAX_TIME)) (c.args.unit * c.gaps.result) (mul-pos c.requires.some_unit c.gaps.ensures.some)
    (omega (
      arith,
      c.loop-point.invariant.parts,
      sum_by-take-le term c.points-points.result.now c.loop-point.point-index,
      ap (sum_by term) c.points-points.ensures.value,
      all,
      ap (λ n. c.args.unit * n) c.gaps.ensures.value,
    )) in
    omega (arith, whole)
