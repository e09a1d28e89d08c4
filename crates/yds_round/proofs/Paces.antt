-- How a level runs on the points of a table.
use Rattle.yds_model.proofs.Common.{◌≡◌, ◌*◌, List, sym, ap, ◌∙◌, arith, inl, inr, Any, Level, Point, hull_of, Quotient, HasPointSpeed}
use Rattle.yds_table.specs.Around.{AreAround}

-- where both points around its speed have one speed it runs at that
pub one_point : (points : List Point) (level : Level) (speed : Quotient) (low high : Point) → AreAround (hull_of points) speed low high →
    speed ≡ record { num = level.work; den = level.length } → low.speed ≡ high.speed → Any (HasPointSpeed level) (hull_of points)
one_point points level speed low high (inl one) is same = (
  one.in_hull.0,
  low,
  one.in_hull.1,
  one.in_hull.2,
  ap (λ (q : Quotient). q.num) (sym is) ∙ one.has_speed ∙ ap (λ (q : Quotient). low.speed * q.den) is,
)
one_point points level speed low high (inr between) is same =
    absurd (omega (arith, between.above_low, between.below_high, ap (λ n. n * speed.den) same))
