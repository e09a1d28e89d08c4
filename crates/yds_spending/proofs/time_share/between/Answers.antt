use Rattle.yds_model.proofs.Common.{◌-◌, ◌*◌, ◌<◌, ◌≤◌, refl, ◌∣◌}
use Rattle.yds_spending.proofs.Points.{fast_within}
use Rattle.yds_spending.proofs.time_share.between.Goals as goal

pub overflow_sub-result : goal.overflow_sub-result
overflow_sub-result c =
    let rises : c.low.inside.speed < c.high.inside.speed = rw (← c.low.view_is, ← c.high.view_is) at c.requires.gap in
    let divides : c.high.inside.speed - c.low.inside.speed ∣ c.args.multiple = rw (← c.low.view_is, ← c.high.view_is) at c.requires.divides in
    let enough : c.args.load.work ≤ c.high.inside.speed * c.args.load.time = rw (← c.high.view_is) at c.requires.below_high in
    rw (c.from.ensures, c.from-2.ensures, c.from-3.ensures, c.from-4.ensures, c.from-5.ensures, c.from-6.ensures, c.from-gap.ensures)
    (fast_within c.args.load.work c.args.load.time c.low.inside.speed c.high.inside.speed c.args.multiple rises divides enough)

pub returns : goal.returns
returns c =
    let rises : c.low.inside.speed < c.high.inside.speed = rw (← c.low.view_is, ← c.high.view_is) at c.requires.gap in
    let divides : c.high.inside.speed - c.low.inside.speed ∣ c.args.multiple = rw (← c.low.view_is, ← c.high.view_is) at c.requires.divides in
    let enough : c.args.load.work ≤ c.high.inside.speed * c.args.load.time = rw (← c.high.view_is) at c.requires.below_high in
    rw (← c.low.view_is, ← c.high.view_is, c.from.ensures, c.from-2.ensures, c.from-3.ensures, c.from-4.ensures, c.from-5.ensures, c.from-6.ensures, c.from-gap.ensures)
    (record {
      is_low = refl;
      is_high = refl;
      fast = refl;
      slow = refl;
      fast_in_range = fast_within c.args.load.work c.args.load.time c.low.inside.speed c.high.inside.speed c.args.multiple rises divides enough;
    })
