use Rattle.yds_model.proofs.Common.{ℕ, ◌+◌, arith}
use Rattle.yds_admit.proofs.Cutting.{went_fits, next_went}
use Rattle.yds_admit.proofs.nearby.units_between.Goals as goal

pub overflow_add-units : goal.overflow_add-units
overflow_add-units c =
    let pieces = c.args.pieces.now in
    let number : ℕ = c.loop-number.number in
    omega (
      arith,
      c.loop-number.invariant.sum,
      went_fits (number + 1) pieces.jobs pieces.places.items c.args.end (omega (arith, c.loop-number-test.true, c.requires.within)) c.requires.few,
      next_went number pieces.jobs pieces.places.items c.args.end,
    )
