use Rattle.yds_model.proofs.Common.{ℕ, ◌+◌, ◌<◌, length, arith}
use Rattle.yds_admit.proofs.Idleness.{next_idle}
use Rattle.yds_admit.proofs.pieces.used_before.Goals as goal

pub overflow_add-units : goal.overflow_add-units
overflow_add-units c =
    let gap : ℕ = c.loop-gap.gap in
    let below : gap < length c.args.gaps.now = c.loop-gap-test.true in
    omega (
      arith,
      c.loop-gap.invariant.units,
      c.requires.less gap below,
      next_idle c.args.gaps.now gap,
      next_idle c.args.left.now gap,
      c.requires.few (gap + 1) (omega (arith, below)),
    )
