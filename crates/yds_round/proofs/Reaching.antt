-- The times at which so many units of a stretch are done.
use Rattle.yds_model.proofs.Common.{◌≡◌, ℕ, ◌-◌, ◌*◌, ◌<◌, ◌≤◌, min, max, arith, Fraction, IsFraction}
use Rattle.base.specs.declared.limits.TheConstants.{MAX_DENOMINATOR, MAX_TIME, MAX_WHOLE}
use Rattle.yds_fraction.specs.Mixed.{IsMixed}
use Rattle.yds_fraction.proofs.WithinLimits.{IsFraction-within}
use Rattle.yds_round.specs.declared.cut.Cut.{Cut}
use Rattle.yds_round.specs.Written.{all_units, turn, moment}
use Rattle.yds_round.specs.Cut.{IsCut, IsReached}
use Rattle.yds_round.proofs.Turns.{fast_before, fast_after, slow_before, slow_after}

-- a time within the limit is one as a slot keeps it
pub time_kept : (time : Fraction) → IsMixed MAX_DENOMINATOR time → time.whole ≤ MAX_TIME → IsFraction MAX_TIME time
time_kept time kept within = IsFraction-within MAX_WHOLE MAX_TIME time kept.fraction within

-- up to the switch
pub reached_before : (cut : Cut) (units parts : ℕ) (time : Fraction) → IsCut cut → units ≤ all_units cut.split cut.stretch →
    units * cut.split.gap ≤ turn cut.split cut.stretch → parts ≡ units * cut.split.fast.step → time ≡ moment cut.stretch parts cut.split.fast.den →
    IsFraction MAX_TIME time → IsReached cut (record { units = units; fast = time; slow = cut.slow_start })
reached_before cut units parts time is within below are time_is fits = grind (arith, fast_before, max, min, slow_before)

-- and after it
pub reached_after : (cut : Cut) (units parts : ℕ) (time : Fraction) → IsCut cut → units ≤ all_units cut.split cut.stretch →
    turn cut.split cut.stretch < units * cut.split.gap → parts ≡ (units - cut.surplus) * cut.split.slow.step → time ≡ moment cut.stretch parts cut.split.slow.den →
    IsFraction MAX_TIME time → IsReached cut (record { units = units; fast = cut.fast_end; slow = time })
reached_after cut units parts time is within above are time_is fits = grind (arith, fast_after, max, min, slow_after)
