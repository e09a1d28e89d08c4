-- One slot of a stretch that is cut: within the limits.
use Rattle.yds_model.proofs.Common.{◌≡◌, ℕ, ◌+◌, ◌-◌, ◌*◌, ◌≤◌, min, max, arith, mul-le-mul_right, Fraction, Piece, IsFraction, IsSlot}
use Rattle.fraction_lemmas.proofs.Fractions.{parts_alike}
use Rattle.base.specs.declared.limits.TheConstants.{MAX_DENOMINATOR, MAX_SLOT_WORK, MAX_TIME}
use Rattle.yds_fraction.specs.Mixed.{IsMixed}
use Rattle.yds_fraction.proofs.WithinLimits.{IsFraction-within}
use Rattle.yds_round.specs.Written.{moment}

-- what is done in a part between two numbers of units is no more than those units
parts_fit : (from to gap den most done : ℕ) → to ≤ from + den * most → done + from * gap ≤ to * gap → done ≤ den * gap * most
parts_fit from to gap den most done few within = omega (arith, within, mul-le-mul_right gap few)

pub least_fits : (from to gap den most turn : ℕ) → from ≤ to → to ≤ from + den * most → min (to * gap) turn - min (from * gap) turn ≤ den * gap * most
least_fits from to gap den most turn order few =
    let rises : from * gap ≤ to * gap = mul-le-mul_right gap order in
    parts_fit from to gap den most _ few (omega (arith, rises))

pub greatest_fits : (from to gap den most turn : ℕ) → from ≤ to → to ≤ from + den * most → max (to * gap) turn - max (from * gap) turn ≤ den * gap * most
greatest_fits from to gap den most turn order few =
    let rises : from * gap ≤ to * gap = mul-le-mul_right gap order in
    parts_fit from to gap den most _ few (omega (arith, rises))

-- so is a slot between two times of one denominator
pub piece_kept : (job : ℕ) (from to work : Fraction) (stretch : Piece) (first last den : ℕ) → from ≡ moment stretch first den → to ≡ moment stretch last den →
    IsFraction MAX_TIME from → IsFraction MAX_TIME to → IsMixed MAX_DENOMINATOR work → work.whole ≤ MAX_SLOT_WORK →
    IsSlot (record { job = job; from = from; to = to; work = work })
piece_kept job from to work stretch first last den is_from is_to from_fits to_fits kept few = grind (arith, IsFraction-within, parts_alike)
