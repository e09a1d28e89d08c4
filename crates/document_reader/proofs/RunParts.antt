-- Fractions in parts of one tick.
use Rattle.yds_model.proofs.Common.{◌≡◌, ℕ, ◌*◌, ◌/◌, ◌≤◌, arith, div-le_of_le-mul, Fraction, AreAlike, of_parts}
use Rattle.base.specs.declared.limits.TheConstants.{MAX_TIME}

pub parts_alike : (x y : Fraction) (p q den : ℕ) → x ≡ of_parts p den → y ≡ of_parts q den → AreAlike x y
parts_alike x y p q den is other = grind arith

pub tick_within : (whole tick ticks : ℕ) → whole ≡ tick / ticks → tick ≤ MAX_TIME * ticks → whole ≤ MAX_TIME
tick_within whole tick ticks is within = grind (arith, div-le_of_le-mul)
