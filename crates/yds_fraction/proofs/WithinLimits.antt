-- What a kept fraction gives: at least one part, and the same record under another limit of its whole part.
use Rattle.yds_model.proofs.Common.{ℕ, ◌≤◌, arith, Fraction, IsFraction}

-- a denominator above a numerator is at least 1
pub some_parts : (most : ℕ) {x : Fraction} → IsFraction most x → 1 ≤ x.den
some_parts most kept = let below = kept.below_one in omega arith

pub IsFraction-within : (most least : ℕ) (x : Fraction) → IsFraction most x → x.whole ≤ least → IsFraction least x
IsFraction-within most least x kept within = grind arith
