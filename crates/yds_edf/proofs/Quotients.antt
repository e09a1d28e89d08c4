-- Quotients rounded up.
use Rattle.yds_model.proofs.Common.{ℕ, ◌*◌, ◌≤◌, arith, div_up}

-- so many times the divisor are enough,
pub up_enough : (x y : ℕ) → 1 ≤ y → x ≤ div_up x y * y
up_enough x y some = grind arith

-- and fewer aren't
pub up_most : (x y m : ℕ) → 1 ≤ y → x ≤ m * y → div_up x y ≤ m
up_most x y m some most = grind arith
