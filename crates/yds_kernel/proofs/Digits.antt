-- The number that digits spell.
use Rattle.base.proofs.Common.{◌≡◌, ℕ, ◌+◌, ◌*◌, ◌^◌, ◌<◌, ◌≤◌, nat_le, arith, leb-true, le-leb, digit_value, ◌-◌, refl, common_steps}
use Rattle.std.proofs.Common.{lit<}
use Rattle.std.proofs.Math.Nat.{pow-le-pow_right}
use Rattle.yds_kernel.specs.declared.limits.TheConstants.{MAX_U64}
use Rattle.yds_kernel.specs.Parts.{capped}

-- a capped number with one more digit is capped as the whole number is
pub capped_more : (whole digit : ℕ) → capped (capped whole * 10 + digit) ≡ capped (whole * 10 + digit)
capped_more whole digit = grind (arith, nat_le, leb-true, le-leb)

pub digit_says : (byte : ℕ) → 48 ≤ byte → byte ≤ 57 → digit_value byte ≡ byte - 48
digit_says byte low high = grind (arith, common_steps)

-- a number of few digits is no greater than 64 bits hold
pub few_digits : (value count : ℕ) → value < 10 ^ count → count ≤ 8 → capped value ≡ value
few_digits value count below few =
    let most : 10 ^ count ≤ 10 ^ 8 = pow-le-pow_right (lit< tt) few in
    let small : value ≤ MAX_U64 = omega (arith, below, most) in
    rw (le-leb value MAX_U64 small) refl
