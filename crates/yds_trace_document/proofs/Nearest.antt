-- How far a number is from the nearest whole number of units.
use Rattle.base.proofs.Common.{◌≡◌, ℕ, ◌+◌, ◌-◌, ◌*◌, ◌/◌, ◌%◌, ◌≤◌, ◌<◌, arith, div-add-mod}

pub nearest_up : (number unit : ℕ) → 1 ≤ unit → unit - number % unit ≤ number % unit → (2 * number + unit) / (2 * unit) ≡ number / unit + 1
nearest_up number unit least up = grind arith

pub nearest_down : (number unit : ℕ) → 1 ≤ unit → number % unit < unit - number % unit → (2 * number + unit) / (2 * unit) ≡ number / unit
nearest_down number unit least down = grind arith

pub far_up : (number unit : ℕ) → 1 ≤ unit → unit - number % unit ≤ number % unit →
    ((2 * number + unit) / (2 * unit) * unit - number) + (number - (2 * number + unit) / (2 * unit) * unit) ≡ unit - number % unit
far_up number unit least up =
    rw (nearest_up number unit least up) (omega (arith, div-add-mod number unit))

pub far_down : (number unit : ℕ) → 1 ≤ unit → number % unit < unit - number % unit →
    ((2 * number + unit) / (2 * unit) * unit - number) + (number - (2 * number + unit) / (2 * unit) * unit) ≡ number % unit
far_down number unit least down =
    rw (nearest_down number unit least down) (omega (arith, div-add-mod number unit))
