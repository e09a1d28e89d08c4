-- Quotients rounded up, of numbers that are both multiplied.
use Rattle.std.proofs.Common.{◌≡◌, ℕ, zero, suc, ◌+◌, ◌-◌, ◌*◌, ◌/◌, ◌≤◌, sym, ap, ◌∙◌, arith}
use Rattle.std.proofs.lemmas.Nat.{div-mul-add}
use Rattle.std.proofs.Math.Nat.{mul-zero, mul-suc, div-div-eq-div-mul, div-zero}
use Rattle.yds_model.specs.Policy.{div_up}

-- the quotient is what it was, by each divisor, also 0
pub rounded_up_same : (k : ℕ) → 1 ≤ k → (x y : ℕ) → div_up (k * x) (k * y) ≡ div_up x y
rounded_up_same k some x zero = rw (mul-zero k) (div-zero (k * x + (0 - 1)) ∙ sym (div-zero (x + (0 - 1))))
rounded_up_same k some x (suc y) =
    let fine : k * x + (k * suc y - 1) ≡ (x + y) * k + (k - 1) = omega (arith, mul-suc k y) in
    let whole : x + (suc y - 1) ≡ x + y = omega arith in
    rw (fine, whole) (sym (div-div-eq-div-mul _ k (suc y)) ∙ ap (λ n. n / suc y) (div-mul-add (x + y) k (k - 1) (omega arith)))
