-- Two numbers in lowest terms.
use Rattle.yds_model.proofs.Common.{◌≡◌, ℕ, ◌*◌, ◌/◌, ◌≤◌, div-mul_cancel, common_divisor}
use Rattle.fraction_lemmas.proofs.Divisor.{divisor_is_greatest}
use Rattle.fraction_lemmas.proofs.Fractions.{factors}

-- the terms of a / b, where neither is 0
pub record Lowest (a b : ℕ) : Type 0 where
  pub first : a / common_divisor a b * common_divisor a b ≡ a
  pub second : b / common_divisor a b * common_divisor a b ≡ b
  pub some : 1 ≤ common_divisor a b
  pub some_first : 1 ≤ a / common_divisor a b
  pub some_second : 1 ≤ b / common_divisor a b

pub lowest : (a b : ℕ) → 1 ≤ a → 1 ≤ b → Lowest a b
lowest a b some some' =
    let is = divisor_is_greatest a b in
    let first = div-mul_cancel (common_divisor a b) is.0 in
    let second = div-mul_cancel (common_divisor a b) is.1 in
    let terms = factors (a / common_divisor a b) (common_divisor a b) a first some in
    record {
      first = first;
      second = second;
      some = terms.1;
      some_first = terms.0;
      some_second = (factors (b / common_divisor a b) (common_divisor a b) b second some').0;
    }
