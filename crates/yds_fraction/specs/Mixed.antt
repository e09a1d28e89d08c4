-- What a `Mixed` keeps, and what its operators give.
use Rattle.std.specs.Prelude.{◌≡◌, ℕ, ◌+◌, ◌*◌, ◌/◌, ◌<◌, ◌≤◌, ◌==◌, if◌then◌else◌, max}
use Rattle.std.specs.Int.{◌∣◌}
use Rattle.base.specs.declared.limits.TheConstants.{MAX_DENOMINATOR, MAX_WHOLE}
use Rattle.yds_model.specs.Scale.{Fraction, at_scale, AreAlike, IsAtMost, IsSum, IsMultiple}
use Rattle.yds_model.specs.Within.{IsFraction}

-- a greatest denominator that a type may have
pub record IsLimit (most_den : ℕ) : Type 0 where
  pub some : 1 ≤ most_den
  pub in_range : most_den ≤ MAX_DENOMINATOR

-- a fraction as the program keeps it, in parts of at most the type's limit
pub record IsMixed (most_den : ℕ) (x : Fraction) : Type 0 where
  pub limit : IsLimit most_den
  pub fraction : IsFraction MAX_WHOLE x
  pub den_in_range : x.den ≤ most_den

-- the fraction, with the denominator 1 where it is whole
abbrev pub fraction_of : ℕ → ℕ → ℕ → Fraction
fraction_of whole num den = record { whole = whole; num = num; den = if num == 0 then 1 else den }

-- it is written in these parts, or is whole
abbrev pub IsInParts : ℕ → Fraction → Type 0
IsInParts den x = x.den ≡ (if x.num == 0 then 1 else den)

-- of two fractions that are alike, the denominator in which both can be written
abbrev pub common_den : Fraction → Fraction → ℕ
common_den x y = max x.den y.den

-- the whole part of the sum of two fractions that are alike
abbrev pub whole_of_sum : Fraction → Fraction → ℕ
whole_of_sum x y = x.whole + y.whole + (x.num + y.num) / common_den x y

-- P holds of each common scale of x and y
abbrev pub AtScales : Fraction → Fraction → (ℕ → Type 0) → Type 0
AtScales x y P = (scale : ℕ) → 1 ≤ scale → x.den ∣ scale → y.den ∣ scale → P scale

-- and each is a scale of z too
abbrev pub AtScalesWith : Fraction → Fraction → Fraction → (ℕ → Type 0) → Type 0
AtScalesWith x y z P = AtScales x y (λ scale. (z.den ∣ scale) × P scale)

pub record CanAdd (x y : Fraction) : Type 0 where
  pub alike : AreAlike x y
  pub fits : whole_of_sum x y ≤ MAX_WHOLE

-- z is x + y, in the greater of the two denominators, or whole
pub record Adds (most_den : ℕ) (x y z : Fraction) : Type 0 where
  pub sum : IsSum x y z
  pub at_scales : AtScalesWith x y z (λ scale. at_scale scale z ≡ at_scale scale x + at_scale scale y)
  pub parts : IsInParts (common_den x y) z
  pub whole : z.whole ≤ x.whole + y.whole + 1
  pub kept : IsMixed most_den z

pub record CanSubtract (x y : Fraction) : Type 0 where
  pub alike : AreAlike x y
  pub at_most : IsAtMost y x

-- z is x - y, in the greater of the two denominators, or whole
pub record Subtracts (most_den : ℕ) (x y z : Fraction) : Type 0 where
  pub difference : IsSum z y x
  pub at_scales : AtScalesWith x y z (λ scale. at_scale scale z + at_scale scale y ≡ at_scale scale x)
  pub parts : IsInParts (common_den x y) z
  pub whole : z.whole ≤ x.whole
  pub kept : IsMixed most_den z

-- the whole part of k times x
abbrev pub whole_of_multiple : ℕ → Fraction → ℕ
whole_of_multiple k x = k * x.whole + k * x.num / x.den

abbrev pub CanMultiply : Fraction → ℕ → Type 0
CanMultiply x k = whole_of_multiple k x ≤ MAX_WHOLE

-- z is k * x, in the denominator of x, or whole
pub record Multiplies (most_den : ℕ) (x : Fraction) (k : ℕ) (z : Fraction) : Type 0 where
  pub multiple : IsMultiple k x z
  pub at_scales : AtScalesWith x x z (λ scale. at_scale scale z ≡ k * at_scale scale x)
  pub parts : IsInParts x.den z
  pub whole : z.whole ≡ whole_of_multiple k x
  pub kept : IsMixed most_den z

-- The parts below one of a sum carry one at most, and those of k times a fraction k at most.
abbrev pub SumCarriesOne : Type 0
SumCarriesOne = (x y : Fraction) → x.num < x.den → y.num < y.den → whole_of_sum x y ≤ x.whole + y.whole + 1

abbrev pub MultipleCarriesFactor : Type 0
MultipleCarriesFactor = (k : ℕ) (x : Fraction) → x.num < x.den → whole_of_multiple k x ≤ k * (x.whole + 1)
