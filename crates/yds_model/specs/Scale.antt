-- A written fraction, and the whole number that it is at a scale: at scale M one stands for M equal parts, and a
-- fraction whose denominator divides M is a whole number of them.
use Rattle.std.specs.Prelude.{◌≡◌, ℕ, ◌+◌, ◌*◌, ◌/◌, ◌%◌, ◌<◌, ◌≤◌, ◌⊎◌, ◌==◌, if◌then◌else◌}

-- `whole+num/den`, as it is written
pub record Fraction : Type 0 where
  pub whole : ℕ
  pub num : ℕ
  pub den : ℕ

-- the fraction at a scale that its denominator divides
abbrev pub at_scale : ℕ → Fraction → ℕ
at_scale scale x = x.whole * scale + x.num * (scale / x.den)

abbrev pub of_whole : ℕ → Fraction
of_whole n = record { whole = n; num = 0; den = 1 }

-- so many parts of one `den`-th, as a fraction: whole where no part is left over
abbrev pub of_parts : ℕ → ℕ → Fraction
of_parts parts den = if parts % den == 0 then of_whole (parts / den) else record { whole = parts / den; num = parts % den; den = den }

-- the numerator of the fraction as one quotient over its denominator
abbrev pub numerator : Fraction → ℕ
numerator x = x.whole * x.den + x.num

-- Order, equality, sum and multiple of written fractions, by cross products.
abbrev pub IsLess : Fraction → Fraction → Type 0
IsLess x y = numerator x * y.den < numerator y * x.den

abbrev pub IsAtMost : Fraction → Fraction → Type 0
IsAtMost x y = numerator x * y.den ≤ numerator y * x.den

abbrev pub IsSame : Fraction → Fraction → Type 0
IsSame x y = numerator x * y.den ≡ numerator y * x.den

abbrev pub IsSum : Fraction → Fraction → Fraction → Type 0
IsSum x y z = numerator z * (x.den * y.den) ≡ (numerator x * y.den + numerator y * x.den) * z.den

abbrev pub IsMultiple : ℕ → Fraction → Fraction → Type 0
IsMultiple k x z = numerator z * x.den ≡ k * numerator x * z.den

-- the denominators are equal, or one of them is 1
abbrev pub AreAlike : Fraction → Fraction → Type 0
AreAlike x y = (x.den ≡ y.den) ⊎ ((x.den ≡ 1) ⊎ (y.den ≡ 1))

-- `num/den`: a speed, in work per time unit. Order and equality by cross products.
pub record Quotient : Type 0 where
  pub num : ℕ
  pub den : ℕ

abbrev pub IsLessQuotient : Quotient → Quotient → Type 0
IsLessQuotient x y = x.num * y.den < y.num * x.den

abbrev pub IsSameQuotient : Quotient → Quotient → Type 0
IsSameQuotient x y = x.num * y.den ≡ y.num * x.den
