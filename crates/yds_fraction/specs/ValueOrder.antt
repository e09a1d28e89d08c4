-- What `cmp` and `==` answer: the order of the values, by cross products.
use Rattle.std.specs.Prelude.{ℕ, ◌*◌, ◌≤◌, max, Bool}
use Rattle.std.specs.declared.cmp.Ordering.{Ordering}
use Rattle.std.specs.Ordering.{nat_cmp, eq_by_cmp, MatchOrdering}
use Rattle.yds_model.specs.Scale.{Fraction, Quotient, numerator, IsLess, IsSame, IsLessQuotient, IsSameQuotient}

-- The denominator, and 1 for a denominator 0. No value of the program has that one, but the laws of an order speak of
-- every record.
abbrev pub parts : ℕ → ℕ
parts den = max den 1

abbrev pub quotient_cmp : Quotient → Quotient → Ordering
quotient_cmp x y = nat_cmp (x.num * parts y.den) (y.num * parts x.den)

abbrev pub quotient_same : Quotient → Quotient → Bool
quotient_same x y = eq_by_cmp quotient_cmp x y

-- a fraction as one quotient
abbrev pub quotient_of : Fraction → Quotient
quotient_of x = record { num = numerator x; den = x.den }

abbrev pub fraction_cmp : Fraction → Fraction → Ordering
fraction_cmp x y = quotient_cmp (quotient_of x) (quotient_of y)

abbrev pub fraction_same : Fraction → Fraction → Bool
fraction_same x y = eq_by_cmp fraction_cmp x y

-- The answer says how the values stand, wherever the denominators are at least 1, as those of every value are.
abbrev pub OrderOfFractions : Type 0
OrderOfFractions = (x y : Fraction) → 1 ≤ x.den → 1 ≤ y.den → MatchOrdering (fraction_cmp x y) (IsLess x y) (IsSame x y) (IsLess y x)

abbrev pub OrderOfQuotients : Type 0
OrderOfQuotients = (x y : Quotient) → 1 ≤ x.den → 1 ≤ y.den → MatchOrdering (quotient_cmp x y) (IsLessQuotient x y) (IsSameQuotient x y) (IsLessQuotient y x)
