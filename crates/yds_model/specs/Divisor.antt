-- The greatest common divisor and the least common multiple.
use Rattle.std.specs.Prelude.{◌≡◌, ◌<◌, ℕ, zero, suc, ◌*◌, ◌/◌, ◌%◌, List, [], ◌∷◌}
use Rattle.yds_model.specs.Scale.{Fraction, of_parts}

-- Euclid's turns: the divisors of a and b are those of b and the rest of a by b. As many turns as b are enough.
abbrev pub divisor_within : ℕ → ℕ → ℕ → ℕ
divisor_within zero a b = a
divisor_within (suc turns) a zero = a
divisor_within (suc turns) a (suc b) = divisor_within turns (suc b) (a % suc b)

abbrev pub common_divisor : ℕ → ℕ → ℕ
common_divisor a b = divisor_within b a b

abbrev pub common_multiple : ℕ → ℕ → ℕ
common_multiple a b = a / common_divisor a b * b

-- num/den as a written fraction in lowest terms
abbrev pub in_lowest_terms : ℕ → ℕ → Fraction
in_lowest_terms num den = of_parts (num / common_divisor num den) (den / common_divisor num den)

-- the fraction is in lowest terms: beside its whole part it is below one, and it can't be reduced
pub record IsLowest (x : Fraction) : Type 0 where
  pub below_one : x.num < x.den
  pub reduced : common_divisor x.num x.den ≡ 1

-- the least common multiple of all these numbers, 1 for none
abbrev pub multiple_of_all : List ℕ → ℕ
multiple_of_all [] = 1
multiple_of_all (n ∷ numbers) = common_multiple n (multiple_of_all numbers)
