-- Fractions together, and energies with idle time over one horizon in place of those of the parts.
use Rattle.std.specs.Prelude.{◌≡◌, ℕ, ◌+◌, ◌*◌, ◌≤◌, List, [], ◌∷◌}
use Rattle.std.specs.List.{All}
use Rattle.yds_model.specs.Scale.{Fraction, numerator, IsSame, IsSum}
use Rattle.yds_model.specs.Table.{Point, point_at}

-- the fraction is the sum of these
abbrev pub IsSumOf : List Fraction → Fraction → Type 0
IsSumOf [] sum = numerator sum ≡ 0
IsSumOf (one ∷ fractions) sum = (rest : Fraction) × (1 ≤ rest.den) × IsSumOf fractions rest × IsSum one rest sum

-- the fraction and so much more
abbrev pub plus_whole : ℕ → Fraction → Fraction
plus_whole n x = record { whole = n + x.whole; num = x.num; den = x.den }

-- The whole is these fractions together, which count `own` that it doesn't, and `more` that they don't.
pub record IsSumWith (more own : ℕ) (fractions : List Fraction) (whole : Fraction) : Type 0 where
  pub has_parts : 1 ≤ whole.den
  pub each : All (λ one. 1 ≤ one.den) fractions
  pub sum : Fraction
  pub sum_has_parts : 1 ≤ sum.den
  pub is_sum : IsSumOf fractions sum
  pub same : IsSame (plus_whole own whole) (plus_whole more sum)

-- The energies together, with idle time over a horizon of so much time in place of horizons of `own` time together.
abbrev pub IsEnergyOver : ℕ → ℕ → List Point → List Fraction → Fraction → Type 0
IsEnergyOver time own points energies energy = IsSumWith ((point_at points 0).power * time) ((point_at points 0).power * own) energies energy
