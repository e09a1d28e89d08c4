-- What a `Ratio` keeps, and its mediant.
use Rattle.std.specs.Prelude.{ℕ, ◌+◌, ◌≤◌}
use Rattle.base.specs.declared.limits.TheConstants.{MAX_DENOMINATOR}
use Rattle.yds_model.specs.Scale.{Quotient}

-- the greatest numerator and denominator that a type may have
pub record AreBounds (most_num most_den : ℕ) : Type 0 where
  pub num : most_num ≤ MAX_DENOMINATOR
  pub some : 1 ≤ most_den
  pub den : most_den ≤ MAX_DENOMINATOR

pub record IsRatio (most_num most_den : ℕ) (x : Quotient) : Type 0 where
  pub bounds : AreBounds most_num most_den
  pub num_in_range : x.num ≤ most_num
  pub has_parts : 1 ≤ x.den
  pub den_in_range : x.den ≤ most_den

-- numerators added over denominators added
abbrev pub mediant_of : Quotient → Quotient → Quotient
mediant_of x y = record { num = x.num + y.num; den = x.den + y.den }
