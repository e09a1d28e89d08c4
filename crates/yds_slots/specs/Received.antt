-- What a job has got from some slots: the denominator of its works that aren't whole, and the works together.
use Rattle.std.specs.Prelude.{ℕ}
use Rattle.yds_model.specs.Scale.{Fraction}

pub record Receipt : Type 0 where
  pub grain : ℕ
  pub given : Fraction
