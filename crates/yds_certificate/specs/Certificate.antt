-- What a certificate keeps, and a certificate with its last level changed.
use Rattle.std.specs.Prelude.{◌≤◌, List, [], ◌∷◌, length}
use Rattle.std.specs.List.{All}
use Rattle.base.specs.declared.limits.TheConstants.{MAX_LEVELS, MAX_PIECES, MAX_MEMBERS}
use Rattle.yds_model.specs.Level.{Level, all_members, all_pieces}
use Rattle.yds_model.specs.Within.{IsLevel}

pub record IsCertificate (levels : List Level) : Type 0 where
  pub each : All IsLevel levels
  pub few : length levels ≤ MAX_LEVELS
  pub few_pieces : length (all_pieces levels) ≤ MAX_PIECES
  pub few_members : length (all_members levels) ≤ MAX_MEMBERS

abbrev pub with_last : (Level → Level) → List Level → List Level
with_last change [] = []
with_last change (level ∷ []) = change level ∷ []
with_last change (level ∷ next ∷ levels) = level ∷ with_last change (next ∷ levels)
