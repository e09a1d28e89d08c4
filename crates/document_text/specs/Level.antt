-- How many lines levels have, with their pieces and members.
use Rattle.std.specs.Prelude.{ℕ, ◌+◌, List, [], ◌∷◌, length}
use Rattle.yds_model.specs.Level.{Level}

abbrev pub line_count : Level → ℕ
line_count level = 1 + length level.pieces + length level.members

abbrev pub line_total : List Level → ℕ
line_total [] = 0
line_total (level ∷ levels) = line_count level + line_total levels
