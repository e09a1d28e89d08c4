-- What a stretch serves under a top speed.
use Rattle.std.specs.Prelude.{ℕ, ◌-◌, ◌*◌}
use Rattle.yds_model.specs.Piece.{Piece}

-- all that the top speed does in its length
abbrev pub top_units : ℕ → Piece → ℕ
top_units top stretch = top * (stretch.to - stretch.from)
