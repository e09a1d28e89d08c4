-- A level with one more piece or member.
use Rattle.std.specs.Prelude.{ℕ, [], ◌∷◌, ◌++◌}
use Rattle.yds_model.specs.Piece.{Piece}
use Rattle.yds_model.specs.Level.{Level}

abbrev pub with_piece : Piece → Level → Level
with_piece piece level =
    record { work = level.work; length = level.length; pieces = level.pieces ++ piece ∷ []; members = level.members }

abbrev pub with_member : ℕ → Level → Level
with_member job level =
    record { work = level.work; length = level.length; pieces = level.pieces; members = level.members ++ job ∷ [] }
