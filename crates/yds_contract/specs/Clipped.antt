-- The pieces of real time between two places, gap by gap.
use Rattle.std.specs.Prelude.{ℕ, ◌+◌, ◌-◌, List, [], ◌∷◌, ◌++◌, min, max, nat_lt, if◌then◌else◌}
use Rattle.yds_model.specs.Piece.{Piece}

-- the time between these two, where there is any
abbrev pub clipped : ℕ → ℕ → List Piece
clipped from to = if nat_lt from to then record { from = from; to = to } ∷ [] else []

-- The pieces from this time on, before which so much is removed; these stretches are removed from it on.
abbrev pub pieces_after : ℕ → ℕ → ℕ → ℕ → List Piece → List Piece
pieces_after start end from before [] = clipped (max from (start + before)) (end + before)
pieces_after start end from before (stretch ∷ removed) =
    clipped (max from (start + before)) (min stretch.from (end + before))
    ++ pieces_after start end stretch.to (before + (stretch.to - stretch.from)) removed
