-- Spans of parts, cut at times.
use Rattle.std.specs.Prelude.{ℕ, Bool, List, [], ◌∷◌, nat_lt, nat_le, ◌&&◌, ◌<◌, ◌≤◌, length, slice_index, if◌then◌else◌}
use Rattle.std.specs.List.{flat_map}
use Rattle.yds_model.specs.Piece.{Piece}

-- after the one time, up to the other
abbrev pub comes_between : ℕ → ℕ → ℕ → Bool
comes_between after upto time = nat_lt after time && nat_le time upto

-- so many of the times are at this one or before it, and the others aren't
pub record AreUpto (times : List ℕ) (time count : ℕ) : Type 0 where
  pub within : count ≤ length times
  pub before : (i : ℕ) → i < count → slice_index times i ≤ time
  pub after : (i : ℕ) → count ≤ i → i < length times → time < slice_index times i

-- the span between these two, cut at each of the times that lies strictly inside it
abbrev pub cut_between : ℕ → ℕ → List ℕ → List Piece
cut_between from to [] = record { from = from; to = to } ∷ []
cut_between from to (time ∷ times) =
    if nat_lt from time && nat_lt time to then record { from = from; to = time } ∷ cut_between time to times else cut_between from to times

abbrev pub cut_all : List ℕ → List Piece → List Piece
cut_all times spans = flat_map (λ span. cut_between span.from span.to times) spans
