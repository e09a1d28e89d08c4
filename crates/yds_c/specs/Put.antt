-- A text in the caller's room.
use Rattle.std.specs.Prelude.{◌≡◌, ℕ, ◌<◌, ◌≤◌, List, ◌++◌, length, drop}

-- The text's length is told. Where the room holds the text, it stands at the room's front and the rest of the room is as it was.
-- Where the room is too small, all of it is as it was.
pub record IsPut (text old new : List ℕ) (needed : ℕ) : Type 0 where
  pub told : needed ≡ length text
  pub whole : length text ≤ length old → new ≡ text ++ drop (length text) old
  pub too_small : length old < length text → new ≡ old
