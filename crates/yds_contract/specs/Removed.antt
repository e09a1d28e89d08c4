-- Removed stretches, each with the removed time before it.
use Rattle.std.specs.Prelude.{◌≡◌, ℕ, ◌<◌, ◌≤◌, List, length, map, take}
use Rattle.std.specs.List.{All, slice_index_or}
use Rattle.yds_model.specs.Piece.{Piece, total_length}
use Rattle.yds_model.specs.Within.{IsPiece}
use Rattle.yds_contract.specs.declared.removed.Removed.{Removed}
use Rattle.yds_contract.specs.Contracted.{AreApartFrom}

abbrev pub no_removed : Removed
no_removed = record { from = 0; to = 0; before = 0 }

abbrev pub removed_at : List Removed → ℕ → Removed
removed_at removed i = slice_index_or removed i no_removed

abbrev pub stretch_of : Removed → Piece
stretch_of stretch = record { from = stretch.from; to = stretch.to }

abbrev pub removed_stretches : List Removed → List Piece
removed_stretches removed = map stretch_of removed

-- each has the removed time before it
abbrev pub AreSummed : List Removed → Type 0
AreSummed removed = (i : ℕ) → i < length removed → (removed_at removed i).before ≡ total_length (take i (removed_stretches removed))

pub record IsContraction (removed : List Removed) : Type 0 where
  pub apart : AreApartFrom 0 (removed_stretches removed)
  pub in_range : All IsPiece (removed_stretches removed)
  pub summed : AreSummed removed

-- so many of them begin before the time, and the others don't
pub record AreBegun (removed : List Removed) (time begun : ℕ) : Type 0 where
  pub within : begun ≤ length removed
  pub before : (i : ℕ) → i < begun → (removed_at removed i).from < time
  pub after : (i : ℕ) → begun ≤ i → i < length removed → time ≤ (removed_at removed i).from
