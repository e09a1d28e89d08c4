-- Contracted time: real time from which stretches are removed.
use Rattle.std.specs.Prelude.{◌≡◌, ℕ, suc, ◌-◌, ◌<◌, ◌≤◌, ◌↔◌, ◌⊎◌, List, [], ◌∷◌, sum_by, min}
use Rattle.yds_model.specs.Piece.{Piece, Covers, total_length}

-- the pieces lie one after another from this time on, each takes time, and between one and the next lies time
abbrev pub AreApartFrom : ℕ → List Piece → Type 0
AreApartFrom start [] = Unit {0}
AreApartFrom start (piece ∷ pieces) = (start ≤ piece.from) × (piece.from < piece.to) × AreApartFrom (suc piece.to) pieces

-- the removed time before this one
abbrev pub removed_before : List Piece → ℕ → ℕ
removed_before removed time = sum_by (λ piece. min piece.to time - min piece.from time) removed

-- the place of a time in contracted time
abbrev pub place : List Piece → ℕ → ℕ
place removed time = time - removed_before removed time

-- the unit of time that begins at `time` isn't removed, and its place is at the start or later and before the end
pub record HasPlace (removed : List Piece) (start end time : ℕ) : Type 0 where
  pub stays : Covers removed time → ⊥
  pub from : start ≤ place removed time
  pub to : place removed time < end

-- the pieces of real time between two places: all of it that isn't removed, apart, and as long as the places are
pub record ArePieces (removed : List Piece) (start end : ℕ) (pieces : List Piece) : Type 0 where
  pub apart : AreApartFrom 0 pieces
  pub time : (time : ℕ) → Covers pieces time ↔ HasPlace removed start end time
  pub total : total_length pieces ≡ end - start

-- what is removed once the time between two places is removed besides
pub record Removes (removed : List Piece) (start end : ℕ) (changed : List Piece) : Type 0 where
  pub apart : AreApartFrom 0 changed
  pub time : (time : ℕ) → Covers changed time ↔ (Covers removed time ⊎ HasPlace removed start end time)
