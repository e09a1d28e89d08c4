-- The pieces of the first levels in one list, each with the number of its level.
use Rattle.std.specs.Prelude.{◌≡◌, ℕ, ◌+◌, ◌<◌, ◌≤◌, ◌&&◌, Bool, List, take, cond, count_by, nat_lt, nat_le}
use Rattle.std.specs.List.{All}
use Rattle.std.specs.List.Sorted.{IsNonDecreasingBy}
use Rattle.yds_model.specs.Piece.{Piece}
use Rattle.yds_model.specs.Level.{Level, all_pieces}
use Rattle.yds_checker.specs.declared.placed.Placed.{Placed}

-- whether the unit of time that begins then lies between two times
abbrev pub has_unit : ℕ → ℕ → ℕ → Bool
has_unit time from to = nat_le from time && nat_lt time to

-- how many of the pieces have the unit of time that begins then
abbrev pub covering : ℕ → List Piece → ℕ
covering time pieces = count_by (λ piece. has_unit time piece.from piece.to) pieces

-- how many of those of the first so many levels have it
abbrev pub holding : ℕ → ℕ → List Placed → ℕ
holding levels time placed = count_by (λ piece. nat_lt piece.level levels && has_unit time piece.from piece.to) placed

-- no unit of time lies in two pieces of the first so many levels
abbrev pub AreApartBelow : ℕ → List Placed → Type 0
AreApartBelow levels placed = (time : ℕ) → holding levels time placed ≤ 1

-- the piece takes time, and its level is one of the first so many
abbrev pub IsPlacedPiece : ℕ → Placed → Type 0
IsPlacedPiece levels piece = (piece.level < levels) × (piece.from < piece.to)

-- the longer list has the pieces of one level more
pub record PlacesMore (placed longer : List Placed) (pieces : List Piece) (level : ℕ) : Type 0 where
  pub each : (levels : ℕ) → level < levels → All (IsPlacedPiece levels) placed → All (IsPlacedPiece levels) longer
  pub same : (levels time : ℕ) → holding levels time longer ≡ holding levels time placed + cond (nat_lt level levels) (covering time pieces) 0

-- the list has the pieces of the first so many levels: it holds each unit of time as often as they cover it
pub record ArePlaced (levels : List Level) (count : ℕ) (placed : List Placed) : Type 0 where
  pub each : All (IsPlacedPiece count) placed
  pub same : (n time : ℕ) → n ≤ count → holding n time placed ≡ covering time (all_pieces (take n levels))

-- they begin in rising order
abbrev pub AreByStart : List Placed → Type 0
AreByStart placed = IsNonDecreasingBy (λ piece. piece.from) placed
