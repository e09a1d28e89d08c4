-- A level that joins the last one of a certificate, where both have one speed.
use Rattle.std.specs.Prelude.{◌≡◌, ◌↔◌, ℕ, ◌+◌, ◌*◌, ◌-◌, ◌<◌, ◌≤◌, ◌⊎◌, List, [], ◌∷◌, ◌++◌, length}
use Rattle.std.specs.List.{All, slice_index_or}
use Rattle.std.specs.List.Sorted.{IsPermutation, IsStrictlyIncreasing}
use Rattle.base.specs.declared.limits.TheConstants.{MAX_LEVEL_WORK, MAX_LEVEL_LENGTH}
use Rattle.base.specs.Numbers.{count}
use Rattle.yds_model.specs.Piece.{Piece, AreApart, PiecesFrom, Covers, total_length}
use Rattle.yds_model.specs.Level.{Level, level_at}
use Rattle.yds_model.specs.Within.{IsPiece}
use Rattle.yds_certificate.specs.Certificate.{with_last}

-- the pieces each take time, and between one and the next lies time
abbrev pub AreSeparate : List Piece → Type 0
AreSeparate [] = Unit {0}
AreSeparate (piece ∷ []) = piece.from < piece.to
AreSeparate (piece ∷ next ∷ pieces) = (piece.from < piece.to) × (piece.to < next.from) × AreSeparate (next ∷ pieces)

-- its pieces lie one after another, and its members rise
pub record IsOrderly (level : Level) : Type 0 where
  pub pieces : PiecesFrom 0 level.pieces
  pub members : IsStrictlyIncreasing level.members

-- the two levels together, served at once
pub record AreTogether (first second both : Level) : Type 0 where
  pub work : both.work ≡ first.work + second.work
  pub length : both.length ≡ first.length + second.length
  pub time : (time : ℕ) → Covers both.pieces time ↔ (Covers first.pieces time ⊎ Covers second.pieces time)
  pub separate : AreSeparate both.pieces
  pub total : total_length both.pieces ≡ total_length first.pieces + total_length second.pieces
  pub members : IsPermutation (first.members ++ second.members) both.members
  pub rising : IsStrictlyIncreasing both.members

abbrev pub last_level : List Level → Level
last_level levels = level_at levels (length levels - 1)

-- there is a last level, and it has the level's speed
pub record HasSpeedOfLast (levels : List Level) (level : Level) : Type 0 where
  pub some : 1 ≤ length levels
  pub same : (last_level levels).work * level.length ≡ level.work * (last_level levels).length

-- the time at which the last piece ends, 0 for none
abbrev pub end_of : List Piece → ℕ
end_of pieces = (slice_index_or pieces (length pieces - 1) (record { from = 0; to = 0 })).to

-- the last piece ends where this one begins
pub record Touches (pieces : List Piece) (piece : Piece) : Type 0 where
  pub some : 1 ≤ length pieces
  pub meets : end_of pieces ≡ piece.from

abbrev pub IsInPiece : ℕ → Piece → Type 0
IsInPiece time piece = (piece.from ≤ time) × (time < piece.to)

-- the pieces with one more after them, which the last one joins where they touch
pub record IsExtended (old new : List Piece) (piece : Piece) : Type 0 where
  pub time : (time : ℕ) → Covers new time ↔ (Covers old time ⊎ IsInPiece time piece)
  pub separate : AreSeparate new
  pub total : total_length new ≡ total_length old + (piece.to - piece.from)
  pub few : length new ≤ length old + 1
  pub ends : end_of new ≡ piece.to
  pub limits : All IsPiece old → All IsPiece new

-- the same time in pieces that don't touch
pub record IsJoined (pieces joined : List Piece) : Type 0 where
  pub time : (time : ℕ) → Covers joined time ↔ Covers pieces time
  pub separate : AreSeparate joined
  pub total : total_length joined ≡ total_length pieces
  pub few : length joined ≤ length pieces
  pub ends : end_of joined ≡ end_of pieces
  pub limits : All IsPiece joined

-- each of the level's pieces is apart from all of those, and its members are none of those
pub record IsNewTo (level : Level) (taken : List Piece) (others : List ℕ) : Type 0 where
  pub apart : All (λ piece. All (AreApart piece) taken) level.pieces
  pub members : All (λ job. count job others ≡ 0) level.members

-- the level fits beside another of its speed
pub record FitsBeside (first second : Level) : Type 0 where
  pub work : first.work + second.work ≤ MAX_LEVEL_WORK
  pub length : first.length + second.length ≤ MAX_LEVEL_LENGTH

-- the last level and a new one may stand one after the other
pub record CanFollow (last level : Level) : Type 0 where
  pub last_orderly : IsOrderly last
  pub not_faster : level.work * last.length ≤ last.work * level.length
  pub fits : last.work * level.length ≡ level.work * last.length → FitsBeside last level

-- the last level becomes it and the new one together
abbrev pub JoinsLast : List Level → Level → List Level → Type 0
JoinsLast old level new = (both : Level) × AreTogether (last_level old) level both × (new ≡ with_last (λ _. both) old)
