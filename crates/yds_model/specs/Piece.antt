-- Pieces of time between whole numbers, and what it means that a job is confined to some.
use Rattle.std.specs.Prelude.{ℕ, ◌-◌, ◌<◌, ◌≤◌, ◌⊎◌, List, [], ◌∷◌, sum_by}
use Rattle.std.specs.List.{All, Any, AllPairs}
use Rattle.yds_model.specs.Job.{Job}

pub record Piece : Type 0 where
  pub from : ℕ
  pub to : ℕ

abbrev pub IsForward : Piece → Type 0
IsForward piece = piece.from < piece.to

-- one has ended when the other begins
abbrev pub AreApart : Piece → Piece → Type 0
AreApart one other = (one.to ≤ other.from) ⊎ (other.to ≤ one.from)

-- pieces that each take time, and of which no two overlap
pub record ArePieces (pieces : List Piece) : Type 0 where
  pub forward : All IsForward pieces
  pub apart : AllPairs AreApart pieces

-- the pieces lie one after another, from this time on, and each takes time
abbrev pub PiecesFrom : ℕ → List Piece → Type 0
PiecesFrom start [] = Unit {0}
PiecesFrom start (piece ∷ pieces) = (start ≤ piece.from) × (piece.from < piece.to) × PiecesFrom piece.to pieces

abbrev pub total_length : List Piece → ℕ
total_length pieces = sum_by (λ piece. piece.to - piece.from) pieces

-- some piece has the unit of time that begins at `time`
abbrev pub Covers : List Piece → ℕ → Type 0
Covers pieces time = Any (λ piece. (piece.from ≤ time) × (time < piece.to)) pieces

-- each unit of time of the job's window lies in a piece
abbrev pub IsConfined : Job → List Piece → Type 0
IsConfined job pieces = (time : ℕ) → job.release ≤ time → time < job.deadline → Covers pieces time
