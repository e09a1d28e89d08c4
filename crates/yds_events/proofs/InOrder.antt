-- Stretches that lie one after another, by their places.
use Rattle.yds_model.proofs.Common.{ℕ, zero, suc, ◌<◌, ◌≤◌, List, [], ◌∷◌, length, inl, inr, arith, cases_eq, Piece, PiecesFrom}
use Rattle.yds_events.specs.Stretch.{nth_stretch}

from_start : (start i : ℕ) (stretches : List Piece) → PiecesFrom start stretches → i < length stretches →
    start ≤ (nth_stretch stretches i).from
from_start start i [] order within = absurd (omega arith)
from_start start zero (stretch ∷ stretches) order within = order.0
from_start start (suc i) (stretch ∷ stretches) order within =
    omega (arith, order.0, order.1, from_start stretch.to i stretches order.2 (omega arith))

pub has_length : (start i : ℕ) (stretches : List Piece) → PiecesFrom start stretches → i < length stretches →
    (nth_stretch stretches i).from < (nth_stretch stretches i).to
has_length start i [] order within = absurd (omega arith)
has_length start zero (stretch ∷ stretches) order within = order.1
has_length start (suc i) (stretch ∷ stretches) order within = has_length stretch.to i stretches order.2 (omega arith)

pub later_start : (start i k : ℕ) (stretches : List Piece) → PiecesFrom start stretches → i < k → k < length stretches →
    (nth_stretch stretches i).to ≤ (nth_stretch stretches k).from
later_start start i k [] order less within = absurd (omega arith)
later_start start i zero (stretch ∷ stretches) order less within = absurd (omega arith)
later_start start zero (suc k) (stretch ∷ stretches) order less within = from_start stretch.to k stretches order.2 (omega arith)
later_start start (suc i) (suc k) (stretch ∷ stretches) order less within =
    later_start stretch.to i k stretches order.2 (omega arith) (omega arith)

-- the start of a stretch isn't before that of an earlier one
pub starts_rise : (i k : ℕ) (stretches : List Piece) → PiecesFrom 0 stretches → i ≤ k → k < length stretches →
    (nth_stretch stretches i).from ≤ (nth_stretch stretches k).from
starts_rise i k stretches order less within = elim (cases_eq i k) [
  | inl same ↦ rw same (omega arith)
  | inr other ↦ omega (
    arith,
    later_start 0 i k stretches order (omega arith) within,
    has_length 0 i stretches order (omega arith),
  )
]
