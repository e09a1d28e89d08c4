-- Pieces one after another.
use Rattle.std.specs.Prelude.{ℕ, ◌-◌, ◌<◌, ◌≤◌, List, length}
use Rattle.yds_checker.specs.declared.placed.Placed.{Placed}
use Rattle.yds_checker.specs.Heights.{placed_at, Joins, AreHeights}

-- each piece takes time, and each later one begins where it has ended, or later
pub record AreInTurn (placed : List Placed) : Type 0 where
  pub forward : (i : ℕ) → i < length placed → (placed_at placed i).from < (placed_at placed i).to
  pub later : (i j : ℕ) → i < j → j < length placed → (placed_at placed i).to ≤ (placed_at placed j).from

-- such pieces with the nodes of their heights
pub record ArePiecesInTurn (placed : List Placed) (nodes : List ℕ) : Type 0 where
  pub in_turn : AreInTurn placed
  pub heights : AreHeights placed nodes

-- the pieces from one to before another are of this level and earlier ones, and each begins where the one before ends
pub record AreJoined (placed : List Placed) (level first end : ℕ) : Type 0 where
  pub last : (placed_at placed (end - 1)).level ≤ level
  pub joins : (i : ℕ) → first ≤ i → i < end - 1 → Joins placed level i
