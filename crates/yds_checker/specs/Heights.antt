-- How high pieces stand that lie in rising order, and the greatest heights of parts of them.
use Rattle.std.specs.Prelude.{◌≡◌, ℕ, ◌+◌, ◌*◌, ◌<◌, ◌≤◌, ◌↔◌, List, length, max, slice_index}
use Rattle.std.specs.List.{slice_index_or}
use Rattle.base.specs.declared.limits.TheConstants.{MAX_LEVELS}
use Rattle.yds_checker.specs.declared.placed.Placed.{Placed}

-- the piece at a place; one of no time stands where there is none
abbrev pub no_placed : Placed
no_placed = record { from = 0; to = 0; level = 0 }

abbrev pub placed_at : List Placed → ℕ → Placed
placed_at placed i = slice_index_or placed i no_placed

-- the piece is of this level or of an earlier one, and the next one begins where it ends
pub record Joins (placed : List Placed) (level i : ℕ) : Type 0 where
  pub low : (placed_at placed i).level ≤ level
  pub more : i + 1 < length placed
  pub touches : (placed_at placed (i + 1)).from ≡ (placed_at placed i).to

-- by its height it is told whether the piece joins the next one
abbrev pub IsHeight : List Placed → ℕ → ℕ → Type 0
IsHeight placed i height = (level : ℕ) → level < MAX_LEVELS → (height ≤ level ↔ Joins placed level i)

-- of a list of nodes, each before the leaves is the greater of the two below it
pub record AreRaised (nodes : List ℕ) (leaves : ℕ) : Type 0 where
  pub size : length nodes ≡ leaves + leaves
  pub greater : (k : ℕ) → 1 ≤ k → k < leaves → slice_index nodes k ≡ max (slice_index nodes (2 * k)) (slice_index nodes (2 * k + 1))

-- the leaves are the heights of the pieces
pub record AreHeights (placed : List Placed) (nodes : List ℕ) : Type 0 where
  pub raised : AreRaised nodes (length placed)
  pub leaf : (i : ℕ) → i < length placed → IsHeight placed i (slice_index nodes (length placed + i))

-- no node from one place to before another is above the bound
abbrev pub AreWithin : List ℕ → ℕ → ℕ → ℕ → Type 0
AreWithin nodes from to bound = (k : ℕ) → from ≤ k → k < to → slice_index nodes k ≤ bound
