use Rattle.yds_model.proofs.Common.{◌≡◌, ℕ, ◌<◌, ◌≤◌, ◌+◌, ◌*◌, max, slice_index}
use Rattle.yds_checker.proofs.heights.raise.Given as goal

abbrev pub invariant-loop-k : goal.invariant-loop-k
invariant-loop-k l = ((j : ℕ) → l.leaves ≤ j → slice_index l.nodes j ≡ slice_index l.fn.nodes j)
    × ((j : ℕ) → l.k ≤ j → 1 ≤ j → j < l.leaves → slice_index l.nodes j ≡ max (slice_index l.nodes (2 * j)) (slice_index l.nodes (2 * j + 1)))
