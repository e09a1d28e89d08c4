use Rattle.yds_model.proofs.Common.{◌≡◌, ℕ, ◌<◌, ◌+◌, length, slice_index}
use Rattle.yds_checker.specs.Heights.{IsHeight}
use Rattle.yds_checker.proofs.heights.leaves.Given as goal

abbrev pub invariant-loop-i : goal.invariant-loop-i
invariant-loop-i l = (length l.nodes.items ≡ length l.placed + l.i)
    × ((j : ℕ) → j < l.i → IsHeight l.placed j (slice_index l.nodes.items (length l.placed + j)))
