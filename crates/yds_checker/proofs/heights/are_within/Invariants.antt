use Rattle.yds_model.proofs.Common.{ℕ, ◌≤◌, ◌-◌, length, ◌↔◌}
use Rattle.yds_checker.specs.Heights.{AreRaised, AreWithin}
use Rattle.yds_checker.proofs.heights.are_within.Given as goal

abbrev pub invariant-loop-left : goal.invariant-loop-left
invariant-loop-left l = (1 ≤ l.left) × (l.right ≤ length l.nodes)
    × ((leaves : ℕ) → AreRaised l.nodes leaves → (AreWithin l.nodes l.left l.right l.bound ↔ AreWithin l.nodes l.from l.to l.bound))

abbrev pub decreases-loop-left : goal.decreases-loop-left
decreases-loop-left l = l.right - l.left
