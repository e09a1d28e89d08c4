-- The excess of a schedule above a speed, and what it means that a schedule is least: for every speed, it does no
-- more work above it than any feasible schedule.
use Rattle.std.specs.Prelude.{ℕ, ◌-◌, ◌*◌, ◌≤◌, List, sum_by}
use Rattle.yds_model.specs.Job.{Job}
use Rattle.yds_model.specs.Slot.{WrittenSlot, WholeSlot, AtEachScale}
use Rattle.yds_model.specs.Feasible.{IsFeasibleAt}

-- q times the work that the slots do above the speed p/q, in parts of the scale: a slot of work `work` that runs at
-- a greater speed for `to - from` does `work - (p/q) * (to - from)` above it, and no other slot any (`-` stops at 0)
abbrev pub excess : ℕ → ℕ → List WholeSlot → ℕ
excess p q slots = sum_by (λ slot. q * slot.work - p * (slot.to - slot.from)) slots

-- At a scale: it is feasible, and above no speed p/q has it a greater excess than any feasible schedule.
pub record IsLeastAt (jobs : List Job) (scale : ℕ) (slots : List WholeSlot) : Type 0 where
  pub feasible : IsFeasibleAt jobs scale slots
  pub least : (p q : ℕ) → 1 ≤ q → (others : List WholeSlot) → IsFeasibleAt jobs scale others → excess p q slots ≤ excess p q others

-- a written schedule is least where it is so at each of its scales
abbrev pub IsLeast : List Job → List WrittenSlot → Type 0
IsLeast jobs slots = AtEachScale slots (IsLeastAt jobs)
