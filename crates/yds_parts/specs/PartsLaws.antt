-- The laws of parts: what is asked of jobs that are cut where no window is open is asked of each part. Each is the contract of a public
-- function of this crate.
use Rattle.std.specs.Prelude.{ℕ, ◌↔◌, List, ◌++◌}
use Rattle.yds_model.specs.Job.{Job}
use Rattle.yds_model.specs.Slot.{WrittenSlot}
use Rattle.yds_model.specs.Feasible.{IsFeasible}
use Rattle.yds_model.specs.Excess.{IsLeast}
use Rattle.yds_parts.specs.Parts.{ArePartedAt, slots_in_turn, AreOf}

-- Slots of the first jobs and then slots of the second are feasible for all jobs exactly where each part's are for its jobs.
abbrev pub FeasibleInParts : Type 0
FeasibleInParts = (time : ℕ) (first second : List Job) (slots others : List WrittenSlot) → ArePartedAt time first second → AreOf first slots →
    (IsFeasible (first ++ second) (slots_in_turn first slots others) ↔ (IsFeasible first slots × IsFeasible second others))

-- They do least above every speed exactly where each part's do.
abbrev pub LeastInParts : Type 0
LeastInParts = (time : ℕ) (first second : List Job) (slots others : List WrittenSlot) → ArePartedAt time first second → AreOf first slots →
    (IsLeast (first ++ second) (slots_in_turn first slots others) ↔ (IsLeast first slots × IsLeast second others))
