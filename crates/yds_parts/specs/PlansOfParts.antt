-- The law of plans of parts. It is the contract of a public function of this crate.
use Rattle.std.specs.Prelude.{ℕ, List, ◌++◌}
use Rattle.yds_model.specs.Job.{Job}
use Rattle.yds_model.specs.Slot.{WrittenSlot}
use Rattle.yds_model.specs.Excess.{IsLeast}
use Rattle.yds_model.specs.Level.{Level}
use Rattle.yds_model.specs.Plan.{IsPlan}
use Rattle.yds_energy.specs.EnergyLaws.{IsCheapest}
use Rattle.yds_parts.specs.Parts.{ArePartedAt, slots_in_turn}

-- The plans' slots of both parts, one after another, are least for all jobs, and cost least by every convex table.
abbrev pub PlansOfParts : Type 0
PlansOfParts = (time : ℕ) (first second : List Job) (slots others : List WrittenSlot) (levels later_levels : List Level) → ArePartedAt time first second →
    IsPlan first slots levels → IsPlan second others later_levels →
    IsLeast (first ++ second) (slots_in_turn first slots others) × IsCheapest (first ++ second) (slots_in_turn first slots others)
