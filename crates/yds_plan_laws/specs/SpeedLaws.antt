-- How fast least schedules run. The law is the contract of a public function of this crate.
use Rattle.std.specs.Prelude.{◌≡◌, ℕ, ◌-◌, ◌*◌, ◌<◌, List, ◌++◌, length}
use Rattle.yds_model.specs.Job.{Job}
use Rattle.yds_model.specs.Slot.{WrittenSlot, IsScale, slots_at, slot_at}
use Rattle.yds_model.specs.Excess.{IsLeast}
use Rattle.yds_model.specs.Level.{Level}
use Rattle.yds_model.specs.Plan.{IsPlan}

-- Two least schedules of jobs that have a plan run a job at one speed: work and time of a slot of the one are in the proportion of those of a slot of the other.
abbrev pub LeastSpeedsAreOne : Type 0
LeastSpeedsAreOne = (jobs : List Job) (slots first second : List WrittenSlot) (levels : List Level) (scale s t : ℕ) → IsPlan jobs slots levels →
    IsLeast jobs first → IsLeast jobs second → IsScale scale (first ++ second) → s < length first → t < length second →
    (slot_at (slots_at scale first) s).job ≡ (slot_at (slots_at scale second) t).job →
    (slot_at (slots_at scale first) s).work * ((slot_at (slots_at scale second) t).to - (slot_at (slots_at scale second) t).from)
    ≡ (slot_at (slots_at scale second) t).work * ((slot_at (slots_at scale first) s).to - (slot_at (slots_at scale first) s).from)
