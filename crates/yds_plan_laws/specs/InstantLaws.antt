-- How fast schedules run at each instant. Each law is the contract of a public function of this crate.
use Rattle.std.specs.Prelude.{ℕ, ◌-◌, ◌*◌, ◌<◌, ◌≤◌, List, ◌++◌}
use Rattle.std.specs.List.{Any}
use Rattle.yds_model.specs.Job.{Job}
use Rattle.yds_model.specs.Slot.{WrittenSlot, WholeSlot, IsScale, slots_at}
use Rattle.yds_model.specs.Excess.{IsLeast}
use Rattle.yds_model.specs.Level.{Level}
use Rattle.yds_model.specs.Plan.{IsPlan}

-- at this part of the scale's time a slot runs, at the speed p/q or faster
abbrev pub IsAsFastAt : ℕ → ℕ → ℕ → List WholeSlot → Type 0
IsAsFastAt p q time slots = Any (λ slot. (slot.from ≤ time) × (time < slot.to) × (p * (slot.to - slot.from) ≤ q * slot.work)) slots

-- Two least schedules of jobs that have a plan run at one speed at each instant: where the one is as fast as p/q, above 0, the other is.
abbrev pub OneSpeedAtEachInstant : Type 0
OneSpeedAtEachInstant = (jobs : List Job) (slots first second : List WrittenSlot) (levels : List Level) (scale time p q : ℕ) → IsPlan jobs slots levels →
    IsLeast jobs first → IsLeast jobs second → IsScale scale (first ++ second) → 1 ≤ p → IsAsFastAt p q time (slots_at scale first) →
    IsAsFastAt p q time (slots_at scale second)

-- More jobs never slow any instant: where the plan of some jobs is as fast as p/q, that of these jobs and more is.
abbrev pub MoreJobsNeverSlow : Type 0
MoreJobsNeverSlow = (jobs more : List Job) (slots others : List WrittenSlot) (levels faster : List Level) (scale time p q : ℕ) → IsPlan jobs slots levels →
    IsPlan (jobs ++ more) others faster → IsScale scale (slots ++ others) → IsAsFastAt p q time (slots_at scale slots) → IsAsFastAt p q time (slots_at scale others)
