-- That Optimal Available goes by the plan of what is pending: Yao, Demers and Shenker (FOCS 1995) and Bansal, Kimbrel and Pruhs (J. ACM 2007) define it
-- so. Each law is the contract of a public function of this crate.
use Rattle.std.specs.Prelude.{◌≡◌, ℕ, ◌-◌, ◌*◌, ◌<◌, ◌≤◌, List, length, map}
use Rattle.std.specs.List.{All, Contains}
use Rattle.yds_model.specs.Job.{Job, job_at}
use Rattle.yds_model.specs.Slot.{WrittenSlot, WholeSlot, IsScale, slots_at}
use Rattle.yds_model.specs.Piece.{Piece, Covers}
use Rattle.yds_model.specs.Event.{stretches}
use Rattle.yds_model.specs.Level.{Level, level_at}
use Rattle.yds_model.specs.Plan.{IsPlan}
use Rattle.yds_model.specs.Policy.{div_up, pending_at, slots_in}
use Rattle.yds_model.specs.OptimalAvailable.{pending_jobs, units_asked, IsOptimalAvailableRun}

-- what is pending at a stretch's start: the jobs, released there, with what is left of their works, in parts of the scale
abbrev pub what_is_pending : List Job → ℕ → List WholeSlot → Piece → List Job
what_is_pending jobs scale slots stretch =
    map (λ job. record { release = stretch.from; deadline = (job_at jobs job).deadline; work = pending_at jobs scale slots stretch.from job })
    (pending_jobs jobs scale slots stretch)

-- Optimal Available asks of a stretch what the first level of the plan of what is pending does in it, in units of the grid, rounded up.
abbrev pub OptimalAvailableGoesByThePlan : Type 0
OptimalAvailableGoesByThePlan = (jobs : List Job) (grid scale : ℕ) (slots : List WholeSlot) (stretch : Piece) (planned : List WrittenSlot) (levels : List Level) →
    IsPlan (what_is_pending jobs scale slots stretch) planned levels →
    units_asked jobs grid scale slots stretch
    ≡ div_up (grid * (level_at levels 0).work * (stretch.to - stretch.from)) (scale * (level_at levels 0).length)

-- And that level's pieces have all of the stretch, where it is one between neighbouring event points and something is pending.
abbrev pub TheFirstLevelLasts : Type 0
TheFirstLevelLasts = (jobs : List Job) (scale : ℕ) (slots : List WholeSlot) (stretch : Piece) (planned : List WrittenSlot) (levels : List Level) (time : ℕ) →
    Contains (stretches jobs) stretch → IsPlan (what_is_pending jobs scale slots stretch) planned levels → 1 ≤ length levels → stretch.from ≤ time → time < stretch.to →
    Covers (level_at levels 0).pieces time

-- So a run that never rounded has in each stretch the speed that the plan of what is pending has there: the first level's, over the scale.
abbrev pub OptimalAvailableRunsAsPlanned : Type 0
OptimalAvailableRunsAsPlanned = (jobs : List Job) (grid scale : ℕ) (slots planned : List WrittenSlot) (stretch : Piece) (levels : List Level) → 1 ≤ grid →
    IsOptimalAvailableRun jobs grid 0 slots → IsScale scale slots → Contains (stretches jobs) stretch →
    IsPlan (what_is_pending jobs scale (slots_at scale slots) stretch) planned levels →
    All (λ slot. slot.work * (scale * (level_at levels 0).length) ≡ (level_at levels 0).work * (slot.to - slot.from)) (slots_in scale stretch (slots_at scale slots))
