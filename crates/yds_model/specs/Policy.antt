-- What the two policies on a grid share. At each event point a policy sets how much it serves until the next one, in units of
-- one part in `grid`, and serves it earliest deadline first.
use Rattle.std.specs.Prelude.{◌≡◌, ℕ, zero, suc, ◌+◌, ◌-◌, ◌*◌, ◌/◌, ◌≤◌, List, [], ◌∷◌, length, sum_by, nat_le, ◌&&◌}
use Rattle.std.specs.List.{All, Contains, filter, range_with_len}
use Rattle.yds_model.specs.Job.{Job, job_at}
use Rattle.yds_model.specs.Slot.{WrittenSlot, WholeSlot, work_given}
use Rattle.yds_model.specs.Piece.{Piece}
use Rattle.yds_model.specs.Feasible.{IsFeasibleAt}
use Rattle.yds_model.specs.Event.{stretches, LiesWritten}
use Rattle.yds_model.specs.Divisor.{common_divisor}
use Rattle.yds_model.specs.Audit.{HasSpeed}
use Rattle.yds_model.specs.Plan.{IsOver, IsServedInStretches}

-- x divided by y, rounded up
abbrev pub div_up : ℕ → ℕ → ℕ
div_up x y = (x + (y - 1)) / y

-- at a scale: the job's work that the slots which end by this time have left undone
abbrev pub pending_at : List Job → ℕ → List WholeSlot → ℕ → ℕ → ℕ
pending_at jobs scale slots time job =
    (job_at jobs job).work * scale - work_given (filter (λ slot. nat_le slot.to (time * scale)) slots) job

abbrev pub numbers_of : List Job → List ℕ
numbers_of jobs = range_with_len 0 (length jobs)

-- the pending units of the released jobs, times the scale
abbrev pub pending_units : List Job → ℕ → ℕ → List WholeSlot → Piece → ℕ
pending_units jobs grid scale slots stretch =
    grid * sum_by (λ job. pending_at jobs scale slots stretch.from job) (filter (λ job. nat_le (job_at jobs job).release stretch.from) (numbers_of jobs))

-- the slots that lie in the stretch, in order
abbrev pub slots_in : ℕ → Piece → List WholeSlot → List WholeSlot
slots_in scale stretch slots = filter (λ slot. nat_le (stretch.from * scale) slot.from && nat_le slot.to (stretch.to * scale)) slots

-- from this time to that one without a gap; each slot has the speed `capacity / per` in the scale's parts
abbrev pub FillsAtSpeed : ℕ → ℕ → ℕ → ℕ → List WholeSlot → Type 0
FillsAtSpeed capacity per from to [] = from ≡ to
FillsAtSpeed capacity per from to (slot ∷ slots) =
    (slot.from ≡ from) × (slot.work * per ≡ capacity * (slot.to - slot.from)) × FillsAtSpeed capacity per slot.to to slots

-- The stretch serves `capacity` units, times the scale: nothing, or its slots fill it at that speed.
abbrev pub ServesCapacity : ℕ → ℕ → ℕ → Piece → List WholeSlot → Type 0
ServesCapacity grid scale zero stretch slots = slots_in scale stretch slots ≡ []
ServesCapacity grid scale (suc capacity) stretch slots =
    FillsAtSpeed (suc capacity) (grid * (stretch.to - stretch.from) * scale) (stretch.from * scale) (stretch.to * scale) (slots_in scale stretch slots)

-- A run of a policy at a scale: feasible, served in stretches, at most three slots for a job, and in each stretch it serves
-- what the policy sets.
pub record IsRunAt (jobs : List Job) (grid scale : ℕ) (capacity : Piece → ℕ) (slots : List WholeSlot) : Type 0 where
  pub feasible : IsFeasibleAt jobs scale slots
  pub served : IsServedInStretches jobs scale slots
  pub few : length slots ≤ 3 * length jobs
  pub each : All (λ stretch. ServesCapacity grid scale (capacity stretch) stretch slots) (stretches jobs)

-- The slot lies in a stretch that serves so many units of the grid. A work that isn't whole is over the grid, and an end that isn't
-- whole over the units divided by their greatest common divisor with the stretch's length.
pub record HasRunDenominators (jobs : List Job) (grid : ℕ) (slot : WrittenSlot) : Type 0 where
  pub stretch : Piece
  pub is_stretch : Contains (stretches jobs) stretch
  pub lies : LiesWritten slot stretch
  pub units : ℕ
  pub speed : HasSpeed units (grid * (stretch.to - stretch.from)) slot
  pub work : IsOver grid slot.work
  pub from : IsOver (units / common_divisor units (stretch.to - stretch.from)) slot.from
  pub to : IsOver (units / common_divisor units (stretch.to - stretch.from)) slot.to
