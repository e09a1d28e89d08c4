-- The greatest quotient of units that are due by a deadline and the time until then.
use Rattle.std.specs.Prelude.{◌≡◌, ℕ, ◌+◌, ◌-◌, ◌*◌, ◌<◌, ◌≤◌, ◌⊎◌, List, length, slice_index, true}
use Rattle.std.specs.List.Sorted.{IsNonDecreasingBy}
use Rattle.base.specs.declared.limits.TheConstants.{MAX_JOBS}
use Rattle.yds_model.specs.Job.{Job, job_at}
use Rattle.yds_model.specs.Piece.{Piece}
use Rattle.yds_oa.specs.declared.quotient.Quotient.{Quotient}
use Rattle.yds_edf.specs.declared.pending.PendingJobs.{PendingJobs}
use Rattle.yds_oa.specs.declared.walk.Walk.{Walk}
use Rattle.yds_oa.specs.Asked.{is_waiting, due_by}
use Rattle.yds_edf.specs.Blocks.{units_before}
use Rattle.yds_edf.specs.DueOrder.{due_at}

-- the quotient is that of a waiting job's deadline, or at least no greater
pub record IsOfDeadline (jobs : List Job) (pending : ℕ → ℕ) (stretch : Piece) (units time : ℕ) : Type 0 where
  pub job : ℕ
  pub known : job < length jobs
  pub waits : is_waiting jobs pending stretch job ≡ true
  pub until : time ≡ (job_at jobs job).deadline - stretch.from
  pub due : units ≤ due_by jobs pending stretch (job_at jobs job).deadline

-- no time asks more, and a deadline of a waiting job asks that much
pub record IsGreatest (jobs : List Job) (pending : ℕ → ℕ) (stretch : Piece) (units time : ℕ) : Type 0 where
  pub some_time : 1 ≤ time
  pub upper : (deadline : ℕ) → stretch.from < deadline → due_by jobs pending stretch deadline * time ≤ units * (deadline - stretch.from)
  pub attained : (units ≡ 0) ⊎ IsOfDeadline jobs pending stretch units time

-- # By places

-- they rise by their deadlines
pub record AreInOrder (pending : PendingJobs) : Type 0 where
  pub rising : IsNonDecreasingBy (λ due. due.deadline) pending.order.items
  pub all_units : length pending.units ≡ length pending.order.items
  pub few : length pending.order.items ≤ MAX_JOBS

-- the places from the start on are of deadlines after a time, and all before it that have units aren't
pub record AreDueAfter (pending : PendingJobs) (from start : ℕ) : Type 0 where
  pub within : start ≤ length pending.order.items
  pub before : (place : ℕ) → place < start → ((due_at pending.order.items place).deadline ≤ from) ⊎ (slice_index pending.units place ≡ 0)
  pub after : (place : ℕ) → start ≤ place → place < length pending.order.items → from < (due_at pending.order.items place).deadline

-- the quotient is that of the units from the start to a place, and the time until its deadline
pub record IsQuotientAt (pending : PendingJobs) (from start : ℕ) (quotient : Quotient) : Type 0 where
  pub place : ℕ
  pub after : start ≤ place
  pub known : place < length pending.order.items
  pub units : units_before pending.units start + quotient.units ≡ units_before pending.units (place + 1)
  pub time : quotient.time ≡ (due_at pending.order.items place).deadline - from

-- or it has no units
abbrev pub IsQuotientAmong : PendingJobs → ℕ → ℕ → Quotient → Type 0
IsQuotientAmong pending from start quotient = (quotient.units ≡ 0) ⊎ IsQuotientAt pending from start quotient

-- the quotient of a place isn't greater
abbrev pub IsNotGreater : PendingJobs → ℕ → ℕ → Quotient → ℕ → Type 0
IsNotGreater pending from start quotient place =
    (units_before pending.units (place + 1) - units_before pending.units start) * quotient.time ≤ quotient.units * ((due_at pending.order.items place).deadline - from)

pub record IsGreatestWithin (pending : PendingJobs) (from start end : ℕ) (greatest : Quotient) : Type 0 where
  pub some_time : 1 ≤ greatest.time
  pub attained : IsQuotientAmong pending from start greatest
  pub upper : (place : ℕ) → start ≤ place → place < end → IsNotGreater pending from start greatest place

pub record IsGreatestOf (pending : PendingJobs) (from : ℕ) (quotient : Quotient) : Type 0 where
  pub start : ℕ
  pub after : AreDueAfter pending from start
  pub greatest : IsGreatestWithin pending from start (length pending.order.items) quotient

-- a walk has come to a place
pub record IsWalk (pending : PendingJobs) (walk : Walk) : Type 0 where
  pub after : AreDueAfter pending walk.from walk.start
  pub past : walk.start ≤ walk.place
  pub within : walk.place ≤ length pending.order.items
  pub units : units_before pending.units walk.start + walk.units ≡ units_before pending.units walk.place
  pub greatest : IsGreatestWithin pending walk.from walk.start walk.place walk.greatest

pub record IsFurther (old new : Walk) : Type 0 where
  pub from : new.from ≡ old.from
  pub start : new.start ≡ old.start
  pub place : old.place < new.place
