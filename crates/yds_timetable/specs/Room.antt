-- What slots need so that they can be put behind others in a schedule.
use Rattle.std.specs.Prelude.{ℕ, ◌+◌, ◌*◌, ◌<◌, ◌≤◌, ◌++◌, List, length}
use Rattle.std.specs.List.{All}
use Rattle.base.specs.declared.limits.TheConstants.{MAX_DENOMINATOR, MAX_SLOTS, MAX_SLOT_WORK, MAX_TIME}
use Rattle.yds_model.specs.Slot.{WrittenSlot}
use Rattle.yds_model.specs.Plan.{IsOver}
use Rattle.yds_timetable.specs.declared.limits.TheConstants.{MAX_UNITS}
use Rattle.yds_timetable.specs.declared.pace.Pace.{Pace}
use Rattle.yds_timetable.specs.Shares.{JobShare, total_units}
use Rattle.yds_timetable.specs.Pace.{slots_from}
use Rattle.yds_timetable.specs.Timetable.{Row, row_slots, shares_of, slots_of}

-- each job's works that aren't whole have one denominator
abbrev pub HaveGrains : List WrittenSlot → Type 0
HaveGrains slots = (grain : ℕ → ℕ) × All (λ slot. IsOver (grain slot.job) slot.work) slots

-- the timetable is one of so many jobs, and its slots are within their limits
pub record CanLay (jobs : ℕ) (rows : List Row) : Type 0 where
  pub few : length (shares_of rows) ≤ MAX_SLOTS
  pub known : All (λ share. share.job < jobs) (shares_of rows)
  pub grains : HaveGrains (slots_of rows)

-- the slots of one stretch can stand after these
pub record CanFill (jobs : ℕ) (slots : List WrittenSlot) (row : Row) : Type 0 where
  pub few : length slots + length row.shares ≤ MAX_SLOTS
  pub known : All (λ share. share.job < jobs) row.shares
  pub grains : HaveGrains (slots ++ row_slots row)

-- the slots of shares that follow one another at a pace from `start` on are within their limits
pub record CanRun (pace : Pace) (start : ℕ) (shares : List JobShare) : Type 0 where
  pub some_units : 1 ≤ pace.units
  pub units_in_range : pace.units ≤ MAX_DENOMINATOR
  pub some_grain : 1 ≤ pace.grain
  pub grain_in_range : pace.grain ≤ MAX_DENOMINATOR
  pub ends : start * pace.units + total_units shares * pace.time ≤ MAX_TIME * pace.units
  pub few_units : total_units shares ≤ MAX_UNITS
  pub works : All (λ share. share.units ≤ pace.grain * MAX_SLOT_WORK) shares

-- so is the slot of so many units more
pub record CanReach (pace : Pace) (start done units : ℕ) : Type 0 where
  pub some_units : 1 ≤ pace.units
  pub units_in_range : pace.units ≤ MAX_DENOMINATOR
  pub some_grain : 1 ≤ pace.grain
  pub grain_in_range : pace.grain ≤ MAX_DENOMINATOR
  pub ends : start * pace.units + (done + units) * pace.time ≤ MAX_TIME * pace.units
  pub few_units : done + units ≤ MAX_UNITS
  pub work : units ≤ pace.grain * MAX_SLOT_WORK

-- and they can stand after these slots
pub record CanFollow (jobs : ℕ) (slots : List WrittenSlot) (pace : Pace) (start : ℕ) (shares : List JobShare) : Type 0 where
  pub run : CanRun pace start shares
  pub few : length slots + length shares ≤ MAX_SLOTS
  pub known : All (λ share. share.job < jobs) shares
  pub grains : HaveGrains (slots ++ slots_from pace start 0 shares)
