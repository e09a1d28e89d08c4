-- The timetable of a plan: what the stretches between event points have in it, and at which level each of them runs.
use Rattle.std.specs.Prelude.{◌≡◌, ℕ, ◌<◌, List, Option, Some, None, length}
use Rattle.std.specs.List.{AllZip}
use Rattle.yds_model.specs.Job.{Job}
use Rattle.yds_model.specs.Slot.{WrittenSlot}
use Rattle.yds_model.specs.Level.{Level, level_at}
use Rattle.yds_model.specs.Event.{stretches}
use Rattle.yds_model.specs.Plan.{speed_num, speed_den}
use Rattle.yds_timetable.specs.declared.pace.Pace.{Pace}
use Rattle.yds_timetable.specs.Timetable.{Row, stretches_of, slots_of}

-- a level's speed in lowest terms: a unit is one part of a unit of work, and so many fill a time unit
abbrev pub pace_of_level : Level → Pace
pace_of_level level = record { units = speed_num level; time = 1; grain = speed_den level }

-- a stretch runs at the pace of the level with this number, or is idle and has none
abbrev pub RunsAtLevel : List Level → Option Pace → Option ℕ → Type 0
RunsAtLevel levels None None = Unit {0}
RunsAtLevel levels (Some pace) (Some number) = (number < length levels) × (pace ≡ pace_of_level (level_at levels number))
RunsAtLevel levels None (Some number) = ⊥
RunsAtLevel levels (Some pace) None = ⊥

-- The rows are the stretches between the jobs' event points, each at the pace of its level, and their slots are these.
pub record IsTimetabled (jobs : List Job) (rows : List Row) (numbers : List (Option ℕ)) (slots : List WrittenSlot) (levels : List Level) : Type 0 where
  pub stretches_are : stretches_of rows ≡ stretches jobs
  pub levels_are : AllZip (λ row number. RunsAtLevel levels row.pace number) rows numbers
  pub slots_are : slots ≡ slots_of rows
