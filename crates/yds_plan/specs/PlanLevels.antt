-- Levels without their slots.
use Rattle.std.specs.Prelude.{List}
use Rattle.yds_model.specs.Job.{Job}
use Rattle.yds_model.specs.Slot.{WrittenSlot}
use Rattle.yds_model.specs.Level.{Level}
use Rattle.yds_model.specs.Plan.{IsPlan}

-- With some slots the levels are a plan of the jobs.
abbrev pub AreLevelsOfPlan : List Job → List Level → Type 0
AreLevelsOfPlan jobs levels = (slots : List WrittenSlot) × IsPlan jobs slots levels
