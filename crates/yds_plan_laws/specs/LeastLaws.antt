-- Which schedules are least: just those of which a plan's levels are a proper certificate. The law is the contract of a public function of
-- this crate.
use Rattle.std.specs.Prelude.{◌↔◌, List}
use Rattle.yds_model.specs.Job.{Job}
use Rattle.yds_model.specs.Slot.{WrittenSlot}
use Rattle.yds_model.specs.Excess.{IsLeast}
use Rattle.yds_model.specs.Level.{Level}
use Rattle.yds_model.specs.Proper.{IsProper}
use Rattle.yds_model.specs.Plan.{IsPlan}

-- A plan's levels are a proper certificate of a schedule exactly where it is least.
abbrev pub LevelsCertifyTheLeast : Type 0
LevelsCertifyTheLeast = (jobs : List Job) (slots others : List WrittenSlot) (levels : List Level) → IsPlan jobs slots levels →
    (IsProper jobs others levels ↔ IsLeast jobs others)
