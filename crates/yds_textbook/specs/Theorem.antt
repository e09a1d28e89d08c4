-- The theorem of Yao, Demers and Shenker (FOCS 1995): what the textbook's way lays is a plan. The law is the contract of a public
-- function of this crate.
use Rattle.std.specs.Prelude.{◌≡◌, ℕ, ◌≤◌, List, [], length, filter}
use Rattle.std.specs.List.{All}
use Rattle.base.specs.declared.limits.TheConstants.{MAX_JOBS}
use Rattle.yds_model.specs.Job.{Job, IsJob}
use Rattle.yds_model.specs.Slot.{WrittenSlot}
use Rattle.yds_model.specs.Level.{Level}
use Rattle.yds_model.specs.Plan.{IsPlan}
use Rattle.yds_intensity.specs.DeadlineOrder.{IsDeadlineOrder}
use Rattle.yds_plan.specs.Laid.{laid_slots, levels_of}
use Rattle.yds_textbook.specs.declared.stage.Stage.{Stage}
use Rattle.yds_textbook.specs.Waiting.{job_has_work}
use Rattle.yds_textbook.specs.Stages.{AreStages}
use Rattle.yds_textbook.specs.Together.{found_of}

-- These slots and levels are laid from the textbook's stages: critical interval after critical interval, until no job with work waits.
pub record AreOfTextbook (jobs : List Job) (slots : List WrittenSlot) (levels : List Level) : Type 0 where
  pub order : List ℕ
  pub ordered : IsDeadlineOrder jobs order
  pub stages : List Stage
  pub are_stages : AreStages jobs [] (filter (job_has_work jobs) order) stages
  pub slots_laid : slots ≡ laid_slots jobs (found_of jobs stages)
  pub levels_laid : levels ≡ levels_of jobs (found_of jobs stages)

-- Such slots and levels are a plan.
abbrev pub StagesMakeAPlan : Type 0
StagesMakeAPlan = (jobs : List Job) (slots : List WrittenSlot) (levels : List Level) → All IsJob jobs → length jobs ≤ MAX_JOBS →
    AreOfTextbook jobs slots levels → IsPlan jobs slots levels
