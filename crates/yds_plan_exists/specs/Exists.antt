-- That there is a plan, and that the textbook's stages exist. Each law is the contract of a public function of this crate.
use Rattle.std.specs.Prelude.{◌≤◌, List, length}
use Rattle.std.specs.List.{All}
use Rattle.base.specs.declared.limits.TheConstants.{MAX_JOBS}
use Rattle.yds_model.specs.Job.{Job, IsJob}
use Rattle.yds_model.specs.Slot.{WrittenSlot}
use Rattle.yds_model.specs.Level.{Level}
use Rattle.yds_model.specs.Plan.{IsPlan}
use Rattle.yds_textbook.specs.Theorem.{AreOfTextbook}

-- Jobs within the limits have stages of critical intervals (Yao, Demers and Shenker, FOCS 1995), whose jobs are all served in time, so slots and levels
-- that are laid from them.
abbrev pub StagesExist : Type 0
StagesExist = (jobs : List Job) → All IsJob jobs → length jobs ≤ MAX_JOBS → (slots : List WrittenSlot) × (levels : List Level) × AreOfTextbook jobs slots levels

-- So they have a plan.
abbrev pub PlansExist : Type 0
PlansExist = (jobs : List Job) → All IsJob jobs → length jobs ≤ MAX_JOBS → (slots : List WrittenSlot) × (levels : List Level) × IsPlan jobs slots levels
