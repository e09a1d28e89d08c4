use Rattle.yds_model.proofs.Common.{◌≡◌, ℕ, ◌<◌, get_or, false}
use Rattle.yds_textbook.specs.declared.stage.Stage.{Stage}
use Rattle.yds_textbook.specs.Together.{stands_among}
use Rattle.yds_textbook.proofs.together.stage_of_stretch.Given as goal

abbrev pub invariant-loop-place : goal.invariant-loop-place
invariant-loop-place l = (k : ℕ) (d : Stage) → k < l.place → stands_among (get_or l.stages k d).stretches.items l.stretch ≡ false
