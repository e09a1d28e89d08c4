use Rattle.yds_model.proofs.Common.{◌≡◌, map, range_with_len}
use Rattle.yds_textbook.specs.Together.{stage_of_stretch}
use Rattle.yds_textbook.proofs.together.stages_of_stretches.Given as goal

abbrev pub invariant-loop-stretch : goal.invariant-loop-stretch
invariant-loop-stretch l = l.places.items ≡ map (stage_of_stretch l.stages) (range_with_len 0 l.stretch)
