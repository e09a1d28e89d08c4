use Rattle.yds_model.proofs.Common.{◌≡◌, take, map, flat_map}
use Rattle.yds_search.specs.Views.{group_view}
use Rattle.yds_textbook.specs.declared.stage.Stage.{Stage}
use Rattle.yds_textbook.proofs.together.found_of.Given as goal

abbrev pub invariant-loop-stage : goal.invariant-loop-stage
invariant-loop-stage l = record {
  groups : map group_view l.groups.items ≡ map (λ (stage : Stage). group_view stage.group) (take l.stage-index l.stages);
  shares : l.shares.items ≡ flat_map (λ (stage : Stage). stage.shares.items) (take l.stage-index l.stages);
}
