use Rattle.yds_model.proofs.Common.{◌≡◌, map, take}
use Rattle.yds_search.specs.Views.{group_view}
use Rattle.yds_plan.specs.Laid.{pace_of_group}
use Rattle.yds_plan.proofs.layout.timetable.paces_of_groups.Given as goal

abbrev pub invariant-loop-group : goal.invariant-loop-group
invariant-loop-group l = l.paces.items ≡ map (λ group. pace_of_group (group_view group)) (take l.group-index l.groups)
