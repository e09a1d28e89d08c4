use Rattle.yds_model.proofs.Common.{◌≤◌, subst, get_or-map}
use Rattle.yds_search.specs.Found.{Group, no_group}
use Rattle.yds_search.specs.Views.{group_view}
use Rattle.yds_plan.proofs.layout.timetable.paces_of_groups.Goals as goal

pub pace_of-requires-clause-some_work : goal.pace_of-requires-clause-some_work
pace_of-requires-clause-some_work c =
    subst (λ (group : Group). 1 ≤ group.work)
    (get_or-map group_view c.args.groups.now c.loop-group.group-index (record { work = 0; length = 0 }) no_group c.loop-group-test.true)
    (c.requires c.loop-group.group-index c.loop-group-test.true).0

pub pace_of-requires-clause-some_length : goal.pace_of-requires-clause-some_length
pace_of-requires-clause-some_length c =
    subst (λ (group : Group). 1 ≤ group.length)
    (get_or-map group_view c.args.groups.now c.loop-group.group-index (record { work = 0; length = 0 }) no_group c.loop-group-test.true)
    (c.requires c.loop-group.group-index c.loop-group-test.true).1
