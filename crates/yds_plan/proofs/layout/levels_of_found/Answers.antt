use Rattle.yds_model.proofs.Common.{◌∙◌, sym, ap, map, length, length-map}
use Rattle.yds_search.specs.Views.{group_view}
use Rattle.yds_plan.specs.Drafts.{empty_levels}
use Rattle.yds_plan.proofs.layout.levels_of_found.Goals as goal

pub add_members-requires-clause-levels : goal.add_members-requires-clause-levels
add_members-requires-clause-levels c =
    c.in_ok-levels.ensures.levels ∙ ap (λ groups. empty_levels (map group_view groups) (length groups)) c.deref.ensures.value
    ∙ ap (empty_levels (map group_view c.args.found.now.groups.items)) (sym (length-map c.args.found.now.groups.items group_view))
