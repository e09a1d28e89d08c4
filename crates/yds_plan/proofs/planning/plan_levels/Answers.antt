use Rattle.yds_model.proofs.Common.{◌∙◌}
use Rattle.yds_search.specs.Views.{found_view}
use Rattle.yds_plan.specs.Laid.{laid_slots}
use Rattle.yds_plan.proofs.Bounds.{groups_within}
use Rattle.yds_plan.proofs.Fitting.{all_drafted, levels_fit, pieces_fit, members_fit}
use Rattle.yds_plan.proofs.FoundPlan.{found_makes_plan}
use Rattle.yds_plan.proofs.planning.plan_levels.Goals as goal

pub levels_of_found-requires-clause-groups : goal.levels_of_found-requires-clause-groups
levels_of_found-requires-clause-groups c =
    groups_within c.args.rows.now c.read_rows.ensures (found_view c.in_ok-found.found) c.in_ok-found.ensures c.requires

pub from_levels-requires-clause-few : goal.from_levels-requires-clause-few
from_levels-requires-clause-few c =
    levels_fit c.args.rows.now (found_view c.in_ok-found.found) c.in_ok-found.ensures _ (c.deref.ensures.value ∙ c.in_ok-timeline.ensures.cut) c.in_ok-levels.levels.items
    c.in_ok-levels.ensures.levels c.read_rows.ensures c.requires

pub from_levels-requires-clause-few_pieces : goal.from_levels-requires-clause-few_pieces
from_levels-requires-clause-few_pieces c =
    pieces_fit c.args.rows.now (found_view c.in_ok-found.found) c.in_ok-found.ensures _ (c.deref.ensures.value ∙ c.in_ok-timeline.ensures.cut) c.in_ok-levels.levels.items
    c.in_ok-levels.ensures.levels c.requires

pub from_levels-requires-clause-few_members : goal.from_levels-requires-clause-few_members
from_levels-requires-clause-few_members c =
    members_fit c.args.rows.now (found_view c.in_ok-found.found) c.in_ok-found.ensures _ (c.deref.ensures.value ∙ c.in_ok-timeline.ensures.cut) c.in_ok-levels.levels.items
    c.in_ok-levels.ensures.levels c.requires

pub returns : goal.returns
returns c =
    let found = found_view c.in_ok-found.found in (
      laid_slots c.args.rows.now found,
      rw (c.from_levels.ensures ∙ all_drafted c.args.rows.now found c.in_ok-found.ensures _ (c.deref.ensures.value ∙ c.in_ok-timeline.ensures.cut)
          c.in_ok-levels.levels.items c.in_ok-levels.ensures.levels)
          (found_makes_plan c.args.rows.now c.read_rows.ensures c.requires found c.in_ok-found.ensures),
    )
