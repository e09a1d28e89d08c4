use Rattle.yds_model.proofs.Common.{map}
use Rattle.yds_search.specs.Views.{group_view}
use Rattle.yds_plan.proofs.Drafts.{IsDrafted}
use Rattle.yds_plan.proofs.layout.levels.levels_of_groups.Given as goal

abbrev pub invariant-loop-i : goal.invariant-loop-i
invariant-loop-i l = IsDrafted (map group_view l.groups) l.i l.levels.items l.numbers.items
