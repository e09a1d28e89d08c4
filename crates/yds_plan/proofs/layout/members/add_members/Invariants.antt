use Rattle.yds_model.proofs.Common.{◌≡◌, []}
use Rattle.yds_search.specs.Views.{found_view}
use Rattle.yds_plan.specs.Drafts.{drafts}
use Rattle.yds_plan.proofs.layout.members.add_members.Given as goal

abbrev pub invariant-loop-job : goal.invariant-loop-job
invariant-loop-job l = l.levels.items ≡ drafts [] (found_view l.found) l.job 0
