use Rattle.yds_model.proofs.Common.{◌≡◌, length}
use Rattle.yds_search.specs.Views.{found_view}
use Rattle.yds_plan.specs.Drafts.{drafts}
use Rattle.yds_plan.proofs.layout.members.add_pieces.Given as goal

abbrev pub invariant-loop-stretch : goal.invariant-loop-stretch
invariant-loop-stretch l = l.levels.items ≡ drafts l.timeline (found_view l.found) (length l.found.group_of_job.items) l.stretch
