use Rattle.yds_model.proofs.Common.{◌∙◌, ap, not}
use Rattle.yds_plan.proofs.Drafts.{joins_at}
use Rattle.yds_plan.proofs.layout.levels.joins.Goals as goal

pub returns-then-place-gt0 : goal.returns-then-place-gt0
returns-then-place-gt0 c = ap not c.slows.ensures ∙ joins_at c.args.groups.now c.args.place _ c.if-place-gt0.true c.requires
