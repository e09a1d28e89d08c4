use Rattle.yds_model.proofs.Common.{◌∙◌}
use Rattle.yds_answer_verdicts.proofs.Drawn.{few_drawn}
use Rattle.yds_answer_verdicts.proofs.trial.try_plan.Goals as goal

pub plan-requires : goal.plan-requires
plan-requires c = few_drawn c.deref.result.now c.args.jobs c.args.seed (c.deref.ensures.value ∙ c.in_ok-rows.ensures) c.requires

pub check-requires-clause-few : goal.check-requires-clause-few
check-requires-clause-few c = few_drawn c.deref-2.result.now c.args.jobs c.args.seed (c.deref-2.ensures.value ∙ c.in_ok-rows.ensures) c.requires
