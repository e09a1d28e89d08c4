use Rattle.base.proofs.Common.{◌∙◌, arith, nil_from_length}
use Rattle.yds_trace.proofs.Closing.{made_more, made_all}
use Rattle.yds_trace_document.proofs.part.part_by_task.Goals as goal

pub loop-jobs-preserved : goal.loop-jobs-preserved
loop-jobs-preserved c =
    made_more _ _ _ _ _ _ _ _ c.in_ok-push.ensures.items c.in-Some.ensures.steps.0 c.of_part.ensures ∙ c.loop-jobs.invariant

pub returns : goal.returns
returns c =
    made_all _ _ _ _ _ (nil_from_length _ (omega (arith, c.in-None.ensures.steps.0, c.loop-jobs.jobs-iterator.rest.ok.0))) c.loop-jobs.invariant
