use Rattle.base.proofs.Common.{◌∙◌, arith, nil_from_length}
use Rattle.yds_trace.proofs.Closing.{made_more, made_all}
use Rattle.yds_trace.proofs.ended.close_each.Goals as goal

pub loop-followed-preserved : goal.loop-followed-preserved
loop-followed-preserved c = λ start counting is.
    made_more _ _ _ _ _ _ _ _ c.in_ok-push.ensures.items c.in-Some.ensures.steps.0 (c.in_ok-closed.ensures start counting is)
    ∙ c.loop-followed.invariant start counting is

pub returns : goal.returns
returns c = λ start counting is.
    made_all _ _ _ _ _ (nil_from_length _ (omega (arith, c.in-None.ensures.steps.0, c.loop-followed.followed-iterator.rest.ok.0)))
    (c.loop-followed.invariant start counting is)
