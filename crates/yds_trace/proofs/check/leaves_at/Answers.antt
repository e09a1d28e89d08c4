use Rattle.base.proofs.Common.{◌∙◌, not, Bool, sym, ap}
use Rattle.yds_trace.specs.Past.{up_to}
use Rattle.yds_trace.specs.Views.{asked_read}
use Rattle.yds_trace.proofs.check.leaves_at.Goals as goal

pub returns-else-is_before_to : goal.returns-else-is_before_to
returns-else-is_before_to c = λ past is.
    rw (c.if-not-asked.true, sym c.is_before_to.ensures ∙ c.if-is_before_to.false)
    (ap (λ (switched : Bool). not switched) (c.has_switched.ensures (asked_read c.args.asked.now).start (up_to c.args.asked.now.to past) is.times))
