use Rattle.base.proofs.Common.{◌∙◌, sym, refl}
use Rattle.yds_kernel.specs.Views.{thread_read}
use Rattle.yds_trace.specs.Past.{up_to}
use Rattle.yds_trace.proofs.counted.Counted.check_stayed.Goals as goal

pub returns-in-Switch : goal.returns-in-Switch
returns-in-Switch c = λ asked past is first.
    rw (c.in-Switch.is, sym (c.has_switched.ensures asked.start (up_to asked.to past) is.times) ∙ c.if-not-has_switched.true)
    (c.check_thread.ensures asked (up_to asked.to past) (thread_read c.in-Switch.previous) is (rw c.in-Switch.is at first))

pub returns-in-Switch-2 : goal.returns-in-Switch-2
returns-in-Switch-2 c = λ asked past is first.
    rw (c.in-Switch.is, sym (c.has_switched.ensures asked.start (up_to asked.to past) is.times) ∙ c.if-not-has_switched.false) refl
