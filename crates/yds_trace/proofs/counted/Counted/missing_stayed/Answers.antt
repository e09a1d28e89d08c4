use Rattle.base.proofs.Common.{◌≡◌, ◌∙◌, refl, sym, ap}
use Rattle.yds_kernel.specs.Event.{Event, Thread}
use Rattle.yds_kernel.specs.Views.{event_read, thread_read}
use Rattle.yds_trace.specs.declared.job.Leaving.{Leaving}
use Rattle.yds_trace.specs.declared.step.Whose.{Whose}
use Rattle.yds_trace.specs.Asked.{Asked}
use Rattle.yds_trace.specs.Jobs.{all_known, leaving_at, missing_of}
use Rattle.yds_trace.specs.Steps.{whose}
use Rattle.yds_trace.specs.Views.{asked_read}
use Rattle.yds_trace.proofs.counted.Counted.missing_stayed.Goals as goal

pub returns-in-Switch : goal.returns-in-Switch
returns-in-Switch c = λ counting is first.
    let asked : Asked = asked_read c.args.asked.now in
    let event : Event = event_read c.args.event.now in
    let previous : Thread = thread_read c.in-Switch.previous in
    let left : c.args.first ≡ whose asked.tasks previous = rw c.in-Switch.is at first in
    rw (c.in-Switch.is, sym (c.has_switched.ensures asked.start counting is.times) ∙ c.if-not-has_switched.true)
    (c.missing.ensures asked counting previous previous is refl left left
    ∙ ap (λ (leaving : Leaving). missing_of asked previous previous leaving (all_known asked counting) 0 asked.tasks)
    (c.leaving-leaving.ensures asked counting (record event { time = c.args.to }) previous is.times is.came refl refl (sym (ap (λ (who : Whose). who.pid) left))))

pub returns-in-Switch-2 : goal.returns-in-Switch-2
returns-in-Switch-2 c = λ counting is first.
    rw (c.in-Switch.is, sym (c.has_switched.ensures (asked_read c.args.asked.now).start counting is.times) ∙ c.if-not-has_switched.false) refl
