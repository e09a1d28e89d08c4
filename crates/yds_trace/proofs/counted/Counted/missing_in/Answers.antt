use Rattle.base.proofs.Common.{◌≡◌, ◌∙◌, refl, sym, ap}
use Rattle.yds_kernel.specs.Event.{Thread}
use Rattle.yds_kernel.specs.Views.{event_read, thread_read}
use Rattle.yds_trace.specs.declared.job.Leaving.{Leaving}
use Rattle.yds_trace.specs.declared.step.Whose.{Whose}
use Rattle.yds_trace.specs.Asked.{Asked}
use Rattle.yds_trace.specs.Jobs.{all_known, leaving_at, missing_of}
use Rattle.yds_trace.specs.Steps.{whose}
use Rattle.yds_trace.specs.Views.{asked_read}
use Rattle.yds_trace.proofs.counted.Counted.missing_in.Goals as goal

pub returns-in-Switch : goal.returns-in-Switch
returns-in-Switch c = λ counting is first second.
    let asked : Asked = asked_read c.args.asked.now in
    let previous : Thread = thread_read c.in-Switch.previous in
    let next : Thread = thread_read c.in-Switch.next in
    let left : c.args.first ≡ whose asked.tasks previous = rw c.in-Switch.is at first in
    let came : c.args.second ≡ whose asked.tasks next = rw c.in-Switch.is at second in
    rw c.in-Switch.is (c.missing.ensures asked counting previous next is refl left came
    ∙ ap (λ (leaving : Leaving). missing_of asked previous next leaving (all_known asked counting) 0 asked.tasks)
    (c.leaving-leaving.ensures asked counting (event_read c.args.event.now) previous is.times is.came refl refl (sym (ap (λ (who : Whose). who.pid) left))))
