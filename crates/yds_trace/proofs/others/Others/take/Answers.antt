use Rattle.base.proofs.Common.{◌∙◌, ◌∷◌, ap, option_map}
use Rattle.yds_kernel.specs.Event.{Stamped}
use Rattle.yds_kernel.specs.Views.{event_read}
use Rattle.yds_trace.specs.Past.{who_has}
use Rattle.yds_trace.specs.Others.{other_of}
use Rattle.yds_trace.specs.Views.{another_read}
use Rattle.yds_trace.proofs.Spans.{others_more}
use Rattle.yds_trace.proofs.others.Others.take.Goals as goal

pub returns : goal.returns
returns c = λ asked counting boundary is second waits.
    others_more asked counting (event_read c.args.event.now) boundary c.args.processor c.args.self.now _ c.args.waits is waits
    (ap (option_map another_read) c.in_ok-pass.ensures.holder ∙ c.in_ok-hold.ensures asked.tasks counting is.holder second)
    (c.in_ok-pass.ensures.spans (other_of asked.tasks (who_has c.args.processor (Stamped (event_read c.args.event.now) ∷ counting)))
    (c.in_ok-hold.ensures asked.tasks counting is.holder second))
