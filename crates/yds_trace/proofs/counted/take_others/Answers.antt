use Rattle.base.proofs.Common.{◌∙◌, ◌∷◌}
use Rattle.yds_kernel.specs.Event.{Stamped}
use Rattle.yds_kernel.specs.Views.{event_read}
use Rattle.yds_trace.proofs.Spans.{unwanted, wanted_are, are_wanted}
use Rattle.yds_trace.proofs.counted.take_others.Goals as goal

pub returns-in_ok-take-in-Some : goal.returns-in_ok-take-in-Some
returns-in_ok-take-in-Some c = λ asked counting boundary same is second waits.
    are_wanted asked (Stamped (event_read c.args.event.now) ∷ counting) boundary c.in-Some.processor _ (same ∙ c.in-Some.is)
    (c.in_ok-take-in-Some.ensures asked counting boundary (wanted_are asked counting boundary c.in-Some.processor _ (same ∙ c.in-Some.is) is) second (c.any_waits.ensures ∙ waits))

pub returns-in-None : goal.returns-in-None
returns-in-None c = λ asked counting boundary same is second waits. unwanted asked (Stamped (event_read c.args.event.now) ∷ counting) boundary _ (same ∙ c.in-None.is)
