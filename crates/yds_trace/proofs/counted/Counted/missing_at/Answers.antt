use Rattle.base.proofs.Common.{ℕ, ◌∙◌, ap, sym}
use Rattle.yds_kernel.specs.Event.{Event}
use Rattle.yds_kernel.specs.Views.{event_read, happening_read}
use Rattle.yds_trace.specs.Asked.{Asked}
use Rattle.yds_trace.specs.Faults.{missing_stayed}
use Rattle.yds_trace.specs.Finding.{whose_found}
use Rattle.yds_trace.specs.Past.{up_to}
use Rattle.yds_trace.specs.Views.{asked_read}
use Rattle.yds_trace.proofs.Finding.{first_is, second_is}
use Rattle.yds_trace.proofs.counted.Counted.missing_at.Goals as goal

pub returns-then-is_before_to : goal.returns-then-is_before_to
returns-then-is_before_to c = λ past is first second.
    let asked : Asked = asked_read c.args.asked.now in
    rw (sym c.is_before_to.ensures ∙ c.if-is_before_to.true)
    (c.missing_in.ensures (up_to asked.to past) is
    (c.whose.ensures ∙ ap whose_found first ∙ first_is asked.tasks (happening_read c.args.event.now.happening))
    (c.whose-then-is_before_to.ensures ∙ ap whose_found second ∙ second_is asked.tasks (happening_read c.args.event.now.happening)))

pub returns : goal.returns
returns c = λ past is first second.
    let asked : Asked = asked_read c.args.asked.now in
    let event : Event = event_read c.args.event.now in
    rw (sym c.is_before_to.ensures ∙ c.if-is_before_to.false)
    (c.missing_stayed.ensures (up_to asked.to past) is
    (c.whose-2.ensures ∙ ap whose_found first ∙ first_is asked.tasks (happening_read c.args.event.now.happening))
    ∙ ap (λ (to : ℕ). missing_stayed asked to (up_to asked.to past) event event.happening) c.unwrap_or-to.ensures)
