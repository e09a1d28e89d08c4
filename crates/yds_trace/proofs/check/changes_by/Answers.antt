use Rattle.base.proofs.Common.{◌≡◌, ◌∙◌, ◌||◌, ℕ, Bool, nat_lt, sym, ap}
use Rattle.yds_kernel.specs.declared.loss.Since.TheVariants as since
use Rattle.yds_kernel.specs.Event.{Thread, Event, Switch}
use Rattle.yds_kernel.specs.Views.{event_read, happening_read, thread_read}
use Rattle.yds_trace.specs.Asked.{Asked, is_before_to}
use Rattle.yds_trace.specs.Parts.{came_back, was_there_before}
use Rattle.yds_trace.specs.Past.{lost_since}
use Rattle.yds_trace.specs.Views.{start_read, asked_read}
use Rattle.yds_trace.proofs.Written.{or_none, none_missing, switch_changes}
use Rattle.yds_trace.proofs.check.changes_by.Goals as goal

pub returns-in-Loss : goal.returns-in-Loss
returns-in-Loss c = λ past lines is.
    rw (c.in-Loss.is, none_missing c.args.cut (is_before_to c.args.asked.now.to c.args.event.now.time))
    (ap (λ (time : ℕ). nat_lt time c.args.cut.decided) (c.lost_since.ensures (start_read c.args.asked.now.start) past lines.times)
    ∙ or_none (nat_lt (lost_since c.args.event.now.processor since.ItsLastLine past) c.args.cut.decided))

pub returns-else-are_missing_before : goal.returns-else-are_missing_before
returns-else-are_missing_before c = λ past lines is.
    let asked : Asked = asked_read c.args.asked.now in
    let event : Event = event_read c.args.event.now in
    let previous : Thread = thread_read c.in-Switch.previous in
    let next : Thread = thread_read c.in-Switch.next in
    c.goes_back.ensures past is c.in-Switch.state
    ∙ ap (λ (missing : Bool). missing || (was_there_before asked past c.args.cut event (Switch previous c.in-Switch.state next)
    || came_back asked past c.args.cut event (Switch previous c.in-Switch.state next)))
    (sym c.if-are_missing_before.false ∙ c.are_missing_before.ensures past is)
    ∙ sym (switch_changes asked past c.args.cut event previous c.in-Switch.state next (ap happening_read c.in-Switch.is))
