use Rattle.base.proofs.Common.{◌∙◌, ◌||◌, Bool, sym, ap}
use Rattle.yds_kernel.specs.Event.{Switch}
use Rattle.yds_kernel.specs.Views.{event_read, thread_read}
use Rattle.yds_trace.specs.Parts.{came_back}
use Rattle.yds_trace.specs.Views.{asked_read}
use Rattle.yds_trace.proofs.check.goes_back.Goals as goal

pub returns-then-was_there : goal.returns-then-was_there
returns-then-was_there c = λ past is state.
    c.if-was_there.true
    ∙ ap (λ (there : Bool). there || came_back (asked_read c.args.asked.now) past c.args.cut (event_read c.args.event.now)
    (Switch (thread_read c.args.previous) state (thread_read c.args.next)))
    (sym c.if-was_there.true ∙ c.was_there.ensures past is state (thread_read c.args.next))

pub returns-else-was_there : goal.returns-else-was_there
returns-else-was_there c = λ past is state.
    c.comes_back.ensures past is state
    ∙ ap (λ (there : Bool). there || came_back (asked_read c.args.asked.now) past c.args.cut (event_read c.args.event.now)
    (Switch (thread_read c.args.previous) state (thread_read c.args.next)))
    (sym c.if-was_there.false ∙ c.was_there.ensures past is state (thread_read c.args.next))
