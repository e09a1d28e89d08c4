use Rattle.base.proofs.Common.{◌≡◌, ◌∙◌, nat_lt, is_some, List, map, sym, ap}
use Rattle.yds_kernel.specs.Views.{thread_read}
use Rattle.yds_trace.specs.declared.asked.Task.{Task as TaskKept}
use Rattle.yds_trace.specs.declared.find.Found.{Found}
use Rattle.yds_trace.specs.declared.step.Whose.{Whose}
use Rattle.yds_trace.specs.Asked.{task_of}
use Rattle.yds_trace.specs.Finding.{found, whose_found}
use Rattle.yds_trace.specs.Past.{lines_since, has_switched, up_to}
use Rattle.yds_trace.specs.Views.{start_read, asked_read, task_read}
use Rattle.yds_trace.proofs.Written.{both_on, both_off}
use Rattle.yds_trace.proofs.check.was_there.Goals as goal

pub returns-then-is_new : goal.returns-then-is_new
returns-then-is_new c = λ past is state next.
    let same : c.is_some.result ≡ is_some (task_of (asked_read c.args.asked.now).tasks (thread_read c.args.previous)) =
    c.is_some.ensures
    ∙ ap (λ (whose : Whose). is_some whose.number) c.whose.ensures
    ∙ ap (λ (tasks : Found). is_some (whose_found tasks).number) c.find.ensures
    ∙ ap (λ (tasks : List TaskKept). is_some (whose_found (found (map task_read tasks) (thread_read c.args.previous))).number) c.deref.ensures.value in
    (same
    ∙ both_on (is_some (task_of (asked_read c.args.asked.now).tasks (thread_read c.args.previous)))
    (has_switched c.args.event.now.processor (up_to c.args.asked.now.to past))
    (nat_lt (lines_since c.args.event.now.processor c.args.event.now.time (up_to c.args.asked.now.to past)) c.args.cut.boundary)
    (sym (c.is_new.ensures (start_read c.args.asked.now.start) (up_to c.args.asked.now.to past) is.times) ∙ c.if-is_new.true))

pub returns-else-is_new : goal.returns-else-is_new
returns-else-is_new c = λ past is state next.
    (c.if-is_new.false
    ∙ both_off (is_some (task_of (asked_read c.args.asked.now).tasks (thread_read c.args.previous)))
    (has_switched c.args.event.now.processor (up_to c.args.asked.now.to past))
    (nat_lt (lines_since c.args.event.now.processor c.args.event.now.time (up_to c.args.asked.now.to past)) c.args.cut.boundary)
    (sym (c.is_new.ensures (start_read c.args.asked.now.start) (up_to c.args.asked.now.to past) is.times) ∙ c.if-is_new.false))
