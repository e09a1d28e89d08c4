use Rattle.base.proofs.Common.{◌≡◌, ◌∙◌, List, IfOk, map, ap, ap₂, subst}
use Rattle.std.specs.Prelude.{Vec}
use Rattle.std.specs.declared.alloc.Global.{Global}
use Rattle.yds_trace.specs.declared.asked.Task.{Task as TaskKept}
use Rattle.yds_trace.specs.declared.job.Job.{Job as JobKept}
use Rattle.yds_trace.specs.declared.others.Span.{Span as SpanKept}
use Rattle.yds_trace.specs.Ended.{in_order_of_begin}
use Rattle.yds_trace.specs.Views.{asked_read, task_read, span_read}
use Rattle.yds_trace_document.specs.Kept.{judged_tasks, within_of}
use Rattle.yds_trace_document.specs.Settled.{Settled}
use Rattle.yds_trace_document.specs.declared.other.Other.{Other as OtherKept}
use Rattle.yds_trace_document.specs.Views.{judged_lists, other_read, settled_read}
use Rattle.yds_trace_document.proofs.Same.{kept_same}
use Rattle.yds_trace_document.proofs.settlement.settle.Goals as goal

pub returns : goal.returns
returns c asked past is =
    subst (λ (made : Settled). IfOk c.settled_from.result (λ settled. settled_read settled ≡ made))
    (kept_same c.args.ended.now asked past (judged_lists c.in_ok-by_task.by_task.items) (map other_read c.deref-4.result.now) is
    (c.in_ok-by_task.ensures
    ∙ ap₂ (λ (tasks : List TaskKept) (jobs : List (Vec JobKept Global)).
    judged_tasks (within_of (asked_read c.args.ended.now.asked) c.args.ended.now.first c.args.ended.now.last) 0 (map task_read tasks) (map in_order_of_begin jobs))
    c.deref.ensures.value c.deref-2.ensures.value)
    (ap (λ (others : List OtherKept). map other_read others) c.deref-4.ensures.value
    ∙ c.in_ok-others.ensures
    ∙ ap (λ (spans : List SpanKept). map span_read spans) c.deref-3.ensures.value))
    c.settled_from.ensures
