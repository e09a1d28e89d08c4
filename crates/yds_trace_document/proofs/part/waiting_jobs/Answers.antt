use Rattle.base.proofs.Common.{◌≡◌, ◌∙◌, List, IfOk, ap, subst}
use Rattle.yds_trace.specs.Document.{Judged, in_order}
use Rattle.yds_trace_document.specs.Kept.{begin_of, together}
use Rattle.yds_trace_document.specs.Views.{judged_list}
use Rattle.yds_trace_document.proofs.Waits.{waiting_in_order}
use Rattle.yds_trace_document.proofs.part.waiting_jobs.Goals as goal

pub returns : goal.returns
returns c asked past cut are =
    subst (λ (made : List Judged). IfOk c.in_order_of_begins.result (λ jobs. judged_list jobs.items ≡ made))
    (ap (λ (l : List (List Judged)). in_order begin_of (together l)) are ∙ waiting_in_order asked past cut)
    c.in_order_of_begins.ensures
