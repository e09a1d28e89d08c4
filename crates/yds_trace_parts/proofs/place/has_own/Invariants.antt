use Rattle.base.proofs.Common.{◌≡◌, drop, list_any}
use Rattle.yds_trace.specs.Parts.{is_own}
use Rattle.yds_trace.specs.Views.{asked_read}
use Rattle.yds_trace_document.specs.Views.{judged_list}
use Rattle.yds_trace_parts.proofs.place.has_own.Given as goal

abbrev pub invariant-loop-judged : goal.invariant-loop-judged
invariant-loop-judged l =
    list_any (is_own (asked_read l.asked)) (judged_list (drop l.judged-index l.waiting)) ≡ list_any (is_own (asked_read l.asked)) (judged_list l.waiting)
