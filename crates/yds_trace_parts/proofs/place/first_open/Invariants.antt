use Rattle.base.proofs.Common.{◌≡◌, drop, not}
use Rattle.std.specs.List.{find}
use Rattle.yds_trace.specs.Views.{asked_read}
use Rattle.yds_trace_document.specs.Views.{judged_list}
use Rattle.yds_trace_parts.specs.Place.{is_settled}
use Rattle.yds_trace_parts.proofs.place.first_open.Given as goal

abbrev pub invariant-loop-judged : goal.invariant-loop-judged
invariant-loop-judged l =
    find (λ one. not (is_settled (asked_read l.asked) l.shown one)) (judged_list (drop l.judged-index l.waiting))
    ≡ find (λ one. not (is_settled (asked_read l.asked) l.shown one)) (judged_list l.waiting)
