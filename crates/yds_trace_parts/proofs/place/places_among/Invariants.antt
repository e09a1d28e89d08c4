use Rattle.base.proofs.Common.{◌≡◌, drop}
use Rattle.yds_trace.specs.Views.{asked_read}
use Rattle.yds_trace_document.specs.Views.{judged_list}
use Rattle.yds_trace_parts.specs.Place.{front_read, places_read, start, walk}
use Rattle.yds_trace_parts.proofs.place.places_among.Given as goal

abbrev pub invariant-loop-judged : goal.invariant-loop-judged
invariant-loop-judged l =
    walk (asked_read l.asked) l.shown (judged_list (drop l.judged-index l.waiting))
    (record { front = front_read l.front; places = places_read l.places; before = l.before })
    ≡ walk (asked_read l.asked) l.shown (judged_list l.waiting) (start (asked_read l.asked) (judged_list l.waiting))
