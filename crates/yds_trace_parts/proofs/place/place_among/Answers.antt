use Rattle.base.proofs.Common.{◌∙◌, List, ap}
use Rattle.yds_kernel.specs.Parts.{or_else}
use Rattle.yds_trace.specs.Document.{Judged}
use Rattle.yds_trace.specs.Parts.{waiting}
use Rattle.yds_trace.specs.Views.{asked_read}
use Rattle.yds_trace_document.proofs.Waits.{waiting_rises}
use Rattle.yds_trace_parts.specs.Place.{Places, places_shown}
use Rattle.yds_trace_parts.proofs.Placed.{or_same, place_found}
use Rattle.yds_trace_parts.proofs.place.place_among.Goals as goal

pub returns : goal.returns
returns c past cut is are =
    c.or.ensures
    ∙ or_same c.places_among-places.result.closed c.places_among-places.result.quiet
    ∙ ap (λ (places : Places). or_else places.closed places.quiet) c.places_among-places.ensures
    ∙ ap (λ (jobs : List Judged). or_else (places_shown (asked_read c.args.asked.now) c.args.shown.now jobs).closed
    (places_shown (asked_read c.args.asked.now) c.args.shown.now jobs).quiet) are
    ∙ place_found (asked_read c.args.asked.now) c.args.shown.now past cut.boundary (waiting (asked_read c.args.asked.now) past cut) is
    (waiting_rises (asked_read c.args.asked.now) past cut)
