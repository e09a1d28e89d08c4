use Rattle.base.proofs.Common.{◌∙◌, List, ap}
use Rattle.yds_trace.specs.Document.{Judged}
use Rattle.yds_trace.specs.Parts.{waiting}
use Rattle.yds_trace.specs.Views.{asked_read}
use Rattle.yds_trace_parts.specs.Place.{open_shown}
use Rattle.yds_trace_parts.proofs.Placed.{open_found}
use Rattle.yds_trace_parts.proofs.place.open_longest.Goals as goal

pub returns : goal.returns
returns c past cut is are =
    c.open_of.ensures
    ∙ ap (λ (jobs : List Judged). open_shown (asked_read c.args.asked.now) c.args.shown.now jobs) are
    ∙ open_found (asked_read c.args.asked.now) c.args.shown.now past cut.boundary (waiting (asked_read c.args.asked.now) past cut) is
