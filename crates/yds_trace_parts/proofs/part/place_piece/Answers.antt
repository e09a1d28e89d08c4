use Rattle.base.proofs.Common.{◌∙◌, ap, sym}
use Rattle.yds_trace_document.specs.Views.{judged_list}
use Rattle.yds_trace_parts.proofs.part.place_piece.Goals as goal

pub returns-in-None-clause-halts : goal.returns-in-None-clause-halts
returns-in-None-clause-halts c past shown waits looks =
    c.no_place.ensures.halts c.args.strict past shown waits looks
    (sym (c.in-None.ensures past c.args.cut shown (ap judged_list c.deref.ensures.value ∙ waits.judged)))
