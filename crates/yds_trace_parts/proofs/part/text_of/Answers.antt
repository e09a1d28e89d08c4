use Rattle.yds_trace.specs.Views.{asked_read}
use Rattle.yds_trace_parts.proofs.Parting.{text_is, text_halts}
use Rattle.yds_trace_parts.proofs.part.text_of.Goals as goal

pub returns-in-Ok-clause-made : goal.returns-in-Ok-clause-made
returns-in-Ok-clause-made c past is = text_is (asked_read c.args.asked.now) c.args.strict past c.args.cut c.args.until c.in-Ok.text (c.in-Ok.ensures past is)

pub returns-in-Err-clause-halts : goal.returns-in-Err-clause-halts
returns-in-Err-clause-halts c past is =
    rw (c.of_text.ensures, c.part_processor.ensures, c.next_number.ensures)
    (text_halts (asked_read c.args.asked.now) c.args.strict past c.args.cut c.args.until c.in-Err.fault (c.in-Err.ensures past is))
