use Rattle.yds_kernel_order.specs.Ordering.{number_now}
use Rattle.yds_trace_parts.proofs.InText.{kept_number}
use Rattle.yds_trace_parts.proofs.driver.end.Goals as goal

pub returns-in-Err-clause-halts : goal.returns-in-Err-clause-halts
returns-in-Err-clause-halts c = λ asked strict past is at.
    rw (c.with_number.ensures, c.number.ensures)
    (kept_number (number_now c.args.reader.now) _ c.in-Err.halt (c.in-Err.ensures.halts asked strict past is at))
