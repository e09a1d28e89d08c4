use Rattle.base.proofs.Common.{Option, ap, sym, ◌∙◌}
use Rattle.yds_kernel.specs.Parts.{or_else}
use Rattle.yds_kernel.specs.Views.{said_read}
use Rattle.yds_trace.specs.declared.fault.Cause.{Cause}
use Rattle.yds_trace.specs.Parts.{part_fault}
use Rattle.yds_trace_parts.specs.Told.{at_line}
use Rattle.yds_trace_parts.proofs.telling.take_line.Goals as goal

pub returns-in-Err-Fault-clause-halts : goal.returns-in-Err-Fault-clause-halts
returns-in-Err-Fault-clause-halts c = λ asked past at.
    rw c.in-Err-Fault.field-0-is
    (ap (λ (fault : Option Cause). at_line c.args.number (or_else fault (part_fault asked past c.args.cut (said_read c.args.said))))
    (rw c.in-Err-Fault.field-0-is at (c.in-Err-Fault.ensures.refused asked past c.args.cut.boundary at)))

pub returns-in-Ok-changes-clause-stands : goal.returns-in-Ok-changes-clause-stands
returns-in-Ok-changes-clause-stands c asked past boundary at = c.in-Ok.ensures.stands asked past boundary at

pub returns-in-Ok-changes-clause-taken : goal.returns-in-Ok-changes-clause-taken
returns-in-Ok-changes-clause-taken c asked past boundary at = c.in-Ok.ensures.taken asked past boundary at

pub returns-in-Err-clause-halts : goal.returns-in-Err-clause-halts
returns-in-Err-clause-halts c asked past at =
    ap (λ (fault : Option Cause). at_line c.args.number (or_else fault (part_fault asked past c.args.cut (said_read c.args.said))))
    (c.in-Ok.ensures.taken asked past c.args.cut.boundary at)
    ∙ ap (λ (fault : Option Cause). at_line c.args.number fault) (sym (c.in-Err.ensures asked past at))
