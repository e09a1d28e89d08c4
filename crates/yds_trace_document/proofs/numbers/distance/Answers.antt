use Rattle.base.proofs.Common.{sym, arith}
use Rattle.yds_trace_document.proofs.Nearest.{far_up, far_down}
use Rattle.yds_trace_document.proofs.numbers.distance.Goals as goal

pub returns-then-rest-unit : goal.returns-then-rest-unit
returns-then-rest-unit c = sym (far_up c.args.number c.args.unit c.requires (omega arith))

pub returns-else-rest-unit : goal.returns-else-rest-unit
returns-else-rest-unit c = sym (far_down c.args.number c.args.unit c.requires (omega arith))
