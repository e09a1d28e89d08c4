use Rattle.yds_trace_laws.proofs.Units.{units_are_own}
use Rattle.yds_trace_laws.proofs.laws.units_are_own.Goals as goal

pub returns : goal.returns
returns c = units_are_own
