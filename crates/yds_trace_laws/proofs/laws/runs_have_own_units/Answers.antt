use Rattle.yds_trace_laws.proofs.Units.{runs_have_own_units}
use Rattle.yds_trace_laws.proofs.laws.runs_have_own_units.Goals as goal

pub returns : goal.returns
returns c = runs_have_own_units
