use Rattle.yds_trace_laws.proofs.Seen.{fronts_are_infeasible}
use Rattle.yds_trace_laws.proofs.laws.fronts_are_infeasible.Goals as goal

pub returns : goal.returns
returns c = fronts_are_infeasible
