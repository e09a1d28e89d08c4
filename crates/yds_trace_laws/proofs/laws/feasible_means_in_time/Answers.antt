use Rattle.yds_trace_laws.proofs.Seen.{feasible_means_in_time}
use Rattle.yds_trace_laws.proofs.laws.feasible_means_in_time.Goals as goal

pub returns : goal.returns
returns c = feasible_means_in_time
