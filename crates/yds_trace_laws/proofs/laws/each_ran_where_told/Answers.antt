use Rattle.yds_trace_laws.proofs.Told.{each_ran_where_told}
use Rattle.yds_trace_laws.proofs.laws.each_ran_where_told.Goals as goal

pub returns : goal.returns
returns c = each_ran_where_told
