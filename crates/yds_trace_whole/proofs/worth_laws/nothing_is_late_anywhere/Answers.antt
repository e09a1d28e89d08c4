use Rattle.yds_trace_whole.proofs.Everywhere.{nothing_is_late_anywhere}
use Rattle.yds_trace_whole.proofs.worth_laws.nothing_is_late_anywhere.Goals as goal

pub returns : goal.returns
returns c = nothing_is_late_anywhere
