use Rattle.yds_trace_laws.proofs.Processors.{only_its_own}
use Rattle.yds_trace_laws.proofs.laws.only_its_own.Goals as goal

pub returns : goal.returns
returns c = only_its_own
