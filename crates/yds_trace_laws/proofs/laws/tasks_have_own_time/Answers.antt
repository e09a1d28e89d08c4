use Rattle.yds_trace_laws.proofs.Sharing.{tasks_have_own_time}
use Rattle.yds_trace_laws.proofs.laws.tasks_have_own_time.Goals as goal

pub returns : goal.returns
returns c = tasks_have_own_time
