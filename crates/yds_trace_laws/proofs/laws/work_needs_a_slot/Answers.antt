use Rattle.yds_trace_laws.proofs.Seen.{work_needs_a_slot}
use Rattle.yds_trace_laws.proofs.laws.work_needs_a_slot.Goals as goal

pub returns : goal.returns
returns c = work_needs_a_slot
