use Rattle.yds_plan_laws.proofs.FewSlots.{run_slots_are_few}
use Rattle.yds_plan_laws.proofs.run_slots_are_few.Goals as goal

pub returns : goal.returns
returns c = run_slots_are_few
