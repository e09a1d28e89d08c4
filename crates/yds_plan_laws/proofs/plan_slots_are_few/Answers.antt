use Rattle.yds_plan_laws.proofs.FewSlots.{plan_slots_are_few}
use Rattle.yds_plan_laws.proofs.plan_slots_are_few.Goals as goal

pub returns : goal.returns
returns c = plan_slots_are_few
