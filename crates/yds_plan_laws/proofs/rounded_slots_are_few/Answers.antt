use Rattle.yds_plan_laws.proofs.FewRounded.{rounded_slots_are_few}
use Rattle.yds_plan_laws.proofs.rounded_slots_are_few.Goals as goal

pub returns : goal.returns
returns c = rounded_slots_are_few
