use Rattle.yds_textbook.proofs.Theorem.{stages_make_a_plan}
use Rattle.yds_textbook.proofs.laws.stages_make_a_plan.Goals as goal

pub returns : goal.returns
returns c = stages_make_a_plan
