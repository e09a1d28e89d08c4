use Rattle.yds_model.proofs.Common.{take, All, IsJob}
use Rattle.yds_plan.proofs.planning.read_rows.Given as goal

abbrev pub invariant-loop-row : goal.invariant-loop-row
invariant-loop-row l = All IsJob (take l.row-index l.rows)
