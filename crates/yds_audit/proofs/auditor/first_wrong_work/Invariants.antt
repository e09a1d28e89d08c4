use Rattle.yds_model.proofs.Common.{Each, GetsItsWork}
use Rattle.yds_audit.proofs.auditor.first_wrong_work.Given as goal

abbrev pub invariant-loop-i : goal.invariant-loop-i
invariant-loop-i l = Each l.i (GetsItsWork l.rows l.schedule.slots)
