use Rattle.yds_model.proofs.Common.{option_copied, Each, Stands}
use Rattle.yds_audit.proofs.auditor.first_wrong_slot.Given as goal

abbrev pub invariant-loop-i : goal.invariant-loop-i
invariant-loop-i l = Each l.i (Stands l.rows (option_copied l.points) l.slots)
