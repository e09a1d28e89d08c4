use Rattle.yds_model.proofs.Common.{Each, HasWrittenSpeed}
use Rattle.yds_checker.proofs.speeds.first_wrong_speed.Given as goal

abbrev pub invariant-loop-s : goal.invariant-loop-s
invariant-loop-s l = Each l.s (HasWrittenSpeed l.levels l.slots)
