use Rattle.yds_model.proofs.Common.{take, AllZip}
use Rattle.yds_round.specs.LevelPace.{RunsAs}
use Rattle.yds_round.proofs.rounding.paces_of.Given as goal

abbrev pub invariant-loop-level : goal.invariant-loop-level
invariant-loop-level l = AllZip (RunsAs l.table) (take l.level-index l.levels) l.paces.items
