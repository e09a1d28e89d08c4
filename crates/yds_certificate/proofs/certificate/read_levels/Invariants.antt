use Rattle.yds_model.proofs.Common.{take, All, IsLevel}
use Rattle.yds_certificate.proofs.certificate.read_levels.Given as goal

abbrev pub invariant-loop-level : goal.invariant-loop-level
invariant-loop-level l = All IsLevel (take l.level-index l.levels)
