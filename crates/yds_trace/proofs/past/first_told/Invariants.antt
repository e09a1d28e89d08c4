use Rattle.base.proofs.Common.{map, drop}
use Rattle.yds_trace.specs.Views.{speed_read}
use Rattle.yds_trace.specs.Kept.{TellsSpeeds}
use Rattle.yds_trace.proofs.past.first_told.Given as goal

abbrev pub invariant-loop-place : goal.invariant-loop-place
invariant-loop-place l = TellsSpeeds (map speed_read (drop l.place l.speeds)) l.told.items
