use Rattle.base.proofs.Common.{◌≡◌, ◌+◌, map, length}
use Rattle.yds_trace.specs.Views.{speed_read}
use Rattle.yds_trace_words.specs.Start.{twice_from}
use Rattle.yds_trace_words.proofs.start.repeated.Given as goal

abbrev pub invariant-loop-rest : goal.invariant-loop-rest
invariant-loop-rest l = record {
  same : twice_from l.place (map speed_read l.rest) ≡ twice_from 1 (map speed_read l.speeds);
  place : l.place + length l.rest ≡ 1 + length l.speeds;
}

abbrev pub decreases-loop-rest : goal.decreases-loop-rest
decreases-loop-rest l = length l.rest
