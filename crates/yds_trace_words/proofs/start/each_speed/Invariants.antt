use Rattle.base.proofs.Common.{◌≡◌, ◌+◌, drop, map}
use Rattle.yds_trace.specs.Views.{speed_read}
use Rattle.yds_trace_words.specs.Start.{speeds_from}
use Rattle.yds_trace_words.proofs.Listed.{ahead}
use Rattle.yds_trace_words.proofs.start.each_speed.Given as goal

abbrev pub invariant-loop-index : goal.invariant-loop-index
invariant-loop-index l = speeds_from 1 (map (λ piece. piece.now) l.pieces)
    ≡ ahead (map speed_read l.speeds.items) (speeds_from (l.index + 1) (map (λ piece. piece.now) (drop l.index l.pieces)))
