use Rattle.base.proofs.Common.{◌≡◌, drop, map}
use Rattle.std.specs.List.{list_any}
use Rattle.yds_trace.specs.Views.{speed_read}
use Rattle.yds_trace_words.specs.Start.{is_of}
use Rattle.yds_trace_words.proofs.start.is_listed.Given as goal

abbrev pub invariant-loop-speed : goal.invariant-loop-speed
invariant-loop-speed l = list_any (is_of l.processor) (map speed_read (drop l.speed-index l.speeds)) ≡ list_any (is_of l.processor) (map speed_read l.speeds)
