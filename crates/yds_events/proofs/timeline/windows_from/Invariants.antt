use Rattle.yds_model.proofs.Common.{◌≡◌, map, range_with_len}
use Rattle.yds_events.specs.Keys.{window_from}
use Rattle.yds_events.proofs.timeline.windows_from.Given as goal

abbrev pub invariant-loop-job : goal.invariant-loop-job
invariant-loop-job l = l.windows.items ≡ map (window_from l.places) (range_with_len 0 l.job)
