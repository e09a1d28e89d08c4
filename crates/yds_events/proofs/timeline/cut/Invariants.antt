use Rattle.yds_model.proofs.Common.{◌≡◌, ◌≤◌, length, map, take, ◌==◌, dedup}
use Rattle.yds_events.specs.Keys.{time_of_key}
use Rattle.yds_events.proofs.Cut.{ArePlaced}
use Rattle.yds_events.proofs.timeline.cut.Given as goal

abbrev pub invariant-loop-key : goal.invariant-loop-key
invariant-loop-key l = record {
  few : length l.times.items ≤ l.key-index;
  count : length l.places.items ≡ length l.keys;
  times : l.times.items ≡ dedup (λ x y. x == y) (map time_of_key (take l.key-index l.keys));
  placed : ArePlaced l.keys l.key-index l.times.items l.places.items;
}
