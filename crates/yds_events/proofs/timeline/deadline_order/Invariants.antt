use Rattle.yds_model.proofs.Common.{◌≡◌, ◌≤◌, length, map, take, filter}
use Rattle.yds_events.specs.Keys.{is_deadline, job_of_key}
use Rattle.yds_events.proofs.timeline.deadline_order.Given as goal

abbrev pub invariant-loop-key : goal.invariant-loop-key
invariant-loop-key l = record {
  all : length l.order.items ≡ length l.keys;
  few : l.count ≤ l.key-index;
  so_far : take l.count l.order.items ≡ map job_of_key (filter is_deadline (take l.key-index l.keys));
}
