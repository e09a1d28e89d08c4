use Rattle.yds_model.proofs.Common.{◌≡◌, ◌-◌, ◌≤◌, ◌++◌, length, take, drop}
use Rattle.yds_search.specs.Stack.{marked_with}
use Rattle.yds_search.proofs.stack.part_stretches.Given as goal

abbrev pub invariant-loop-at : goal.invariant-loop-at
invariant-loop-at l = record {
  stays : take l.staying l.stretches.items ++ marked_with 0 (drop (l.at - l.start) l.marks) (drop l.at l.stretches.items)
      ≡ take l.start l.initial.stretches.items ++ marked_with 0 l.marks (drop l.start l.initial.stretches.items);
  moves : l.moving.items ++ marked_with 1 (drop (l.at - l.start) l.marks) (drop l.at l.stretches.items) ≡ marked_with 1 l.marks (drop l.start l.initial.stretches.items);
  count : length l.stretches.items ≡ length l.initial.stretches.items;
  after : l.start ≤ l.staying;
  behind : l.staying ≤ l.at;
}
