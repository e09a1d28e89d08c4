use Rattle.yds_model.proofs.Common.{◌≡◌, ◌≤◌, length, map, take, filter, range_with_len}
use Rattle.yds_search.specs.Beginning.{first_stretch, greatest_end, is_reached, reached_before}
use Rattle.yds_search.proofs.beginning.add_stretches.Given as goal

abbrev pub invariant-loop-stretch : goal.invariant-loop-stretch
invariant-loop-stretch l = record {
  end : l.end ≡ greatest_end (take l.stretch l.ends);
  stretches : l.stretches.items ≡ map (first_stretch l.timeline) (filter (is_reached l.ends) (range_with_len 0 l.stretch));
  ranks : l.ranks.items ≡ map (reached_before l.ends) (range_with_len 0 l.stretch);
  few : length l.stretches.items ≤ l.stretch;
}
