use Rattle.yds_model.proofs.Common.{◌≡◌, ℕ, ◌+◌, ◌≤◌, length, get_or, take, sum}
use Rattle.yds_search.proofs.closing.rank.Given as goal

abbrev pub invariant-loop-place : goal.invariant-loop-place
invariant-loop-place l = record {
  all : length l.ranks.items ≡ length l.marks + 1;
  is : l.count ≡ sum (take l.place l.marks);
  few : l.count ≤ l.place;
  each : (p : ℕ) → p ≤ l.place → get_or l.ranks.items p 0 ≡ sum (take p l.marks);
}
