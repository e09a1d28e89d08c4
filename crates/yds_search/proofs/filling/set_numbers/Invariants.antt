use Rattle.yds_model.proofs.Common.{◌≡◌, ℕ, ◌+◌, ◌<◌, length, get_or}
use Rattle.yds_search.proofs.filling.set_numbers.Given as goal

abbrev pub invariant-loop-place : goal.invariant-loop-place
invariant-loop-place l = record {
  count : length l.number-items ≡ l.last + 1;
  each : (k : ℕ) → k < l.place → get_or l.number-items k 0 ≡ k;
}
