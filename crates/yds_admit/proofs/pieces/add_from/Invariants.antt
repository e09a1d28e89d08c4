use Rattle.yds_model.proofs.Common.{◌≡◌, ℕ, ◌+◌, ◌<◌, ◌≤◌, length, get_or}
use Rattle.yds_admit.proofs.pieces.add_from.Given as goal

abbrev pub invariant-loop-later : goal.invariant-loop-later
invariant-loop-later l = record {
  as_long : length l.used ≡ length l.fn.used;
  more : (q : ℕ) → l.place ≤ q → q < l.later → get_or l.used q 0 ≡ get_or l.fn.used q 0 + l.units;
  early : (q : ℕ) → q < l.place → get_or l.used q 0 ≡ get_or l.fn.used q 0;
  late : (q : ℕ) → l.later ≤ q → get_or l.used q 0 ≡ get_or l.fn.used q 0;
}
