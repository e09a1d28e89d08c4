use Rattle.yds_model.proofs.Common.{◌≡◌, ℕ, ◌+◌, ◌<◌, ◌≤◌, get_or}
use Rattle.yds_admit.specs.Chain.{AreLinks}
use Rattle.yds_admit.specs.Idle.{idle_before}
use Rattle.yds_admit.proofs.idle.take_before.Given as goal

abbrev pub invariant-loop-left : goal.invariant-loop-left
invariant-loop-left l = record {
  to_end : l.place ≤ l.end;
  less : (q : ℕ) → get_or l.idle q 0 ≤ get_or l.fn.idle q 0;
  early : (q : ℕ) → q < l.place → get_or l.idle q 0 ≡ get_or l.fn.idle q 0;
  none : (q : ℕ) → l.place < q → q < l.end → get_or l.idle q 0 ≡ 0;
  empty : 0 < l.left → (q : ℕ) → l.place ≤ q → q < l.end → get_or l.idle q 0 ≡ 0;
  late : (q : ℕ) → l.end ≤ q → get_or l.idle q 0 ≡ get_or l.fn.idle q 0;
  sum : idle_before l.idle l.end + l.units ≡ idle_before l.fn.idle l.end + l.left;
  links : AreLinks l.idle l.links;
}

abbrev pub decreases-loop-left : goal.decreases-loop-left
decreases-loop-left l = l.place
