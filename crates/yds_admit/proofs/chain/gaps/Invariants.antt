use Rattle.yds_model.proofs.Common.{◌≡◌, ℕ, ◌+◌, ◌*◌, ◌<◌, get_or, length}
use Rattle.yds_admit.proofs.chain.gaps.Given as goal

abbrev pub invariant-loop-next : goal.invariant-loop-next
invariant-loop-next l = record {
  as_long : length l.gaps.items + 1 ≡ l.next;
  each : (q : ℕ) → q + 1 < l.next → get_or l.gaps.items q 0 + l.top * get_or l.times q 0 ≡ l.top * get_or l.times (q + 1) 0;
}
