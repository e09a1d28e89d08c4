use Rattle.yds_model.proofs.Common.{◌≡◌, ℕ, ◌+◌, ◌≤◌, length, get_or}
use Rattle.yds_admit.specs.Idle.{idle_before}
use Rattle.yds_admit.proofs.pieces.used_before.Given as goal

abbrev pub invariant-loop-gap : goal.invariant-loop-gap
invariant-loop-gap l = record {
  as_long : length l.used.items ≡ l.gap + 1;
  units : idle_before l.left l.gap + l.units ≡ idle_before l.gaps l.gap;
  each : (q : ℕ) → q ≤ l.gap → idle_before l.left q + get_or l.used.items q 0 ≡ idle_before l.gaps q;
}
