use Rattle.base.proofs.Common.{◌≡◌, ℕ, ◌<◌, slice_index_or, vec_len}
use Rattle.yds_trace.specs.declared.followed.Followed.{Followed}
use Rattle.yds_trace.specs.Following.{IsUnknown}
use Rattle.yds_trace.proofs.followed.follow.Given as goal

abbrev pub invariant-loop : goal.invariant-loop
invariant-loop l = record {
  many : vec_len l.tasks ≡ l.counter;
  each : (k : ℕ) (d : Followed) → k < l.counter → IsUnknown (slice_index_or l.tasks.items k d);
}
