use Rattle.base.proofs.Common.{◌≡◌, ℕ, ◌<◌, ◌≤◌, slice_index_or, vec_len}
use Rattle.yds_trace.specs.declared.followed.Followed.{Followed}
use Rattle.yds_trace.specs.Following.{Forgets}
use Rattle.yds_trace.proofs.followed.forget_each.Given as goal

abbrev pub invariant-loop-number : goal.invariant-loop-number
invariant-loop-number l = record {
  many : vec_len l.tasks ≡ vec_len l.initial.tasks;
  done : (k : ℕ) (d : Followed) → k < l.number → Forgets l.boundary (slice_index_or l.initial.tasks.items k d) (slice_index_or l.tasks.items k d);
  rest : (k : ℕ) (d : Followed) → l.number ≤ k → slice_index_or l.tasks.items k d ≡ slice_index_or l.initial.tasks.items k d;
}
