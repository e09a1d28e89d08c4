use Rattle.base.proofs.Common.{◌≡◌, ℕ, ◌<◌, ◌≤◌, slice_index_or, vec_len}
use Rattle.yds_trace.specs.declared.followed.Followed.{Followed}
use Rattle.yds_trace.specs.Following.{IsTaken, pace_at}
use Rattle.yds_trace.specs.Steps.{pid_of}
use Rattle.yds_trace.proofs.followed.take_each.Given as goal

abbrev pub invariant-loop-number : goal.invariant-loop-number
invariant-loop-number l = record {
  many : vec_len l.tasks ≡ vec_len l.initial.tasks;
  done : (k : ℕ) (d : Followed) → k < l.number →
      IsTaken (pace_at l.asked k) l.wakes (pid_of k l.event.first) (pid_of k l.event.second) l.event.step (slice_index_or l.initial.tasks.items k d) (slice_index_or l.tasks.items k d);
  rest : (k : ℕ) (d : Followed) → l.number ≤ k → slice_index_or l.tasks.items k d ≡ slice_index_or l.initial.tasks.items k d;
}
