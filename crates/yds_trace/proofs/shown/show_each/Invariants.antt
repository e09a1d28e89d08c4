use Rattle.base.proofs.Common.{◌≡◌, ℕ, ◌<◌, List, slice_index_or, vec_len}
use Rattle.yds_kernel.specs.Event.{Said}
use Rattle.yds_trace.specs.Asked.{Start}
use Rattle.yds_trace.specs.declared.followed.Followed.{Followed}
use Rattle.yds_trace.specs.declared.shown.ShownTask.{ShownTask}
use Rattle.yds_trace.specs.Following.{Shows}
use Rattle.yds_trace.specs.Kept.{IsPast}
use Rattle.yds_trace.proofs.shown.show_each.Given as goal

abbrev pub invariant-loop-followed : goal.invariant-loop-followed
invariant-loop-followed l = record {
  many : vec_len l.shown ≡ l.followed-index;
  each : (start : Start) (counting : List Said) → IsPast start counting l.past → (k : ℕ) (d : ShownTask) (e : Followed) → k < l.followed-index →
      Shows l.until start counting (slice_index_or l.tasks k e) (slice_index_or l.shown.items k d);
}
