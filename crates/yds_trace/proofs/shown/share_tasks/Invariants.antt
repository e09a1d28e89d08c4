use Rattle.base.proofs.Common.{◌≡◌, ℕ, ◌<◌, get_or, vec_len}
use Rattle.yds_trace.specs.declared.shown.ShownTask.{ShownTask}
use Rattle.yds_trace.specs.Following.{Shares}
use Rattle.yds_trace.specs.Views.{asked_read}
use Rattle.yds_trace.proofs.shown.share_tasks.Given as goal

abbrev pub invariant-loop-task : goal.invariant-loop-task
invariant-loop-task l = record {
  many : vec_len l.all ≡ l.task-index;
  each : (k : ℕ) (default was : ShownTask) → k < l.task-index → Shares (asked_read l.asked) (get_or l.tasks k was) (get_or l.all.items k default);
}
