use Rattle.yds_model.proofs.Common.{◌≡◌, ℕ, ◌-◌, ◌<◌, ◌≤◌, ◌⊎◌, length, slice_index}
use Rattle.yds_edf.specs.DueOrder.{due_at}
use Rattle.yds_oa.proofs.walk.first_due.Given as goal

abbrev pub invariant-loop-start : goal.invariant-loop-start
invariant-loop-start l = record {
  within : l.start ≤ length l.jobs.order.items;
  before : (place : ℕ) → place < l.start → ((due_at l.jobs.order.items place).deadline ≤ l.from) ⊎ (slice_index l.jobs.units place ≡ 0);
}

abbrev pub decreases-loop-start : goal.decreases-loop-start
decreases-loop-start l = length l.jobs.order.items - l.start
