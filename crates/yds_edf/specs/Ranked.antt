-- The jobs in the order in which they are served, with the units that are pending of each.
use Rattle.std.specs.Prelude.{◌≡◌, ℕ, ◌<◌, List, length, slice_index}
use Rattle.base.specs.Numbers.{Each}
use Rattle.yds_model.specs.Job.{Job}
use Rattle.yds_edf.specs.declared.pending.PendingJobs.{PendingJobs}
use Rattle.yds_edf.specs.DueOrder.{due_at, AreByDeadline}
use Rattle.yds_edf.specs.Serving.{IsDueBefore}
use Rattle.yds_edf.specs.Queue.{JobQueue, pending_in}

-- they stand in order of deadline and tie, and each job's place is told
pub record AreRanked (jobs : List Job) (ties : List ℕ) (pending : PendingJobs) : Type 0 where
  pub order : AreByDeadline jobs ties pending.order.items
  pub in_turn : (place other : ℕ) → place < other → other < length pending.order.items →
      IsDueBefore jobs (slice_index ties) (due_at pending.order.items place).job (due_at pending.order.items other).job
  pub places : Each (length pending.order.items) (λ place. slice_index pending.places.items (due_at pending.order.items place).job ≡ place)
  pub all_places : length pending.places.items ≡ length pending.order.items
  pub all_units : length pending.units ≡ length pending.order.items

-- the units at a place are those that are pending of its job
abbrev pub IsFresh : JobQueue → PendingJobs → ℕ → Type 0
IsFresh queue pending place = slice_index pending.units place ≡ pending_in queue (due_at pending.order.items place).job

-- all jobs of the queue in order of their deadlines, with their pending units
pub record ArePendingIn (queue : JobQueue) (pending : PendingJobs) : Type 0 where
  pub ties : List ℕ
  pub order : AreByDeadline queue.jobs ties pending.order.items
  pub all_units : length pending.units ≡ length pending.order.items
  pub fresh : Each (length pending.order.items) (IsFresh queue pending)
