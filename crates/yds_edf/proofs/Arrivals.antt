-- What an engine keeps as jobs arrive: their units come to their places.
use Rattle.yds_model.proofs.Common.{rules, ◌≡◌, ℕ, ◌+◌, ◌-◌, ◌*◌, ◌<◌, ◌≤◌, true, List, length, set, slice_index, slice_index_or, ◌∙◌, sym, arith, inl, inr, ap, cond, length-set, nat_lt, Option, Some, None, IsNonDecreasingBy, cases_lt, cases_eq, lt-ltb, le-ltb, leb-true, true≢false, mul-le-mul, get_or_read, Job, no_job}
use Rattle.yds_edf.specs.declared.due_order.Due.{Due}
use Rattle.yds_edf.specs.declared.pending.PendingJobs.{PendingJobs}
use Rattle.yds_edf.specs.DueOrder.{no_due, due_at}
use Rattle.yds_edf.specs.Pending.{units_wanted, is_within}
use Rattle.base.specs.Numbers.{sum_below}
use Rattle.yds_edf.specs.Queue.{units_left, IsNoEarlier}
use Rattle.yds_edf.specs.Engine.{TiedQueue, IsTiedQueue, AreArrived, HaveArrived}
use Rattle.model_lemmas.proofs.SumsBelow.{sum_below_bound}
use Rattle.yds_edf.proofs.JobPlaces.{all_placed, entry_at, apart, placed_at, places_apart, ranked_with}
use Rattle.yds_edf.proofs.Steps.{changed_here, changed_elsewhere}

-- the units that all jobs want are within the words of 64 bits
pub wanted_bound : (tied : TiedQueue) → IsTiedQueue tied →
    sum_below (length tied.queue.jobs) (units_wanted tied.queue.jobs tied.queue.grain) ≤ 4000000000000000000
wanted_bound tied kept = omega (
  arith,
  kept.few,
  sum_below_bound (length tied.queue.jobs) 1000000000000000 (units_wanted tied.queue.jobs tied.queue.grain)
      (λ k within. mul-le-mul (kept.jobs k no_job within).work_in_range kept.grain_in_range),
)

-- what had arrived was released by any later time
pub within_later : (last : Option ℕ) (time release : ℕ) → IsNoEarlier last time → is_within last release ≡ true → release ≤ time
within_later None time release later arrived = absurd (true≢false (sym arrived))
within_later (Some last) time release later arrived = omega (arith, leb-true release last arrived, later)

-- the next job arrives
module _ {tied : TiedQueue} {arrivals : List Due} {arrived : ℕ} {pending : PendingJobs} (jobs : AreArrived tied arrivals arrived pending)
    (inside : arrived < length arrivals) where
  abbrev pub next : ℕ
  next = (due_at arrivals arrived).job

  abbrev at : ℕ
  at = slice_index pending.places.items next

  pub next_known : next < length tied.queue.jobs
  next_known = (entry_at tied.queue.jobs tied.ties arrivals jobs.same arrived inside).known

  pub place_known : at < length pending.units
  place_known = omega (arith, (placed_at jobs.ranked next next_known).0, jobs.ranked.all_units)

  abbrev units : List ℕ
  units = set pending.units at (units_left tied.queue next)

  placed_next : (k : ℕ) → k < length arrivals →
      slice_index units (slice_index pending.places.items (due_at arrivals k).job) ≡ cond (nat_lt k (arrived + 1)) (units_left tied.queue (due_at arrivals k).job) 0
  placed_next k within = elim (cases_eq k arrived) [
    | inl same ↦ rw (same, lt-ltb arrived (arrived + 1) (omega arith)) (changed_here pending.units at (units_left tied.queue next) place_known)
    | inr other ↦
        let entry = entry_at tied.queue.jobs tied.ties arrivals jobs.same k within in
        changed_elsewhere pending.units at (slice_index pending.places.items (due_at arrivals k).job) (units_left tied.queue next)
        (λ is. other (apart tied.queue.jobs tied.ties arrivals jobs.same k arrived within inside
        (places_apart jobs.ranked (due_at arrivals k).job next entry.known next_known is)))
        ∙ jobs.placed k within
        ∙ ap {B = ℕ} (λ b. cond b (units_left tied.queue (due_at arrivals k).job) 0) (elim (cases_lt k arrived) [
          | inl before ↦ lt-ltb k arrived before ∙ sym (lt-ltb k (arrived + 1) (omega (arith, before)))
          | inr later ↦ le-ltb k arrived later ∙ sym (le-ltb k (arrived + 1) (omega (arith, later, other)))
        ])
  ]

  pub one_arrived : AreArrived tied arrivals (arrived + 1) (record pending { units = units })
  one_arrived = grind (arith, length-set, placed_next, ranked_with)

-- what `arrive` reads of the next job: its entry, its row, the units that it was served, and those that are left of it
module _ {tied : TiedQueue} {arrivals : List Due} {arrived : ℕ} {pending : PendingJobs} (kept : IsTiedQueue tied) (jobs : AreArrived tied arrivals arrived pending)
    (inside : arrived < length arrivals) {due : Due} (due_is : due ≡ slice_index_or arrivals arrived due) where
  pub due_read : due ≡ due_at arrivals arrived
  due_read = get_or_read arrivals arrived due inside due_is no_due

  job_read : due.job ≡ next jobs inside
  job_read = ap (λ (due : Due). due.job) due_read

  pub job_known : (due.job < length tied.queue.jobs) × (due.job < length tied.queue.served)
  job_known = (omega (arith, job_read, next_known jobs inside), omega (arith, job_read, next_known jobs inside, kept.served))

  pub place_read : (due.job < length pending.places.items) × (slice_index pending.places.items due.job < length pending.units)
  place_read = search (arith, rules, all_placed, job_known, job_read, place_known, slice_index)

  module _ {row : Job} {now : ℕ} (row_is : row ≡ slice_index_or tied.queue.jobs due.job row) (now_is : now ≡ slice_index_or tied.queue.served due.job now) where
    left_read : row.work * tied.queue.grain - now ≡ units_left tied.queue due.job
    left_read = grind (arith, get_or_read, job_known)

    pub now_within : now ≤ row.work * tied.queue.grain
    now_within = grind (arith, get_or_read, job_known)

    pub arrived_read : (left : ℕ) (new : PendingJobs) → left ≡ row.work * tied.queue.grain - now →
        new ≡ record pending { units = set pending.units (slice_index pending.places.items due.job) left } → AreArrived tied arrivals (arrived + 1) new
    arrived_read left new left_is new_is = rw (new_is, left_is ∙ left_read, job_read) (one_arrived jobs inside)

-- once the next job is released later, all that are released by the time have arrived
pub all_come : (time : ℕ) (arrivals : List Due) (arrived : ℕ) → IsNonDecreasingBy (λ due. due.release) arrivals → arrived ≤ length arrivals →
    ((k : ℕ) → k < arrived → (due_at arrivals k).release ≤ time) →
    (arrived < length arrivals → time < (due_at arrivals arrived).release) → HaveArrived (Some time) arrivals arrived
all_come time arrivals arrived rising within before next = grind arith
