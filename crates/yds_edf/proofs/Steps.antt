-- What serving the job at the first place with units keeps of an engine.
use Rattle.yds_model.proofs.Common.{rules, ◌≡◌, ◌≢◌, ℕ, ◌+◌, ◌-◌, ◌<◌, ◌≤◌, min, List, length, set, slice_index, slice_index_or, slice_set, ◌∙◌, refl, sym, arith, inl, inr, ap, cond, length-set, get_or-set_other, get_or-set_same, nat_lt, cases_eq, cases_lt, lt-ltb, le-ltb, get_or_read, mul-le-mul, no_job}
use Rattle.yds_edf.specs.declared.due_order.Due.{Due}
use Rattle.yds_edf.specs.declared.pending.PendingJobs.{PendingJobs}
use Rattle.yds_edf.specs.Blocks.{IsFirstPlace}
use Rattle.yds_edf.specs.DueOrder.{due_at}
use Rattle.yds_edf.specs.Pending.{units_wanted}
use Rattle.yds_edf.specs.Queue.{pending_in, units_left}
use Rattle.yds_edf.specs.Engine.{TiedQueue, IsTiedQueue, IsEngine, with_served, ServesFirst}
use Rattle.yds_edf.proofs.JobPlaces.{entry_at, placed_at, ranked_with}
use Rattle.yds_edf.proofs.Ranked.{fresh_at, pending_is_left, first_is_due}

-- the number at a place, once that at a place was changed
pub changed_here : (xs : List ℕ) (i v : ℕ) → i < length xs → slice_index (slice_set xs i v) i ≡ v
changed_here xs i v within = get_or-set_same xs i v 0 within

pub changed_elsewhere : (xs : List ℕ) (i j v : ℕ) → j ≢ i → slice_index (slice_set xs i v) j ≡ slice_index xs j
changed_elsewhere xs i j v other = get_or-set_other xs i j v 0 other

module _ {tied : TiedQueue} {arrivals : List Due} {arrived : ℕ} {pending : PendingJobs} (engine : IsEngine tied arrivals arrived pending)
    {place : ℕ} (first : IsFirstPlace pending.units place) where
  abbrev pub job : ℕ
  job = (due_at pending.order.items place).job

  within : place < length pending.order.items
  within = omega (arith, first.known, engine.jobs.ranked.all_units)

  pub job_known : job < length tied.queue.jobs
  job_known = (entry_at tied.queue.jobs tied.ties pending.order.items engine.jobs.ranked.order.same place within).known

  pub job_read : (due : Due) → due ≡ slice_index_or pending.order.items place due → (due.job ≡ job) × (due.job < length tied.queue.served)
  job_read due is = grind (arith, get_or_read, job_known, within)

  -- the units at the place are what is pending of its job, and all that is left of it
  pub is_pending : slice_index pending.units place ≡ pending_in tied.queue job
  is_pending = fresh_at engine place within

  pub is_left : slice_index pending.units place ≡ units_left tied.queue job
  is_left = is_pending ∙ pending_is_left engine job (omega (arith, is_pending, first.some))

  module _ (more : ℕ) (enough : more ≤ slice_index pending.units place) where
    abbrev units : List ℕ
    units = set pending.units place (slice_index pending.units place - more)

    left_here : units_left (with_served tied job more).queue job ≡ slice_index pending.units place - more
    left_here = grind (arith, changed_here, is_left, job_known, slice_index)

    left_elsewhere : (number : ℕ) → number ≢ job → units_left (with_served tied job more).queue number ≡ units_left tied.queue number
    left_elsewhere number other =
        ap (λ n. units_wanted tied.queue.jobs tied.queue.grain number - n) (changed_elsewhere tied.queue.served job number _ other)

    kept_after : IsTiedQueue (with_served tied job more)
    kept_after = grind (arith, cases_eq, changed_elsewhere, changed_here, is_left, job_known, length-set, slice_index, within)

    placed_after : (k : ℕ) → k < length arrivals →
        slice_index units (slice_index pending.places.items (due_at arrivals k).job)
        ≡ cond (nat_lt k arrived) (units_left (with_served tied job more).queue (due_at arrivals k).job) 0
    placed_after k inside =
        let number = (due_at arrivals k).job in
        let entry = entry_at tied.queue.jobs tied.ties arrivals engine.jobs.same k inside in
        elim (cases_eq number job) [
          | inl same ↦ elim (cases_lt k arrived) [
            | inl before ↦ rw (same, engine.jobs.ranked.places place within, lt-ltb k arrived before)
                (changed_here pending.units place (slice_index pending.units place - more) first.known ∙ sym left_here)
            | inr later ↦
                let none : slice_index pending.units place ≡ 0 =
                ap (slice_index pending.units) (sym (engine.jobs.ranked.places place within) ∙ ap (slice_index pending.places.items) (sym same))
                ∙ engine.jobs.placed k inside ∙ ap {B = ℕ} (λ b. cond b (units_left tied.queue number) 0) (le-ltb k arrived later) in
                absurd (omega (arith, none, first.some))
          ]
          | inr other ↦
              changed_elsewhere pending.units place (slice_index pending.places.items number) (slice_index pending.units place - more)
              (λ is. other (sym (placed_at engine.jobs.ranked number entry.known).1 ∙ ap (λ p. (due_at pending.order.items p).job) is))
              ∙ engine.jobs.placed k inside
              ∙ ap (λ n. cond (nat_lt k arrived) n 0) (sym (left_elsewhere number other))
        ]

    pub served_some : IsEngine (with_served tied job more) arrivals arrived (record pending { units = units })
    served_some = grind (arith, kept_after, length-set, placed_after, ranked_with, slice_index)

  pub serves_first : (room more : ℕ) → 1 ≤ room → more ≡ min (slice_index pending.units place) room → ServesFirst tied (with_served tied job more) room job more
  serves_first room more some is = search (arith, rules, first_is_due, is_pending, job_known)

-- what `serve_first` reads: the entry at the place, the units there, how many of them are served, and those that the job was served
-- before; and the units that it leaves
pub record Reads (tied : TiedQueue) (pending : PendingJobs) (room place : ℕ) (due : Due) (left more now : ℕ) (units : List ℕ) : Type 0 where
  pub first : IsFirstPlace pending.units place
  pub some : 1 ≤ room
  pub due_is : due ≡ slice_index_or pending.order.items place due
  pub left_is : left ≡ slice_index pending.units place
  pub more_is : more ≡ min left room
  pub now_is : now ≡ slice_index_or tied.queue.served due.job now
  pub units_are : units ≡ set pending.units place (left - more)

module _ {tied : TiedQueue} {arrivals : List Due} {arrived : ℕ} {pending : PendingJobs} (engine : IsEngine tied arrivals arrived pending)
    {room place : ℕ} {due : Due} {left more now : ℕ} {units : List ℕ} (reads : Reads tied pending room place due left more now units) where
  read : due.job ≡ job engine reads.first
  read = (job_read engine reads.first due reads.due_is).0

  now_read : now ≡ slice_index tied.queue.served (job engine reads.first)
  now_read =
      get_or_read tied.queue.served due.job now (job_read engine reads.first due reads.due_is).1 reads.now_is 0
      ∙ ap (slice_index tied.queue.served) read

  pub now_fits : now + more ≤ 1000000000000000
  now_fits = omega (
    arith,
    now_read,
    reads.more_is,
    reads.left_is,
    is_left engine reads.first,
    engine.kept.within (job engine reads.first) (job_known engine reads.first),
    mul-le-mul (engine.kept.jobs (job engine reads.first) no_job (job_known engine reads.first)).work_in_range engine.kept.grain_in_range,
  )

  -- the queue as it is written back
  abbrev written : TiedQueue
  written = record { queue = record tied.queue { served = slice_set tied.queue.served due.job (now + more) }; ties = tied.ties }

  served_more : with_served tied (job engine reads.first) more ≡ written
  served_more = rw (read, now_read) refl

  pub kept_read : IsEngine written arrivals arrived (record pending { units = units })
  kept_read = rw (← served_more, reads.units_are, reads.left_is)
      (served_some engine reads.first more (omega (arith, reads.more_is, reads.left_is)))

  pub serves_read : ServesFirst tied written room due.job more
  serves_read = rw (← served_more, read) (serves_first engine reads.first room more reads.some (omega (arith, reads.more_is, reads.left_is)))
