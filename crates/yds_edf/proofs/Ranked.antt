-- What an engine's places say of its jobs: how much of each is pending, and which of them is due first.
use Rattle.yds_model.proofs.Common.{◌≡◌, ℕ, ◌<◌, ◌≤◌, ◌⊎◌, List, length, slice_index, ◌∙◌, refl, sym, subst, arith, inl, inr, ap, cond, nat_lt, cases_lt, cases_order, lt-ltb, le-ltb, job_at}
use Rattle.yds_edf.specs.declared.due_order.Due.{Due}
use Rattle.yds_edf.specs.declared.pending.PendingJobs.{PendingJobs}
use Rattle.yds_edf.specs.Blocks.{units_before, IsFirstPlace}
use Rattle.yds_edf.specs.DueOrder.{due_at}
use Rattle.yds_edf.specs.Serving.{IsDueBefore}
use Rattle.yds_edf.specs.Queue.{pending_in, all_pending, units_left}
use Rattle.yds_edf.specs.Ranked.{IsFresh, ArePendingIn}
use Rattle.yds_edf.specs.Engine.{TiedQueue, IsEngine}
use Rattle.model_lemmas.proofs.SumsBelow.{sum_below_same, sum_below_term}
use Rattle.yds_edf.proofs.JobPlaces.{entry_at, stands_at, placed_at, sum_in_order}

module _ {tied : TiedQueue} {arrivals : List Due} {arrived : ℕ} {pending : PendingJobs} (engine : IsEngine tied arrivals arrived pending) where
  -- the units at a job's place are those that are pending of it
  pub units_at : (job : ℕ) → job < length tied.queue.jobs →
      slice_index pending.units (slice_index pending.places.items job) ≡ pending_in tied.queue job
  units_at job known =
      let at = stands_at tied.queue.jobs tied.ties arrivals engine.jobs.same job known in
      let entry = entry_at tied.queue.jobs tied.ties arrivals engine.jobs.same at.0 at.1 in
      let here : slice_index pending.units (slice_index pending.places.items job) ≡ cond (nat_lt at.0 arrived) (units_left tied.queue job) 0 =
      subst (λ j. slice_index pending.units (slice_index pending.places.items j) ≡ cond (nat_lt at.0 arrived) (units_left tied.queue j) 0) at.2
      (engine.jobs.placed at.0 at.1) in
      let release : (job_at tied.queue.jobs job).release ≡ (due_at arrivals at.0).release =
      ap (λ j. (job_at tied.queue.jobs j).release) (sym at.2) ∙ sym entry.release in
      elim (cases_lt at.0 arrived) [
        | inl first ↦ here ∙ rw (lt-ltb at.0 arrived first, release, engine.come.before at.0 first) refl
        | inr later ↦ here ∙ rw (le-ltb at.0 arrived later, release, engine.come.after at.0 later at.1) refl
      ]

  pub fresh_at : (place : ℕ) → place < length pending.order.items → IsFresh tied.queue pending place
  fresh_at place within =
      ap (slice_index pending.units) (sym (engine.jobs.ranked.places place within))
      ∙ units_at (due_at pending.order.items place).job (entry_at tied.queue.jobs tied.ties pending.order.items engine.jobs.ranked.order.same place within).known

  pub are_pending : ArePendingIn tied.queue pending
  are_pending = record { ties = tied.ties; order = engine.jobs.ranked.order; all_units = engine.jobs.ranked.all_units; fresh = fresh_at }

  -- the units at all places are all that are pending
  pub units_tell : units_before pending.units (length pending.units) ≡ all_pending tied.queue
  units_tell =
      ap (units_before pending.units) engine.jobs.ranked.all_units
      ∙ sum_below_same (length pending.order.items) (slice_index pending.units) (λ place. pending_in tied.queue (due_at pending.order.items place).job) fresh_at
      ∙ sum_in_order tied.queue.jobs tied.ties pending.order.items engine.jobs.ranked.order.same (pending_in tied.queue)

  -- what is pending of a job of which some units are is what is left of it
  pub pending_is_left : (job : ℕ) → 1 ≤ pending_in tied.queue job → pending_in tied.queue job ≡ units_left tied.queue job
  pending_is_left job some = grind arith

  -- the job at the first place with units is due first among those with pending units
  pub first_is_due : (place : ℕ) → IsFirstPlace pending.units place → (other : ℕ) → other < length tied.queue.jobs → 1 ≤ pending_in tied.queue other →
      ((due_at pending.order.items place).job ≡ other) ⊎ IsDueBefore tied.queue.jobs (slice_index tied.ties) (due_at pending.order.items place).job other
  first_is_due place first other known some =
      let at = slice_index pending.places.items other in
      let placed = placed_at engine.jobs.ranked other known in
      elim (cases_order place at) [
        | inl same ↦ inl (ap (λ p. (due_at pending.order.items p).job) same ∙ placed.1)
        | inr (inl before) ↦ inr (subst (IsDueBefore tied.queue.jobs (slice_index tied.ties) (due_at pending.order.items place).job) placed.1
            (engine.jobs.ranked.in_turn place at before placed.0))
        | inr (inr after) ↦ absurd (omega (
          arith,
          some,
          units_at other known,
          first.none,
          sum_below_term place at (slice_index pending.units) after,
        ))
      ]
