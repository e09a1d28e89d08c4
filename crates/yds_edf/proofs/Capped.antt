-- Policies whose units don't depend on what is pending: a stretch serves them, or all that is pending.
use Rattle.yds_model.proofs.Common.{◌≡◌, ℕ, ◌*◌, ◌<◌, ◌≤◌, min, List, length, get_or, map, ◌∙◌, sym, subst, ap, arith, inl, inr, cond, Bool, nat_le, All, cases_Bool, get_or-map, All-from_get_or, All-contains, Contains-get_or, Each, Job, IsJob, no_job, job_at, WrittenSlot, IsScale, AtEachScale, slots_at, Piece, stretches, pending_at, pending_units, IsRunAt, stretch_at, AreSlotsOf}
use Rattle.yds_events.specs.Stretch.{no_stretch, IsOutside}
use Rattle.yds_events.proofs.Neighbours.{stretches_run, release_outside, deadline_outside}
use Rattle.yds_timetable.specs.Shares.{JobShare, units_given, total_units, shares_in}
use Rattle.yds_edf.specs.Pending.{units_wanted}
use Rattle.base.specs.Numbers.{sum_below}
use Rattle.yds_edf.specs.Serving.{IsServing}
use Rattle.yds_edf.specs.Demand.{capacity_at, IsWithinCapacity, AreUncut}
use Rattle.yds_edf.specs.Filled.{IsInTime}
use Rattle.yds_edf.specs.PolicyRun.{by_number, pending_before, IsServed, IsLaidOut, IsPolicyRun}
use Rattle.model_lemmas.proofs.SumsBelow.{sum_below_same, sum_numbers, sum_below-mul}
use Rattle.yds_edf.proofs.Demand.{in_window, in_full}
use Rattle.yds_edf.proofs.Filled.{stands_in}
use Rattle.yds_edf.proofs.Standing.{laid_solid}
use Rattle.yds_edf.proofs.RunAt.{pending_scaled, run_at}

-- no job is released or due inside a stretch
pub stretches_uncut : (jobs : List Job) → AreUncut jobs (stretches jobs)
stretches_uncut jobs = All-from_get_or (λ stretch. All (λ job. IsOutside stretch job.release × IsOutside stretch job.deadline) jobs) (stretches jobs) no_stretch
    (λ k within. All-from_get_or (λ job. IsOutside (stretch_at jobs k) job.release × IsOutside (stretch_at jobs k) job.deadline) jobs no_job
    (λ j known. (release_outside jobs j k known within, deadline_outside jobs j k known within)))

-- the lesser of two multiples
min_times : (k a b : ℕ) → min (k * a) (k * b) ≡ k * min b a
min_times k a b = grind arith

module _ (jobs : List Job) (grid : ℕ) (units : (ℕ → ℕ) → Piece → ℕ) (shares : List JobShare) (slots : List WrittenSlot) (some_grid : 1 ≤ grid)
    (served : IsServed jobs grid units shares) (laid : IsLaidOut jobs grid shares slots) where
  -- a released job's pending work at a scale, and one's that isn't released
  pub pending_term : (scale : ℕ) → IsScale scale slots → (k number : ℕ) → k < length (stretches jobs) →
      grid * cond (nat_le (job_at jobs number).release (stretch_at jobs k).from) (pending_at jobs scale (slots_at scale slots) (stretch_at jobs k).from number) 0
      ≡ scale * pending_before jobs grid shares k number
  pending_term scale is k number within = elim (cases_Bool (nat_le (job_at jobs number).release (stretch_at jobs k).from)) [
    | inl arrived ↦ rw arrived (pending_scaled jobs grid units shares slots some_grid served laid scale is k number within)
    | inr not_yet ↦ rw not_yet (omega arith)
  ]

  -- those of all released jobs together
  pub pending_together : (scale : ℕ) → IsScale scale slots → (k : ℕ) → k < length (stretches jobs) →
      pending_units jobs grid scale (slots_at scale slots) (stretch_at jobs k) ≡ scale * sum_below (length jobs) (pending_before jobs grid shares k)
  pending_together scale is k within =
      let from = (stretch_at jobs k).from in
      let term : ℕ → ℕ = λ job. pending_at jobs scale (slots_at scale slots) from job in
      ap (λ n. grid * n) (sum_numbers (λ job. nat_le (job_at jobs job).release from) term (length jobs))
      ∙ sym (sum_below-mul (length jobs) grid (λ job. cond (nat_le (job_at jobs job).release from) (term job) 0))
      ∙ sum_below_same (length jobs) (λ job. grid * cond (nat_le (job_at jobs job).release from) (term job) 0) (λ job. scale * pending_before jobs grid shares k job)
      (λ job known. pending_term scale is k job within)
      ∙ sum_below-mul (length jobs) scale (pending_before jobs grid shares k)

  -- a stretch serves the lesser of what is set and what is pending
  pub capped_serves : (set : Piece → ℕ) → Each (length (stretches jobs)) (λ k. units (pending_before jobs grid shares k) (stretch_at jobs k) ≡ set (stretch_at jobs k)) →
      (scale : ℕ) → IsScale scale slots → Each (length (stretches jobs)) (λ k.
      min (pending_units jobs grid scale (slots_at scale slots) (stretch_at jobs k)) (scale * set (stretch_at jobs k)) ≡ scale * total_units (shares_in shares k))
  capped_serves set are scale is k within =
      ap (λ n. min n (scale * set (stretch_at jobs k))) (pending_together scale is k within)
      ∙ min_times scale (sum_below (length jobs) (pending_before jobs grid shares k)) (set (stretch_at jobs k))
      ∙ ap (λ n. scale * min n (sum_below (length jobs) (pending_before jobs grid shares k))) (sym (are k within))
      ∙ ap (λ n. scale * n) (sym (served.serving k within).total)

  -- what the demand theorem says of the shares
  module _ (are : All IsJob jobs) (set : Piece → ℕ)
      (sets : Each (length (stretches jobs)) (λ k. units (pending_before jobs grid shares k) (stretch_at jobs k) ≡ set (stretch_at jobs k)))
      (enough : IsWithinCapacity jobs grid (stretches jobs) (map set (stretches jobs))) where
    capacity_is : (k : ℕ) → k < length (stretches jobs) → capacity_at (map set (stretches jobs)) k ≡ set (stretch_at jobs k)
    capacity_is k within = get_or-map set (stretches jobs) k no_stretch 0 within

    serving : Each (length (stretches jobs)) (λ k.
        IsServing jobs by_number (pending_before jobs grid shares k) (capacity_at (map set (stretches jobs)) k) (shares_in shares k))
    serving k within = subst (λ (n : ℕ). IsServing jobs by_number (pending_before jobs grid shares k) n (shares_in shares k))
        (sets k within ∙ sym (capacity_is k within)) (served.serving k within)

    pub in_time : All (IsInTime jobs (stretches jobs)) shares
    in_time k d within =
        let share = get_or shares k d in
        let here = served.known k d within in
        let window = All-contains
        (λ s. ((job_at jobs s.job).release ≤ (stretch_at jobs share.stretch).from) × ((stretch_at jobs share.stretch).to ≤ (job_at jobs s.job).deadline))
        (shares_in shares share.stretch) share
        (λ j e below. in_window jobs by_number grid (stretches jobs) (map set (stretches jobs)) shares are (stretches_run jobs) (stretches_uncut jobs) enough
        serving share.stretch j e here below)
        (stands_in shares share (Contains-get_or shares k d within)) in
        record { released = window.0; due = window.1 }

    pub all_units : Each (length jobs) (λ number. units_given shares number ≡ units_wanted jobs grid number)
    all_units = in_full jobs by_number grid (stretches jobs) (map set (stretches jobs)) shares are (stretches_run jobs) (stretches_uncut jobs) enough serving served.known

-- A run of a policy that sets such units, where the demand of the jobs is within them.
pub set_run : (jobs : List Job) (grid : ℕ) (units : (ℕ → ℕ) → Piece → ℕ) (rounds : (ℕ → ℕ) → Piece → Bool) (rounded : ℕ) (slots : List WrittenSlot)
    (set : Piece → ℕ) → All IsJob jobs → 1 ≤ grid → ((pending : ℕ → ℕ) (stretch : Piece) → units pending stretch ≡ set stretch) →
    IsWithinCapacity jobs grid (stretches jobs) (map set (stretches jobs)) → IsPolicyRun jobs grid units rounds rounded slots →
    AtEachScale slots (λ scale whole. IsRunAt jobs grid scale (λ stretch. min (pending_units jobs grid scale whole stretch) (scale * set stretch)) whole)
set_run jobs grid units rounds rounded slots set are some_grid sets enough run =
    let here = λ (k : ℕ) (within : k < length (stretches jobs)). sets (pending_before jobs grid run.shares k) (stretch_at jobs k) in
    record {
      solid = laid_solid jobs grid run.shares slots run.laid;
      holds = λ scale is. run_at jobs grid units run.shares slots some_grid run.served run.laid
          (in_time jobs grid units run.shares slots some_grid run.served run.laid are set here enough)
          (all_units jobs grid units run.shares slots some_grid run.served run.laid are set here enough) scale is
          (λ stretch. min (pending_units jobs grid scale (slots_at scale slots) stretch) (scale * set stretch))
          (capped_serves jobs grid units run.shares slots some_grid run.served run.laid set here scale is);
    }

-- the same of slots within the limits
pub capped_run : (jobs : List Job) (grid : ℕ) (units : (ℕ → ℕ) → Piece → ℕ) (rounds : (ℕ → ℕ) → Piece → Bool) (rounded : ℕ) (slots : List WrittenSlot)
    (set : Piece → ℕ) → All IsJob jobs → 1 ≤ grid → AreSlotsOf (length jobs) slots → ((pending : ℕ → ℕ) (stretch : Piece) → units pending stretch ≡ set stretch) →
    IsWithinCapacity jobs grid (stretches jobs) (map set (stretches jobs)) → IsPolicyRun jobs grid units rounds rounded slots →
    AtEachScale slots (λ scale whole. IsRunAt jobs grid scale (λ stretch. min (pending_units jobs grid scale whole stretch) (scale * set stretch)) whole)
capped_run jobs grid units rounds rounded slots set are some_grid limits sets enough run = set_run jobs grid units rounds rounded slots set are some_grid sets enough run
