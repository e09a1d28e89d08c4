-- A run of Optimal Available that never rounded, as the laws of its spending use it, and its slots by stretches.
use Rattle.yds_model.proofs.Common.{◌≡◌, ℕ, ◌-◌, ◌*◌, ◌<◌, ◌≤◌, ◌⊎◌, List, length, cond, arith, inl, inr, All, sum_by, cond-true, mul-le-mul_right, Job, job_at, WrittenSlot, WholeSlot, no_slot, slot_at, IsScale, slots_at, IsFeasibleAt, stretches, LiesIn, IsUncut, IsEarliestFirst, IsOptimalAvailableRun, optimal_available, work_in, stretch_at, sum_by-filter}
use Rattle.model_lemmas.proofs.Runs.{run_forward}
use Rattle.yds_events.specs.Stretch.{no_stretch}
use Rattle.yds_events.specs.Window.{length_at}
use Rattle.yds_events.proofs.Neighbours.{release_outside}
use Rattle.yds_laws.proofs.ExactRuns.{optimal_available_is_exact}
use Rattle.yds_energy.proofs.SpentEnergy.{IsEven}
use Rattle.yds_energy.proofs.EvenStretches.{run_even}
use Rattle.yds_energy.proofs.StretchSlots.{lies, lies_passes}
use Rattle.yds_ratios.proofs.LaterWork.{later_work, most_due, some_due}

-- what the slots do in the stretch at a place
abbrev pub work_at : List Job → ℕ → List WholeSlot → ℕ → ℕ
work_at jobs scale slots k = work_in scale (stretch_at jobs k) slots

-- What is used of the run, at a scale: the schedule is feasible and served earliest deadline first; a stretch has one speed; no time asks
-- more of what is pending than that, and where something is done, one asks just that.
pub record IsExactRun (jobs : List Job) (scale : ℕ) (slots : List WholeSlot) : Type 0 where
  pub positive : 1 ≤ scale
  pub feasible : IsFeasibleAt jobs scale slots
  pub earliest : IsEarliestFirst jobs scale slots
  pub uncut : All (IsUncut jobs scale) slots
  pub even : All (IsEven scale slots) (stretches jobs)
  pub most : (k D : ℕ) → k < length (stretches jobs) → (stretch_at jobs k).from < D →
      later_work jobs scale slots (stretch_at jobs k).from D * length_at jobs k ≤ work_at jobs scale slots k * (D - (stretch_at jobs k).from)
  pub attained : (k : ℕ) → k < length (stretches jobs) → (work_at jobs scale slots k ≡ 0)
      ⊎ ((D : ℕ) × ((stretch_at jobs k).to ≤ D)
      × (later_work jobs scale slots (stretch_at jobs k).from D * length_at jobs k ≡ work_at jobs scale slots k * (D - (stretch_at jobs k).from)))

-- a run that never rounded is such a one at each of its scales
pub exact_run : (jobs : List Job) (grid : ℕ) (slots : List WrittenSlot) → 1 ≤ grid → IsOptimalAvailableRun jobs grid 0 slots → (scale : ℕ) → IsScale scale slots →
    IsExactRun jobs scale (slots_at scale slots)
exact_run jobs grid slots some run scale is =
    let whole : List WholeSlot = slots_at scale slots in
    let runs = run.run.holds scale is in
    let exact = (optimal_available_is_exact jobs grid slots some run).holds scale is in
    record {
      positive = is.positive;
      feasible = runs.feasible;
      earliest = runs.served.earliest_first;
      uncut = runs.served.uncut;
      even = run_even jobs grid scale (optimal_available jobs grid scale whole) whole is.positive runs;
      most = λ k D here after. most_due jobs scale is.positive whole runs.feasible runs.served.uncut k here grid some (exact k no_stretch here) D after;
      attained = λ k here. some_due jobs scale is.positive whole runs.feasible runs.served.uncut k here grid some (exact k no_stretch here);
    }

-- # A run's slots

-- the stretch is faster than p/q
abbrev pub IsFast : List Job → ℕ → List WholeSlot → ℕ → ℕ → ℕ → Type 0
IsFast jobs scale slots p q k = p * (length_at jobs k * scale) < q * work_at jobs scale slots k

-- or isn't
abbrev pub IsSlow : List Job → ℕ → List WholeSlot → ℕ → ℕ → ℕ → Type 0
IsSlow jobs scale slots p q k = q * work_at jobs scale slots k ≤ p * (length_at jobs k * scale)

-- what a slot adds to what is done in a stretch
abbrev pub part_in : List Job → ℕ → ℕ → WholeSlot → ℕ
part_in jobs scale k slot = cond (lies scale (stretch_at jobs k) slot) slot.work 0

-- together that is what is done
pub work_is : (jobs : List Job) (scale : ℕ) (slots : List WholeSlot) (k : ℕ) → work_at jobs scale slots k ≡ sum_by (part_in jobs scale k) slots
work_is jobs scale slots k = sum_by-filter (lies scale (stretch_at jobs k)) (λ (slot : WholeSlot). slot.work) slots

-- a slot that lies there adds its work
pub in_part : (jobs : List Job) (scale k : ℕ) (slot : WholeSlot) → LiesIn scale slot (stretch_at jobs k) → part_in jobs scale k slot ≡ slot.work
in_part jobs scale k slot there = cond-true {A = ℕ} (lies scale (stretch_at jobs k) slot) slot.work 0 (lies_passes scale (stretch_at jobs k) slot there)

module _ (jobs : List Job) (scale : ℕ) (slots : List WholeSlot) (run : IsExactRun jobs scale slots) where
  -- a slot takes time
  pub takes_time : (s : ℕ) → s < length slots → (slot_at slots s).from < (slot_at slots s).to
  takes_time s within = run_forward 0 slots run.feasible.one_at_a_time s no_slot within

  -- it is one of a job
  pub known : (s : ℕ) → s < length slots → (slot_at slots s).job < length jobs
  known s within = (run.feasible.in_windows s no_slot within).known

  -- and that was released when its stretch began
  pub released_by : (k s : ℕ) → k < length (stretches jobs) → s < length slots → LiesIn scale (slot_at slots s) (stretch_at jobs k) →
      (job_at jobs (slot_at slots s).job).release ≤ (stretch_at jobs k).from
  released_by k s here within there =
      let window = run.feasible.in_windows s no_slot within in
      elim (release_outside jobs (slot_at slots s).job k window.known here) [
        | inl before ↦ before
        | inr after ↦ absurd (omega (arith, takes_time s within, window.released, there.to, mul-le-mul_right scale after))
      ]
