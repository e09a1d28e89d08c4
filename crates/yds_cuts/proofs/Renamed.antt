-- Slots with other names for their jobs run as they did, and spend as much.
use Rattle.yds_model.proofs.Common.{◌≡◌, ℕ, ◌-◌, ◌*◌, ◌<◌, ◌==◌, List, [], ◌∷◌, length, map, refl, sym, ap, arith, inl, inr, if◌then◌else◌, ℤ, All, All-head, All-tail, cases_eq, eq-eqb, ne_eqb, sum_by-cons, sum_by-map, Job, job_at, WholeSlot, work_given, RunFrom, IsInWindow, Point, busy, SpendsAtPoints, part_other}
use Rattle.yds_energy.proofs.HullCosts.{power_of}

-- the slot of the job with another name
abbrev pub renamed : (ℕ → ℕ) → WholeSlot → WholeSlot
renamed name slot = record { job = name slot.job; from = slot.from; to = slot.to; work = slot.work }

module _ (name : ℕ → ℕ) where
  pub run_renamed : (start : ℕ) (slots : List WholeSlot) → RunFrom start slots → RunFrom start (map (renamed name) slots)
  run_renamed start [] run = tt
  run_renamed start (slot ∷ slots) run = (run.0, run.1, run_renamed slot.to slots run.2)

  -- and before
  pub run_with_own_names : (start : ℕ) (slots : List WholeSlot) → RunFrom start (map (renamed name) slots) → RunFrom start slots
  run_with_own_names start [] run = tt
  run_with_own_names start (slot ∷ slots) run = (run.0, run.1, run_with_own_names slot.to slots run.2)

  pub busy_renamed : (slots : List WholeSlot) → busy (map (renamed name) slots) ≡ busy slots
  busy_renamed slots = sum_by-map (renamed name) (λ slot. slot.to - slot.from) slots

  pub spends_renamed : (points : List Point) (slots : List WholeSlot) (spent : ℕ) → SpendsAtPoints points slots spent →
      SpendsAtPoints points (map (renamed name) slots) spent
  spends_renamed points [] spent is = is
  spends_renamed points (slot ∷ slots) spent (point, rest, known, at, others, sum) = (point, rest, known, at, spends_renamed points slots rest others, sum)

  pub powers_renamed : (points : List Point) (slots : List WholeSlot) → map (power_of points) (map (renamed name) slots) ≡ map (power_of points) slots
  powers_renamed points [] = refl
  powers_renamed points (slot ∷ slots) = ap (λ (rest : List ℤ). power_of points slot ∷ rest) (powers_renamed points slots)

  -- # Windows and works

  -- a window of a job is one of the job that has another name
  pub window_renamed : (own jobs : List Job) (scale : ℕ) (slot : WholeSlot) → name slot.job < length jobs → job_at jobs (name slot.job) ≡ job_at own slot.job →
      IsInWindow own scale slot → IsInWindow jobs scale (renamed name slot)
  window_renamed own jobs scale slot known same is = record {
    known = known;
    released = omega (arith, is.released, ap (λ (job : Job). job.release * scale) same);
    due = omega (arith, is.due, ap (λ (job : Job). job.deadline * scale) same);
  }

  -- and before
  pub window_with_own_name : (own jobs : List Job) (scale : ℕ) (slot : WholeSlot) → slot.job < length own → job_at jobs (name slot.job) ≡ job_at own slot.job →
      IsInWindow jobs scale (renamed name slot) → IsInWindow own scale slot
  window_with_own_name own jobs scale slot known same is = record {
    known = known;
    released = omega (arith, is.released, ap (λ (job : Job). job.release * scale) same);
    due = omega (arith, is.due, ap (λ (job : Job). job.deadline * scale) same);
  }

  -- the job has just this name
  abbrev pub HasName : ℕ → ℕ → WholeSlot → Type 0
  HasName number own slot = (name slot.job ≡ number → slot.job ≡ own) × (slot.job ≡ own → name slot.job ≡ number)

  -- a job gets under another name what it got
  pub given_renamed : (number own : ℕ) (slots : List WholeSlot) → All (HasName number own) slots → work_given (map (renamed name) slots) number ≡ work_given slots own
  given_renamed number own [] are = refl
  given_renamed number own (slot ∷ slots) are = omega (
    arith,
    sum_by-cons (λ (one : WholeSlot). if number == one.job then one.work else 0) (renamed name slot) (map (renamed name) slots),
    sum_by-cons (λ (one : WholeSlot). if own == one.job then one.work else 0) slot slots,
    here slot (All-head (HasName number own) slot slots are),
    given_renamed number own slots (All-tail (HasName number own) slot slots are),
  )
    where
      here : (slot : WholeSlot) → HasName number own slot → (if number == name slot.job then slot.work else 0) ≡ (if own == slot.job then slot.work else 0)
      here slot has = elim (cases_eq own slot.job) [
        | inl same ↦ rw (eq-eqb own slot.job same, eq-eqb number (name slot.job) (sym (has.1 (sym same)))) refl
        | inr other ↦ rw (ne_eqb own slot.job other, ne_eqb number (name slot.job) (λ is. other (sym (has.0 (sym is))))) refl
      ]

-- slots of other jobs give a job nothing
pub given_none : (number : ℕ) (slots : List WholeSlot) → All (λ slot. number ≡ slot.job → ⊥) slots → work_given slots number ≡ 0
given_none number [] others = refl
given_none number (slot ∷ slots) others = omega (
  arith,
  sum_by-cons (λ (one : WholeSlot). if number == one.job then one.work else 0) slot slots,
  part_other number slot.job slot.work (All-head (λ one. number ≡ one.job → ⊥) slot slots others),
  given_none number slots (All-tail (λ one. number ≡ one.job → ⊥) slot slots others),
)
