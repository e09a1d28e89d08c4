-- The grain of a job: the denominator of its works that aren't whole.
use Rattle.yds_model.proofs.Common.{◌≡◌, ℕ, ◌<◌, ◌≤◌, ◌⊎◌, inl, inr, List, [], ◌∷◌, ◌++◌, length, take, max, refl, sym, ◌∙◌, arith, ◌==◌, if◌then◌else◌, All, fold, slice_index_or, IsPermutation, All-permutation, ne_eqb, eq-eqb, fold_push, All-tail, All-weaker, get_or_default, get_or-take, length-take, WrittenSlot, written_slot_at, no_written_slot, AreSlots, grain_of, AreAlike}
use Rattle.model_lemmas.proofs.Grain.{grain_reached}
use Rattle.yds_slots.specs.Schedule.{FitsGrain}

-- the grain after one more slot
pub grain_pushed : (slots : List WrittenSlot) (slot : WrittenSlot) (job : ℕ) →
    grain_of (slots ++ slot ∷ []) job ≡ (if slot.job == job then max (grain_of slots job) slot.work.den else grain_of slots job)
grain_pushed slots slot job = fold_push (λ (grain : ℕ) (s : WrittenSlot). if s.job == job then max grain s.work.den else grain) 1 slots slot

pub grain_other : (slots : List WrittenSlot) (slot : WrittenSlot) (job : ℕ) → ¬ (slot.job ≡ job) → grain_of (slots ++ slot ∷ []) job ≡ grain_of slots job
grain_other slots slot job other = rw (grain_pushed slots slot job, ne_eqb slot.job job other) refl

pub grain_same : (slots : List WrittenSlot) (slot : WrittenSlot) (job : ℕ) → slot.job ≡ job → grain_of (slots ++ slot ∷ []) job ≡ max (grain_of slots job) slot.work.den
grain_same slots slot job same = rw (grain_pushed slots slot job, eq-eqb slot.job job same) refl

-- # A grain stays 1 for a job without slots

none_from : (job a : ℕ) (slots : List WrittenSlot) → All (λ slot. ¬ (slot.job ≡ job)) slots →
    fold (λ (grain : ℕ) (s : WrittenSlot). if s.job == job then max grain s.work.den else grain) a slots ≡ a
none_from job a [] none = refl
none_from job a (slot ∷ slots) none =
    let other = ne_eqb slot.job job (none 0 slot (omega arith)) in
    rw other (none_from job a slots (All-tail (λ slot. ¬ (slot.job ≡ job)) slot slots none))

pub grain_none : (slots : List WrittenSlot) (job : ℕ) → All (λ slot. ¬ (slot.job ≡ job)) slots → grain_of slots job ≡ 1
grain_none slots job none = none_from job 1 slots none

-- a slot that is in its job's grain is so after one more that fits
pub fits_on : (den grain more : ℕ) → 1 ≤ grain → (den ≡ 1) ⊎ (den ≡ grain) → (more ≡ 1) ⊎ ((grain ≡ 1) ⊎ (more ≡ grain)) → 1 ≤ more →
    (den ≡ 1) ⊎ (den ≡ max grain more)
fits_on den grain more some (inl whole) fits positive = inl whole
fits_on den grain more some (inr is) (inl whole) positive = inr (omega arith)
fits_on den grain more some (inr is) (inr (inl plain)) positive = inl (is ∙ plain)
fits_on den grain more some (inr is) (inr (inr same)) positive = inr (omega arith)

-- the new slot is in its job's grain
pub fits_in : (grain more : ℕ) → (more ≡ 1) ⊎ ((grain ≡ 1) ⊎ (more ≡ grain)) → 1 ≤ more → (more ≡ 1) ⊎ (more ≡ max grain more)
fits_in grain more (inl whole) positive = inl whole
fits_in grain more (inr (inl plain)) positive = inr (omega arith)
fits_in grain more (inr (inr same)) positive = inr (omega arith)

-- # A grain that isn't 1 is the denominator of one of the job's works

abbrev pub IsGrainOf : ℕ → ℕ → WrittenSlot → Type 0
IsGrainOf job grain slot = (slot.job ≡ job) × (grain ≡ slot.work.den)

pub grain_found : (slots : List WrittenSlot) (job : ℕ) →
    (grain_of slots job ≡ 1) ⊎ ((k : ℕ) × (k < length slots) × IsGrainOf job (grain_of slots job) (written_slot_at slots k))
grain_found slots job = grind (arith, get_or_default, grain_reached)

-- # Slots whose works agree fit one after another, in any order

abbrev pub AgreesWith : WrittenSlot → WrittenSlot → Type 0
AgreesWith slot other = slot.job ≡ other.job → AreAlike slot.work other.work

agree_all : (jobs : ℕ) (slots : List WrittenSlot) → AreSlots jobs slots → All (λ slot. All (AgreesWith slot) slots) slots
agree_all jobs slots are k d within j e inside same = grind (arith, get_or_default)

pub agree_sorted : (jobs : ℕ) (slots sorted : List WrittenSlot) → IsPermutation slots sorted → AreSlots jobs slots → All (λ slot. All (AgreesWith slot) sorted) sorted
agree_sorted jobs slots sorted same are =
    All-permutation (λ slot. All (AgreesWith slot) sorted) slots sorted same
    (All-weaker (λ slot. All (AgreesWith slot) slots) (λ slot. All (AgreesWith slot) sorted) (λ slot. All-permutation (AgreesWith slot) slots sorted same) slots (agree_all jobs slots are))

fits_found : (more grain den : ℕ) → grain ≡ den → (more ≡ den) ⊎ ((more ≡ 1) ⊎ (den ≡ 1)) → (more ≡ 1) ⊎ ((grain ≡ 1) ⊎ (more ≡ grain))
fits_found more grain den is (inl same) = inr (inr (same ∙ sym is))
fits_found more grain den is (inr (inl whole)) = inl whole
fits_found more grain den is (inr (inr plain)) = inr (inl (is ∙ plain))

pub fits_next : (jobs : ℕ) (slots sorted : List WrittenSlot) (i : ℕ) (slot : WrittenSlot) → IsPermutation slots sorted → AreSlots jobs slots →
    i < length sorted → slot ≡ slice_index_or sorted i slot → FitsGrain (take i sorted) slot
fits_next jobs slots sorted i slot same are within is = elim (grain_found (take i sorted) slot.job) [
  | inl plain ↦ inr (inl plain)
  | inr found ↦
      let inside : found.0 < i = omega (arith, found.1, length-take i sorted) in
      let before : found.0 < length sorted = omega (arith, found.1, length-take i sorted) in
      let read = get_or-take i sorted found.0 no_written_slot inside in
      let agree : AgreesWith (slice_index_or sorted i slot) (slice_index_or sorted found.0 no_written_slot) =
      agree_sorted jobs slots sorted same are i slot within found.0 no_written_slot before in
      let alike : AreAlike slot.work (written_slot_at (take i sorted) found.0).work = rw (read, is) (agree (rw (← is, ← read) (sym found.2.0))) in
      fits_found slot.work.den (grain_of (take i sorted) slot.job) (written_slot_at (take i sorted) found.0).work.den found.2.1 alike
]
