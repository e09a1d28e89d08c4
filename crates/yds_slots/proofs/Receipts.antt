-- What a schedule keeps, through each of its calls.
use Rattle.yds_model.proofs.Common.{◌≡◌, ℕ, ◌+◌, ◌-◌, ◌*◌, ◌/◌, ◌<◌, ◌≤◌, ◌⊎◌, inl, inr, List, [], ◌∷◌, ◌++◌, length, max, refl, sym, ap, ◌∙◌, subst, arith, Bool, ◌==◌, if◌then◌else◌, All, slice_index_or, slice_set, cases_eq, ne_eqb, eq-eqb, length-append, get_or-set_same, get_or-set_other, length-set, map-append, sum_by_push, sum_by-cons, All-push, All-tail, one-dvd, div-mul_cancel, div-one, dvd_refl, Fraction, of_whole, at_scale, numerator, WrittenSlot, IsDivided, IsScale, slots_at, work_given, grain_of, IsSlot, sum_by_zero, All-front, All-last}
use Rattle.model_lemmas.proofs.Grain.{grain_positive}
use Rattle.fraction_lemmas.proofs.Fractions.{parts_den}
use Rattle.base.specs.declared.limits.TheConstants.{MAX_DENOMINATOR, MAX_SLOTS, MAX_SLOT_WORK}
use Rattle.yds_fraction.specs.Mixed.{IsMixed, Adds, common_den}
use Rattle.yds_fraction.proofs.WithinLimits.{some_parts}
use Rattle.yds_slots.specs.Received.{Receipt}
use Rattle.yds_slots.specs.KeptSlots.{IsInGrain, IsReceiptOf, nothing, receipt_at, IsKept}
use Rattle.yds_slots.specs.Schedule.{FitsGrain}
use Rattle.yds_slots.proofs.Grains.{grain_other, grain_same, grain_none, fits_on, fits_in}
use Rattle.yds_slots.proofs.WorkParts.{parts_at, parts_pushed, IsWholeFor, parts_finer, of_parts_value, of_parts_is, summed}

-- # A job without slots

abbrev pub HasNone : ℕ → WrittenSlot → Type 0
HasNone job slot = ¬ (slot.job ≡ job)

no_parts : (g : ℕ) (slots : List WrittenSlot) (job : ℕ) → All (HasNone job) slots → parts_at g slots job ≡ 0
no_parts g slots job none = grind (arith, ne_eqb, sum_by_zero)

no_work : (scale : ℕ) (slots : List WrittenSlot) (job : ℕ) → All (HasNone job) slots → work_given (slots_at scale slots) job ≡ 0
no_work scale [] job none = refl
no_work scale (slot ∷ slots) job none =
    let other = ne_eqb job slot.job (λ e. none 0 slot (omega arith) (sym e)) in
    simp sum_by-cons (rw other (omega (arith, no_work scale slots job (All-tail (HasNone job) slot slots none))))

zero_is_mixed : IsMixed MAX_DENOMINATOR (of_whole 0)
zero_is_mixed = omega arith

zero_at_scale : (scale : ℕ) → at_scale scale (of_whole 0) ≡ 0
zero_at_scale scale = omega arith

pub nothing_is : (slots : List WrittenSlot) (job : ℕ) → All (HasNone job) slots → IsReceiptOf slots job nothing
nothing_is slots job none = record {
  grain = sym (grain_none slots job none);
  given = sym (rw (grain_none slots job none, no_parts 1 slots job none) refl);
  mixed = zero_is_mixed;
  few = omega arith;
  at_scales = λ scale is. (one-dvd scale, zero_at_scale scale ∙ sym (no_work scale slots job none));
}

-- # More receipts

pub reached_receipts : (jobs : ℕ) (slots : List WrittenSlot) (before receipts : List Receipt) → IsKept jobs slots before →
    ((job : ℕ) → receipt_at receipts job ≡ receipt_at before job) → length before ≤ length receipts → IsKept jobs slots receipts
reached_receipts jobs slots before receipts kept same longer = grind arith

-- # One more slot

work_pushed : (scale : ℕ) (slots : List WrittenSlot) (slot : WrittenSlot) (job : ℕ) →
    work_given (slots_at scale (slots ++ slot ∷ [])) job ≡ work_given (slots_at scale slots) job + (if job == slot.job then at_scale scale slot.work else 0)
work_pushed scale slots slot job = grind (arith, map-append, sum_by_push)

parts_other : (g : ℕ) (slots : List WrittenSlot) (slot : WrittenSlot) (job : ℕ) → ¬ (slot.job ≡ job) → parts_at g (slots ++ slot ∷ []) job ≡ parts_at g slots job
parts_other g slots slot job other = rw (parts_pushed g slots slot job, ne_eqb slot.job job other) (omega arith)

parts_same : (g : ℕ) (slots : List WrittenSlot) (slot : WrittenSlot) (job : ℕ) → slot.job ≡ job →
    parts_at g (slots ++ slot ∷ []) job ≡ parts_at g slots job + numerator slot.work * (g / slot.work.den)
parts_same g slots slot job same = rw (parts_pushed g slots slot job, eq-eqb slot.job job same) refl

work_other : (scale : ℕ) (slots : List WrittenSlot) (slot : WrittenSlot) (job : ℕ) → ¬ (slot.job ≡ job) →
    work_given (slots_at scale (slots ++ slot ∷ [])) job ≡ work_given (slots_at scale slots) job
work_other scale slots slot job other = rw (work_pushed scale slots slot job, ne_eqb job slot.job (λ e. other (sym e))) (omega arith)

work_same : (scale : ℕ) (slots : List WrittenSlot) (slot : WrittenSlot) (job : ℕ) → slot.job ≡ job →
    work_given (slots_at scale (slots ++ slot ∷ [])) job ≡ work_given (slots_at scale slots) job + at_scale scale slot.work
work_same scale slots slot job same = rw (work_pushed scale slots slot job, eq-eqb job slot.job (sym same)) refl

scale_front : (scale : ℕ) (slots : List WrittenSlot) (slot : WrittenSlot) → IsScale scale (slots ++ slot ∷ []) → IsScale scale slots
scale_front scale slots slot is = record { positive = is.positive; divided = All-front (IsDivided scale) slots (slot ∷ []) is.divided }

scale_last : (scale : ℕ) (slots : List WrittenSlot) (slot : WrittenSlot) → IsScale scale (slots ++ slot ∷ []) → IsDivided scale slot
scale_last scale slots slot is = All-last (IsDivided scale) slots slot is.divided

-- the receipt of another job stays
pub receipt_other : (slots : List WrittenSlot) (slot : WrittenSlot) (job : ℕ) (receipt : Receipt) → ¬ (slot.job ≡ job) → IsReceiptOf slots job receipt →
    IsReceiptOf (slots ++ slot ∷ []) job receipt
receipt_other slots slot job receipt other is = record {
  grain = is.grain ∙ sym (grain_other slots slot job other);
  given = is.given ∙ sym (rw (grain_other slots slot job other, parts_other (grain_of slots job) slots slot job other) refl);
  mixed = is.mixed;
  few = omega (arith, is.few, length-append slots (slot ∷ []));
  at_scales = λ scale whole. let values = is.at_scales scale (scale_front scale slots slot whole) in
      (values.0, values.1 ∙ sym (work_other scale slots slot job other));
}

-- # The receipt of the slot's own job

-- the works so far are whole, where their grain is 1
whole_so_far : (slots : List WrittenSlot) (job : ℕ) → All (IsInGrain slots) slots → grain_of slots job ≡ 1 → All (IsWholeFor job) slots
whole_so_far slots job grains plain k d within same = grind arith

-- the parts so far, over the grain before and after the slot
finer_by : (p q g more : ℕ) → 1 ≤ g → (g ≡ 1 → q ≡ p * max g more) → (more ≡ 1) ⊎ ((g ≡ 1) ⊎ (more ≡ g)) → (max g more ≡ g → q ≡ p) → q * g ≡ p * max g more
finer_by p q g more some finer (inl whole) same = let is : max g more ≡ g = omega arith in rw (same is, is) refl
finer_by p q g more some finer (inr (inl plain)) same = omega (arith, finer plain, ap (λ n. q * n) plain)
finer_by p q g more some finer (inr (inr is)) same = let is : max g more ≡ g = omega arith in rw (same is, is) refl

divides_grain : (g more : ℕ) → 1 ≤ g → (more ≡ 1) ⊎ ((g ≡ 1) ⊎ (more ≡ g)) → 1 ≤ more → max g more / more * more ≡ max g more
divides_grain g more some (inl whole) positive = rw (whole, div-one) (omega arith)
divides_grain g more some (inr (inl plain)) positive = let is : max g more ≡ more = omega arith in rw is (div-mul_cancel more (dvd_refl more))
divides_grain g more some (inr (inr same)) positive = let is : max g more ≡ more = omega arith in rw is (div-mul_cancel more (dvd_refl more))

-- a sum that isn't whole is written in parts of the grain
in_parts : (xd g more num zd : ℕ) → 1 ≤ g → (xd ≡ 1) ⊎ (xd ≡ g) → (more ≡ 1) ⊎ ((g ≡ 1) ⊎ (more ≡ g)) → num < zd → ¬ (num ≡ 0) → zd ≡ max xd more → zd ≡ max g more
in_parts xd g more num zd some (inl one) (inl whole) below parted is = absurd (parted (omega arith))
in_parts xd g more num zd some (inl one) (inr (inl plain)) below parted is = omega arith
in_parts xd g more num zd some (inl one) (inr (inr same)) below parted is = omega arith
in_parts xd g more num zd some (inr same) fits below parted is = is ∙ ap (λ n. max n more) same

in_parts_of : (den common num : ℕ) → den ≡ (if num == 0 then 1 else common) → ¬ (num ≡ 0) → den ≡ common
in_parts_of den common num parts some = parts ∙ ap (λ (b : Bool). if b then 1 else common) (ne_eqb num 0 some)

some_grain : (g more : ℕ) → 1 ≤ g → 1 ≤ max g more
some_grain g more some = omega arith

few_on : (n x y z m : ℕ) → m ≡ n + 1 → z ≤ x + y + 1 → x ≤ n * (MAX_SLOT_WORK + 1) → y ≤ MAX_SLOT_WORK → z ≤ m * (MAX_SLOT_WORK + 1)
few_on n x y z m one sum before more = omega (arith, ap (λ k. k * (MAX_SLOT_WORK + 1)) one)

-- the job's receipt, with the work of the slot
pub receipt_same : (slots : List WrittenSlot) (slot : WrittenSlot) (job : ℕ) (receipt after : Receipt) → slot.job ≡ job →
    All (IsInGrain slots) slots → FitsGrain slots slot → IsSlot slot → IsReceiptOf slots job receipt →
    after.grain ≡ max receipt.grain slot.work.den → Adds MAX_DENOMINATOR receipt.given slot.work after.given →
    IsReceiptOf (slots ++ slot ∷ []) job after
receipt_same slots slot job receipt after same grains fits kept is grain adds =
    let g = grain_of slots job in
    let p = parts_at g slots job in
    let more = slot.work.den in
    let h = max g more in
    let q = parts_at h slots job in
    let some : 1 ≤ g = grain_positive slots job in
    let positive : 1 ≤ more = some_parts _ kept.work in
    let fits_job : (more ≡ 1) ⊎ ((g ≡ 1) ⊎ (more ≡ g)) = subst (λ (j : ℕ). (more ≡ 1) ⊎ ((grain_of slots j ≡ 1) ⊎ (more ≡ grain_of slots j))) same fits in
    let x : numerator receipt.given * g ≡ p * receipt.given.den =
    let P : Fraction → Type 0 = λ f. numerator f * g ≡ p * f.den in subst P (sym is.given) (of_parts_value p g) in
    let parts : (receipt.given.den ≡ 1) ⊎ (receipt.given.den ≡ g) =
    let P : Fraction → Type 0 = λ f. (f.den ≡ 1) ⊎ (f.den ≡ g) in subst P (sym is.given) (parts_den p g) in
    let finer : q * g ≡ p * h = finer_by p q g more some (λ plain. parts_finer h slots job (whole_so_far slots job grains plain) ∙ ap (λ (n : ℕ). parts_at n slots job * h) (sym plain)) fits_job (λ stays. ap (λ (n : ℕ). parts_at n slots job) stays) in
    let z : numerator after.given * h ≡ (q + numerator slot.work * (h / more)) * after.given.den =
    summed (numerator receipt.given) receipt.given.den (numerator slot.work) more (numerator after.given) after.given.den g h p q (h / more) some (some_parts _ is.mixed.fraction) positive
    adds.sum x finer (divides_grain g more some fits_job positive) in
    record {
      grain = grain ∙ ap (λ n. max n more) is.grain ∙ sym (grain_same slots slot job same);
      given = of_parts_is (q + numerator slot.work * (h / more)) h after.given (some_grain g more some) adds.kept.fraction.below_one adds.kept.fraction.whole_is_plain
          (elim (cases_eq after.given.num 0) [
            | inl none ↦ inl none
            | inr part ↦ inr (in_parts receipt.given.den g more after.given.num after.given.den some parts fits_job adds.kept.fraction.below_one part
                (in_parts_of after.given.den (common_den receipt.given slot.work) after.given.num adds.parts part))
          ]) z
          ∙ sym (rw (grain_same slots slot job same, parts_same h slots slot job same) refl);
      mixed = adds.kept;
      few = few_on (length slots) receipt.given.whole slot.work.whole after.given.whole (length (slots ++ slot ∷ [])) (length-append slots (slot ∷ [])) adds.whole is.few kept.work.whole_in_range;
      at_scales = λ scale whole.
          let values = is.at_scales scale (scale_front scale slots slot whole) in
          let sum = adds.at_scales scale whole.positive values.0 (scale_last scale slots slot whole).work in
          (sum.0, sum.1 ∙ ap (λ n. n + at_scale scale slot.work) values.1 ∙ sym (work_same scale slots slot job same));
    }

-- # The schedule with the slot

grain_kept : (slots : List WrittenSlot) (slot old : WrittenSlot) → FitsGrain slots slot → 1 ≤ slot.work.den → IsInGrain slots old → IsInGrain (slots ++ slot ∷ []) old
grain_kept slots slot old fits positive is = grind (arith, cases_eq, fits_on, grain_other, grain_positive, grain_same)

pub pushed_receipts : (jobs : ℕ) (slots : List WrittenSlot) (slot : WrittenSlot) (receipts : List Receipt) (receipt after : Receipt) → IsKept jobs slots receipts → IsSlot slot →
    slot.job < jobs → slot.job < length receipts → FitsGrain slots slot → length slots < MAX_SLOTS → IsReceiptOf slots slot.job receipt →
    after.grain ≡ max receipt.grain slot.work.den → Adds MAX_DENOMINATOR receipt.given slot.work after.given →
    IsKept jobs (slots ++ slot ∷ []) (slice_set receipts slot.job after)
pushed_receipts jobs slots slot receipts receipt after kept is known reached fits room own grain adds = record {
  few = omega (arith, length-append slots (slot ∷ []));
  each = All-push IsSlot slots slot kept.each is;
  known = All-push (λ s. s.job < jobs) slots slot kept.known known;
  reached = rw (length-set receipts slot.job after) (All-push (λ s. s.job < length receipts) slots slot kept.reached reached);
  grains = All-push (IsInGrain (slots ++ slot ∷ [])) slots slot
      (λ k d within. grain_kept slots slot (slice_index_or slots k d) fits (some_parts _ is.work) (kept.grains k d within))
      (rw (grain_same slots slot slot.job refl) (fits_in (grain_of slots slot.job) slot.work.den fits (some_parts _ is.work)));
  given = λ job. elim (cases_eq slot.job job) [
    | inl here ↦
        subst (λ (j : ℕ). IsReceiptOf (slots ++ slot ∷ []) j (receipt_at (slice_set receipts slot.job after) j)) here
        (rw (get_or-set_same receipts slot.job after nothing reached)
        (receipt_same slots slot slot.job receipt after refl kept.grains fits is own grain adds))
    | inr other ↦
        rw (get_or-set_other receipts slot.job job after nothing (λ e. other (sym e)))
        (receipt_other slots slot job (receipt_at receipts job) other (kept.given job))
  ];
}

-- # No slots

pub no_receipts : (jobs : ℕ) → IsKept jobs [] []
no_receipts jobs = record {
  few = omega arith;
  each = λ k d within. absurd (omega (arith, within));
  known = λ k d within. absurd (omega (arith, within));
  reached = λ k d within. absurd (omega (arith, within));
  grains = λ k d within. absurd (omega (arith, within));
  given = λ job. nothing_is [] job (λ k d within. absurd (omega (arith, within)));
}
