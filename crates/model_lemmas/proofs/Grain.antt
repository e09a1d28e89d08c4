-- The grain of a job's works, and what the works in its parts are at a scale.
use Rattle.std.proofs.Common.{◌≡◌, ℕ, ◌*◌, ◌/◌, ◌≤◌, List, [], ◌∷◌, ◌==◌, max, suc, ap, subst, sym, ◌∙◌, refl, arith, inl, inr, Bool, true, false}
use Rattle.std.specs.Prelude.{if◌then◌else◌, ◌⊎◌, sum_by}
use Rattle.std.specs.List.{All, Any, AllByRecursion, fold}
use Rattle.std.specs.Int.{◌∣◌}
use Rattle.std.proofs.lemmas.List.{get_or_read}
use Rattle.std.proofs.lemmas.List.Sums.{sum_by-cons}
use Rattle.std.proofs.lemmas.List.Elements.{All-nil, All-cons, All-from_get_or, recursion_from_All}
use Rattle.std.proofs.lemmas.Bool.{cases_lt, eq-eqb, eqb-true}
use Rattle.std.proofs.lemmas.Nat.Gcd.{dvd_refl}
use Rattle.std.proofs.Math.Nat.{le_refl, le-max_left, le-max_right, one-dvd, div-mul_cancel, mul-add}
use Rattle.yds_model.specs.Scale.{at_scale, numerator}
use Rattle.yds_model.specs.Slot.{WrittenSlot, IsDivided, IsScale, slots_at, work_given, no_written_slot, written_slot_at}
use Rattle.yds_model.specs.Audit.{grain_of, parts_given, AreSlots}
use Rattle.fraction_lemmas.proofs.Fractions.{value-den}

-- the greatest denominator of the job's works, and of the one that was greatest so far
abbrev grain_from : ℕ → ℕ → List WrittenSlot → ℕ
grain_from job most slots = fold (λ grain slot. if slot.job == job then max grain slot.work.den else grain) most slots

-- one step of it
step_grows : (b : Bool) (most den : ℕ) → most ≤ (if b then max most den else most)
step_grows true most den = le-max_left most den
step_grows false most den = le_refl most

-- and takes in the denominator of a slot of the job
step_takes : (b : Bool) (most den : ℕ) → b ≡ true → den ≤ (if b then max most den else most)
step_takes true most den is = le-max_right most den
step_takes false most den is = absurd (cc)

-- it stays, or is that denominator
step_reached : (b : Bool) (most den : ℕ) →
    ((if b then max most den else most) ≡ most) ⊎ ((b ≡ true) × ((if b then max most den else most) ≡ den))
step_reached true most den = elim (cases_lt most den) [
  | inl less ↦ inr (refl, omega arith)
  | inr within ↦ inl (omega arith)
]
step_reached false most den = inl refl

-- the grain is at least the first
grain_grows : (job most : ℕ) (slots : List WrittenSlot) → most ≤ grain_from job most slots
grain_grows job most [] = le_refl most
grain_grows job most (slot ∷ slots) =
    let next = if slot.job == job then max most slot.work.den else most in
    omega (arith, step_grows (slot.job == job) most slot.work.den, grain_grows job next slots)

-- and at least each denominator of the job's works
pub grain_takes : (job most : ℕ) (slots : List WrittenSlot) →
    All (λ slot. slot.job ≡ job → slot.work.den ≤ grain_from job most slots) slots
grain_takes job most [] = All-nil (λ slot. slot.job ≡ job → slot.work.den ≤ most)
grain_takes job most (slot ∷ slots) =
    let next = if slot.job == job then max most slot.work.den else most in
    All-cons (λ one. one.job ≡ job → one.work.den ≤ grain_from job next slots) slot slots
    (λ same. omega (
      arith,
      step_takes (slot.job == job) most slot.work.den (eq-eqb slot.job job same),
      grain_grows job next slots,
    ))
    (grain_takes job next slots)

-- it is the first, or the denominator of a work of the job
pub grain_reached : (job most : ℕ) (slots : List WrittenSlot) →
    (grain_from job most slots ≡ most) ⊎ Any (λ slot. (slot.job ≡ job) × (grain_from job most slots ≡ slot.work.den)) slots
grain_reached job most [] = inl refl
grain_reached job most (slot ∷ slots) =
    let next = if slot.job == job then max most slot.work.den else most in
    elim (grain_reached job next slots) [
      | inr later ↦ inr (suc later.0, later.1, omega (arith, later.2), later.3, later.4)
      | inl first ↦ elim (step_reached (slot.job == job) most slot.work.den) [
        | inl stays ↦ inl (first ∙ stays)
        | inr grown ↦ inr (0, slot, omega arith, refl, (eqb-true slot.job job grown.0, first ∙ grown.1))
      ]
    ]

-- a number divides itself
equal_divides : (a b : ℕ) → a ≡ b → a ∣ b
equal_divides a b same = subst (λ (n : ℕ). a ∣ n) same (dvd_refl a)

-- and 1 divides each number
one_divides : (a b : ℕ) → a ≡ 1 → a ∣ b
one_divides a b one = subst (λ (n : ℕ). n ∣ b) (sym one) (one-dvd b)

-- a denominator up to the greatest one that is whole or like it divides it
alike_divides : (den grain other : ℕ) → 1 ≤ den → den ≤ grain → grain ≡ other →
    (den ≡ other) ⊎ ((den ≡ 1) ⊎ (other ≡ 1)) → den ∣ grain
alike_divides den grain other some most reached (inl same) = equal_divides den grain (omega arith)
alike_divides den grain other some most reached (inr (inl one)) = one_divides den grain one
alike_divides den grain other some most reached (inr (inr one)) = one_divides den grain (omega arith)

-- the grain is at least 1
pub grain_positive : (slots : List WrittenSlot) (job : ℕ) → 1 ≤ grain_of slots job
grain_positive slots job = grain_grows job 1 slots

-- each denominator of the job's works divides the grain
pub grain_divided : (jobs : ℕ) (slots : List WrittenSlot) (job : ℕ) → AreSlots jobs slots →
    All (λ slot. slot.job ≡ job → slot.work.den ∣ grain_of slots job) slots
grain_divided jobs slots job are = All-from_get_or (λ slot. slot.job ≡ job → slot.work.den ∣ grain_of slots job) slots no_written_slot
    (λ i within same.
    let some = (are.solid i no_written_slot within).work in
    let most = grain_takes job 1 slots i no_written_slot within same in
    elim (grain_reached job 1 slots) [
      | inl one ↦ one_divides (written_slot_at slots i).work.den (grain_of slots job) (omega arith)
      | inr found ↦
          let read : found.1 ≡ written_slot_at slots found.0 = get_or_read slots found.0 found.1 found.2 (sym found.3) no_written_slot in
          alike_divides (written_slot_at slots i).work.den (grain_of slots job) (written_slot_at slots found.0).work.den some most
          (found.4.1 ∙ ap (λ (slot : WrittenSlot). slot.work.den) read)
          (are.alike i found.0 within found.2 (cc))
    ])

-- so many parts of the grain, at a scale
part_scaled : (u n den grain parts scale : ℕ) → u * den ≡ n * scale → parts * den ≡ grain → grain * u ≡ scale * (n * parts)
part_scaled u n den grain parts scale e f = omega (arith, ap (λ k. k * parts) e, ap (λ k. k * u) f)

-- of the slots of a job alone
part_of_job : (a b u v grain scale : ℕ) → (b ≡ a → grain * u ≡ scale * v) →
    grain * (if a == b then u else 0) ≡ scale * (if b == a then v else 0)
part_of_job a b u v grain scale same = grind arith

-- summed over the slots
parts_scaled : (scale grain job : ℕ) (slots : List WrittenSlot) → AllByRecursion (IsDivided scale) slots →
    AllByRecursion (λ slot. slot.job ≡ job → slot.work.den ∣ grain) slots →
    grain * work_given (slots_at scale slots) job
    ≡ scale * sum_by (λ slot. if slot.job == job then numerator slot.work * (grain / slot.work.den) else 0) slots
parts_scaled scale grain job [] divided grains = omega arith
parts_scaled scale grain job (slot ∷ slots) divided grains =
    simp sum_by-cons (omega (
      arith,
      parts_scaled scale grain job slots divided.1 grains.1,
      part_of_job job slot.job (at_scale scale slot.work) (numerator slot.work * (grain / slot.work.den)) grain scale
          (λ same. part_scaled (at_scale scale slot.work) (numerator slot.work) slot.work.den grain (grain / slot.work.den) scale
          (value-den scale slot.work divided.0.work) (div-mul_cancel slot.work.den (grains.0 same))),
      mul-add grain (if job == slot.job then at_scale scale slot.work else 0) (work_given (slots_at scale slots) job),
      mul-add scale (if slot.job == job then numerator slot.work * (grain / slot.work.den) else 0)
          (sum_by (λ slot. if slot.job == job then numerator slot.work * (grain / slot.work.den) else 0) slots),
    ))

-- the works that the slots give a job at a scale are its parts of the grain
pub given_scaled : (jobs scale : ℕ) (slots : List WrittenSlot) (job : ℕ) → AreSlots jobs slots → IsScale scale slots →
    grain_of slots job * work_given (slots_at scale slots) job ≡ scale * parts_given slots job
given_scaled jobs scale slots job are is =
    parts_scaled scale (grain_of slots job) job slots (recursion_from_All (IsDivided scale) slots is.divided)
    (recursion_from_All (λ slot. slot.job ≡ job → slot.work.den ∣ grain_of slots job) slots (grain_divided jobs slots job are))
