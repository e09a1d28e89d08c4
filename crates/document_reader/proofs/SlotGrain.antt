-- Whether a work is alike with each earlier work of its job: it goes by the job's grain.
use Rattle.yds_model.proofs.Common.{◌≡◌, ℕ, zero, suc, ◌<◌, ◌⊎◌, inl, inr, List, [], ◌∷◌, length, refl, sym, ap, ◌∙◌, arith, Bool, true, false, eqb-true, ◌==◌, ◌||◌, cases_Bool, eq-eqb, true≢false, false≢true, Fraction, WrittenSlot, written_slot_at, AreSlots, grain_of}
use Rattle.model_lemmas.proofs.Grain.{grain_takes}
use Rattle.yds_slots.proofs.Grains.{grain_found}
use Rattle.document_reader.specs.Slot.{fits_among, fits_test, FitsGrainOf}

-- # Each work of the job is whole or has the grain

in_grain : (jobs : ℕ) (slots : List WrittenSlot) (k : ℕ) → AreSlots jobs slots → k < length slots
    → ((written_slot_at slots k).work.den ≡ 1) ⊎ ((written_slot_at slots k).work.den ≡ grain_of slots (written_slot_at slots k).job)
in_grain jobs slots k are within = grind (arith, grain_found, grain_takes)

-- # The test

or_true : (a b : Bool) → (a || b || true) ≡ true
or_true true true = refl
or_true true false = refl
or_true false true = refl
or_true false false = refl

fits_of_one : (den : ℕ) → fits_test den 1 ≡ true
fits_of_one den = or_true (den == 1) (den == 1)

alike_all : (slots : List WrittenSlot) (job : ℕ) (work : Fraction)
    → ((k : ℕ) → k < length slots → (written_slot_at slots k).job ≡ job → fits_test work.den (written_slot_at slots k).work.den ≡ true) → fits_among slots job work ≡ true
alike_all [] job work each = refl
alike_all (slot ∷ slots) job work each =
    let rest = alike_all slots job work (λ k within mine. each (suc k) (omega arith) mine) in
    elim (cases_Bool (slot.job == job)) [
      | inl mine ↦ let here = each 0 (omega arith) (eqb-true slot.job job mine) in rw (mine, here) rest
      | inr other ↦ rw other rest
    ]

unlike_one : (slots : List WrittenSlot) (job : ℕ) (work : Fraction) (k : ℕ) → k < length slots → (written_slot_at slots k).job ≡ job
    → fits_test work.den (written_slot_at slots k).work.den ≡ false → fits_among slots job work ≡ false
unlike_one [] job work k within mine unlike = absurd (omega arith)
unlike_one (slot ∷ slots) job work zero within mine unlike = rw (eq-eqb slot.job job mine, unlike) refl
unlike_one (slot ∷ slots) job work (suc k) within mine unlike =
    let rest = unlike_one slots job work k (omega arith) mine unlike in
    elim (cases_Bool (slot.job == job)) [
      | inl here ↦ elim (cases_Bool (fits_test work.den slot.work.den)) [ inl alike ↦ rw (here, alike) rest | inr differ ↦ rw (here, differ) refl ]
      | inr other ↦ rw other rest
    ]

pub fits_is : (jobs : ℕ) (slots : List WrittenSlot) (job : ℕ) (work : Fraction) → AreSlots jobs slots → fits_among slots job work ≡ fits_test work.den (grain_of slots job)
fits_is jobs slots job work are = elim (cases_Bool (fits_test work.den (grain_of slots job))) [
  | inl fits ↦ alike_all slots job work (λ k within mine. elim (in_grain jobs slots k are within) [
    | inl whole ↦ ap (fits_test work.den) whole ∙ fits_of_one work.den
    | inr grain ↦ ap (fits_test work.den) (grain ∙ ap (grain_of slots) mine) ∙ fits
  ]) ∙ sym fits
  | inr unfit ↦ elim (grain_found slots job) [
    | inl plain ↦ absurd (true≢false (sym (ap (fits_test work.den) plain ∙ fits_of_one work.den) ∙ unfit))
    | inr found ↦ unlike_one slots job work found.0 found.1 found.2.0 (ap (fits_test work.den) (sym found.2.1) ∙ unfit) ∙ sym unfit
  ]
]

fits_parts : (den grain : ℕ) (a b c : Bool) → (den == grain) ≡ a → (den == 1) ≡ b → (grain == 1) ≡ c → (a || b || c) ≡ true → (den ≡ 1) ⊎ ((grain ≡ 1) ⊎ (den ≡ grain))
fits_parts den grain true b c same one plain fits = inr (inr (eqb-true den grain same))
fits_parts den grain false true c same one plain fits = inl (eqb-true den 1 one)
fits_parts den grain false false true same one plain fits = inr (inl (eqb-true grain 1 plain))
fits_parts den grain false false false same one plain fits = absurd (false≢true fits)

pub fits_grain : (slots : List WrittenSlot) (job : ℕ) (work : Fraction) → fits_test work.den (grain_of slots job) ≡ true → FitsGrainOf slots job work
fits_grain slots job work fits = fits_parts work.den (grain_of slots job) _ _ _ refl refl refl fits
