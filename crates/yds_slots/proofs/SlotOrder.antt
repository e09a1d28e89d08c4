-- Slots that run in order, and those of them that lie between two times.
use Rattle.yds_model.proofs.Common.{◌≡◌, ℕ, suc, zero, ◌+◌, ◌-◌, ◌*◌, ◌<◌, ◌≤◌, List, [], ◌∷◌, length, take, drop, Bool, true, false, ◌⊎◌, inl, inr, max, refl, sym, ap, ◌∙◌, arith, mul_right_comm, nat_lt, nat_le, ◌↔◌, cond, ◌∣◌, All, slice_index_or, filter, IsPartitionedBy, IsPartitionPoint, lt-ltb, le-ltb, ltb-true, ltb-false, leb-true, le-leb, cases_lt, and_left, and_right, and_from, All-nil, All-cons, All-weaker, leb_tells, le_refl, mul-le-mul_right, Fraction, at_scale, numerator, WrittenSlot, IsScale, IsSolid, slots_at, IsSlot, RunFrom}
use Rattle.model_lemmas.proofs.Scale.{scale_exists}
use Rattle.fraction_lemmas.proofs.Fractions.{value-den, tied_order, den_positive}
use Rattle.yds_fraction.proofs.WithinLimits.{some_parts}
use Rattle.yds_slots.specs.Between.{lies_between, begins_before, ends_by}

-- the slots of a schedule have a scale
pub slots_scale : (slots : List WrittenSlot) → All IsSlot slots → (scale : ℕ) × IsScale scale slots
slots_scale slots each =
    scale_exists slots (All-weaker IsSlot IsSolid (λ slot is. record { from = some_parts _ is.from; to = some_parts _ is.to; work = some_parts _ is.work }) slots each)

-- # Order, at a scale

-- the slot runs from this time on
abbrev RunsFrom : ℕ → ℕ → WrittenSlot → Type 0
RunsFrom scale start slot = (start ≤ at_scale scale slot.from) × (start ≤ at_scale scale slot.to)

later : (scale start : ℕ) (slots : List WrittenSlot) → RunFrom start (slots_at scale slots) → All (RunsFrom scale start) slots
later scale start [] run = All-nil (RunsFrom scale start)
later scale start (slot ∷ slots) run =
    All-cons (RunsFrom scale start) slot slots (run.0, omega arith)
    (All-weaker (RunsFrom scale (at_scale scale slot.to)) (RunsFrom scale start) (λ other runs. (omega arith, omega arith)) slots (later scale (at_scale scale slot.to) slots run.2))

-- of two slots the later one begins and ends no earlier
pub rises : (scale start : ℕ) (slots : List WrittenSlot) → RunFrom start (slots_at scale slots) → (i j : ℕ) (d : WrittenSlot) → i ≤ j → j < length slots →
    (at_scale scale (slice_index_or slots i d).from ≤ at_scale scale (slice_index_or slots j d).from)
    × (at_scale scale (slice_index_or slots i d).to ≤ at_scale scale (slice_index_or slots j d).to)
rises scale start [] run i j d order within = absurd (omega arith)
rises scale start (slot ∷ slots) run zero zero d order within = (le_refl _, le_refl _)
rises scale start (slot ∷ slots) run zero (suc j) d order within =
    let after = later scale (at_scale scale slot.to) slots run.2 j d (omega arith) in (omega (arith, run.1, after.0), after.1)
rises scale start (slot ∷ slots) run (suc i) zero d order within = absurd (omega arith)
rises scale start (slot ∷ slots) run (suc i) (suc j) d order within = rises scale (at_scale scale slot.to) slots run.2 i j d (omega arith) (omega arith)

-- # Tests, at a scale

-- the fraction is below a whole time
below_at : (scale time : ℕ) (x : Fraction) → 1 ≤ scale → x.den ∣ scale → (numerator x < time * x.den) ↔ (at_scale scale x < time * scale)
below_at scale time x positive divides =
    tied_order (numerator x) (time * x.den) x.den scale (at_scale scale x) (time * scale) positive (den_positive scale x.den positive divides)
    (value-den scale x divides) (mul_right_comm time scale x.den)

-- a whole time is below the fraction
above_at : (scale time : ℕ) (x : Fraction) → 1 ≤ scale → x.den ∣ scale → (time * x.den < numerator x) ↔ (time * scale < at_scale scale x)
above_at scale time x positive divides =
    tied_order (time * x.den) (numerator x) x.den scale (time * scale) (at_scale scale x) positive (den_positive scale x.den positive divides)
    (mul_right_comm time scale x.den) (value-den scale x divides)

pub starts_rise : (time scale : ℕ) (slots : List WrittenSlot) → IsScale scale slots → RunFrom 0 (slots_at scale slots) → IsPartitionedBy (begins_before time) slots
starts_rise time scale slots is run i j d order within before =
    let two = below_at scale time (slice_index_or slots j d).from is.positive (is.divided j d within).from in
    let one = below_at scale time (slice_index_or slots i d).from is.positive (is.divided i d (omega arith)).from in
    let at : at_scale scale (slice_index_or slots j d).from < time * scale = two.0 (ltb-true _ _ before) in
    let rise = (rises scale 0 slots run i j d order within).0 in
    lt-ltb _ _ (one.1 (omega arith))

not_above : (a b : ℕ) → ¬ (a < b) → b ≤ a
not_above a b none = omega arith

pub ends_rise : (time scale : ℕ) (slots : List WrittenSlot) → IsScale scale slots → RunFrom 0 (slots_at scale slots) → IsPartitionedBy (ends_by time) slots
ends_rise time scale slots is run i j d order within ended =
    let two = above_at scale time (slice_index_or slots j d).to is.positive (is.divided j d within).to in
    let one = above_at scale time (slice_index_or slots i d).to is.positive (is.divided i d (omega arith)).to in
    let rise = (rises scale 0 slots run i j d order within).1 in
    let at : numerator (slice_index_or slots j d).to ≤ time * (slice_index_or slots j d).to.den = leb-true _ _ ended in
    le-leb _ _ (not_above _ _ (λ above.
    let here : time * scale < at_scale scale (slice_index_or slots i d).to = one.0 above in
    let there : time * (slice_index_or slots j d).to.den < numerator (slice_index_or slots j d).to = two.1 (omega arith) in
    omega arith))

-- # The slots between two times

whole_before_by : (whole num den time : ℕ) → num < den → (whole < time) ⊎ (time ≤ whole) → nat_lt whole time ≡ nat_lt (whole * den + num) (time * den)
whole_before_by whole num den time below (inl before) =
    lt-ltb whole time before ∙ sym (lt-ltb _ _ (omega (arith, mul-le-mul_right den before)))
whole_before_by whole num den time below (inr after) =
    le-ltb whole time after ∙ sym (le-ltb _ _ (omega (arith, mul-le-mul_right den after)))

-- a fraction is below a whole time exactly where its whole part is
pub whole_before : (x : Fraction) (time : ℕ) → x.num < x.den → nat_lt x.whole time ≡ nat_lt (numerator x) (time * x.den)
whole_before x time below = whole_before_by x.whole x.num x.den time below (cases_lt x.whole time)

empty_window : {X : Type 0} (n s : ℕ) → take n (drop {A = X} s []) ≡ []
empty_window zero zero = refl
empty_window zero (suc s) = refl
empty_window (suc n) zero = refl
empty_window (suc n) (suc s) = refl

-- the elements that pass are those of one window
pub filter_window : {X : Type 0} (p : X → Bool) (xs : List X) (s e : ℕ) → s ≤ e → ((k : ℕ) (d : X) → k < length xs → k < s → p (slice_index_or xs k d) ≡ false) →
    ((k : ℕ) (d : X) → k < length xs → s ≤ k → k < e → p (slice_index_or xs k d) ≡ true) →
    ((k : ℕ) (d : X) → k < length xs → e ≤ k → p (slice_index_or xs k d) ≡ false) → take (e - s) (drop s xs) ≡ filter p xs
filter_window p [] s e order before in_it after = empty_window (e - s) s
filter_window p (x ∷ xs) zero zero order before in_it after =
    filter_window p xs zero zero order (λ k d within first. absurd (omega arith)) (λ k d within first second. absurd (omega arith))
    (λ k d within later. after (suc k) d (omega arith) (omega arith))
    ∙ sym (ap (λ (b : Bool). cond b (x ∷ filter p xs) (filter p xs)) (after 0 x (omega arith) (omega arith)))
filter_window p (x ∷ xs) zero (suc e) order before in_it after =
    let one : suc e - 0 ≡ suc (e - 0) = omega arith in
    rw one
    (ap (λ more. x ∷ more) (filter_window p xs zero e (omega arith) (λ k d within first. absurd (omega arith))
    (λ k d within first second. in_it (suc k) d (omega arith) (omega arith) (omega arith))
    (λ k d within later. after (suc k) d (omega arith) (omega arith)))
    ∙ sym (ap (λ (b : Bool). cond b (x ∷ filter p xs) (filter p xs)) (in_it 0 x (omega arith) (omega arith) (omega arith))))
filter_window p (x ∷ xs) (suc s) zero order before in_it after = absurd (omega arith)
filter_window p (x ∷ xs) (suc s) (suc e) order before in_it after =
    let one : suc e - suc s ≡ e - s = omega arith in
    rw one
    (filter_window p xs s e (omega arith) (λ k d within first. before (suc k) d (omega arith) (omega arith))
    (λ k d within first second. in_it (suc k) d (omega arith) (omega arith) (omega arith))
    (λ k d within later. after (suc k) d (omega arith) (omega arith))
    ∙ sym (ap (λ (b : Bool). cond b (x ∷ filter p xs) (filter p xs)) (before 0 x (omega arith) (omega arith))))

-- The place of the first slot that doesn't begin before a time, and the place after the last that has ended by another, are the
-- ends of the slots between the two.
too_great : (a b : ℕ) → b < a → nat_le a b ≡ false
too_great a b less = elim (leb_tells a b) [ inl within ↦ absurd (omega (arith, within.1)) | inr beyond ↦ beyond.0 ]

starts_late : (from : ℕ) (slot : WrittenSlot) → begins_before from slot ≡ true → nat_le (from * slot.from.den) (numerator slot.from) ≡ false
starts_late from slot before = too_great _ _ (ltb-true _ _ before)

starts_in : (from : ℕ) (slot : WrittenSlot) → begins_before from slot ≡ false → nat_le (from * slot.from.den) (numerator slot.from) ≡ true
starts_in from slot after = le-leb _ _ (ltb-false _ _ after)

pub between_is : (from to start finish end : ℕ) (slots : List WrittenSlot) → IsPartitionPoint (λ slot. begins_before from slot ≡ true) (λ slot. begins_before from slot ≡ false) slots start →
    IsPartitionPoint (λ slot. ends_by to slot ≡ true) (λ slot. ends_by to slot ≡ false) slots finish → end ≡ max finish start →
    take (end - start) (drop start slots) ≡ filter (lies_between from to) slots
between_is from to start finish end slots begun ended is =
    filter_window (lies_between from to) slots start end (omega arith)
    (λ k d within first. and_left _ _ (starts_late from (slice_index_or slots k d) (begun.0 k d (omega arith) first)))
    (λ k d within first second. and_from _ _ (starts_in from (slice_index_or slots k d) (begun.1 k d first within)) (ended.0 k d (omega arith) (omega arith)))
    (λ k d within later. and_right _ _ (ended.1 k d (omega arith) within))
