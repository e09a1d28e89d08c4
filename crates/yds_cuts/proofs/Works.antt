-- What the slots of two parts give a job, in parts of its grain, is what the slots of its own part give it.
use Rattle.yds_model.proofs.Common.{◌≡◌, ℕ, Bool, get_or, ◌+◌, ◌*◌, ◌/◌, ◌<◌, ◌==◌, List, [], ◌∷◌, ◌++◌, length, map, refl, ap, ◌∙◌, arith, fold, max, sum_by, if◌then◌else◌, All, All-head, All-tail, All-map, ne_eqb, nat_tests, sum_by-append, sum_by-map, sum_by_zero, sum_by_same, Job, numerator, WrittenSlot, grain_of, parts_given}
use Rattle.yds_parts.specs.Parts.{moved_written, slots_in_turn, AreOf}

-- the grain of a job's works, from one that is known
abbrev grain_from : ℕ → ℕ → List WrittenSlot → ℕ
grain_from job most slots = fold (λ grain slot. if slot.job == job then max grain slot.work.den else grain) most slots

grain_joined : (job most : ℕ) (slots others : List WrittenSlot) → grain_from job most (slots ++ others) ≡ grain_from job (grain_from job most slots) others
grain_joined job most [] others = refl
grain_joined job most (slot ∷ slots) others = grain_joined job (if slot.job == job then max most slot.work.den else most) slots others

-- slots of other jobs leave it
grain_other : (job most : ℕ) (slots : List WrittenSlot) → All (λ slot. slot.job ≡ job → ⊥) slots → grain_from job most slots ≡ most
grain_other job most [] others = refl
grain_other job most (slot ∷ slots) others =
    rw (ne_eqb slot.job job (All-head (λ one. one.job ≡ job → ⊥) slot slots others))
    (grain_other job most slots (All-tail (λ one. one.job ≡ job → ⊥) slot slots others))

same_test : (n k j : ℕ) → (n + j == n + k) ≡ (j == k)
same_test n k j = grind (arith, nat_tests)

grain_moved : (n k most : ℕ) (slots : List WrittenSlot) → grain_from (n + k) most (map (moved_written n) slots) ≡ grain_from k most slots
grain_moved n k most [] = refl
grain_moved n k most (slot ∷ slots) =
    ap (λ (own : Bool). grain_from (n + k) (if own then max most slot.work.den else most) (map (moved_written n) slots)) (same_test n k slot.job)
    ∙ grain_moved n k (if slot.job == k then max most slot.work.den else most) slots

-- the work of a slot of this job, in parts of a grain
abbrev part_of : ℕ → ℕ → WrittenSlot → ℕ
part_of grain job slot = if slot.job == job then numerator slot.work * (grain / slot.work.den) else 0

no_part : (grain job : ℕ) (slot : WrittenSlot) → (slot.job ≡ job → ⊥) → part_of grain job slot ≡ 0
no_part grain job slot other = rw (ne_eqb slot.job job other) refl

parts_other : (grain job : ℕ) (slots : List WrittenSlot) → All (λ slot. slot.job ≡ job → ⊥) slots → sum_by (part_of grain job) slots ≡ 0
parts_other grain job slots others = sum_by_zero (part_of grain job) slots (λ k d within. no_part grain job (get_or slots k d) (others k d within))

parts_moved : (grain n k : ℕ) (slots : List WrittenSlot) → sum_by (part_of grain (n + k)) (map (moved_written n) slots) ≡ sum_by (part_of grain k) slots
parts_moved grain n k slots =
    sum_by-map (moved_written n) (part_of grain (n + k)) slots
    ∙ sum_by_same (λ slot. part_of grain (n + k) (moved_written n slot)) (part_of grain k) slots (λ i d within.
    let slot = get_or slots i d in
    ap (λ (own : Bool). if own then numerator slot.work * (grain / slot.work.den) else 0) (same_test n k slot.job))

module _ (first : List Job) (slots others : List WrittenSlot) (own : AreOf first slots) where
  abbrev n : ℕ
  n = length first

  abbrev all : List WrittenSlot
  all = slots_in_turn first slots others

  later_are_other : (j : ℕ) → j < n → All (λ slot. slot.job ≡ j → ⊥) (map (moved_written n) others)
  later_are_other j known = All-map (λ slot. slot.job ≡ j → ⊥) (moved_written n) others (λ k d within is. omega (arith, known, is))

  earlier_are_other : (k : ℕ) → All (λ slot. slot.job ≡ n + k → ⊥) slots
  earlier_are_other k i d within is = omega (arith, own i d within, is)

  pub first_grain : (j : ℕ) → j < n → grain_of all j ≡ grain_of slots j
  first_grain j known = grain_joined j 1 slots (map (moved_written n) others) ∙ grain_other j (grain_of slots j) (map (moved_written n) others) (later_are_other j known)

  pub second_grain : (k : ℕ) → grain_of all (n + k) ≡ grain_of others k
  second_grain k =
      grain_joined (n + k) 1 slots (map (moved_written n) others)
      ∙ ap (λ most. grain_from (n + k) most (map (moved_written n) others)) (grain_other (n + k) 1 slots (earlier_are_other k))
      ∙ grain_moved n k 1 others

  pub first_parts : (j : ℕ) → j < n → parts_given all j ≡ parts_given slots j
  first_parts j known =
      ap (λ grain. sum_by (part_of grain j) all) (first_grain j known)
      ∙ omega (
        arith,
        sum_by-append (part_of (grain_of slots j) j) slots (map (moved_written n) others),
        parts_other (grain_of slots j) j (map (moved_written n) others) (later_are_other j known),
      )

  pub second_parts : (k : ℕ) → parts_given all (n + k) ≡ parts_given others k
  second_parts k =
      ap (λ grain. sum_by (part_of grain (n + k)) all) (second_grain k)
      ∙ omega (
        arith,
        sum_by-append (part_of (grain_of others k) (n + k)) slots (map (moved_written n) others),
        parts_other (grain_of others k) (n + k) slots (earlier_are_other k),
        parts_moved (grain_of others k) n k others,
      )
