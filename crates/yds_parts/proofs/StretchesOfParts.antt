-- The slots in a stretch of one part are that part's, and in the stretch between the parts there are none.
use Rattle.yds_model.proofs.Common.{rules, ◌≡◌, ℕ, ◌*◌, ◌<◌, ◌≤◌, ◌⊎◌, Bool, List, [], ◌∷◌, ◌++◌, length, map, refl, ap, ◌∙◌, arith, inl, inr, All, filter, append-nil, mul-le-mul_right, cases_Bool, All-head, All-tail, All-append, filter-append, All-map, Job, WholeSlot, Piece, IsFeasibleAt, LiesIn, slots_in, filter_none}
use Rattle.model_lemmas.proofs.Runs.{run_forward}
use Rattle.yds_energy.proofs.StretchSlots.{lies, lies_told}
use Rattle.yds_parts.specs.Parts.{ArePartedAt, moved, together_at}
use Rattle.yds_parts.proofs.TwoParts.{ends_by, begins_from}
use Rattle.yds_parts.proofs.EventsOfParts.{IsGap, EndsBy, BeginsFrom}

-- # Tests of a list

-- what a function makes passes where what it is made of does
pub filter_made : {X Y : Type 0} (f : X → Y) (made : Y → Bool) (test : X → Bool) (xs : List X) → All (λ x. made (f x) ≡ test x) xs →
    filter made (map f xs) ≡ map f (filter test xs)
filter_made f made test [] same = refl
filter_made f made test (x ∷ xs) same =
    let rest = filter_made f made test xs (All-tail (λ x. made (f x) ≡ test x) x xs same) in
    let here = All-head (λ x. made (f x) ≡ test x) x xs same in
    elim (cases_Bool (test x)) [
      | inl passes ↦ rw (here, passes, rest) refl
      | inr fails ↦ rw (here, fails, rest) refl
    ]

-- # Slots beside a stretch

-- the slot ends before the stretch, or begins after it
abbrev pub IsBeside : ℕ → Piece → WholeSlot → Type 0
IsBeside scale stretch slot = (slot.from < slot.to) × ((slot.to ≤ stretch.from * scale) ⊎ (stretch.to * scale ≤ slot.from))

-- such a slot doesn't lie in the stretch
pub beside_apart : (scale : ℕ) (stretch : Piece) (slot : WholeSlot) → IsBeside scale stretch slot → LiesIn scale slot stretch → ⊥
beside_apart scale stretch slot (takes, inl before) is = absurd (omega (arith, takes, before, is.from))
beside_apart scale stretch slot (takes, inr after) is = absurd (omega (arith, takes, after, is.to))

-- so slots beside a stretch leave it empty
none_beside : (scale : ℕ) (stretch : Piece) (slots : List WholeSlot) → All (IsBeside scale stretch) slots → slots_in scale stretch slots ≡ []
none_beside scale stretch slots beside = grind (arith, cases_Bool, filter_none, lies, lies_told)

-- # The two parts

module _ (time scale : ℕ) (first second : List Job) (parted : ArePartedAt time first second) (slots others : List WholeSlot) (one : IsFeasibleAt first scale slots)
    (other : IsFeasibleAt second scale others) where
  abbrev all : List WholeSlot
  all = together_at first slots others

  -- the first jobs' slots lie beside the stretch between and those of the second jobs
  pub first_before_gap : (stretch : Piece) → IsGap first second stretch → All (IsBeside scale stretch) slots
  first_before_gap stretch gap k d within = grind (arith, mul-le-mul_right, run_forward)

  pub first_before_second : (stretch : Piece) → BeginsFrom time stretch → All (IsBeside scale stretch) slots
  first_before_second stretch begins k d within = grind (arith, ends_by, mul-le-mul_right, run_forward)

  -- and those of the second beside the stretch between and those of the first
  pub second_after_gap : (stretch : Piece) → IsGap first second stretch → All (IsBeside scale stretch) others
  second_after_gap stretch gap k d within = grind (arith, mul-le-mul_right, run_forward)

  pub second_after_first : (stretch : Piece) → EndsBy time stretch → All (IsBeside scale stretch) others
  second_after_first stretch ends k d within = grind (arith, begins_from, mul-le-mul_right, run_forward)

  -- the second jobs' slots, with their numbers moved
  abbrev later : List WholeSlot
  later = map (moved (length first)) others

  moved_beside : (stretch : Piece) → All (IsBeside scale stretch) others → All (IsBeside scale stretch) later
  moved_beside stretch beside = All-map (IsBeside scale stretch) (moved (length first)) others beside

  -- in a stretch of the first jobs are their slots
  pub in_first : (stretch : Piece) → EndsBy time stretch → slots_in scale stretch all ≡ slots_in scale stretch slots
  in_first stretch ends =
      filter-append (lies scale stretch) slots later
      ∙ ap (λ (rest : List WholeSlot). slots_in scale stretch slots ++ rest) (none_beside scale stretch later (moved_beside stretch (second_after_first stretch ends)))
      ∙ append-nil (slots_in scale stretch slots)

  -- in one of the second are theirs, with their numbers moved
  pub in_second : (stretch : Piece) → BeginsFrom time stretch → slots_in scale stretch all ≡ map (moved (length first)) (slots_in scale stretch others)
  in_second stretch begins =
      filter-append (lies scale stretch) slots later
      ∙ ap (λ (rest : List WholeSlot). rest ++ slots_in scale stretch later) (none_beside scale stretch slots (first_before_second stretch begins))
      ∙ filter_made (moved (length first)) (lies scale stretch) (lies scale stretch) others (λ k d within. refl)

  -- and between there are none
  pub in_gap : (stretch : Piece) → IsGap first second stretch → slots_in scale stretch all ≡ []
  in_gap stretch gap = search (arith, rules, All-append, first_before_gap, moved_beside, none_beside, second_after_gap)
