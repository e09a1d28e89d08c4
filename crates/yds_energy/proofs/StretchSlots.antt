-- The slots of a schedule by the stretches that they lie in: each is in one, and those in a stretch stand between those before it and
-- those after it.
use Rattle.yds_model.proofs.Common.{◌≡◌, ℕ, ◌+◌, ◌*◌, ◌<◌, ◌≤◌, ◌⊎◌, Bool, true, false, List, [], ◌∷◌, ◌++◌, zero, suc, refl, sym, ap, ◌∙◌, arith, inl, inr, sum_by, nat_le, ◌&&◌, if◌then◌else◌, All, Any, both_true, mul-le-mul_right, cases_Bool, and_left, and_right, le-leb, lt-leb, All-nil, All-cons, All-tail, sum_by-cons, WholeSlot, Piece, PiecesFrom, RunFrom, LiesIn, slots_in, sum_by-add, sum_by_zero}

-- # Whether a slot lies in a stretch

-- the test of it, as for the slots in a stretch
abbrev pub lies : ℕ → Piece → WholeSlot → Bool
lies scale stretch slot = nat_le (stretch.from * scale) slot.from && nat_le slot.to (stretch.to * scale)

-- a slot that passes lies there
pub lies_told : (scale : ℕ) (stretch : Piece) (slot : WholeSlot) → lies scale stretch slot ≡ true → LiesIn scale slot stretch
lies_told scale stretch slot passes = grind arith

-- and one that lies there passes
pub lies_passes : (scale : ℕ) (stretch : Piece) (slot : WholeSlot) → LiesIn scale slot stretch → lies scale stretch slot ≡ true
lies_passes scale stretch slot is = both_true (le-leb _ _ is.from) (le-leb _ _ is.to)

-- one that doesn't begin there or later doesn't lie there
early_fails : (scale : ℕ) (stretch : Piece) (slot : WholeSlot) → slot.from < stretch.from * scale → lies scale stretch slot ≡ false
early_fails scale stretch slot early = and_left _ _ (lt-leb _ _ early)

-- and so it is of one that ends later
late_fails : (scale : ℕ) (stretch : Piece) (slot : WholeSlot) → stretch.to * scale < slot.to → lies scale stretch slot ≡ false
late_fails scale stretch slot late = and_right _ _ (lt-leb _ _ late)

-- # Sums over the stretches

-- a slot's number in a stretch: nothing where it doesn't lie there
abbrev part : ℕ → WholeSlot → ℕ → Piece → ℕ
part scale slot n stretch = if lies scale stretch slot then n else 0

-- a slot that ends before the stretches lies in none
part_none : (scale n start : ℕ) (slot : WholeSlot) (stretches : List Piece) → PiecesFrom start stretches → slot.from < slot.to → slot.to ≤ start * scale →
    sum_by (part scale slot n) stretches ≡ 0
part_none scale n start slot [] run takes before = refl
part_none scale n start slot (stretch ∷ stretches) run takes before =
    let from : start ≤ stretch.from = run.0 in
    let to : start ≤ stretch.to = omega (arith, run.0, run.1) in
    let fails = early_fails scale stretch slot (omega (arith, takes, before, mul-le-mul_right scale from)) in
    simp sum_by-cons (rw fails (omega (arith, part_none scale n stretch.to slot stretches run.2 takes (omega (arith, before, mul-le-mul_right scale to)))))

-- what holds of some stretch, and not of the first, holds of some other
any_later : (P : Piece → Type 0) (stretch : Piece) (stretches : List Piece) → (P stretch → ⊥) → Any P (stretch ∷ stretches) → Any P stretches
any_later P stretch stretches none (zero, other, within, is, holds) = absurd (none (rw is holds))
any_later P stretch stretches none (suc k, other, within, is, holds) = (k, other, omega (arith, within), is, holds)

-- one that lies in a stretch is counted once
part_once : (scale n start : ℕ) (slot : WholeSlot) (stretches : List Piece) → PiecesFrom start stretches → slot.from < slot.to →
    Any (LiesIn scale slot) stretches → sum_by (part scale slot n) stretches ≡ n
part_once scale n start slot [] run takes there = absurd (omega (arith, there.2))
part_once scale n start slot (stretch ∷ stretches) run takes there = elim (cases_Bool (lies scale stretch slot)) [
  | inl passes ↦ simp sum_by-cons (rw passes (omega (arith, part_none scale n stretch.to slot stretches run.2 takes (lies_told scale stretch slot passes).to)))
  | inr fails ↦
      let later = any_later (LiesIn scale slot) stretch stretches (λ is. let no : true ≡ false = sym (lies_passes scale stretch slot is) ∙ fails in cc) there in
      simp sum_by-cons (rw fails (omega (arith, part_once scale n stretch.to slot stretches run.2 takes later)))
]

-- one slot more in a stretch
in_more : (f : WholeSlot → ℕ) (scale : ℕ) (slot : WholeSlot) (slots : List WholeSlot) (stretch : Piece) →
    sum_by f (slots_in scale stretch (slot ∷ slots)) ≡ part scale slot (f slot) stretch + sum_by f (slots_in scale stretch slots)
in_more f scale slot slots stretch = grind (arith, cases_Bool, sum_by-cons)

-- So a sum over the slots is that over the stretches of those in each.
pub sum_in_stretches : (f : WholeSlot → ℕ) (scale start : ℕ) (stretches : List Piece) (slots : List WholeSlot) → PiecesFrom start stretches →
    All (λ slot. slot.from < slot.to) slots → All (λ slot. Any (LiesIn scale slot) stretches) slots →
    sum_by (λ stretch. sum_by f (slots_in scale stretch slots)) stretches ≡ sum_by f slots
sum_in_stretches f scale start stretches [] run takes there =
    sum_by_zero (λ stretch. sum_by f (slots_in scale stretch [])) stretches (λ k d within. refl)
sum_in_stretches f scale start stretches (slot ∷ slots) run takes there =
    simp (in_more f scale slot slots, sum_by-add, sum_by-cons) (omega (
      arith,
      part_once scale (f slot) start slot stretches run (takes 0 slot (omega arith)) (there 0 slot (omega arith)),
      sum_in_stretches f scale start stretches slots run (All-tail (λ one. one.from < one.to) slot slots takes)
          (All-tail (λ one. Any (LiesIn scale one) stretches) slot slots there),
    ))

-- # Before and after a stretch

-- the slot ends before the stretch, lies in it or begins after it
abbrev pub IsBeside : ℕ → Piece → WholeSlot → Type 0
IsBeside scale stretch slot = (slot.to ≤ stretch.from * scale) ⊎ (LiesIn scale slot stretch ⊎ (stretch.to * scale ≤ slot.from))

-- slots, of which those in a stretch stand between others
pub record Parted (scale : ℕ) (stretch : Piece) (slots : List WholeSlot) : Type 0 where
  pub before : List WholeSlot
  pub after : List WholeSlot
  pub parts : slots ≡ before ++ (slots_in scale stretch slots ++ after)
  pub first : All (λ slot. slot.to ≤ stretch.from * scale) before
  pub last : All (λ slot. stretch.to * scale ≤ slot.from) after

-- slots that begin after the stretch
none_in : (scale start : ℕ) (stretch : Piece) (slots : List WholeSlot) → stretch.to * scale ≤ start → RunFrom start slots →
    (slots_in scale stretch slots ≡ []) × All (λ slot. stretch.to * scale ≤ slot.from) slots
none_in scale start stretch [] from run = (refl, All-nil (λ slot. stretch.to * scale ≤ slot.from))
none_in scale start stretch (slot ∷ slots) from run =
    let rest = none_in scale slot.to stretch slots (omega (arith, from, run.0, run.1)) run.2 in (
      rw (late_fails scale stretch slot (omega (arith, from, run.0, run.1))) rest.0,
      All-cons (λ one. stretch.to * scale ≤ one.from) slot slots (omega (arith, from, run.0)) rest.1,
    )

-- slots that begin in the stretch or later
first_in : (scale start : ℕ) (stretch : Piece) (slots : List WholeSlot) → stretch.from * scale ≤ start → RunFrom start slots → All (IsBeside scale stretch) slots →
    (after : List WholeSlot) × (slots ≡ slots_in scale stretch slots ++ after) × All (λ slot. stretch.to * scale ≤ slot.from) after
first_in scale start stretch [] from run beside = ([], refl, All-nil (λ slot. stretch.to * scale ≤ slot.from))
first_in scale start stretch (slot ∷ slots) from run beside = elim (beside 0 slot (omega arith)) [
  | inl early ↦ absurd (omega (arith, early, from, run.0, run.1))
  | inr (inl is) ↦
      let rest = first_in scale slot.to stretch slots (omega (arith, from, run.0, run.1)) run.2 (All-tail (IsBeside scale stretch) slot slots beside) in
      (rest.0, rw (lies_passes scale stretch slot is) (ap (λ (others : List WholeSlot). slot ∷ others) rest.1), rest.2)
  | inr (inr late) ↦
      let none = none_in scale slot.from stretch (slot ∷ slots) late (omega arith, run.1, run.2) in
      (slot ∷ slots, rw none.0 refl, none.1)
]

-- so it is of all
pub parted : (scale start : ℕ) (stretch : Piece) (slots : List WholeSlot) → stretch.from < stretch.to → RunFrom start slots → All (IsBeside scale stretch) slots → Parted scale stretch slots
parted scale start stretch [] forward run beside = record {
  before = [];
  after = [];
  parts = refl;
  first = All-nil (λ slot. slot.to ≤ stretch.from * scale);
  last = All-nil (λ slot. stretch.to * scale ≤ slot.from);
}
parted scale start stretch (slot ∷ slots) forward run beside = elim (beside 0 slot (omega arith)) [
  | inl early ↦
      let rest = parted scale slot.to stretch slots forward run.2 (All-tail (IsBeside scale stretch) slot slots beside) in
      record {
        before = slot ∷ rest.before;
        after = rest.after;
        parts = rw (early_fails scale stretch slot (omega (arith, early, run.1))) (ap (λ (others : List WholeSlot). slot ∷ others) rest.parts);
        first = All-cons (λ one. one.to ≤ stretch.from * scale) slot rest.before early rest.first;
        last = rest.last;
      }
  | inr later ↦
      let from : stretch.from * scale ≤ slot.from = elim later [
        | inl is ↦ is.from
        | inr late ↦ let ordered : stretch.from ≤ stretch.to = omega (arith, forward) in omega (arith, late, mul-le-mul_right scale ordered)
      ] in
      let here = first_in scale slot.from stretch (slot ∷ slots) from (omega arith, run.1, run.2) beside in
      record {
        before = [];
        after = here.0;
        parts = here.1;
        first = All-nil (λ one. one.to ≤ stretch.from * scale);
        last = here.2;
      }
]
