-- Numbers and slots in parts that are k times as fine, and the one law of scale for all that is said of slots.
use Rattle.yds_model.proofs.Common.{◌≡◌, ◌⊎◌, ℕ, ◌-◌, ◌*◌, ◌<◌, ◌≤◌, List, [], ◌∷◌, map, min, refl, sym, arith, Bool, true, false, cond, if◌then◌else◌, nat_le, nat_lt, ◌==◌, ◌↔◌, filter, cases_order, nat_tests, one-mul, mul-sub, mul-lt-mul_of_pos_left, WrittenSlot, WholeSlot, IsScale, AtEachScale, slots_at, Piece, slots_in}
use Rattle.model_lemmas.proofs.Scale.{finer, finer_slots, IsKept, one_scale_of}

-- # Numbers

-- k times two numbers are in the order that the numbers are in
pub order_of_multiples : (k x y : ℕ) → 1 ≤ k → ((x < y) × (k * x < k * y)) ⊎ (((x ≡ y) × (k * x ≡ k * y)) ⊎ ((y < x) × (k * y < k * x)))
order_of_multiples k x y some = grind (arith, cases_order, mul-lt-mul_of_pos_left)

-- k as a factor
module _ (k : ℕ) where
  -- of a product that has it behind
  pub factor_out : (n x : ℕ) → n * (k * x) ≡ k * (n * x)
  factor_out n x = omega arith

  -- of a product that has it in front
  pub factor_grouped : (x y : ℕ) → k * x * y ≡ k * (x * y)
  factor_grouped x y = omega arith

  -- of a difference
  pub factor_of_difference : (x y : ℕ) → k * x - k * y ≡ k * (x - y)
  factor_of_difference x y = sym (mul-sub k x y)

  -- of one of two numbers
  pub factor_of_choice : (first : Bool) (x y : ℕ) → (if first then k * x else k * y) ≡ k * (if first then x else y)
  factor_of_choice true x y = refl
  factor_of_choice false x y = refl

  -- of a number or nothing
  pub factor_of_choice_or_none : (first : Bool) (x : ℕ) → (if first then k * x else 0) ≡ k * (if first then x else 0)
  factor_of_choice_or_none true x = refl
  factor_of_choice_or_none false x = omega arith

-- k times two numbers, and the numbers
module _ (k : ℕ) (some : 1 ≤ k) where
  -- the one is less than the other
  pub less_both : (x y : ℕ) → (k * x < k * y) ↔ (x < y)
  less_both x y = omega (arith, order_of_multiples k x y some)

  -- they are the same
  pub same_both : (x y : ℕ) → (k * x ≡ k * y) ↔ (x ≡ y)
  same_both x y = omega (arith, order_of_multiples k x y some)

  -- it is tested whether the one is at most the other
  pub at_most_test : (x y : ℕ) → nat_le (k * x) (k * y) ≡ nat_le x y
  at_most_test x y = grind (arith, nat_tests, order_of_multiples k x y some)

  -- whether a number is more than 0
  pub some_test : (x : ℕ) → nat_lt 0 (k * x) ≡ nat_lt 0 x
  some_test x = grind (arith, nat_tests, order_of_multiples k 0 x some)

  -- whether they are the same
  pub same_test : (x y : ℕ) → (k * x == k * y) ≡ (x == y)
  same_test x y = grind (arith, nat_tests, order_of_multiples k x y some)

  -- and the lesser of them is taken
  pub factor_of_lesser : (x y : ℕ) → min (k * x) (k * y) ≡ k * min x y
  factor_of_lesser x y = grind (arith, order_of_multiples k x y some)

-- # Slots

-- a finer slot that is kept or not
kept_finer : (k : ℕ) (kept : Bool) (slot : WholeSlot) (slots : List WholeSlot) →
    cond kept (finer k slot ∷ map (finer k) slots) (map (finer k) slots) ≡ map (finer k) (cond kept (slot ∷ slots) slots)
kept_finer k true slot slots = refl
kept_finer k false slot slots = refl

-- finer slots are none where there are none
pub none_both : (k : ℕ) (slots : List WholeSlot) → (map (finer k) slots ≡ []) ↔ (slots ≡ [])
none_both k [] = (λ none. refl, λ none. refl)
none_both k (slot ∷ slots) = (λ some. absurd cc, λ some. absurd cc)

-- the finer slots that pass a test are those slots, finer
pub filter_finer : (k : ℕ) (test : WholeSlot → Bool) (slots : List WholeSlot) →
    filter test (map (finer k) slots) ≡ map (finer k) (filter (λ slot. test (finer k slot)) slots)
filter_finer k test [] = refl
filter_finer k test (slot ∷ slots) =
    rw (filter_finer k test slots) (kept_finer k (test (finer k slot)) slot (filter (λ slot. test (finer k slot)) slots))

-- so it is of the slots in a stretch
pub slots_in_finer : (k scale : ℕ) (stretch : Piece) (slots : List WholeSlot) → 1 ≤ k →
    slots_in (k * scale) stretch (map (finer k) slots) ≡ map (finer k) (slots_in scale stretch slots)
slots_in_finer k scale stretch slots some = simp (filter_finer, factor_out k, at_most_test k some)

-- slots in parts that are as fine
pub same_parts : (slots : List WholeSlot) → map (finer 1) slots ≡ slots
same_parts [] = refl
same_parts (slot ∷ slots) = rw (one-mul slot.from, one-mul slot.to, one-mul slot.work, same_parts slots) refl

-- # The law

-- what P says of slots in parts that are some times as fine, it says of them in parts that are any other times as fine
abbrev pub IsFreeOfScale : (ℕ → List WholeSlot → Type 0) → Type 0
IsFreeOfScale P = (a b scale : ℕ) (slots : List WholeSlot) → 1 ≤ a → 1 ≤ b → 1 ≤ scale → P (a * scale) (map (finer a) slots) → P (b * scale) (map (finer b) slots)

-- so it says the same of written slots at a scale and at a multiple
free_kept : (P : ℕ → List WholeSlot → Type 0) → IsFreeOfScale P → (slots : List WrittenSlot) → IsKept slots P
free_kept P free slots scale k is some = grind (arith, finer_slots, one-mul)

-- The law: what is free of scale, and is said of written slots at one of their scales, is said at each.
pub each_scale_of : (P : ℕ → List WholeSlot → Type 0) → IsFreeOfScale P → (slots : List WrittenSlot) (scale : ℕ) → IsScale scale slots →
    P scale (slots_at scale slots) → AtEachScale slots P
each_scale_of P free slots scale is at_one = one_scale_of slots P (free_kept P free slots) scale is at_one
