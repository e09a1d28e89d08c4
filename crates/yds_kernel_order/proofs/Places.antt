-- The places of a ring: what stands in them, from a place on.
use Rattle.base.proofs.Common.{◌≡◌, ◌≢◌, ℕ, zero, suc, ◌+◌, ◌-◌, ◌<◌, ◌≤◌, List, [], ◌∷◌, ◌++◌, length, get_or, refl, sym, ap, ◌∙◌, arith, add-zero, inl, inr, cases_lt, lt-ltb, le-ltb, set, get_or-set_other}
use Rattle.yds_kernel_order.specs.declared.ring.TheConstants.{SLOTS}
use Rattle.yds_kernel_order.specs.Order.{Placed}
use Rattle.yds_kernel_order.specs.Ring.{no_line, wrapped, slot_at, held_from, IsMovedDown}
use Rattle.yds_kernel_order.proofs.Placing.{inserted}

-- as many are held as are asked for
pub length-held_from : (slots : List Placed) (first count : ℕ) → length (held_from slots first count) ≡ count
length-held_from slots first zero = refl
length-held_from slots first (suc count) = omega (arith, length-held_from slots first count)

-- the same lines stand in the same places
pub held_same : (old new : List Placed) (first other count : ℕ) → ((place : ℕ) → place < count → slot_at new (other + place) ≡ slot_at old (first + place)) →
    held_from new other count ≡ held_from old first count
held_same old new first other zero same = refl
held_same old new first other (suc count) same =
    ap (λ (line : Placed). line ∷ held_from new other count) (same count (omega arith))
    ∙ ap (λ (lines : List Placed). slot_at old (first + count) ∷ lines) (held_same old new first other count (λ place within. same place (omega arith)))

-- those from a place on stand behind those before it
pub held_join : (slots : List Placed) (first low high : ℕ) → held_from slots first (low + high) ≡ held_from slots (first + low) high ++ held_from slots first low
held_join slots first low zero = ap (held_from slots first) (add-zero low)
held_join slots first low (suc high) =
    let count : low + suc high ≡ suc (low + high) = omega arith in
    let place : first + (low + high) ≡ first + low + high = omega arith in
    ap (held_from slots first) count
    ∙ ap (λ (n : ℕ). slot_at slots n ∷ held_from slots first (low + high)) place
    ∙ ap (λ (lines : List Placed). slot_at slots (first + low + high) ∷ lines) (held_join slots first low high)

-- a line that is put before all of a front stands behind it
pub inserted_over : (count : ℕ) (line : Placed) (front rest : List Placed) → length front ≡ count → inserted count line (front ++ rest) ≡ front ++ line ∷ rest
inserted_over zero line [] rest len = refl
inserted_over zero line (last ∷ front) rest len = absurd (omega arith)
inserted_over (suc count) line [] rest len = absurd (omega arith)
inserted_over (suc count) line (last ∷ front) rest len = ap (λ (lines : List Placed). last ∷ lines) (inserted_over count line front rest (omega arith))

-- the same place
pub at_place : (slots : List Placed) (one other : ℕ) → one ≡ other → slot_at slots one ≡ slot_at slots other
at_place slots one other same = ap (slot_at slots) same

-- # Behind the last place

pub wrapped_low : (place : ℕ) → place < SLOTS → wrapped place ≡ place
wrapped_low place within = rw (lt-ltb place SLOTS within) refl

pub wrapped_high : (place : ℕ) → SLOTS ≤ place → wrapped place ≡ place - SLOTS
wrapped_high place beyond = rw (le-ltb place SLOTS beyond) refl

pub wrapped_within : (place : ℕ) → place < SLOTS + SLOTS → wrapped place < SLOTS
wrapped_within place within = elim (cases_lt place SLOTS) [
  | inl low ↦ omega (arith, wrapped_low place low)
  | inr high ↦ omega (arith, wrapped_high place high)
]

-- a place from a wrapped one on is that from the other one on
pub wrapped_on : (first more : ℕ) → first + more < SLOTS + SLOTS → wrapped (wrapped first + more) ≡ wrapped (first + more)
wrapped_on first more within = elim (cases_lt first SLOTS) [
  | inl low ↦ ap (λ (n : ℕ). wrapped (n + more)) (wrapped_low first low)
  | inr high ↦
      ap (λ (n : ℕ). wrapped (n + more)) (wrapped_high first high)
      ∙ wrapped_low (first - SLOTS + more) (omega arith)
      ∙ omega (arith, wrapped_high (first + more) (omega arith))
]

-- two places of a ring are different where they stand apart
pub wrapped_apart : (low high : ℕ) → low < high → high < low + SLOTS → high < SLOTS + SLOTS → wrapped low ≢ wrapped high
wrapped_apart low high less near within same = elim (cases_lt high SLOTS) [
  | inl below ↦ omega (arith, same, wrapped_low low (omega arith), wrapped_low high below)
  | inr beyond ↦ elim (cases_lt low SLOTS) [
    | inl lower ↦ omega (arith, same, wrapped_low low lower, wrapped_high high beyond)
    | inr upper ↦ omega (arith, same, wrapped_high low upper, wrapped_high high beyond)
  ]
]

-- the same lines from a wrapped place on
pub held_wrapped : (slots : List Placed) (first more count : ℕ) → first + more + count ≤ SLOTS + SLOTS →
    held_from slots (wrapped first + more) count ≡ held_from slots (first + more) count
held_wrapped slots first more count within =
    held_same slots slots (first + more) (wrapped first + more) count (λ place below. (
    at_place slots (wrapped first + more + place) (wrapped first + (more + place)) (omega arith)
    ∙ ap (λ (n : ℕ). get_or slots n no_line) (wrapped_on first (more + place) (omega arith))
    ∙ at_place slots (first + (more + place)) (first + more + place) (omega arith)))

-- # A line in its place

-- a line that was written behind those that are held
pub held_set : (slots : List Placed) (line : Placed) (first held : ℕ) → first < SLOTS → held < SLOTS → length slots ≡ SLOTS →
    held_from (set slots (wrapped (first + held)) line) first held ≡ held_from slots first held
held_set slots line first held low fits len =
    held_same slots (set slots (wrapped (first + held)) line) first first held (λ place below.
    get_or-set_other slots (wrapped (first + held)) (wrapped (first + place)) line no_line
    (wrapped_apart (first + place) (first + held) (omega arith) (omega arith) (omega arith)))

-- the lines after one was moved before so many
pub held_moved : (old new : List Placed) (first low count : ℕ) → IsMovedDown first (low + count) count old new →
    held_from new first (suc (low + count)) ≡ inserted count (slot_at old (first + (low + count))) (held_from old first (low + count))
held_moved old new first low count moved =
    let suc_count : suc (low + count) ≡ suc low + count = omega arith in
    let upper : held_from new (first + suc low) count ≡ held_from old (first + low) count =
    held_same old new (first + low) (first + suc low) count (λ place below. (
    at_place new (first + suc low + place) (first + (low + place) + 1) (omega arith) ∙ moved.above (low + place) (omega arith) (omega arith)
    ∙ at_place old (first + (low + place)) (first + low + place) (omega arith))) in
    let line : slot_at new (first + low) ≡ slot_at old (first + (low + count)) = moved.moved low refl in
    let lower : held_from new first low ≡ held_from old first low = held_same old new first first low (λ place below. moved.below place (omega arith)) in
    ap (held_from new first) suc_count ∙ held_join new first (suc low) count
    ∙ ap (λ (lines : List Placed). lines ++ slot_at new (first + low) ∷ held_from new first low) upper
    ∙ ap (λ (here : Placed). held_from old (first + low) count ++ here ∷ held_from new first low) line
    ∙ ap (λ (lines : List Placed). held_from old (first + low) count ++ slot_at old (first + (low + count)) ∷ lines) lower
    ∙ sym (inserted_over count (slot_at old (first + (low + count))) (held_from old (first + low) count) (held_from old first low) (length-held_from old (first + low) count))
    ∙ ap (inserted count (slot_at old (first + (low + count)))) (sym (held_join old first low count))
