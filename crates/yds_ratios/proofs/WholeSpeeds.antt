-- Speeds made whole. At a common multiple of the slots' lengths each slot has a whole speed, its excess above a whole speed is its length
-- times what its speed is more, and its spending is its length times a power of its speed.
use Rattle.yds_model.proofs.Common.{◌≡◌, ℕ, suc, ◌+◌, ◌-◌, ◌*◌, ◌/◌, ◌^◌, ◌<◌, ◌≤◌, ◌∣◌, List, [], ◌∷◌, cond, nat_lt, get_or, sym, ap, subst, ◌∙◌, arith, inl, inr, All, sum_by, sum_by-cons, cases_lt, cond-true, cond-false, lt-ltb, le-ltb, pow-suc, mul-pos, mul-sub, mul-le-mul_left, mul-le-mul_right, le_of_mul-le-mul_left, div-mul_cancel, All-tail, All-weaker, get_or-le-sum_by, excess, WholeSlot, sum_by_same}
use Rattle.base.specs.Numbers.{sum_below}
use Rattle.model_lemmas.proofs.SumsBelow.{sum_below_at_most, sum_below_same, sum_below-add, sum_below-mul, sum_below_zero}
use Rattle.std.proofs.Math.Nat.{one-le-pow}
use Rattle.std.proofs.lemmas.Nat.{mul-pow}
use Rattle.yds_ratios.specs.SpendingByPower.{spending, IsAtMostTimes, is_faster, time_above}
use Rattle.yds_ratios.proofs.ListProducts.{product_of, product_some, product_divided}
use Rattle.yds_ratios.proofs.Layers.{weight, layers, speeds_below, speed_below, one_to}

-- # A common multiple of lengths

abbrev pub takes : WholeSlot → ℕ
takes slot = slot.to - slot.from

-- the product of the slots' lengths
abbrev pub lengths : List WholeSlot → ℕ
lengths slots = product_of takes slots

-- slots that take time have one
pub lengths_some : (slots : List WholeSlot) → All (λ slot. slot.from < slot.to) slots → 1 ≤ lengths slots
lengths_some slots forward = product_some takes slots (All-weaker (λ slot. slot.from < slot.to) (λ slot. 1 ≤ takes slot) (λ slot ahead. omega (arith, ahead)) slots forward)

-- # Whole speeds

-- a slot's speed, times the multiple
abbrev pub speed : ℕ → WholeSlot → ℕ
speed K slot = slot.work * (K / takes slot)

-- the slot takes time, and its speed is so much
pub record HasSpeed (K : ℕ) (slot : WholeSlot) : Type 0 where
  pub some : 1 ≤ takes slot
  pub is : speed K slot * takes slot ≡ K * slot.work

-- a slot whose length divides the multiple has a whole speed
has_speed : (K : ℕ) (slot : WholeSlot) → slot.from < slot.to → takes slot ∣ K → HasSpeed K slot
has_speed K slot forward divides = record {
  some = omega (arith, forward);
  is = omega (arith, ap (λ n. slot.work * n) (div-mul_cancel (takes slot) divides));
}

-- so have all slots, where the multiple is one of each length
pub have_speeds : (K : ℕ) (slots : List WholeSlot) → All (λ slot. slot.from < slot.to) slots → All (λ slot. takes slot ∣ K) slots → All (HasSpeed K) slots
have_speeds K slots forward divided k d within = has_speed K (get_or slots k d) (forward k d within) (divided k d within)

-- the slots of two schedules have whole speeds at the product of all their lengths
pub first_speeds : (slots others : List WholeSlot) → All (λ slot. slot.from < slot.to) slots → All (HasSpeed (lengths slots * lengths others)) slots
first_speeds slots others forward = have_speeds (lengths slots * lengths others) slots forward (product_divided takes slots (lengths others))

-- and so it is with those of the other
pub other_speeds : (slots others : List WholeSlot) → All (λ slot. slot.from < slot.to) others → All (HasSpeed (lengths slots * lengths others)) others
other_speeds slots others forward =
    have_speeds (lengths slots * lengths others) others forward
    (let turned : lengths others * lengths slots ≡ lengths slots * lengths others = omega arith in
    subst (λ (n : ℕ). All (λ slot. takes slot ∣ n) others) turned (product_divided takes others (lengths slots)))

-- # What slots do above a whole speed

abbrev pub above : ℕ → ℕ → ℕ → WholeSlot → ℕ
above K a y slot = takes slot * (a * speed K slot - y)

-- what a slot does above a whole speed is its length times what its speed is more
above_is : (K a y : ℕ) (slot : WholeSlot) → HasSpeed K slot → a * K * slot.work - y * takes slot ≡ above K a y slot
above_is K a y slot has =
    let all : a * K * slot.work ≡ takes slot * (a * speed K slot) = omega (arith, ap (λ n. a * n) has.is) in
    rw (mul-sub (takes slot) (a * speed K slot) y) (omega (arith, all))

-- the excess above y over a times the multiple
pub excess_is : (K a y : ℕ) (slots : List WholeSlot) → All (HasSpeed K) slots → excess y (a * K) slots ≡ sum_by (above K a y) slots
excess_is K a y slots have = sum_by_same (λ slot. a * K * slot.work - y * takes slot) (above K a y) slots
    (λ k d within. above_is K a y (get_or slots k d) (have k d within))

-- # What slots spend

abbrev pub slot_spent : ℕ → ℕ → WholeSlot → ℕ
slot_spent n K slot = takes slot * speed K slot ^ suc n

-- the lengths times the speeds to the exponent n + 1
abbrev pub spent : ℕ → ℕ → List WholeSlot → ℕ
spent n K slots = sum_by (slot_spent n K) slots

-- the two denominators and numerators of the sum, in plain numbers
spent_more : (power long work more num den here rest : ℕ) → here * long ≡ power * work → rest * den ≡ power * num →
    (here + rest) * (long * den) ≡ power * (work * den + num * long)
spent_more power long work more num den here rest first other =
    omega (arith, ap (λ n. n * den) first, ap (λ n. n * long) other)

-- what a slot spends, times its length to n, is its work to the exponent, times that of the multiple
slot_is : (n K : ℕ) (slot : WholeSlot) → HasSpeed K slot → slot_spent n K slot * takes slot ^ n ≡ K ^ suc n * slot.work ^ suc n
slot_is n K slot has =
    omega (
      arith,
      mul-pow (speed K slot) (takes slot) (suc n),
      ap (λ x. x ^ suc n) has.is,
      mul-pow K slot.work (suc n),
      ap (λ x. speed K slot ^ suc n * x) (pow-suc (takes slot) n),
    )

pub record IsSpent (n K : ℕ) (slots : List WholeSlot) : Type 0 where
  pub some : 1 ≤ (spending (suc n) slots).den
  pub is : spent n K slots * (spending (suc n) slots).den ≡ K ^ suc n * (spending (suc n) slots).num

-- so it is with what slots spend together
pub is_spent : (n K : ℕ) (slots : List WholeSlot) → All (HasSpeed K) slots → IsSpent n K slots
is_spent n K [] have = record { some = omega arith; is = omega arith }
is_spent n K (slot ∷ slots) have =
    let rest = is_spent n K slots (All-tail (HasSpeed K) slot slots have) in
    let here = have 0 slot (omega arith) in
    let less : suc n - 1 ≡ n = omega arith in
    let first : slot_spent n K slot * takes slot ^ (suc n - 1) ≡ K ^ suc n * slot.work ^ suc n =
    subst (λ (m : ℕ). slot_spent n K slot * takes slot ^ m ≡ K ^ suc n * slot.work ^ suc n) (sym less) (slot_is n K slot here) in
    record {
      some = mul-pos (one-le-pow (suc n - 1) (takes slot) here.some) rest.some;
      is = ap (λ x. x * (takes slot ^ (suc n - 1) * (spending (suc n) slots).den)) (sum_by-cons (slot_spent n K) slot slots)
          ∙ spent_more (K ^ suc n) (takes slot ^ (suc n - 1)) (slot.work ^ suc n) 0 (spending (suc n) slots).num (spending (suc n) slots).den
          (slot_spent n K slot) (spent n K slots) first rest.is;
    }

-- in plain numbers: the comparison of sums is that of the quotients
cross : (power factor sum num den other_sum other_num other_den : ℕ) → 1 ≤ power → sum * den ≡ power * num → other_sum * other_den ≡ power * other_num →
    sum ≤ factor * other_sum → num * other_den ≤ factor * other_num * den
cross power factor sum num den other_sum other_num other_den some is other most =
    le_of_mul-le-mul_left {k = power} (omega (
      arith,
      ap (λ x. x * other_den) is,
      ap (λ x. factor * den * x) other,
      mul-le-mul_right (den * other_den) most,
    )) some

-- So the one spends at most so many times what the other does, where it is so of those sums.
pub at_most_times : (n K factor : ℕ) (slots others : List WholeSlot) → 1 ≤ K → All (HasSpeed K) slots → All (HasSpeed K) others →
    spent n K slots ≤ factor * spent n K others → IsAtMostTimes factor (spending (suc n) slots) (spending (suc n) others)
at_most_times n K factor slots others some have also most =
    let one = is_spent n K slots have in
    let other = is_spent n K others also in
    record {
      some = one.some;
      other_some = other.some;
      at_most = cross (K ^ suc n) factor (spent n K slots) (spending (suc n) slots).num (spending (suc n) slots).den
          (spent n K others) (spending (suc n) others).num (spending (suc n) others).den (one-le-pow (suc n) K some) one.is other.is most;
    }

-- # By layers

-- a slot's spending by layers
layer_of : (n K a N : ℕ) (slot : WholeSlot) → a * speed K slot ≤ N → sum_below N (λ y. weight n y * above K a y slot) ≡ a ^ suc n * slot_spent n K slot
layer_of n K a N slot most =
    sum_below_same N (λ y. weight n y * above K a y slot) (λ y. takes slot * (weight n y * (a * speed K slot - y))) (λ y within. omega arith)
    ∙ sum_below-mul N (takes slot) (λ y. weight n y * (a * speed K slot - y))
    ∙ omega (arith, ap (λ x. takes slot * x) (layers n (a * speed K slot) N most), ap (λ x. takes slot * x) (mul-pow a (speed K slot) (suc n)))

-- what slots spend at a times their speeds is the sum of the weights times what they do above each whole speed
pub spent_by_layers : (n K a N : ℕ) (slots : List WholeSlot) → All (λ slot. a * speed K slot ≤ N) slots →
    sum_below N (λ y. weight n y * sum_by (above K a y) slots) ≡ a ^ suc n * spent n K slots
spent_by_layers n K a N [] most = omega (arith, sum_below_zero N (λ y. weight n y * sum_by (above K a y) []) (λ y within. omega arith))
spent_by_layers n K a N (slot ∷ slots) most =
    let here = layer_of n K a N slot (most 0 slot (omega arith)) in
    let rest = spent_by_layers n K a N slots (All-tail (λ one. a * speed K one ≤ N) slot slots most) in
    sum_below_same N (λ y. weight n y * sum_by (above K a y) (slot ∷ slots)) (λ y. weight n y * above K a y slot + weight n y * sum_by (above K a y) slots)
    (λ y within. omega (arith, ap (λ x. weight n y * x) (sum_by-cons (above K a y) slot slots)))
    ∙ sum_below-add N (λ y. weight n y * above K a y slot) (λ y. weight n y * sum_by (above K a y) slots)
    ∙ omega (arith, here, rest, ap (λ x. a ^ suc n * x) (sum_by-cons (slot_spent n K) slot slots))

-- a speed that is above all of a times the slots' speeds
abbrev pub top : ℕ → ℕ → List WholeSlot → ℕ
top K a slots = sum_by (λ slot. a * speed K slot) slots

-- no slot is above it
within_top : (K a N : ℕ) (slots : List WholeSlot) → top K a slots ≤ N → All (λ slot. a * speed K slot ≤ N) slots
within_top K a N slots most k d within = omega (arith, get_or-le-sum_by (λ slot. a * speed K slot) slots k d within, most)

-- What does no more above any whole speed spends no more.
pub least_spends_least : (n K : ℕ) (slots others : List WholeSlot) → All (HasSpeed K) slots → All (HasSpeed K) others →
    ((y : ℕ) → excess y K slots ≤ excess y K others) → spent n K slots ≤ 1 * spent n K others
least_spends_least n K slots others have also least =
    let N : ℕ = top K 1 slots + top K 1 others in
    let one : 1 * K ≡ K = omega arith in
    le_of_mul-le-mul_left {k = 1 ^ suc n} (omega (
      arith,
      spent_by_layers n K 1 N slots (within_top K 1 N slots (omega arith)),
      spent_by_layers n K 1 N others (within_top K 1 N others (omega arith)),
      sum_below_at_most N (λ y. weight n y * sum_by (above K 1 y) slots) (λ y. weight n y * sum_by (above K 1 y) others)
          (λ y within. mul-le-mul_left (weight n y) (omega (
            arith,
            least y,
            ap (λ q. excess y q slots) one,
            ap (λ q. excess y q others) one,
            excess_is K 1 y slots have,
            excess_is K 1 y others also,
          ))),
    )) (one-le-pow (suc n) 1 (omega arith))

-- # How long slots are faster than a whole speed

-- a slot is faster than a whole speed where its own speed is greater
faster_is : (K y : ℕ) (slot : WholeSlot) → HasSpeed K slot →
    y * cond (is_faster y K slot) (takes slot) 0 ≡ takes slot * speed_below (speed K slot) y
faster_is K y slot has = elim (cases_lt y (speed K slot)) [
  | inl under ↦
      let more : (y + 1) * takes slot ≤ speed K slot * takes slot = mul-le-mul_right (takes slot) (omega (arith, under)) in
      let faster : y * takes slot < K * slot.work = omega (arith, more, has.is, has.some) in
      omega (
        arith,
        ap (λ x. y * x) (cond-true {A = ℕ} (is_faster y K slot) (takes slot) 0 (lt-ltb (y * takes slot) (K * slot.work) faster)),
        ap (λ x. takes slot * x) (cond-true {A = ℕ} (nat_lt y (speed K slot)) y 0 (lt-ltb y (speed K slot) under)),
      )
  | inr over ↦
      let more : speed K slot * takes slot ≤ y * takes slot = mul-le-mul_right (takes slot) over in
      let slower : K * slot.work ≤ y * takes slot = omega (arith, more, has.is) in
      omega (
        arith,
        ap (λ x. y * x) (cond-false {A = ℕ} (is_faster y K slot) (takes slot) 0 (le-ltb (y * takes slot) (K * slot.work) slower)),
        ap (λ x. takes slot * x) (cond-false {A = ℕ} (nat_lt y (speed K slot)) y 0 (le-ltb y (speed K slot) over)),
      )
]

-- a slot's weighed speeds below its own
slot_time : (n K N : ℕ) (slot : WholeSlot) → HasSpeed K slot → speed K slot ≤ N →
    sum_below N (λ y. weight n y * (y * cond (is_faster y K slot) (takes slot) 0)) ≤ n * slot_spent n K slot
slot_time n K N slot has most =
    omega (
      arith,
      sum_below_same N (λ y. weight n y * (y * cond (is_faster y K slot) (takes slot) 0)) (λ y. takes slot * (weight n y * speed_below (speed K slot) y))
          (λ y within. omega (arith, ap (λ x. weight n y * x) (faster_is K y slot has))),
      sum_below-mul N (takes slot) (λ y. weight n y * speed_below (speed K slot) y),
      mul-le-mul_left (takes slot) (speeds_below n (speed K slot) N most),
    )

-- the weights times the speeds times how long slots are faster: at most the exponent less one times what they spend
pub time_by_layers : (n K N : ℕ) (slots : List WholeSlot) → All (HasSpeed K) slots → All (λ slot. 1 * speed K slot ≤ N) slots →
    sum_below N (λ y. weight n y * (y * time_above y K slots)) ≤ n * spent n K slots
time_by_layers n K N [] have most = omega (arith, sum_below_zero N (λ y. weight n y * (y * time_above y K [])) (λ y within. omega arith))
time_by_layers n K N (slot ∷ slots) have most =
    let here = slot_time n K N slot (have 0 slot (omega arith)) (omega (arith, most 0 slot (omega arith))) in
    let rest = time_by_layers n K N slots (All-tail (HasSpeed K) slot slots have) (All-tail (λ one. 1 * speed K one ≤ N) slot slots most) in
    omega (
      arith,
      sum_below_same N (λ y. weight n y * (y * time_above y K (slot ∷ slots))) (λ y. weight n y * (y * cond (is_faster y K slot) (takes slot) 0) + weight n y * (y * time_above y K slots))
          (λ y within. omega (arith, ap (λ x. weight n y * (y * x)) (sum_by-cons (λ (one : WholeSlot). cond (is_faster y K one) (takes one) 0) slot slots))),
      sum_below-add N (λ y. weight n y * (y * cond (is_faster y K slot) (takes slot) 0)) (λ y. weight n y * (y * time_above y K slots)),
      here,
      rest,
      ap (λ x. n * x) (sum_by-cons (slot_spent n K) slot slots),
    )

-- What does, above each whole speed y, at most what others do above y over the exponent, and that times as long as it is faster than y, spends at
-- most the exponent's own power times what the others do.
pub two_speeds_spend : (n K : ℕ) (slots others : List WholeSlot) → All (HasSpeed K) slots → All (HasSpeed K) others →
    ((y : ℕ) → suc n * excess y K slots ≤ excess y (suc n * K) others + y * time_above y K slots) → spent n K slots ≤ suc n ^ suc n * spent n K others
two_speeds_spend n K slots others have also bound =
    let N : ℕ = top K 1 slots + top K (suc n) others in
    let one : 1 * K ≡ K = omega arith in
    let first = within_top K 1 N slots (omega arith) in
    omega (
      arith,
      ap (λ x. suc n * x) (spent_by_layers n K 1 N slots first),
      ap (λ x. suc n * (x * spent n K slots)) (one_to (suc n)),
      spent_by_layers n K (suc n) N others (within_top K (suc n) N others (omega arith)),
      time_by_layers n K N slots have first,
      sum_below-mul N (suc n) (λ y. weight n y * sum_by (above K 1 y) slots),
      sum_below-add N (λ y. weight n y * sum_by (above K (suc n) y) others) (λ y. weight n y * (y * time_above y K slots)),
      sum_below_at_most N (λ y. suc n * (weight n y * sum_by (above K 1 y) slots)) (λ y. weight n y * sum_by (above K (suc n) y) others + weight n y * (y * time_above y K slots))
          (λ y within.
          let mine : sum_by (above K 1 y) slots ≡ excess y K slots = omega (arith, excess_is K 1 y slots have, ap (λ q. excess y q slots) one) in
          let here : suc n * sum_by (above K 1 y) slots ≤ sum_by (above K (suc n) y) others + y * time_above y K slots =
          omega (arith, bound y, ap (λ x. suc n * x) mine, excess_is K (suc n) y others also) in
          omega (arith, mul-le-mul_left (weight n y) here)),
    )
