-- What runs cost by the hinges: where a run does, above each whole speed y, at most what another schedule does above y over the exponent, and that times as
-- long as it is faster than y, it costs at most the exponent's own power times what the other does.
use Rattle.yds_model.proofs.Common.{◌≡◌, ℕ, suc, ◌+◌, ◌-◌, ◌*◌, ◌^◌, ◌<◌, ◌≤◌, List, [], ◌∷◌, get_or, cond, nat_lt, ap, arith, inl, inr, cases_lt, cond-true, cond-false, lt-ltb, le-ltb, All, All-tail, sum_by, sum_by-cons, sum_by_same, sum_by_at_most, sum_by-mul, mul-le-mul_left, mul-le-mul_right, WholeSlot, excess}
use Rattle.base.specs.Numbers.{sum_below}
use Rattle.model_lemmas.proofs.SumsBelow.{sum_below_at_most, sum_below_same, sum_below-add, sum_below-mul, sum_below_zero}
use Rattle.yds_ratios.specs.SpendingByPower.{is_faster, time_above}
use Rattle.yds_ratios.proofs.Layers.{weight, speed_below}
use Rattle.yds_ratios.proofs.WholeSpeeds.{takes, speed, HasSpeed, above, excess_is}
use Rattle.yds_point_laws.proofs.Hinges.{bend, hinges, priced, priced_times, times_below}

-- a slot is faster than a whole speed where its own speed is greater; a lemma of `yds_ratios` (WholeSpeeds), which keeps it to itself
faster_is : (K y : ℕ) (slot : WholeSlot) → HasSpeed K slot → y * cond (is_faster y K slot) (takes slot) 0 ≡ takes slot * speed_below (speed K slot) y
faster_is K y slot has = elim (cases_lt y (speed K slot)) [
  | inl under ↦
      let more : (y + 1) * takes slot ≤ speed K slot * takes slot = mul-le-mul_right (takes slot) (omega (arith, under)) in
      let faster : y * takes slot < K * slot.work = omega (arith, more, has.is, has.some) in
      omega (
        arith,
        ap (λ x. y * x) (cond-true {A = ℕ} (is_faster y K slot) (takes slot) 0 (lt-ltb (y * takes slot) (K * slot.work) faster)),
        ap (λ x. takes slot * x) (cond-true {A = ℕ} (nat_lt y (speed K slot)) y 0 (lt-ltb y (speed K slot) under)),
      )
  | inr over ↦
      let more : speed K slot * takes slot ≤ y * takes slot = mul-le-mul_right (takes slot) over in
      let slower : K * slot.work ≤ y * takes slot = omega (arith, more, has.is) in
      omega (
        arith,
        ap (λ x. y * x) (cond-false {A = ℕ} (is_faster y K slot) (takes slot) 0 (le-ltb (y * takes slot) (K * slot.work) slower)),
        ap (λ x. takes slot * x) (cond-false {A = ℕ} (nat_lt y (speed K slot)) y 0 (le-ltb y (speed K slot) over)),
      )
]

module _ (n H R K : ℕ) (some : 1 ≤ H) where
  -- a slot's hinges
  slot_hinges : (a : ℕ) (slot : WholeSlot) →
      bend n H R some * above K a H slot + sum_below R (λ k. weight n (H + k) * above K a (H + k) slot) ≡ takes slot * hinges n H R some (a * speed K slot)
  slot_hinges a slot =
      omega (
        arith,
        sum_below_same R (λ k. weight n (H + k) * above K a (H + k) slot) (λ k. takes slot * (weight n (H + k) * (a * speed K slot - (H + k)))) (λ k within. omega arith),
        sum_below-mul R (takes slot) (λ k. weight n (H + k) * (a * speed K slot - (H + k))),
      )

  -- all slots'
  all_hinges : (a : ℕ) (slots : List WholeSlot) → bend n H R some * sum_by (above K a H) slots + sum_below R (λ k. weight n (H + k) * sum_by (above K a (H + k)) slots)
      ≡ sum_by (λ slot. takes slot * hinges n H R some (a * speed K slot)) slots
  all_hinges a [] = omega (arith, sum_below_zero R (λ k. weight n (H + k) * sum_by (above K a (H + k)) []) (λ k within. omega arith))
  all_hinges a (slot ∷ slots) =
      omega (
        arith,
        slot_hinges a slot,
        all_hinges a slots,
        ap (λ x. bend n H R some * x) (sum_by-cons (above K a H) slot slots),
        sum_below_same R (λ k. weight n (H + k) * sum_by (above K a (H + k)) (slot ∷ slots))
            (λ k. weight n (H + k) * above K a (H + k) slot + weight n (H + k) * sum_by (above K a (H + k)) slots)
            (λ k within. omega (arith, ap (λ x. weight n (H + k) * x) (sum_by-cons (above K a (H + k)) slot slots))),
        sum_below-add R (λ k. weight n (H + k) * above K a (H + k) slot) (λ k. weight n (H + k) * sum_by (above K a (H + k)) slots),
        sum_by-cons (λ (one : WholeSlot). takes one * hinges n H R some (a * speed K one)) slot slots,
      )

  -- what slots cost at a times their speeds
  abbrev pub cost_of : ℕ → List WholeSlot → ℕ
  cost_of a slots = sum_by (λ slot. takes slot * priced n H R some (a * speed K slot)) slots

  -- is their work's and their hinges' part
  cost_parts : (a : ℕ) (slots : List WholeSlot) → cost_of a slots ≡ a * H ^ n * sum_by (λ slot. takes slot * speed K slot) slots + sum_by (λ slot. takes slot * hinges n H R some (a * speed K slot)) slots
  cost_parts a [] = omega arith
  cost_parts a (slot ∷ slots) =
      omega (
        arith,
        cost_parts a slots,
        sum_by-cons (λ (one : WholeSlot). takes one * priced n H R some (a * speed K one)) slot slots,
        ap (λ x. a * H ^ n * x) (sum_by-cons (λ (one : WholeSlot). takes one * speed K one) slot slots),
        sum_by-cons (λ (one : WholeSlot). takes one * hinges n H R some (a * speed K one)) slot slots,
      )

  -- how long slots are faster than the speeds from H on, weighed
  abbrev times_of : List WholeSlot → ℕ
  times_of slots = bend n H R some * (H * time_above H K slots) + sum_below R (λ k. weight n (H + k) * ((H + k) * time_above (H + k) K slots))

  -- a slot's part of it
  slot_times : (slot : WholeSlot) → HasSpeed K slot → speed K slot ≤ H + R →
      bend n H R some * (H * cond (is_faster H K slot) (takes slot) 0) + sum_below R (λ k. weight n (H + k) * ((H + k) * cond (is_faster (H + k) K slot) (takes slot) 0))
      ≤ n * (takes slot * priced n H R some (speed K slot))
  slot_times slot has to =
      omega (
        arith,
        ap (λ x. bend n H R some * x) (faster_is K H slot has),
        sum_below_same R (λ k. weight n (H + k) * ((H + k) * cond (is_faster (H + k) K slot) (takes slot) 0)) (λ k. takes slot * (weight n (H + k) * speed_below (speed K slot) (H + k)))
            (λ k within. omega (arith, ap (λ x. weight n (H + k) * x) (faster_is K (H + k) slot has))),
        sum_below-mul R (takes slot) (λ k. weight n (H + k) * speed_below (speed K slot) (H + k)),
        mul-le-mul_left (takes slot) (times_below n H R some (speed K slot) to),
      )

  -- together it is at most n times the cost
  all_times : (slots : List WholeSlot) → All (HasSpeed K) slots → All (λ slot. speed K slot ≤ H + R) slots →
      times_of slots ≤ n * sum_by (λ slot. takes slot * priced n H R some (speed K slot)) slots
  all_times [] have to = omega (arith, sum_below_zero R (λ k. weight n (H + k) * ((H + k) * time_above (H + k) K [])) (λ k within. omega arith))
  all_times (slot ∷ slots) have to =
      let time = λ (y : ℕ) (one : WholeSlot). cond (is_faster y K one) (takes one) 0 in
      omega (
        arith,
        slot_times slot (have 0 slot (omega arith)) (to 0 slot (omega arith)),
        all_times slots (All-tail (HasSpeed K) slot slots have) (All-tail (λ one. speed K one ≤ H + R) slot slots to),
        ap (λ x. bend n H R some * (H * x)) (sum_by-cons (time H) slot slots),
        sum_below_same R (λ k. weight n (H + k) * ((H + k) * time_above (H + k) K (slot ∷ slots)))
            (λ k. weight n (H + k) * ((H + k) * time (H + k) slot) + weight n (H + k) * ((H + k) * time_above (H + k) K slots))
            (λ k within. omega (arith, ap (λ x. weight n (H + k) * ((H + k) * x)) (sum_by-cons (time (H + k)) slot slots))),
        sum_below-add R (λ k. weight n (H + k) * ((H + k) * time (H + k) slot)) (λ k. weight n (H + k) * ((H + k) * time_above (H + k) K slots)),
        ap (λ x. n * x) (sum_by-cons (λ (one : WholeSlot). takes one * priced n H R some (speed K one)) slot slots),
      )

  -- So a run of two speeds costs at most so many times what the other does.
  pub priced_spend : (slots others : List WholeSlot) → All (HasSpeed K) slots → All (HasSpeed K) others → All (λ slot. speed K slot ≤ H + R) slots →
      All (λ slot. suc n * speed K slot ≤ H + R) others → sum_by (λ slot. takes slot * speed K slot) slots ≡ sum_by (λ slot. takes slot * speed K slot) others →
      ((y : ℕ) → suc n * excess y K slots ≤ excess y (suc n * K) others + y * time_above y K slots) →
      sum_by (λ slot. takes slot * priced n H R some (speed K slot)) slots ≤ suc n ^ suc n * sum_by (λ slot. takes slot * priced n H R some (speed K slot)) others
  priced_spend slots others have also to to_others works bound =
      let D : ℕ = bend n H R some in
      let one_K : 1 * K ≡ K = omega arith in
      let mine : (y : ℕ) → suc n * sum_by (above K 1 y) slots ≤ sum_by (above K (suc n) y) others + y * time_above y K slots =
      λ y. omega (arith, bound y, ap (λ x. suc n * x) (excess_is K 1 y slots have), ap (λ q. suc n * excess y q slots) one_K, excess_is K (suc n) y others also) in
      let one_speed : sum_by (λ slot. takes slot * priced n H R some (speed K slot)) slots ≡ cost_of 1 slots =
      sum_by_same (λ slot. takes slot * priced n H R some (speed K slot)) (λ slot. takes slot * priced n H R some (1 * speed K slot)) slots
      (λ k d within. let same : speed K (get_or slots k d) ≡ 1 * speed K (get_or slots k d) = omega arith in ap (λ x. takes (get_or slots k d) * priced n H R some x) same) in
      omega (
        arith,
        one_speed,
        ap (λ x. suc n * x) one_speed,
        cost_parts 1 slots,
        ap (λ x. suc n * x) (cost_parts 1 slots),
        cost_parts (suc n) others,
        all_hinges 1 slots,
        ap (λ x. suc n * x) (all_hinges 1 slots),
        all_hinges (suc n) others,
        ap (λ x. suc n * H ^ n * x) works,
        mul-le-mul_left D (mine H),
        sum_below-mul R (suc n) (λ k. weight n (H + k) * sum_by (above K 1 (H + k)) slots),
        sum_below-add R (λ k. weight n (H + k) * sum_by (above K (suc n) (H + k)) others) (λ k. weight n (H + k) * ((H + k) * time_above (H + k) K slots)),
        sum_below_at_most R (λ k. suc n * (weight n (H + k) * sum_by (above K 1 (H + k)) slots))
            (λ k. weight n (H + k) * sum_by (above K (suc n) (H + k)) others + weight n (H + k) * ((H + k) * time_above (H + k) K slots))
            (λ k within. omega (arith, mul-le-mul_left (weight n (H + k)) (mine (H + k)))),
        all_times slots have to,
        sum_by_at_most (λ slot. takes slot * priced n H R some (suc n * speed K slot)) (λ slot. suc n ^ suc n * (takes slot * priced n H R some (speed K slot))) others
            (λ k d within. omega (arith, mul-le-mul_left (takes (get_or others k d)) (priced_times n H R some (speed K (get_or others k d)) (to_others k d within)))),
        sum_by-mul (suc n ^ suc n) (λ slot. takes slot * priced n H R some (speed K slot)) others,
      )
