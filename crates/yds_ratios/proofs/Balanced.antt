-- What is to come and what has come, together: their powers, over all units, are at most those of the slots' own speeds.
use Rattle.yds_model.proofs.Common.{◌≡◌, ℕ, zero, suc, ◌+◌, ◌-◌, ◌*◌, ◌^◌, ◌<◌, ◌≤◌, ◌∙◌, List, get_or, ap, ap₂, arith, sum_by, All, All-weaker, nat_tests, mul-le-mul_left, mul-le-mul_right, le_of_mul-le-mul_left, WholeSlot, RunFrom, sum_by-add, sum_by-mul, sum_by_at_most, sum_by_zero}
use Rattle.base.specs.Numbers.{sum_below}
use Rattle.model_lemmas.proofs.SumsBelow.{sum_below_at_most, sum_below-add, sum_below-mul}
use Rattle.model_lemmas.proofs.Time.{before, here, one_running}
use Rattle.yds_ratios.proofs.Powers.{no_power, power_means}
use Rattle.yds_ratios.proofs.Below.{sum_below_list, sum_below_next, count_here}
use Rattle.yds_ratios.proofs.Telescoped.{left, right, back, ahead, is_until, left_powers, right_powers}

-- the means of a speed with two numbers, weighed by the two parts of a window
means_apart : (n rate past rest one other : ℕ) → 1 ≤ past + rest →
    (n + 1) * ((n + 1) * (rate * (past * one ^ n + rest * other ^ n)))
    ≤ ((n + 1) * (rate * (past + rest))) ^ suc n + n * (one ^ suc n + other ^ suc n)
means_apart n rate past rest one other some =
    let speed : ℕ = (n + 1) * (rate * (past + rest)) in
    le_of_mul-le-mul_left {k = past + rest} (omega (
      arith,
      mul-le-mul_left past (power_means n speed one),
      mul-le-mul_left rest (power_means n speed other),
    )) some

-- what counts once or not at all keeps an order
pub once : (often n m : ℕ) → often ≤ 1 → (often ≡ 1 → n ≤ m) → often * n ≤ often * m
once zero n m few less = omega arith
once (suc often) n m few less =
    let one : often ≡ 0 = omega (arith, few) in
    let it = less (omega (arith, one)) in
    omega (arith, it, ap (λ k. k * n) one, ap (λ k. k * m) one)

-- a unit lies in an interval once or not at all
pub here_few : (from to now : ℕ) → here from to now ≤ 1
here_few from to now = grind arith

-- once where it lies between its ends
pub here_told : (from to now : ℕ) → here from to now ≡ 1 → (from ≤ now) × (now < to)
here_told from to now is = (omega (arith, is), omega (arith, is))

-- units of an interval are no more than it is long
few_here : (from to end : ℕ) → sum_below end (here from to) ≤ to - from
few_here from to end = omega (arith, count_here from to end)

-- a window that has ended by the end isn't open there
closed : (last end : ℕ) → last ≤ end → is_until last end ≡ 0
closed last end over = grind (arith, nat_tests)

-- where all windows have ended nothing stands
right_last : (rate first last : WholeSlot → ℕ) (slots : List WholeSlot) (end : ℕ) → All (λ slot. (slot.to ≤ end) × (last slot ≤ end)) slots →
    right rate first last slots end end ≡ 0
right_last rate first last slots end ended =
    sum_by_zero (λ slot. is_until (last slot) end * rate slot * before slot.from slot.to end) slots
    (λ k d within.
    let slot = get_or slots k d in
    let it = closed (last slot) end (ended k d within).1 in
    omega (arith, ap (λ m. m * rate slot * before slot.from slot.to end) it))

-- sums over units, of two terms, times n + 1 and again
below_together : (n : ℕ) (f g : ℕ → ℕ) (end : ℕ) →
    sum_below end (λ k. (n + 1) * ((n + 1) * (f k + g k))) ≡ (n + 1) * ((n + 1) * (sum_below end f + sum_below end g))
below_together n f g end =
    sum_below-mul end (n + 1) (λ k. (n + 1) * (f k + g k))
    ∙ ap (λ m. (n + 1) * m) (sum_below-mul end (n + 1) (λ k. f k + g k) ∙ ap (λ m. (n + 1) * m) (sum_below-add end f g))

-- sums of two multiples, times n + 1 and again
together : {X : Type 0} (n one other : ℕ) (f g : X → ℕ) (xs : List X) →
    sum_by (λ x. (n + 1) * ((n + 1) * (one * f x + other * g x))) xs ≡ (n + 1) * ((n + 1) * (one * sum_by f xs + other * sum_by g xs))
together n one other f g xs =
    sum_by-mul (n + 1) (λ x. (n + 1) * (one * f x + other * g x)) xs
    ∙ ap (λ m. (n + 1) * m) (
    sum_by-mul (n + 1) (λ x. one * f x + other * g x) xs
    ∙ ap (λ m. (n + 1) * m) (sum_by-add (λ x. one * f x) (λ x. other * g x) xs ∙ ap₂ (λ a b. a + b) (sum_by-mul one f xs) (sum_by-mul other g xs))
    )

module _ (rate first last : WholeSlot → ℕ) (slots : List WholeSlot) (run : RunFrom 0 slots)
    (windows : All (λ slot. (first slot ≤ slot.from) × (slot.to ≤ last slot)) slots) where
  -- n + 1 times the slot's speed: its rate times its window's length
  abbrev speed : ℕ → WholeSlot → ℕ
  speed n slot = (n + 1) * (rate slot * (last slot - first slot))

  -- a slot at a unit: nothing where it doesn't run, else the means
  slot_at_unit : (n now one other : ℕ) (slot : WholeSlot) → (first slot ≤ slot.from) × (slot.to ≤ last slot) →
      (n + 1) * ((n + 1) * (one ^ n * ((suc now - first slot) * (rate slot * here slot.from slot.to now))
      + other ^ n * ((last slot - suc now) * (rate slot * here slot.from slot.to now))))
      ≤ here slot.from slot.to now * speed n slot ^ suc n + n * (one ^ suc n + other ^ suc n) * here slot.from slot.to now
  slot_at_unit n now one other slot window =
      let past : ℕ = suc now - first slot in
      let rest : ℕ = last slot - suc now in
      let means = once (here slot.from slot.to now) ((n + 1) * ((n + 1) * (rate slot * (past * one ^ n + rest * other ^ n))))
      (speed n slot ^ suc n + n * (one ^ suc n + other ^ suc n)) (here_few slot.from slot.to now)
      (λ is.
      let told = here_told slot.from slot.to now is in
      let both : past + rest ≡ last slot - first slot = omega (arith, window, told) in
      rw both at (means_apart n (rate slot) past rest one other (omega (arith, window, told)))) in
      omega (arith, means)

  -- all slots at a unit
  at_unit : (n now one other : ℕ) → (n + 1) * ((n + 1) * (back rate first last slots now * one ^ n + ahead rate first last slots now * other ^ n))
      ≤ sum_by (λ slot. here slot.from slot.to now * speed n slot ^ suc n) slots + n * (one ^ suc n + other ^ suc n)
  at_unit n now one other =
      let most : ℕ = n * (one ^ suc n + other ^ suc n) in
      let past = λ (slot : WholeSlot). (suc now - first slot) * (rate slot * here slot.from slot.to now) in
      let rest = λ (slot : WholeSlot). (last slot - suc now) * (rate slot * here slot.from slot.to now) in
      omega (
        arith,
        together n (one ^ n) (other ^ n) past rest slots,
        sum_by_at_most (λ slot. (n + 1) * ((n + 1) * (one ^ n * past slot + other ^ n * rest slot)))
            (λ slot. here slot.from slot.to now * speed n slot ^ suc n + most * here slot.from slot.to now) slots
            (λ k d within. slot_at_unit n now one other (get_or slots k d) (windows k d within)),
        sum_by-add (λ slot. here slot.from slot.to now * speed n slot ^ suc n) (λ slot. most * here slot.from slot.to now) slots,
        one_running (λ slot. most) 0 now most slots run
            (λ k d within. omega (arith, mul-le-mul_left most (here_few (get_or slots k d).from (get_or slots k d).to now))),
      )

  -- Over all units: where all slots and all windows have ended, the powers are at most those of n + 1 times the slots' speeds, in their time.
  pub balanced : (n end : ℕ) → All (λ slot. (slot.to ≤ end) × (last slot ≤ end)) slots →
      sum_below end (λ unit. left rate first last slots unit unit ^ suc n + right rate first last slots unit unit ^ suc n)
      ≤ sum_by (λ slot. (slot.to - slot.from) * speed n slot ^ suc n) slots
  balanced n end ended =
      let come = λ (unit : ℕ). left rate first last slots unit unit ^ suc n in
      let gone = λ (unit : ℕ). right rate first last slots unit unit ^ suc n in
      let back_then = λ (now : ℕ). back rate first last slots now * left rate first last slots now now ^ n in
      let ahead_then = λ (now : ℕ). ahead rate first last slots now * right rate first last slots (suc now) (suc now) ^ n in
      let own = λ (now : ℕ). sum_by (λ slot. here slot.from slot.to now * speed n slot ^ suc n) slots in
      omega (
        arith,
        mul-le-mul_left (n + 1) (left_powers rate first last slots n end (All-weaker (λ slot. (slot.to ≤ end) × (last slot ≤ end)) (λ slot. slot.to ≤ end)
            (λ slot both. both.0) slots ended)),
        mul-le-mul_left (n + 1) (right_powers rate first last slots n end),
        below_together n back_then ahead_then end,
        sum_below_at_most end (λ now. (n + 1) * ((n + 1) * (back_then now + ahead_then now))) (λ now. own now + n * (come now + gone (suc now)))
            (λ now within. at_unit n now (left rate first last slots now now) (right rate first last slots (suc now) (suc now))),
        sum_below-add end own (λ now. n * (come now + gone (suc now))),
        sum_below-mul end n (λ now. come now + gone (suc now)),
        ap (λ m. n * m) (sum_below-add end come (λ now. gone (suc now))),
        ap (λ m. n * m) (sum_below_next gone end),
        ap (λ m. n * m) (ap (λ m. m ^ suc n) (right_last rate first last slots end ended) ∙ no_power n),
        sum_below_list (λ now slot. here slot.from slot.to now) (λ slot. speed n slot ^ suc n) slots end,
        sum_by_at_most (λ slot. sum_below end (here slot.from slot.to) * speed n slot ^ suc n) (λ slot. (slot.to - slot.from) * speed n slot ^ suc n) slots
            (λ k d within. let slot = get_or slots k d in mul-le-mul_right (speed n slot ^ suc n) (few_here slot.from slot.to end)),
        sum_below-add end come gone,
      )
