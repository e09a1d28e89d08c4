-- Two potentials by units of time. Each slot's rate stands in a window around it: in each of the window's units stands what of the slot
-- comes at that unit or later, and what comes before. The powers of what stands fall, or rise, in steps as time goes on.
use Rattle.yds_model.proofs.Common.{◌≡◌, ℕ, suc, ◌+◌, ◌-◌, ◌*◌, ◌^◌, ◌≤◌, ◌∙◌, min, max, List, get_or, sym, ap, arith, inl, inr, cond, nat_le, nat_lt, sum_by, All, nat_tests, cases_lt, mul-le-mul_left, mul-le-mul_right, mul_assoc, mul-add, WholeSlot, sum_by-add, sum_by_same, sum_by_at_most, sum_by_zero}
use Rattle.base.specs.Numbers.{sum_below}
use Rattle.model_lemmas.proofs.SumsBelow.{sum_below_at_most, sum_below-mul, sum_below_zero}
use Rattle.std.proofs.Math.Nat.{pow-le-pow_left}
use Rattle.model_lemmas.proofs.Time.{before, here}
use Rattle.yds_ratios.proofs.Powers.{no_power, power_step}
use Rattle.yds_ratios.proofs.Below.{sum_below_times, sum_below_list, is_between, count_between, all_steps, all_rises}

-- how much of an interval lies at `now` or later
abbrev pub after : ℕ → ℕ → ℕ → ℕ
after from to now = max to now - max from now

-- at a unit lies what lies there, and the rest later
after_falls : (from to now : ℕ) → after from to now ≡ after from to (suc now) + here from to now
after_falls from to now = grind arith

-- before the next unit lies what lies before this one and what lies there
before_rises : (from to now : ℕ) → before from to (suc now) ≡ before from to now + here from to now
before_rises from to now = grind arith

-- where weights count sums, so it is of all together
weighed : {X : Type 0} (weight f g h : X → ℕ) (xs : List X) → ((x : X) → f x ≡ g x + h x) →
    sum_by (λ x. weight x * f x) xs ≡ sum_by (λ x. weight x * g x) xs + sum_by (λ x. weight x * h x) xs
weighed weight f g h xs each =
    sum_by_same (λ x. weight x * f x) (λ x. weight x * g x + weight x * h x) xs
    (λ k d within. ap (λ n. weight (get_or xs k d) * n) (each (get_or xs k d)) ∙ mul-add _ _ _)
    ∙ sum_by-add (λ x. weight x * g x) (λ x. weight x * h x) xs

-- 1 if a window that begins at `first` has begun by the unit, else 0
abbrev pub is_since : ℕ → ℕ → ℕ
is_since first unit = cond (nat_le first unit) 1 0

-- 1 if one that ends at `last` hasn't ended by it, else 0
abbrev pub is_until : ℕ → ℕ → ℕ
is_until last unit = cond (nat_lt unit last) 1 0

-- of units up to now those after its beginning are between
since_between : (first now unit : ℕ) → unit ≤ now → is_between first (suc now) unit ≡ is_since first unit
since_between first now unit upto = grind (arith, nat_tests)

-- and of later ones those before its end
until_between : (last now unit : ℕ) → suc now ≤ unit → is_between (suc now) last unit ≡ is_until last unit
until_between last now unit later = grind (arith, nat_tests)

-- what has begun by a unit has begun by a later one
since_more : (first unit now : ℕ) → unit ≤ now → is_since first unit ≤ is_since first now
since_more first unit now upto = grind (arith, nat_tests)

-- what hasn't ended by a unit hasn't by an earlier one
until_more : (last unit now : ℕ) → now ≤ unit → is_until last unit ≤ is_until last now
until_more last unit now later = grind (arith, nat_tests)

-- there are as many units between
few_between : (from to n : ℕ) → sum_below n (is_between from to) ≤ to - from
few_between from to n = omega (arith, count_between from to n)

-- what is nothing comes to nothing, however often it counts
pub no_more : (often n : ℕ) → n ≡ 0 → often * n ≡ 0
no_more often n none = omega (arith, ap (λ m. often * m) none)

module _ (rate first last : WholeSlot → ℕ) (slots : List WholeSlot) where
  -- what stands in a unit of what comes at `now` or later: of the slots whose window has begun
  abbrev pub left : ℕ → ℕ → ℕ
  left unit now = sum_by (λ slot. is_since (first slot) unit * rate slot * after slot.from slot.to now) slots

  -- and of what comes before: of those whose window hasn't ended
  abbrev pub right : ℕ → ℕ → ℕ
  right unit now = sum_by (λ slot. is_until (last slot) unit * rate slot * before slot.from slot.to now) slots

  -- the rate of what runs now, once for each unit of its window up to now
  abbrev pub back : ℕ → ℕ
  back now = sum_by (λ slot. (suc now - first slot) * (rate slot * here slot.from slot.to now)) slots

  -- and once for each unit after
  abbrev pub ahead : ℕ → ℕ
  ahead now = sum_by (λ slot. (last slot - suc now) * (rate slot * here slot.from slot.to now)) slots

  -- in one unit: up to now, and once its window has begun
  abbrev back_in : ℕ → ℕ → ℕ
  back_in unit now = sum_by (λ slot. is_between (first slot) (suc now) unit * (rate slot * here slot.from slot.to now)) slots

  -- or after now, and until it ends
  abbrev ahead_in : ℕ → ℕ → ℕ
  ahead_in unit now = sum_by (λ slot. is_between (suc now) (last slot) unit * (rate slot * here slot.from slot.to now)) slots

  -- over all units it is there as often
  back_all : (now n : ℕ) → sum_below n (λ unit. back_in unit now) ≤ back now
  back_all now n =
      omega (
        arith,
        sum_below_list (λ unit slot. is_between (first slot) (suc now) unit) (λ slot. rate slot * here slot.from slot.to now) slots n,
        sum_by_at_most (λ slot. sum_below n (λ unit. is_between (first slot) (suc now) unit) * (rate slot * here slot.from slot.to now))
            (λ slot. (suc now - first slot) * (rate slot * here slot.from slot.to now)) slots
            (λ k d within. mul-le-mul_right _ (few_between (first (get_or slots k d)) (suc now) n)),
      )

  -- and so ahead
  ahead_all : (now n : ℕ) → sum_below n (λ unit. ahead_in unit now) ≤ ahead now
  ahead_all now n =
      omega (
        arith,
        sum_below_list (λ unit slot. is_between (suc now) (last slot) unit) (λ slot. rate slot * here slot.from slot.to now) slots n,
        sum_by_at_most (λ slot. sum_below n (λ unit. is_between (suc now) (last slot) unit) * (rate slot * here slot.from slot.to now))
            (λ slot. (last slot - suc now) * (rate slot * here slot.from slot.to now)) slots
            (λ k d within. mul-le-mul_right _ (few_between (suc now) (last (get_or slots k d)) n)),
      )

  -- With a unit of time what runs there is no longer to come, in each unit of its window up to then.
  left_falls : (unit now : ℕ) → unit ≤ now → left unit now ≡ left unit (suc now) + back_in unit now
  left_falls unit now upto =
      omega (
        arith,
        weighed (λ slot. is_since (first slot) unit * rate slot) (λ slot. after slot.from slot.to now) (λ slot. after slot.from slot.to (suc now))
            (λ slot. here slot.from slot.to now) slots (λ slot. after_falls slot.from slot.to now),
        sum_by_same (λ slot. is_since (first slot) unit * rate slot * here slot.from slot.to now)
            (λ slot. is_between (first slot) (suc now) unit * (rate slot * here slot.from slot.to now)) slots
            (λ k d within. let slot = get_or slots k d in
            rw (since_between (first slot) now unit upto) (mul_assoc (is_since (first slot) unit) (rate slot) (here slot.from slot.to now))),
      )

  -- And it has come, in each of those after.
  right_rises : (unit now : ℕ) → suc now ≤ unit → right unit (suc now) ≡ right unit now + ahead_in unit now
  right_rises unit now later =
      omega (
        arith,
        weighed (λ slot. is_until (last slot) unit * rate slot) (λ slot. before slot.from slot.to (suc now)) (λ slot. before slot.from slot.to now)
            (λ slot. here slot.from slot.to now) slots (λ slot. before_rises slot.from slot.to now),
        sum_by_same (λ slot. is_until (last slot) unit * rate slot * here slot.from slot.to now)
            (λ slot. is_between (suc now) (last slot) unit * (rate slot * here slot.from slot.to now)) slots
            (λ k d within. let slot = get_or slots k d in
            rw (until_between (last slot) now unit later) (mul_assoc (is_until (last slot) unit) (rate slot) (here slot.from slot.to now))),
      )

  -- in a later unit more windows have begun
  left_more : (unit now : ℕ) → unit ≤ now → left unit now ≤ left now now
  left_more unit now upto =
      sum_by_at_most (λ slot. is_since (first slot) unit * rate slot * after slot.from slot.to now)
      (λ slot. is_since (first slot) now * rate slot * after slot.from slot.to now) slots
      (λ k d within. mul-le-mul_right _ (mul-le-mul_right _ (since_more (first (get_or slots k d)) unit now upto)))

  -- and in an earlier one fewer have ended
  right_more : (unit now : ℕ) → now ≤ unit → right unit now ≤ right now now
  right_more unit now later =
      sum_by_at_most (λ slot. is_until (last slot) unit * rate slot * before slot.from slot.to now)
      (λ slot. is_until (last slot) now * rate slot * before slot.from slot.to now) slots
      (λ k d within. mul-le-mul_right _ (mul-le-mul_right _ (until_more (last (get_or slots k d)) unit now later)))

  -- so the powers fall by at most so much
  left_power : (n unit now : ℕ) →
      left unit (max unit now) ^ suc n ≤ left unit (max unit (suc now)) ^ suc n + (n + 1) * (back_in unit now * left now now ^ n)
  left_power n unit now = elim (cases_lt now unit) [
    | inl early ↦
        let same : max unit now ≡ max unit (suc now) = omega arith in
        omega (arith, ap (λ time. left unit time ^ suc n) same)
    | inr upto ↦
        let this : max unit now ≡ now = omega arith in
        let next : max unit (suc now) ≡ suc now = omega arith in
        let fall : left unit (suc now) + back_in unit now ≡ left unit now = sym (left_falls unit now upto) in
        let step : left unit now ^ suc n ≤ left unit (suc now) ^ suc n + (n + 1) * (back_in unit now * left unit now ^ n) =
        rw fall at (power_step n (left unit (suc now)) (back_in unit now)) in
        omega (
          arith,
          ap (λ time. left unit time ^ suc n) this,
          ap (λ time. left unit time ^ suc n) next,
          step,
          mul-le-mul_left (n + 1) (mul-le-mul_left (back_in unit now) (pow-le-pow_left (left_more unit now upto) n)),
        )
  ]

  -- and rise by at most so much
  right_power : (n unit now : ℕ) →
      right unit (min unit (suc now)) ^ suc n ≤ right unit (min unit now) ^ suc n + (n + 1) * (ahead_in unit now * right (suc now) (suc now) ^ n)
  right_power n unit now = elim (cases_lt now unit) [
    | inr upto ↦
        let same : min unit now ≡ min unit (suc now) = omega arith in
        omega (arith, ap (λ time. right unit time ^ suc n) same)
    | inl later ↦
        let this : min unit now ≡ now = omega arith in
        let next : min unit (suc now) ≡ suc now = omega arith in
        let rise : right unit now + ahead_in unit now ≡ right unit (suc now) = sym (right_rises unit now (omega arith)) in
        let step : right unit (suc now) ^ suc n ≤ right unit now ^ suc n + (n + 1) * (ahead_in unit now * right unit (suc now) ^ n) =
        rw rise at (power_step n (right unit now) (ahead_in unit now)) in
        omega (
          arith,
          ap (λ time. right unit time ^ suc n) this,
          ap (λ time. right unit time ^ suc n) next,
          step,
          mul-le-mul_left (n + 1) (mul-le-mul_left (ahead_in unit now) (pow-le-pow_left (right_more unit (suc now) (omega arith)) n)),
        )
  ]

  -- before any time nothing has come
  right_first : (unit : ℕ) → right unit 0 ≡ 0
  right_first unit =
      sum_by_zero (λ slot. is_until (last slot) unit * rate slot * before slot.from slot.to 0) slots
      (λ k d within. no_more _ (before (get_or slots k d).from (get_or slots k d).to 0) (omega arith))

  -- and once all slots have ended nothing is to come
  left_last : (unit end : ℕ) → All (λ slot. slot.to ≤ end) slots → left unit end ≡ 0
  left_last unit end ended =
      sum_by_zero (λ slot. is_since (first slot) unit * rate slot * after slot.from slot.to end) slots
      (λ k d within. let done = ended k d within in no_more _ (after (get_or slots k d).from (get_or slots k d).to end) (omega (arith, done)))

  -- Together: the powers of what is to come are at most n + 1 times the rates, each as often as its window has units up to then.
  pub left_powers : (n end : ℕ) → All (λ slot. slot.to ≤ end) slots →
      sum_below end (λ unit. left unit unit ^ suc n) ≤ (n + 1) * sum_below end (λ now. back now * left now now ^ n)
  left_powers n end ended =
      omega (
        arith,
        sum_below_at_most end (λ unit. left unit unit ^ suc n) (λ unit. left unit (max unit 0) ^ suc n) (λ unit within.
            let same : unit ≡ max unit 0 = omega arith in
            let it = ap (λ time. left unit time ^ suc n) same in omega (arith, it)),
        all_steps (λ unit now. left unit (max unit now) ^ suc n) (λ unit now. (n + 1) * (back_in unit now * left now now ^ n)) end end
            (λ unit now within. left_power n unit now),
        sum_below_zero end (λ unit. left unit (max unit end) ^ suc n) (λ unit within.
            let same : max unit end ≡ end = omega (arith, within) in
            ap (λ m. m ^ suc n) (ap (λ time. left unit time) same ∙ left_last unit end ended) ∙ no_power n),
        sum_below_at_most end (λ now. sum_below end (λ unit. (n + 1) * (back_in unit now * left now now ^ n))) (λ now. (n + 1) * (back now * left now now ^ n))
            (λ now within. omega (
              arith,
              sum_below-mul end (n + 1) (λ unit. back_in unit now * left now now ^ n),
              ap (λ m. (n + 1) * m) (sum_below_times (left now now ^ n) (λ unit. back_in unit now) end),
              mul-le-mul_left (n + 1) (mul-le-mul_right (left now now ^ n) (back_all now end)),
            )),
        sum_below-mul end (n + 1) (λ now. back now * left now now ^ n),
      )

  -- And those of what has come are at most so with the units after, and with what has come by the end of the unit.
  pub right_powers : (n end : ℕ) → sum_below end (λ unit. right unit unit ^ suc n) ≤ (n + 1) * sum_below end (λ now. ahead now * right (suc now) (suc now) ^ n)
  right_powers n end =
      omega (
        arith,
        sum_below_at_most end (λ unit. right unit unit ^ suc n) (λ unit. right unit (min unit end) ^ suc n) (λ unit within.
            let same : unit ≡ min unit end = omega (arith, within) in
            let it = ap (λ time. right unit time ^ suc n) same in omega (arith, it)),
        all_rises (λ unit now. right unit (min unit now) ^ suc n) (λ unit now. (n + 1) * (ahead_in unit now * right (suc now) (suc now) ^ n)) end end
            (λ unit now within. right_power n unit now),
        sum_below_zero end (λ unit. right unit (min unit 0) ^ suc n) (λ unit within.
            let same : min unit 0 ≡ 0 = omega arith in
            ap (λ m. m ^ suc n) (ap (λ time. right unit time) same ∙ right_first unit) ∙ no_power n),
        sum_below_at_most end (λ now. sum_below end (λ unit. (n + 1) * (ahead_in unit now * right (suc now) (suc now) ^ n))) (λ now. (n + 1) * (ahead now * right (suc now) (suc now) ^ n))
            (λ now within. omega (
              arith,
              sum_below-mul end (n + 1) (λ unit. ahead_in unit now * right (suc now) (suc now) ^ n),
              ap (λ m. (n + 1) * m) (sum_below_times (right (suc now) (suc now) ^ n) (λ unit. ahead_in unit now) end),
              mul-le-mul_left (n + 1) (mul-le-mul_right (right (suc now) (suc now) ^ n) (ahead_all now end)),
            )),
        sum_below-mul end (n + 1) (λ now. ahead now * right (suc now) (suc now) ^ n),
      )
