-- What is pending at a stretch's start and due by a time is the work of the slots from there on, of jobs released by then and due by
-- that time. In a run of Optimal Available that never rounded, no such quotient is above the stretch's speed, whatever the time, and
-- where something is done one attains it.
use Rattle.yds_model.proofs.Common.{◌≡◌, ℕ, zero, suc, ◌+◌, ◌-◌, ◌*◌, ◌<◌, ◌≤◌, ◌⊎◌, List, length, get_or, cond, Bool, true, false, ◌==◌, ◌&&◌, nat_le, nat_lt, if◌then◌else◌, refl, sym, ap, subst, ◌∙◌, arith, inl, inr, All, filter, sum_by, cases_lt, cases_eq, cases_Bool, le-leb, lt-leb, lt-ltb, leb-true, ltb-true, eqb-true, eq-eqb, true≢false, and_parts, and_from, All-contains, All-filter, filter_passes, get_or-map, length-map, mul-le-mul_right, le_of_mul-le-mul_left, eq_of_mul-eq-mul_left, count, Job, job_at, WholeSlot, work_given, Piece, IsInWindow, IsFeasibleAt, stretches, IsUncut, pending_at, numbers_of, pending_jobs, due_units, pending_deadlines, units_asked, work_in, stretch_at, contains_filter, sum_by-filter, found_or_none, sum_by-add, sum_by_same, sum_by_zero}
use Rattle.model_lemmas.proofs.Runs.{run_forward}
use Rattle.yds_events.proofs.Neighbours.{stretch_order, stretch_starts_rise, deadline_outside}
use Rattle.yds_laws.specs.RunLaws.{HasGreatestSpeed}
use Rattle.yds_laws.proofs.Group.{given_together}
use Rattle.yds_laws.proofs.Served.{all_numbers, is_number}
use Rattle.yds_laws.proofs.ExactRates.{stretch_of_slot}
use Rattle.yds_ratios.proofs.PassingTests.{two_at_most, both_pass, either_part, one_or_none, contains_map, counted_kept}

-- # Slots from a time on

-- the job is released by one time and due by another
abbrev released_and_due : List Job → ℕ → ℕ → ℕ → Bool
released_and_due jobs time due number = nat_le (job_at jobs number).release time && nat_le (job_at jobs number).deadline due

-- the work of a slot that begins at `start` or later, where its job is released by `time` and due by `due`
abbrev pub later_part : List Job → ℕ → ℕ → ℕ → WholeSlot → ℕ
later_part jobs start time due slot = cond (nat_le start slot.from) (cond (released_and_due jobs time due slot.job) slot.work 0) 0

-- of all slots from a time on, of jobs released by then
abbrev pub later_work : List Job → ℕ → List WholeSlot → ℕ → ℕ → ℕ
later_work jobs scale slots time due = sum_by (later_part jobs (time * scale) time due) slots

-- such a part is at most a number, where the work is so if it counts
pub part_at_most : (jobs : List Job) (start time due most : ℕ) (slot : WholeSlot) →
    (start ≤ slot.from → (job_at jobs slot.job).release ≤ time → (job_at jobs slot.job).deadline ≤ due → slot.work ≤ most) → later_part jobs start time due slot ≤ most
part_at_most jobs start time due most slot by =
    two_at_most (nat_le start slot.from) (released_and_due jobs time due slot.job) slot.work most
    (λ begun both.
    let tests = and_parts (nat_le (job_at jobs slot.job).release time) (nat_le (job_at jobs slot.job).deadline due) both in
    by (leb-true _ _ begun) (leb-true _ _ tests.0) (leb-true _ _ tests.1))

-- and is the work, where it counts
pub part_whole : (jobs : List Job) (start time due : ℕ) (slot : WholeSlot) →
    start ≤ slot.from → (job_at jobs slot.job).release ≤ time → (job_at jobs slot.job).deadline ≤ due → later_part jobs start time due slot ≡ slot.work
part_whole jobs start time due slot begun released by =
    both_pass (nat_le start slot.from) (released_and_due jobs time due slot.job) slot.work (le-leb _ _ begun)
    (and_from (nat_le (job_at jobs slot.job).release time) (nat_le (job_at jobs slot.job).deadline due) (le-leb _ _ released) (le-leb _ _ by))

-- # What waits

-- a job that waits has something pending
group_part : (released is_due : Bool) (n : ℕ) → cond (released && nat_lt 0 n) (cond is_due n 0) 0 ≡ cond (released && is_due) n 0
group_part false is_due n = refl
group_part true is_due zero = grind (arith, cases_Bool)
group_part true is_due (suc n) = rw (lt-ltb 0 (suc n) (omega arith)) refl

-- what a job adds to what is due by a time is what it adds by the time before, where it isn't due just then
same_due : (waiting : Bool) (deadline D n : ℕ) → (waiting && (deadline == suc D)) ≡ false →
    cond waiting (cond (nat_le deadline (suc D)) n 0) 0 ≡ cond waiting (cond (nat_le deadline D) n 0) 0
same_due false deadline D n other = refl
same_due true deadline D n other = elim (cases_lt D deadline) [
  | inr by ↦ rw (le-leb deadline D by, le-leb deadline (suc D) (omega (arith, by))) refl
  | inl after ↦ elim (cases_eq deadline (suc D)) [
    | inl same ↦ absurd (true≢false (sym (eq-eqb deadline (suc D) same) ∙ other))
    | inr beyond ↦ rw (lt-leb deadline D after, lt-leb deadline (suc D) (omega (arith, after, beyond))) refl
  ]
]

module _ (jobs : List Job) (scale : ℕ) (positive : 1 ≤ scale) (slots : List WholeSlot) (feasible : IsFeasibleAt jobs scale slots)
    (uncut : All (IsUncut jobs scale) slots) (k : ℕ) (here : k < length (stretches jobs)) where
  abbrev stretch : Piece
  stretch = stretch_at jobs k

  abbrev time : ℕ
  time = stretch.from

  abbrev begins : WholeSlot → Bool
  begins slot = nat_le (time * scale) slot.from

  abbrev ended : WholeSlot → Bool
  ended slot = nat_le slot.to (time * scale)

  -- each slot takes time
  forward : All (λ slot. slot.from < slot.to) slots
  forward = run_forward 0 slots feasible.one_at_a_time

  -- a slot has ended or begins later
  begins_not : (slot : WholeSlot) → slot.from < slot.to → ended slot ≡ true → begins slot ≡ false
  begins_not slot takes is = lt-leb (time * scale) slot.from (omega (arith, takes, leb-true slot.to (time * scale) is))

  -- and one that hasn't ended begins there or later
  begins_else : (slot : WholeSlot) → slot.from < slot.to → IsUncut jobs scale slot → ended slot ≡ false → begins slot ≡ true
  begins_else slot takes cut isnt =
      let place = stretch_of_slot jobs scale slot cut in
      elim (cases_lt place.0 k) [
        | inl before ↦
            let ends : slot.to ≤ time * scale = omega (arith, place.2.to, mul-le-mul_right scale (stretch_order jobs place.0 k before here)) in
            absurd (true≢false (sym (le-leb slot.to (time * scale) ends) ∙ isnt))
        | inr not_before ↦ le-leb (time * scale) slot.from (omega (arith, place.2.from, mul-le-mul_right scale (stretch_starts_rise jobs k place.0 not_before place.1)))
      ]

  -- what a job gets is what it got before and what it gets later
  given_parts : (j : ℕ) → work_given slots j ≡ work_given (filter ended slots) j + work_given (filter begins slots) j
  given_parts j =
      let part = λ (slot : WholeSlot). if j == slot.job then slot.work else 0 in
      omega (
        arith,
        sum_by-filter ended part slots,
        sum_by-filter begins part slots,
        sum_by-add (λ slot. cond (ended slot) (part slot) 0) (λ slot. cond (begins slot) (part slot) 0) slots,
        sum_by_same part (λ slot. cond (ended slot) (part slot) 0 + cond (begins slot) (part slot) 0) slots
            (λ i d within.
            let slot : WholeSlot = get_or slots i d in
            either_part (ended slot) (begins slot) (part slot) (begins_not slot (forward i d within)) (begins_else slot (forward i d within) (uncut i d within))),
      )

  abbrev pending : ℕ → ℕ
  pending = pending_at jobs scale slots time

  -- so what is pending of a job is what it gets later
  pending_is : (j : ℕ) → j < length jobs → pending j ≡ work_given (filter begins slots) j
  pending_is j known = omega (arith, given_parts j, feasible.served j known)

  abbrev waits : ℕ → Bool
  waits j = nat_le (job_at jobs j).release time && nat_lt 0 (pending j)

  -- the pending work that is due by a time, as the policy counts it
  abbrev due : ℕ → ℕ
  due D = sum_by pending (filter (λ j. nat_le (job_at jobs j).deadline D) (pending_jobs jobs scale slots stretch))

  -- a job's part of it
  due_number : ℕ → ℕ → ℕ
  due_number D j = cond (waits j) (cond (nat_le (job_at jobs j).deadline D) (pending j) 0) 0

  -- it is the sum of those parts
  due_by_number : (D : ℕ) → due D ≡ sum_by (due_number D) (numbers_of jobs)
  unfolding due_number
  due_by_number D =
      sum_by-filter (λ j. nat_le (job_at jobs j).deadline D) pending (pending_jobs jobs scale slots stretch)
      ∙ sum_by-filter waits (λ j. cond (nat_le (job_at jobs j).deadline D) (pending j) 0) (numbers_of jobs)

  -- it is the work of those slots
  pub due_is : (D : ℕ) → due D ≡ later_work jobs scale slots time D
  unfolding due_number
  due_is D =
      let test = released_and_due jobs time D in
      let laters : List WholeSlot = filter begins slots in
      let members : List ℕ = filter test (numbers_of jobs) in
      due_by_number D
      ∙ sum_by_same (due_number D) (λ j. cond (test j) (pending j) 0) (numbers_of jobs)
      (λ i d within. group_part (nat_le (job_at jobs (get_or (numbers_of jobs) i d)).release time) (nat_le (job_at jobs (get_or (numbers_of jobs) i d)).deadline D) (pending (get_or (numbers_of jobs) i d)))
      ∙ sym (sum_by-filter test pending (numbers_of jobs))
      ∙ sum_by_same pending (work_given laters) members
      (All-filter test (λ j. pending j ≡ work_given laters j) (numbers_of jobs) (all_numbers (λ j. pending j ≡ work_given laters j) jobs pending_is))
      ∙ given_together members laters
      ∙ sum_by-filter begins (λ slot. count slot.job members * slot.work) slots
      ∙ sum_by_same (λ slot. cond (begins slot) (count slot.job members * slot.work) 0) (later_part jobs (time * scale) time D) slots
      (λ i d within.
      let slot : WholeSlot = get_or slots i d in
      ap (λ n. cond (begins slot) n 0)
      (ap (λ n. n * slot.work) (counted_kept jobs test slot.job (feasible.in_windows i d within).known) ∙ one_or_none (test slot.job) slot.work))

  -- # No time asks more than the speed

  -- a slot that begins there or later isn't due by then
  ends_later : (slot : WholeSlot) → slot.from < slot.to → IsInWindow jobs scale slot → time * scale ≤ slot.from → (job_at jobs slot.job).deadline ≤ time → ⊥
  ends_later slot takes window from by = absurd (omega (arith, takes, window.due, from, mul-le-mul_right scale by))

  -- so nothing that is pending is due by then
  none_due : later_work jobs scale slots time (time + 0) ≡ 0
  none_due = sum_by_zero (later_part jobs (time * scale) time (time + 0)) slots (λ i d within.
      let slot : WholeSlot = get_or slots i d in
      let none = part_at_most jobs (time * scale) time (time + 0) 0 slot (λ from released by.
      absurd (ends_later slot (forward i d within) (feasible.in_windows i d within) from (omega (arith, by)))) in
      omega (arith, none))

  -- nor is a job that waits
  waits_on : (j : ℕ) → j < length jobs → waits j ≡ true → time < (job_at jobs j).deadline
  waits_on j known waiting = elim (cases_lt time (job_at jobs j).deadline) [
    | inl after ↦ after
    | inr by ↦
        let some : 0 < pending j = ltb-true 0 (pending j) (and_parts (nat_le (job_at jobs j).release time) (nat_lt 0 (pending j)) waiting).1 in
        let part = λ (slot : WholeSlot). if j == slot.job then slot.work else 0 in
        let none : work_given (filter begins slots) j ≡ 0 =
        sum_by-filter begins part slots
        ∙ sum_by_zero (λ slot. cond (begins slot) (part slot) 0) slots (λ i d within.
        let slot : WholeSlot = get_or slots i d in
        let nothing = two_at_most (begins slot) (j == slot.job) slot.work 0 (λ from same.
        absurd (ends_later slot (forward i d within) (feasible.in_windows i d within) (leb-true (time * scale) slot.from from)
        (subst (λ (n : ℕ). (job_at jobs n).deadline ≤ time) (eqb-true j slot.job same) by))) in
        omega (arith, nothing)) in
        absurd (omega (arith, some, pending_is j known, none))
  ]

  abbrev work : ℕ
  work = work_in scale stretch slots

  abbrev long : ℕ
  long = stretch.to - stretch.from

  -- a deadline that no waiting job has asks what the time before it does
  asked_before : (D : ℕ) → ((j : ℕ) → j < length jobs → (waits j && ((job_at jobs j).deadline == suc D)) ≡ false) → due (suc D) ≡ due D
  unfolding due_number
  asked_before D none =
      due_by_number (suc D)
      ∙ sum_by_same (due_number (suc D)) (due_number D) (numbers_of jobs)
      (all_numbers (λ j. due_number (suc D) j ≡ due_number D j) jobs (λ j known. same_due (waits j) (job_at jobs j).deadline D (pending j) (none j known)))
      ∙ sym (due_by_number D)

  module _ (grid : ℕ) (some_grid : 1 ≤ grid) (exact : HasGreatestSpeed jobs grid scale slots stretch) where
    -- in plain numbers: what is asked of the units is asked of the work
    asked_of_work : (due units left : ℕ) → grid * work ≡ scale * units → grid * due * long ≤ units * (scale * left) → due * long ≤ work * left
    asked_of_work due units left does most = le_of_mul-le-mul_left {k = grid} (omega (arith, most, ap (λ n. n * left) does)) some_grid

    -- what is due so long after the start is at most what the stretch's speed does in that time
    most_at : (more : ℕ) → due (time + more) * long ≤ work * more
    most_at zero = omega (arith, ap (λ n. n * long) (due_is (time + 0)), ap (λ n. n * long) none_due)
    most_at (suc more) = elim (found_or_none (length jobs) (λ j. waits j && ((job_at jobs j).deadline == suc (time + more)))) [
      | inr none ↦
          let is : time + suc more ≡ suc (time + more) = omega arith in
          omega (arith, ap (λ n. due n * long) is, ap (λ n. n * long) (asked_before (time + more) none), most_at more)
      | inl (j, known, passes) ↦
          let both = and_parts (waits j) ((job_at jobs j).deadline == suc (time + more)) passes in
          let is : (job_at jobs j).deadline ≡ time + suc more = omega (arith, eqb-true (job_at jobs j).deadline (suc (time + more)) both.1) in
          let contains = contains_map (λ n. (job_at jobs n).deadline) (pending_jobs jobs scale slots stretch) j
          (contains_filter waits (numbers_of jobs) j both.0 (is_number jobs j known)) in
          let most = All-contains (λ deadline. stretch.from < deadline → due_units jobs grid scale slots stretch deadline * (stretch.to - stretch.from)
          ≤ units_asked jobs grid scale slots stretch * (scale * (deadline - stretch.from))) (pending_deadlines jobs scale slots stretch) (job_at jobs j).deadline exact.most contains in
          let left : (job_at jobs j).deadline - time ≡ suc more = omega (arith, is) in
          let held = asked_of_work (due (job_at jobs j).deadline) (units_asked jobs grid scale slots stretch) ((job_at jobs j).deadline - time) exact.does
          (most (omega (arith, is))) in
          omega (arith, ap (λ n. due n * long) is, ap (λ n. work * n) left, held)
    ]

    -- so it is for each later time
    pub most_due : (D : ℕ) → time < D → later_work jobs scale slots time D * long ≤ work * (D - time)
    most_due D after =
        let is : time + (D - time) ≡ D = omega (arith, after) in
        omega (arith, most_at (D - time), ap (λ n. due n * long) is, ap (λ n. n * long) (due_is D))

    -- where something is done, some deadline asks just that
    pub some_due : (work ≡ 0) ⊎ ((D : ℕ) × (stretch.to ≤ D) × (later_work jobs scale slots time D * long ≡ work * (D - time)))
    some_due = elim exact.attained [
      | inl nothing ↦ inl (eq_of_mul-eq-mul_left grid some_grid work 0 (omega (arith, exact.does, ap (λ n. scale * n) nothing)))
      | inr (place, D, within, is, just) ↦
          let inside : place < length (pending_jobs jobs scale slots stretch) = omega (arith, within, length-map (pending_jobs jobs scale slots stretch) (λ n. (job_at jobs n).deadline)) in
          let j : ℕ = get_or (pending_jobs jobs scale slots stretch) place 0 in
          let read : (job_at jobs j).deadline ≡ D = sym (get_or-map (λ n. (job_at jobs n).deadline) (pending_jobs jobs scale slots stretch) place 0 D inside) ∙ is in
          let known = All-filter waits (λ n. n < length jobs) (numbers_of jobs) (all_numbers (λ n. n < length jobs) jobs (λ n below. below)) place 0 inside in
          let waiting = filter_passes waits (numbers_of jobs) place 0 inside in
          let after = waits_on j known waiting in
          let upto : stretch.to ≤ D = elim (deadline_outside jobs j k known here) [
            | inl before ↦ absurd (omega (arith, before, after))
            | inr beyond ↦ omega (arith, beyond, read)
          ] in
          inr (
            D,
            upto,
            eq_of_mul-eq-mul_left grid some_grid (later_work jobs scale slots time D * long) (work * (D - time))
                (omega (arith, just, ap (λ n. grid * n * long) (due_is D), ap (λ n. n * (D - time)) exact.does)),
          )
    ]
