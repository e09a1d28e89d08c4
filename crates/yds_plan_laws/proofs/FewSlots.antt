-- Slots that are served in stretches, earliest deadline first, are few: after each of them its job is done, or the next one lies in a later
-- stretch. Jobs are at most so many, and each is done once. Stretches are fewer than twice as many.
use Rattle.yds_model.proofs.Common.{◌≡◌, ℕ, suc, ◌+◌, ◌-◌, ◌*◌, ◌<◌, ◌≤◌, ◌==◌, List, [], ◌∷◌, ◌++◌, length, get_or, refl, sym, ap, subst, arith, inl, inr, cond, if◌then◌else◌, Bool, true, false, nat_le, All, All-tail, cases_lt, cases_order, lt-leb, le-leb, length-map, length-range_with_len, get_or-le-sum_by, sum_by, sum_by-le, sum_by-add, sum_by-append, sum_by_same, sum_by_at_most, mul-le-mul_right, Job, job_at, WholeSlot, slot_at, slots_at, slot_at_scale, work_given, RunFrom, IsInWindow, IsFeasibleAt, LiesIn, IsUncut, stretches, stretch_at, numbers_of, ComesFirst, IsFirstDue, EarliestAfter, IsServedInStretches}
use Rattle.model_lemmas.proofs.Scale.{scale_exists}
use Rattle.yds_events.specs.Stretch.{no_stretch}
use Rattle.yds_events.proofs.Times.{few_times}
use Rattle.yds_events.proofs.Neighbours.{count_stretches, stretch_order, release_outside}
use Rattle.yds_laws.proofs.Served.{is_number}
use Rattle.yds_laws.proofs.ExactRates.{stretch_of_slot}
use Rattle.yds_plan_laws.specs.CountLaws.{PlanSlotsAreFew, RunSlotsAreFew}

-- # Jobs that aren't done

-- 1 for a job whose work the slots haven't done
abbrev waits : List Job → ℕ → List WholeSlot → ℕ → ℕ
waits jobs scale slots number = cond (nat_le ((job_at jobs number).work * scale) (work_given slots number)) 0 1

-- that is at most 1
zero_or_one : (b : Bool) → cond b 0 1 ≤ 1
zero_or_one true = omega arith
zero_or_one false = omega arith

-- how many there are
abbrev left : List Job → ℕ → List WholeSlot → ℕ
left jobs scale slots = sum_by (waits jobs scale slots) (numbers_of jobs)

-- at most all
left_few : (jobs : List Job) (scale : ℕ) (slots : List WholeSlot) → left jobs scale slots ≤ length jobs
left_few jobs scale slots = omega (
  arith,
  sum_by-le (waits jobs scale slots) 1 (numbers_of jobs) (λ k d within. zero_or_one _),
  length-range_with_len 0 (length jobs),
)

-- it is 1 where some work is pending
is_waiting : (jobs : List Job) (scale : ℕ) (slots : List WholeSlot) (number : ℕ) → work_given slots number < (job_at jobs number).work * scale →
    waits jobs scale slots number ≡ 1
is_waiting jobs scale slots number pending = rw (lt-leb _ _ pending) refl

-- and 0 where none is
is_done : (jobs : List Job) (scale : ℕ) (slots : List WholeSlot) (number : ℕ) → (job_at jobs number).work * scale ≤ work_given slots number →
    waits jobs scale slots number ≡ 0
is_done jobs scale slots number done = rw (le-leb _ _ done) refl

-- with one that is pending there is one
left_some : (jobs : List Job) (scale : ℕ) (slots : List WholeSlot) (number : ℕ) → number < length jobs →
    work_given slots number < (job_at jobs number).work * scale → 1 ≤ left jobs scale slots
left_some jobs scale slots number known pending =
    let there = is_number jobs number known in
    omega (
      arith,
      get_or-le-sum_by (waits jobs scale slots) (numbers_of jobs) there.0 number there.1,
      ap (waits jobs scale slots) there.2,
      is_waiting jobs scale slots number pending,
    )

-- a slot more gives no job less
given_more : (before : List WholeSlot) (slot : WholeSlot) (number : ℕ) → work_given before number ≤ work_given (before ++ slot ∷ []) number
given_more before slot number = omega (arith, sum_by-append (λ (one : WholeSlot). if number == one.job then one.work else 0) before (slot ∷ []))

-- so it leaves no more jobs waiting
waits_less : (jobs : List Job) (scale : ℕ) (before : List WholeSlot) (slot : WholeSlot) (number : ℕ) →
    waits jobs scale (before ++ slot ∷ []) number ≤ waits jobs scale before number
waits_less jobs scale before slot number = elim (cases_lt (work_given before number) ((job_at jobs number).work * scale)) [
  | inl pending ↦ omega (arith, is_waiting jobs scale before number pending, zero_or_one (nat_le ((job_at jobs number).work * scale) (work_given (before ++ slot ∷ []) number)))
  | inr done ↦ omega (arith, is_done jobs scale (before ++ slot ∷ []) number (omega (arith, done, given_more before slot number)))
]

-- so no more of them are left
left_less : (jobs : List Job) (scale : ℕ) (before : List WholeSlot) (slot : WholeSlot) → left jobs scale (before ++ slot ∷ []) ≤ left jobs scale before
left_less jobs scale before slot =
    sum_by_at_most (waits jobs scale (before ++ slot ∷ [])) (waits jobs scale before) (numbers_of jobs) (λ k d within. waits_less jobs scale before slot _)

-- and one less where it does the last of a job's work
left_fewer : (jobs : List Job) (scale : ℕ) (before : List WholeSlot) (slot : WholeSlot) (number : ℕ) → number < length jobs →
    work_given before number < (job_at jobs number).work * scale → (job_at jobs number).work * scale ≤ work_given (before ++ slot ∷ []) number →
    left jobs scale (before ++ slot ∷ []) + 1 ≤ left jobs scale before
left_fewer jobs scale before slot number known pending done =
    let there = is_number jobs number known in
    let after = waits jobs scale (before ++ slot ∷ []) in
    let fewer : ℕ → ℕ = λ n. waits jobs scale before n - after n in
    omega (
      arith,
      sum_by_same (waits jobs scale before) (λ n. after n + fewer n) (numbers_of jobs)
          (λ k d within. omega (arith, waits_less jobs scale before slot (get_or (numbers_of jobs) k d))),
      sum_by-add after fewer (numbers_of jobs),
      get_or-le-sum_by fewer (numbers_of jobs) there.0 number there.1,
      ap fewer there.2,
      is_waiting jobs scale before number pending,
      is_done jobs scale (before ++ slot ∷ []) number done,
    )

-- # One slot after another

-- jobs that come before one another are one
pub comes_both : (jobs : List Job) (one other : ℕ) → ComesFirst jobs one other → ComesFirst jobs other one → one ≡ other
comes_both jobs one other first second = grind arith

-- the slots of one job lie in different stretches
abbrev pub AreOnce : List Job → ℕ → List WholeSlot → Type 0
AreOnce jobs scale slots = (i j : ℕ) → i < j → j < length slots → (slot_at slots i).job ≡ (slot_at slots j).job →
    All (λ stretch. LiesIn scale (slot_at slots i) stretch → LiesIn scale (slot_at slots j) stretch → ⊥) (stretches jobs)

-- two neighbours in one stretch
module _ (jobs : List Job) (scale : ℕ) (before : List WholeSlot) (slot next : WholeSlot) (positive : 1 ≤ scale) (k : ℕ) (within : k < length (stretches jobs))
    (lies : LiesIn scale slot (stretch_at jobs k)) (next_lies : LiesIn scale next (stretch_at jobs k)) (forward : slot.from < slot.to)
    (after : slot.to ≤ next.from) (takes : next.from < next.to) (known : slot.job < length jobs) (next_known : next.job < length jobs)
    (due : IsFirstDue jobs scale before slot) (next_due : IsFirstDue jobs scale (before ++ slot ∷ []) next)
    (other : slot.job ≡ next.job → ⊥) where
  -- the later one's job was released before the first,
  next_released : (job_at jobs next.job).release * scale ≤ slot.from
  next_released = elim (release_outside jobs next.job k next_known within) [
    | inl early ↦ omega (arith, mul-le-mul_right scale early, lies.from)
    | inr late ↦ absurd (omega (arith, mul-le-mul_right scale late, next_lies.to, takes, next_due.may_run.released))
  ]

  -- so the first one's job came before it, and is done
  pub first_done : (job_at jobs slot.job).work * scale ≤ work_given (before ++ slot ∷ []) slot.job
  first_done = elim (cases_lt (work_given (before ++ slot ∷ []) slot.job) ((job_at jobs slot.job).work * scale)) [
    | inr done ↦ done
    | inl pending ↦ absurd (other (comes_both jobs slot.job next.job
        (due.first next.job next_known (record {
          released = next_released;
          pending = omega (arith, given_more before slot next.job, next_due.may_run.pending);
        }))
        (next_due.first slot.job known (record {
          released = omega (arith, due.may_run.released, forward, after);
          pending = pending;
        }))))
  ]

module _ (jobs : List Job) (scale : ℕ) (positive : 1 ≤ scale) where
  -- slots from some place on are at most as many as the jobs that are left and the stretches that are
  few_after : (before slots : List WholeSlot) (slot : WholeSlot) (start k : ℕ) → RunFrom start (slot ∷ slots) →
      All (IsInWindow jobs scale) (slot ∷ slots) → EarliestAfter jobs scale before (slot ∷ slots) → All (IsUncut jobs scale) (slot ∷ slots) →
      AreOnce jobs scale (slot ∷ slots) → k < length (stretches jobs) → LiesIn scale slot (stretch_at jobs k) →
      length (slot ∷ slots) + k + 1 ≤ left jobs scale before + length (stretches jobs)
  few_after before [] slot start k run windows due uncut once within lies =
      omega (arith, within, left_some jobs scale before slot.job (windows 0 slot (omega arith)).known due.0.may_run.pending)
  few_after before (next ∷ slots) slot start k run windows due uncut once within lies =
      let later = stretch_of_slot jobs scale next (uncut 1 next (omega arith)) in
      let known = (windows 0 slot (omega arith)).known in
      let rest = few_after (before ++ slot ∷ []) slots next slot.to later.0 run.2 (All-tail (IsInWindow jobs scale) slot (next ∷ slots) windows) due.1
      (All-tail (IsUncut jobs scale) slot (next ∷ slots) uncut) (λ i j order inside. once (suc i) (suc j) (omega arith) (omega arith)) later.1 later.2 in
      elim (cases_order k later.0) [
        | inl same ↦
            let there = subst (λ (i : ℕ). LiesIn scale next (stretch_at jobs i)) (sym same) later.2 in
            let other : slot.job ≡ next.job → ⊥ = λ one. once 0 1 (omega arith) (omega arith) one k no_stretch within lies there in
            omega (
              arith,
              rest,
              same,
              left_fewer jobs scale before slot slot.job known due.0.may_run.pending
                  (first_done jobs scale before slot next positive k within lies there run.1 run.2.0 run.2.1 known (windows 1 next (omega arith)).known due.0 due.1.0 other),
            )
        | inr (inl earlier) ↦ omega (arith, rest, earlier, left_less jobs scale before slot)
        | inr (inr back) ↦ absurd (omega (
          arith,
          mul-le-mul_right scale (stretch_order jobs later.0 k back within),
          lies.from,
          later.2.to,
          run.1,
          run.2.0,
          run.2.1,
        ))
      ]

  -- so all of them are two fewer than three times as many as jobs
  served_few : (slots : List WholeSlot) → IsFeasibleAt jobs scale slots → IsServedInStretches jobs scale slots → length slots ≤ 3 * length jobs - 2
  served_few [] feasible served = omega arith
  served_few (slot ∷ slots) feasible served =
      let first = stretch_of_slot jobs scale slot (served.uncut 0 slot (omega arith)) in
      omega (
        arith,
        few_after [] slots slot 0 first.0 feasible.one_at_a_time feasible.in_windows served.earliest_first served.uncut served.once first.1 first.2,
        left_few jobs scale [],
        count_stretches jobs (omega (arith, (feasible.in_windows 0 slot (omega arith)).known)),
        few_times jobs,
        (feasible.in_windows 0 slot (omega arith)).known,
      )

-- # The laws

-- of a plan, at a scale that there is
pub plan_slots_are_few : PlanSlotsAreFew
plan_slots_are_few jobs slots levels plan =
    let scale = scale_exists slots plan.proper.feasible.solid in
    rw (length-map slots (slot_at_scale scale.0)) at
    (served_few jobs scale.0 scale.1.positive (slots_at scale.0 slots) (plan.proper.feasible.holds scale.0 scale.1) (plan.served scale.0 scale.1))

-- and of a run
pub run_slots_are_few : RunSlotsAreFew
run_slots_are_few = record {
  average_rate = λ jobs grid rounded slots is.
      let scale = scale_exists slots is.run.solid in
      let run = is.run.holds scale.0 scale.1 in
      rw (length-map slots (slot_at_scale scale.0)) at (served_few jobs scale.0 scale.1.positive (slots_at scale.0 slots) run.feasible run.served);
  optimal_available = λ jobs grid rounded slots is.
      let scale = scale_exists slots is.run.solid in
      let run = is.run.holds scale.0 scale.1 in
      rw (length-map slots (slot_at_scale scale.0)) at (served_few jobs scale.0 scale.1.positive (slots_at scale.0 slots) run.feasible run.served);
}
