-- Schedules of jobs that are cut at a time at which no window is open, at a scale: what is asked of both parts together is asked of each.
use Rattle.yds_model.proofs.Common.{◌≡◌, ℕ, ◌+◌, ◌-◌, ◌*◌, ◌<◌, ◌≤◌, ◌==◌, List, [], ◌∷◌, ◌++◌, length, map, refl, sym, ap, subst, ◌∙◌, arith, inl, inr, if◌then◌else◌, All, mul-le-mul_right, cases_lt, nat_tests, get_or-map, get_or_append_left, get_or-append-add, length-append, length-map, All-nil, All-cons, All-head, All-tail, All-append, All-map, sum_by-cons, sum_by-append, Job, no_job, job_at, WholeSlot, work_given, RunFrom, IsInWindow, IsFeasibleAt, excess, IsLeastAt, part_other, All-front, All-back}
use Rattle.model_lemmas.proofs.Runs.{run_later, run_joined}
use Rattle.yds_energy.proofs.PlanParts.{run_front, run_back, given_joined}
use Rattle.yds_parts.specs.Parts.{ArePartedAt, moved, together_at}

-- # Slots of jobs some places later

run_moved : (n start : ℕ) (slots : List WholeSlot) → RunFrom start slots → RunFrom start (map (moved n) slots)
run_moved n start [] run = tt
run_moved n start (slot ∷ slots) run = (run.0, run.1, run_moved n slot.to slots run.2)

run_back_again : (n start : ℕ) (slots : List WholeSlot) → RunFrom start (map (moved n) slots) → RunFrom start slots
run_back_again n start [] run = tt
run_back_again n start (slot ∷ slots) run = (run.0, run.1, run_back_again n slot.to slots run.2)

-- what holds of what a function makes
pub All-made : {X Y : Type 0} (P : Y → Type 0) (f : X → Y) (xs : List X) → All P (map f xs) → All (λ x. P (f x)) xs
All-made P f xs each k d within = subst P (get_or-map f xs k d (f d) within) (each k (f d) (omega (arith, within, length-map xs f)))

part_same : (n k j work : ℕ) → (if n + k == n + j then work else 0) ≡ (if k == j then work else 0)
part_same n k j work = grind (arith, nat_tests)

given_moved : (n k : ℕ) (slots : List WholeSlot) → work_given (map (moved n) slots) (n + k) ≡ work_given slots k
given_moved n k [] = refl
given_moved n k (slot ∷ slots) = omega (
  arith,
  sum_by-cons (λ (one : WholeSlot). if n + k == one.job then one.work else 0) (moved n slot) (map (moved n) slots),
  sum_by-cons (λ (one : WholeSlot). if k == one.job then one.work else 0) slot slots,
  part_same n k slot.job slot.work,
  given_moved n k slots,
)

-- slots of other jobs give a job nothing
given_other : (number : ℕ) (slots : List WholeSlot) → All (λ slot. number ≡ slot.job → ⊥) slots → work_given slots number ≡ 0
given_other number [] others = refl
given_other number (slot ∷ slots) others = omega (
  arith,
  sum_by-cons (λ (one : WholeSlot). if number == one.job then one.work else 0) slot slots,
  part_other number slot.job slot.work (All-head (λ one. number ≡ one.job → ⊥) slot slots others),
  given_other number slots (All-tail (λ one. number ≡ one.job → ⊥) slot slots others),
)

excess_moved : (n p q : ℕ) (slots : List WholeSlot) → excess p q (map (moved n) slots) ≡ excess p q slots
excess_moved n p q [] = refl
excess_moved n p q (slot ∷ slots) = omega (
  arith,
  sum_by-cons (λ (one : WholeSlot). q * one.work - p * (one.to - one.from)) (moved n slot) (map (moved n) slots),
  sum_by-cons (λ (one : WholeSlot). q * one.work - p * (one.to - one.from)) slot slots,
  excess_moved n p q slots,
)

-- # The two parts

module _ (time scale : ℕ) (first second : List Job) (parted : ArePartedAt time first second) where
  abbrev n : ℕ
  n = length first

  abbrev jobs : List Job
  jobs = first ++ second

  -- each slot is of the first jobs
  abbrev AreFirst : List WholeSlot → Type 0
  AreFirst slots = All (λ slot. slot.job < n) slots

  pub first_job : (j : ℕ) → j < n → job_at jobs j ≡ job_at first j
  first_job j known = get_or_append_left first second no_job j known

  pub second_job : (j : ℕ) → job_at jobs (n + j) ≡ job_at second j
  second_job j = get_or-append-add first second j no_job

  -- a window of the one is one of the other
  first_window : (slot : WholeSlot) → slot.job < n → IsInWindow first scale slot → IsInWindow jobs scale slot
  first_window slot known is = grind (arith, first_job, length-append)

  first_window_back : (slot : WholeSlot) → slot.job < n → IsInWindow jobs scale slot → IsInWindow first scale slot
  first_window_back slot known is = grind (arith, first_job)

  second_window : (slot : WholeSlot) → IsInWindow second scale slot → IsInWindow jobs scale (moved n slot)
  second_window slot is = grind (arith, length-append, second_job)

  second_window_back : (slot : WholeSlot) → IsInWindow jobs scale (moved n slot) → IsInWindow second scale slot
  second_window_back slot is = grind (arith, length-append, second_job)

  -- slots of the first jobs end by the cut, and those of the second begin at it or later
  pub ends_by : (slot : WholeSlot) → IsInWindow first scale slot → slot.to ≤ time * scale
  ends_by slot is = omega (arith, is.due, mul-le-mul_right scale (parted.before slot.job no_job is.known))

  pub begins_from : (slot : WholeSlot) → IsInWindow second scale slot → time * scale ≤ slot.from
  begins_from slot is = omega (arith, is.released, mul-le-mul_right scale (parted.after slot.job no_job is.known))

  -- who serves a job of which part
  pub only_first : (slots others : List WholeSlot) (number : ℕ) → number < n → work_given (together_at first slots others) number ≡ work_given slots number
  only_first slots others number known = omega (
    arith,
    given_joined slots (map (moved n) others) number,
    given_other number (map (moved n) others) (All-map (λ slot. number ≡ slot.job → ⊥) (moved n) others (λ k d within is. omega (arith, known, is))),
  )

  pub only_second : (slots others : List WholeSlot) (k : ℕ) → AreFirst slots → work_given (together_at first slots others) (n + k) ≡ work_given others k
  only_second slots others k known = omega (
    arith,
    given_joined slots (map (moved n) others) (n + k),
    given_moved n k others,
    given_other (n + k) slots (λ i d within is. omega (arith, known i d within, is)),
  )

  -- # Feasible

  pub feasible_together : (slots others : List WholeSlot) → IsFeasibleAt first scale slots → IsFeasibleAt second scale others →
      IsFeasibleAt jobs scale (together_at first slots others)
  feasible_together slots others one other =
      let known : AreFirst slots = λ k d within. (one.in_windows k d within).known in
      record {
        one_at_a_time = run_joined 0 (time * scale) slots (map (moved n) others) (omega arith) one.one_at_a_time
            (λ k d within. ends_by _ (one.in_windows k d within))
            (run_later 0 (time * scale) (map (moved n) others) (run_moved n 0 others other.one_at_a_time)
            (All-map (λ slot. time * scale ≤ slot.from) (moved n) others (λ k d within. begins_from _ (other.in_windows k d within))));
        in_windows = All-append (IsInWindow jobs scale) slots (map (moved n) others)
            (λ k d within. first_window _ (known k d within) (one.in_windows k d within))
            (All-map (IsInWindow jobs scale) (moved n) others (λ k d within. second_window _ (other.in_windows k d within)));
        served = λ number within. elim (cases_lt number n) [
          | inl early ↦ only_first slots others number early ∙ one.served number early ∙ ap (λ (job : Job). job.work * scale) (sym (first_job number early))
          | inr late ↦
              let place : n + (number - n) ≡ number = omega (arith, late) in
              subst (λ i. work_given (together_at first slots others) i ≡ (job_at jobs i).work * scale) place
              (only_second slots others (number - n) known ∙ other.served (number - n) (omega (arith, late, within, length-append first second))
              ∙ ap (λ (job : Job). job.work * scale) (sym (second_job (number - n))))
        ];
      }

  pub feasible_first : (slots others : List WholeSlot) → AreFirst slots → IsFeasibleAt jobs scale (together_at first slots others) → IsFeasibleAt first scale slots
  feasible_first slots others known all = record {
    one_at_a_time = run_front 0 slots (map (moved n) others) all.one_at_a_time;
    in_windows = λ k d within. first_window_back _ (known k d within) (All-front (IsInWindow jobs scale) slots (map (moved n) others) all.in_windows k d within);
    served = λ number within. sym (only_first slots others number within) ∙ all.served number (omega (arith, within, length-append first second))
        ∙ ap (λ (job : Job). job.work * scale) (first_job number within);
  }

  pub feasible_second : (slots others : List WholeSlot) → AreFirst slots → IsFeasibleAt jobs scale (together_at first slots others) → IsFeasibleAt second scale others
  feasible_second slots others known all = record {
    one_at_a_time = run_back_again n 0 others (run_back 0 slots (map (moved n) others) all.one_at_a_time);
    in_windows = λ k d within. second_window_back _
        (All-made (IsInWindow jobs scale) (moved n) others (All-back (IsInWindow jobs scale) slots (map (moved n) others) all.in_windows) k d within);
    served = λ number within. sym (only_second slots others number known) ∙ all.served (n + number) (omega (arith, within, length-append first second))
        ∙ ap (λ (job : Job). job.work * scale) (second_job number);
  }

  -- # Each feasible schedule of all jobs is one of the first and then one of the second

  unmoved : WholeSlot → WholeSlot
  unmoved slot = record { job = slot.job - n; from = slot.from; to = slot.to; work = slot.work }

  -- slots of second jobs are those of their places
  moved_again : (slots : List WholeSlot) → All (λ slot. n ≤ slot.job) slots → map (moved n) (map unmoved slots) ≡ slots
  unfolding unmoved
  moved_again [] late = refl
  moved_again (slot ∷ slots) late =
      let place : n + (slot.job - n) ≡ slot.job = omega (arith, All-head (λ one. n ≤ one.job) slot slots late) in
      ap (λ job. record { job = job; from = slot.from; to = slot.to; work = slot.work } ∷ map (moved n) (map unmoved slots)) place
      ∙ ap (λ (rest : List WholeSlot). slot ∷ rest) (moved_again slots (All-tail (λ one. n ≤ one.job) slot slots late))

  -- from the cut on only second jobs run
  second_alone : (start : ℕ) (slots : List WholeSlot) → time * scale ≤ start → RunFrom start slots → All (IsInWindow jobs scale) slots → All (λ slot. n ≤ slot.job) slots
  second_alone start [] late run windows = All-nil (λ (slot : WholeSlot). n ≤ slot.job)
  second_alone start (slot ∷ slots) late run windows =
      let is = All-head (IsInWindow jobs scale) slot slots windows in
      let own : n ≤ slot.job = elim (cases_lt slot.job n) [
        | inl early ↦ absurd (omega (arith, late, run.0, run.1, ends_by slot (first_window_back slot early is)))
        | inr other ↦ other
      ] in
      All-cons (λ (slot : WholeSlot). n ≤ slot.job) slot slots own
      (second_alone slot.to slots (omega (arith, late, run.0, run.1)) run.2 (All-tail (IsInWindow jobs scale) slot slots windows))

  record Split (all : List WholeSlot) : Type 0 where
    slots : List WholeSlot
    others : List WholeSlot
    known : AreFirst slots
    is : all ≡ together_at first slots others

  split : (start : ℕ) (all : List WholeSlot) → RunFrom start all → All (IsInWindow jobs scale) all → Split all
  split start [] run windows = record { slots = []; others = []; known = All-nil (λ (slot : WholeSlot). slot.job < n); is = refl }
  split start (slot ∷ all) run windows =
      let is = All-head (IsInWindow jobs scale) slot all windows in
      let later = All-tail (IsInWindow jobs scale) slot all windows in
      elim (cases_lt slot.job n) [
        | inl early ↦
            let rest = split slot.to all run.2 later in
            record {
              slots = slot ∷ rest.slots;
              others = rest.others;
              known = All-cons (λ (slot : WholeSlot). slot.job < n) slot rest.slots early rest.known;
              is = ap (λ (more : List WholeSlot). slot ∷ more) rest.is;
            }
        | inr late ↦
            let place : n + (slot.job - n) ≡ slot.job = omega (arith, late) in
            let second_is = second_window_back (record { job = slot.job - n; from = slot.from; to = slot.to; work = slot.work })
            (subst (λ job. IsInWindow jobs scale (record { job = job; from = slot.from; to = slot.to; work = slot.work })) (sym place) is) in
            let begins = begins_from _ second_is in
            let alone = second_alone slot.to all (omega (arith, begins, run.1)) run.2 later in
            record {
              slots = [];
              others = map unmoved (slot ∷ all);
              known = All-nil (λ (slot : WholeSlot). slot.job < n);
              is = sym (moved_again (slot ∷ all) (All-cons (λ (slot : WholeSlot). n ≤ slot.job) slot all late alone));
            }
      ]

  -- # Least

  both_excess : (p q : ℕ) (slots others : List WholeSlot) → excess p q (together_at first slots others) ≡ excess p q slots + excess p q others
  both_excess p q slots others = omega (
    arith,
    sum_by-append (λ (one : WholeSlot). q * one.work - p * (one.to - one.from)) slots (map (moved n) others),
    excess_moved n p q others,
  )

  pub least_together : (slots others : List WholeSlot) → IsLeastAt first scale slots → IsLeastAt second scale others → IsLeastAt jobs scale (together_at first slots others)
  least_together slots others one other = record {
    feasible = feasible_together slots others one.feasible other.feasible;
    least = λ p q some all feasible.
        let parts = split 0 all feasible.one_at_a_time feasible.in_windows in
        let is = subst (IsFeasibleAt jobs scale) parts.is feasible in
        omega (
          arith,
          both_excess p q slots others,
          both_excess p q parts.slots parts.others,
          ap (excess p q) parts.is,
          one.least p q some parts.slots (feasible_first parts.slots parts.others parts.known is),
          other.least p q some parts.others (feasible_second parts.slots parts.others parts.known is),
        );
  }

  pub least_first : (slots others : List WholeSlot) → AreFirst slots → IsLeastAt jobs scale (together_at first slots others) → IsLeastAt first scale slots
  least_first slots others known all = record {
    feasible = feasible_first slots others known all.feasible;
    least = λ p q some less feasible. omega (
      arith,
      all.least p q some (together_at first less others) (feasible_together less others feasible (feasible_second slots others known all.feasible)),
      both_excess p q slots others,
      both_excess p q less others,
    );
  }

  pub least_second : (slots others : List WholeSlot) → AreFirst slots → IsLeastAt jobs scale (together_at first slots others) → IsLeastAt second scale others
  least_second slots others known all = record {
    feasible = feasible_second slots others known all.feasible;
    least = λ p q some less feasible. omega (
      arith,
      all.least p q some (together_at first slots less) (feasible_together slots less (feasible_first slots others known all.feasible) feasible),
      both_excess p q slots others,
      both_excess p q slots less,
    );
  }
