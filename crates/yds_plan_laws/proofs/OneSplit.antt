-- A stretch is split in one way. Up to the switch it runs at the one speed, and from it on at the other, without a gap; the jobs' order and their
-- works are the plan's. So slot by slot both splits have the same job, and end together: else the job of the shorter slot would be over there.
use Rattle.yds_model.proofs.Common.{◌≡◌, ◌⊎◌, ℕ, zero, suc, ◌+◌, ◌-◌, ◌*◌, ◌<◌, ◌≤◌, ◌==◌, List, [], ◌∷◌, drop, get_or, refl, sym, ap, subst, ◌∙◌, arith, inl, inr, cond, if◌then◌else◌, cases_eq, cases_order, eq-eqb, ne_eqb, sum_by-cons, mul-lt-mul_of_pos_left, count, count-cons, AreDifferent, WholeSlot, work_given, jobs_in_turn}
use Rattle.yds_plan_laws.proofs.OneSchedule.{slot_of}

-- before the switch at the one speed, or after it at the other
abbrev pub InPhase : ℕ → ℕ → ℕ → WholeSlot → Type 0
InPhase fast slow switch slot =
    ((slot.to ≤ switch) × (slot.work ≡ fast * (slot.to - slot.from))) ⊎ ((switch ≤ slot.from) × (slot.work ≡ slow * (slot.to - slot.from)))

-- slots without a gap, each in its phase
abbrev pub Phased : ℕ → ℕ → ℕ → ℕ → ℕ → List WholeSlot → Type 0
Phased fast slow switch end start [] = start ≡ end
Phased fast slow switch end start (slot ∷ slots) =
    (slot.from ≡ start) × (slot.from < slot.to) × (1 ≤ slot.work) × InPhase fast slow switch slot × Phased fast slow switch end slot.to slots

-- neighbours of one job have the switch between them
abbrev pub ApartInPhase : ℕ → List WholeSlot → Type 0
ApartInPhase switch [] = Unit {0}
ApartInPhase switch (slot ∷ []) = Unit {0}
ApartInPhase switch (slot ∷ next ∷ slots) = ((slot.job ≡ next.job) → slot.to ≡ switch) × ApartInPhase switch (next ∷ slots)

-- they end no sooner than they begin
phased_end : (fast slow switch end start : ℕ) (slots : List WholeSlot) → Phased fast slow switch end start slots → start ≤ end
phased_end fast slow switch end start [] phased = omega (arith, phased)
phased_end fast slow switch end start (slot ∷ slots) phased = omega (arith, phased.0, phased.1, phased_end fast slow switch end slot.to slots phased.4)

-- # Jobs in turn

-- the first slot's job is the first
head_counted : (slot : WholeSlot) (slots : List WholeSlot) → 1 ≤ count slot.job (jobs_in_turn (slot ∷ slots))
head_counted slot [] = omega (arith, count-cons slot.job slot.job [], ap {B = ℕ} (λ b. cond b 1 0) (eq-eqb slot.job slot.job refl))
head_counted slot (next ∷ slots) = elim (cases_eq slot.job next.job) [
  | inl same ↦ rw (eq-eqb slot.job next.job same, same) (head_counted next slots)
  | inr other ↦ rw (ne_eqb slot.job next.job other) (omega (
    arith,
    count-cons slot.job slot.job (jobs_in_turn (next ∷ slots)),
    ap {B = ℕ} (λ b. cond b 1 0) (eq-eqb slot.job slot.job refl),
  ))
]

-- a job that isn't among them gets nothing
none_given : (job : ℕ) (slots : List WholeSlot) → count job (jobs_in_turn slots) ≡ 0 → work_given slots job ≡ 0
none_given job [] none = refl
none_given job (slot ∷ slots) none = elim (cases_eq job slot.job) [
  | inl same ↦ absurd (omega (arith, none, head_counted slot slots, ap (λ n. count n (jobs_in_turn (slot ∷ slots))) same))
  | inr other ↦ omega (
    arith,
    sum_by-cons (λ (one : WholeSlot). if job == one.job then one.work else 0) slot slots,
    ap {B = ℕ} (λ b. if b then slot.work else 0) (ne_eqb job slot.job other),
    none_given job slots (rest_none slots none),
  )
]
  where
    -- nor is it among those of the rest
    rest_none : (rest : List WholeSlot) → count job (jobs_in_turn (slot ∷ rest)) ≡ 0 → count job (jobs_in_turn rest) ≡ 0
    rest_none [] nothing = refl
    rest_none (next ∷ rest) nothing = elim (cases_eq slot.job next.job) [
      | inl same ↦ rw (eq-eqb slot.job next.job same) at nothing
      | inr apart ↦
          let before : count job (slot.job ∷ jobs_in_turn (next ∷ rest)) ≡ 0 = rw (ne_eqb slot.job next.job apart) at nothing in
          omega (arith, before, count-cons job slot.job (jobs_in_turn (next ∷ rest)))
    ]

-- what the first gives its job
given_first : (slot : WholeSlot) (slots : List WholeSlot) → work_given (slot ∷ slots) slot.job ≡ slot.work + work_given slots slot.job
given_first slot slots = omega (
  arith,
  sum_by-cons (λ (one : WholeSlot). if slot.job == one.job then one.work else 0) slot slots,
  ap {B = ℕ} (λ b. if b then slot.work else 0) (eq-eqb slot.job slot.job refl),
)

-- where the next one is of another job, and each job has its turn once, that is all
given_once : (slot next : WholeSlot) (slots : List WholeSlot) → AreDifferent (jobs_in_turn (slot ∷ next ∷ slots)) → (slot.job ≡ next.job → ⊥) →
    work_given (next ∷ slots) slot.job ≡ 0
given_once slot next slots different other =
    none_given slot.job (next ∷ slots)
    (let turns : AreDifferent (slot.job ∷ jobs_in_turn (next ∷ slots)) = rw (ne_eqb slot.job next.job other) at different in
    omega (arith, turns slot.job, count-cons slot.job slot.job (jobs_in_turn (next ∷ slots)), ap {B = ℕ} (λ b. cond b 1 0) (eq-eqb slot.job slot.job refl)))

-- the first of the jobs
head_job : (slot : WholeSlot) (slots : List WholeSlot) (d : ℕ) → get_or (jobs_in_turn (slot ∷ slots)) 0 d ≡ slot.job
head_job slot [] d = refl
head_job slot (next ∷ slots) d = elim (cases_eq slot.job next.job) [
  | inl same ↦ rw (eq-eqb slot.job next.job same, same) (head_job next slots d)
  | inr other ↦ rw (ne_eqb slot.job next.job other) refl
]

-- those of the rest are different too
turns_rest : (slot : WholeSlot) (slots : List WholeSlot) → AreDifferent (jobs_in_turn (slot ∷ slots)) → AreDifferent (jobs_in_turn slots)
turns_rest slot [] different = λ number. omega arith
turns_rest slot (next ∷ slots) different = elim (cases_eq slot.job next.job) [
  | inl same ↦ rw (eq-eqb slot.job next.job same) at different
  | inr other ↦
      let turns : AreDifferent (slot.job ∷ jobs_in_turn (next ∷ slots)) = rw (ne_eqb slot.job next.job other) at different in
      λ number. omega (arith, turns number, count-cons number slot.job (jobs_in_turn (next ∷ slots)))
]

-- # Two splits

-- two slots that begin together are in one phase, and so of one speed
one_phase : (fast slow switch : ℕ) (x y : WholeSlot) → x.from ≡ y.from → x.from < x.to → y.from < y.to → InPhase fast slow switch x → InPhase fast slow switch y →
    (speed : ℕ) × (x.work ≡ speed * (x.to - x.from)) × (y.work ≡ speed * (y.to - y.from))
one_phase fast slow switch x y begin takes long (inl first) (inl second) = (fast, first.1, second.1)
one_phase fast slow switch x y begin takes long (inr first) (inr second) = (slow, first.1, second.1)
one_phase fast slow switch x y begin takes long (inl first) (inr second) = absurd (omega (arith, first.0, second.0, begin, takes))
one_phase fast slow switch x y begin takes long (inr first) (inl second) = absurd (omega (arith, first.0, second.0, begin, long))

-- at one speed more time does more work
more_done : (speed time long work other : ℕ) → 1 ≤ work → work ≡ speed * time → other ≡ speed * long → time < long → work < other
more_done zero time long work other some first second longer = absurd (omega (arith, some, first))
more_done (suc speed) time long work other some first second longer =
    let more : suc speed * time < suc speed * long = mul-lt-mul_of_pos_left longer (omega arith) in omega (arith, first, second, more)

module _ (fast slow switch end : ℕ) where
  -- the first of the one doesn't end sooner
  ends_not_sooner : (start : ℕ) (x y : WholeSlot) (xs ys : List WholeSlot) → Phased fast slow switch end start (x ∷ xs) → Phased fast slow switch end start (y ∷ ys) →
      ApartInPhase switch (x ∷ xs) → AreDifferent (jobs_in_turn (x ∷ xs)) → x.job ≡ y.job → ((job : ℕ) → work_given (x ∷ xs) job ≡ work_given (y ∷ ys) job) → x.to < y.to → ⊥
  ends_not_sooner start x y [] ys first second apart different job same sooner = absurd (omega (arith, first.4, phased_end fast slow switch end y.to ys second.4, sooner))
  ends_not_sooner start x y (next ∷ xs) ys first second apart different job same sooner =
      let begin : x.from ≡ y.from = omega (arith, first.0, second.0) in
      let other : x.job ≡ next.job → ⊥ = λ equal. not_switch y (apart.0 equal) begin first.1 sooner second.3 in
      let phase = one_phase fast slow switch x y begin first.1 second.1 first.3 second.3 in
      absurd (omega (
        arith,
        same x.job,
        given_first x (next ∷ xs),
        given_once x next xs different other,
        given_first y ys,
        ap (work_given (y ∷ ys)) job,
        more_done phase.0 (x.to - x.from) (y.to - y.from) x.work y.work first.2 phase.1 phase.2 (omega (arith, begin, sooner, first.1)),
      ))
    where
      -- the switch isn't within a slot
      not_switch : (other : WholeSlot) → x.to ≡ switch → x.from ≡ other.from → x.from < x.to → x.to < other.to → InPhase fast slow switch other → ⊥
      not_switch other at begin takes sooner (inl before) = absurd (omega (arith, at, sooner, before.0))
      not_switch other at begin takes sooner (inr after) = absurd (omega (arith, at, begin, takes, after.0))

  -- without their first slots, which are one, they have the same jobs in turn
  turns_too : (start : ℕ) (x y next other : WholeSlot) (xs ys : List WholeSlot) → Phased fast slow switch end start (x ∷ next ∷ xs) → Phased fast slow switch end start (y ∷ other ∷ ys) →
      AreDifferent (jobs_in_turn (x ∷ next ∷ xs)) → AreDifferent (jobs_in_turn (y ∷ other ∷ ys)) → x.job ≡ y.job → x.work ≡ y.work →
      jobs_in_turn (x ∷ next ∷ xs) ≡ jobs_in_turn (y ∷ other ∷ ys) → ((job : ℕ) → work_given (x ∷ next ∷ xs) job ≡ work_given (y ∷ other ∷ ys) job) →
      jobs_in_turn (next ∷ xs) ≡ jobs_in_turn (other ∷ ys)
  turns_too start x y next other xs ys first second different also job work turns same = elim (cases_eq x.job next.job) [
    | inl on ↦ elim (cases_eq y.job other.job) [
      | inl goes ↦ rw (eq-eqb x.job next.job on, eq-eqb y.job other.job goes) at turns
      | inr stops ↦ absurd (omega (
        arith,
        same x.job,
        given_first x (next ∷ xs),
        given_first next xs,
        ap (work_given (next ∷ xs)) on,
        given_first y (other ∷ ys),
        given_once y other ys also stops,
        ap (work_given (y ∷ other ∷ ys)) job,
        work,
        first.4.2,
      ))
    ]
    | inr stop ↦ elim (cases_eq y.job other.job) [
      | inr stops ↦
          let both : x.job ∷ jobs_in_turn (next ∷ xs) ≡ y.job ∷ jobs_in_turn (other ∷ ys) = rw (ne_eqb x.job next.job stop, ne_eqb y.job other.job stops) at turns in
          ap (drop 1) both
      | inl goes ↦ absurd (omega (
        arith,
        same x.job,
        given_first x (next ∷ xs),
        given_once x next xs different stop,
        given_first y (other ∷ ys),
        given_first other ys,
        ap (work_given (other ∷ ys)) goes,
        ap (work_given (y ∷ other ∷ ys)) job,
        work,
        second.4.2,
      ))
    ]
  ]

  -- neighbours behind the first
  apart_rest : (x : WholeSlot) (xs : List WholeSlot) → ApartInPhase switch (x ∷ xs) → ApartInPhase switch xs
  apart_rest x [] apart = tt
  apart_rest x (next ∷ xs) apart = apart.1

  -- and what is given behind it
  given_rest : (x y : WholeSlot) (xs ys : List WholeSlot) → x ≡ y → ((job : ℕ) → work_given (x ∷ xs) job ≡ work_given (y ∷ ys) job) →
      (job : ℕ) → work_given xs job ≡ work_given ys job
  given_rest x y xs ys equal same job = omega (
    arith,
    same job,
    sum_by-cons (λ (one : WholeSlot). if job == one.job then one.work else 0) x xs,
    sum_by-cons (λ (one : WholeSlot). if job == one.job then one.work else 0) y ys,
    ap (λ (one : WholeSlot). if job == one.job then one.work else 0) equal,
  )

  -- the jobs in turn behind slots that are one
  turns_behind : (start : ℕ) (x y : WholeSlot) (xs ys : List WholeSlot) → Phased fast slow switch end start (x ∷ xs) → Phased fast slow switch end start (y ∷ ys) →
      AreDifferent (jobs_in_turn (x ∷ xs)) → AreDifferent (jobs_in_turn (y ∷ ys)) → x ≡ y → jobs_in_turn (x ∷ xs) ≡ jobs_in_turn (y ∷ ys) →
      ((job : ℕ) → work_given (x ∷ xs) job ≡ work_given (y ∷ ys) job) → jobs_in_turn xs ≡ jobs_in_turn ys
  turns_behind start x y [] [] first second different also equal turns same = refl
  turns_behind start x y [] (other ∷ ys) first second different also equal turns same =
      absurd (omega (arith, first.4, ap (λ (one : WholeSlot). one.to) equal, second.4.0, second.4.1, phased_end fast slow switch end other.to ys second.4.4))
  turns_behind start x y (next ∷ xs) [] first second different also equal turns same =
      absurd (omega (arith, second.4, ap (λ (one : WholeSlot). one.to) equal, first.4.0, first.4.1, phased_end fast slow switch end next.to xs first.4.4))
  turns_behind start x y (next ∷ xs) (other ∷ ys) first second different also equal turns same =
      turns_too start x y next other xs ys first second different also (ap (λ (one : WholeSlot). one.job) equal) (ap (λ (one : WholeSlot). one.work) equal) turns same

  -- so both are one list
  pub phased_once : (start : ℕ) (ones others : List WholeSlot) → Phased fast slow switch end start ones → Phased fast slow switch end start others →
      ApartInPhase switch ones → ApartInPhase switch others → AreDifferent (jobs_in_turn ones) → AreDifferent (jobs_in_turn others) →
      jobs_in_turn ones ≡ jobs_in_turn others → ((job : ℕ) → work_given ones job ≡ work_given others job) → ones ≡ others
  phased_once start [] [] first second apart next different also turns same = refl
  phased_once start [] (y ∷ ys) first second apart next different also turns same =
      absurd (omega (arith, first, second.0, second.1, phased_end fast slow switch end y.to ys second.4))
  phased_once start (x ∷ xs) [] first second apart next different also turns same =
      absurd (omega (arith, second, first.0, first.1, phased_end fast slow switch end x.to xs first.4))
  phased_once start (x ∷ xs) (y ∷ ys) first second apart next different also turns same =
      let begin : x.from ≡ y.from = omega (arith, first.0, second.0) in
      let job : x.job ≡ y.job = sym (head_job x xs 0) ∙ ap (λ (jobs : List ℕ). get_or jobs 0 0) turns ∙ head_job y ys 0 in
      let ends : x.to ≡ y.to = elim (cases_order x.to y.to) [
        | inl equal ↦ equal
        | inr (inl sooner) ↦ absurd (ends_not_sooner start x y xs ys first second apart different job same sooner)
        | inr (inr later) ↦ absurd (ends_not_sooner start y x ys xs second first next also (sym job) (λ one. sym (same one)) later)
      ] in
      let phase = one_phase fast slow switch x y begin first.1 second.1 first.3 second.3 in
      let work : x.work ≡ y.work = phase.1 ∙ ap (λ n. phase.0 * (n - x.from)) ends ∙ ap (λ n. phase.0 * (y.to - n)) begin ∙ sym phase.2 in
      let equal : x ≡ y =
      ap (λ (n : ℕ). slot_of n x.from x.to x.work) job ∙ ap (λ (n : ℕ). slot_of y.job n x.to x.work) begin
      ∙ ap (λ (n : ℕ). slot_of y.job y.from n x.work) ends ∙ ap (λ (n : ℕ). slot_of y.job y.from y.to n) work in
      let rest = phased_once x.to xs ys first.4 (subst (λ (n : ℕ). Phased fast slow switch end n ys) (sym ends) second.4) (apart_rest x xs apart) (apart_rest y ys next)
      (turns_rest x xs different) (turns_rest y ys also) (turns_behind start x y xs ys first second different also equal turns same) (given_rest x y xs ys equal same) in
      cc (equal, rest)
