-- Two schedules that run at the same times, each job at one speed, earliest deadline first and in stretches, are one: slot by slot they begin at
-- the same time, with the same job, and end together. For if one slot ended first, its job would be done there.
use Rattle.yds_model.proofs.Common.{◌≡◌, ℕ, zero, suc, ◌+◌, ◌-◌, ◌*◌, ◌<◌, ◌≤◌, ◌==◌, List, [], ◌∷◌, ◌++◌, length, refl, sym, ap, subst, ◌∙◌, arith, inl, inr, if◌then◌else◌, All, Any, All-tail, All-push, cases_order, append_assoc, eq-eqb, sum_by-cons, sum_by-append, mul-le-mul_right, mul-lt-mul_of_pos_left, lt_of_mul-lt-mul_right, eq_of_mul-eq-mul_right, Job, job_at, WholeSlot, work_given, RunFrom, IsInWindow, LiesIn, IsUncut, stretches, stretch_at, EarliestAfter}
use Rattle.yds_events.proofs.Neighbours.{stretch_order}
use Rattle.yds_laws.proofs.ExactRates.{stretch_of_slot}
use Rattle.yds_plan_laws.proofs.Running.{RunsAt}
use Rattle.yds_plan_laws.proofs.FewSlots.{AreOnce, comes_both, first_done}

-- What is left of a schedule after some slots that have ended by a time.
pub record IsRest (jobs : List Job) (scale : ℕ) (before : List WholeSlot) (end : ℕ) (slots : List WholeSlot) : Type 0 where
  pub ended : All (λ slot. slot.to ≤ end) before
  pub run : RunFrom end slots
  pub windows : All (IsInWindow jobs scale) slots
  pub due : EarliestAfter jobs scale before slots
  pub uncut : All (IsUncut jobs scale) slots
  pub once : AreOnce jobs scale slots
  pub works : All (λ slot. 1 ≤ slot.work) slots
  pub served : (number : ℕ) → number < length jobs → work_given (before ++ slots) number ≡ (job_at jobs number).work * scale

-- one slot later
rest_next : (jobs : List Job) (scale : ℕ) (before : List WholeSlot) (end : ℕ) (slot : WholeSlot) (slots : List WholeSlot) →
    IsRest jobs scale before end (slot ∷ slots) → IsRest jobs scale (before ++ slot ∷ []) slot.to slots
rest_next jobs scale before end slot slots rest = record {
  ended = All-push (λ one. one.to ≤ slot.to) before slot (λ k d within. omega (arith, rest.ended k d within, rest.run.0, rest.run.1)) (omega arith);
  run = rest.run.2;
  windows = All-tail (IsInWindow jobs scale) slot slots rest.windows;
  due = rest.due.1;
  uncut = All-tail (IsUncut jobs scale) slot slots rest.uncut;
  once = λ i j order inside. rest.once (suc i) (suc j) (omega (arith, order)) (omega (arith, inside));
  works = All-tail (λ one. 1 ≤ one.work) slot slots rest.works;
  served = λ number known. ap (λ (all : List WholeSlot). work_given all number) (append_assoc before (slot ∷ []) slots) ∙ rest.served number known;
}

-- what runs at a time runs at or after the first slot's start
pub runs_from : (start time : ℕ) (slot : WholeSlot) (slots : List WholeSlot) → RunFrom start (slot ∷ slots) → Any (RunsAt time) (slot ∷ slots) → slot.from ≤ time
runs_from start time slot slots run (zero, one, within, is, runs) = omega (arith, runs.0, ap (λ (s : WholeSlot). s.from) is)
runs_from start time slot [] run (suc k, one, within, is, runs) = absurd (omega (arith, within))
runs_from start time slot (next ∷ slots) run (suc k, one, within, is, runs) =
    omega (arith, run.1, run.2.0, runs_from slot.to time next slots run.2 (k, one, omega (arith, within), is, runs))

-- and where the first has ended, in the others
runs_on : (time : ℕ) (slot : WholeSlot) (slots : List WholeSlot) → slot.to ≤ time → Any (RunsAt time) (slot ∷ slots) → Any (RunsAt time) slots
runs_on time slot slots ended (zero, one, within, is, runs) = absurd (omega (arith, ended, runs.1, ap (λ (s : WholeSlot). s.to) is))
runs_on time slot slots ended (suc k, one, within, is, runs) = (k, one, omega (arith, within), is, runs)

-- what is behind slots that have ended runs where anything does
pub runs_behind : (before slots : List WholeSlot) (end time : ℕ) → All (λ slot. slot.to ≤ end) before → end ≤ time → Any (RunsAt time) (before ++ slots) →
    Any (RunsAt time) slots
runs_behind [] slots end time ended later runs = runs
runs_behind (slot ∷ before) slots end time ended later runs =
    runs_behind before slots end time (All-tail (λ one. one.to ≤ end) slot before ended) later
    (runs_on time slot (before ++ slots) (omega (arith, ended 0 slot (omega arith), later)) runs)

-- while a slot runs one of others does
abbrev RunsToo : WholeSlot → List WholeSlot → Type 0
RunsToo slot others = (time : ℕ) → slot.from ≤ time → time < slot.to → Any (RunsAt time) others

-- two slots of one speed
abbrev pub HasSpeedOf : WholeSlot → WholeSlot → Type 0
HasSpeedOf slot other = slot.work * (other.to - other.from) ≡ other.work * (slot.to - slot.from)

-- Behind slots that both schedules have: while the first schedule's next slot runs the second one runs too, and next slots of one job that begin
-- together have one speed.
pub record GoesAlong (jobs : List Job) (scale : ℕ) (all same : List WholeSlot) : Type 0 where
  pub runs : (before slots others : List WholeSlot) (slot : WholeSlot) (end : ℕ) → IsRest jobs scale before end (slot ∷ slots) → IsRest jobs scale before end others →
      all ≡ before ++ slot ∷ slots → same ≡ before ++ others → RunsToo slot others
  pub speeds : (before slots others : List WholeSlot) (slot other : WholeSlot) (end : ℕ) → IsRest jobs scale before end (slot ∷ slots) →
      IsRest jobs scale before end (other ∷ others) → all ≡ before ++ slot ∷ slots → same ≡ before ++ other ∷ others → slot.from ≡ other.from → slot.job ≡ other.job →
      HasSpeedOf slot other

-- a slot by its parts
abbrev pub slot_of : ℕ → ℕ → ℕ → ℕ → WholeSlot
slot_of job from to work = record { job = job; from = from; to = to; work = work }

-- at one speed more time does more work
more_work : (work time other long : ℕ) → 1 ≤ work → 1 ≤ time → time < long → other * time ≡ work * long → work < other
more_work work time other long some takes longer same =
    lt_of_mul-lt-mul_right time (omega (arith, same, mul-lt-mul_of_pos_left longer some))

module _ (jobs : List Job) (scale : ℕ) (positive : 1 ≤ scale) where
  module _ (before : List WholeSlot) (end : ℕ) (one other : WholeSlot) (ones others : List WholeSlot) (rest : IsRest jobs scale before end (one ∷ ones))
      (more : IsRest jobs scale before end (other ∷ others)) where
    -- the second list's first slot begins no later
    begins_no_later : RunsToo one (other ∷ others) → other.from ≤ one.from
    begins_no_later too = runs_from end one.from other others more.run (too one.from (omega arith) rest.run.1)

    -- where both begin together they are of one job
    same_job : one.from ≡ other.from → one.job ≡ other.job
    same_job begin =
        let first = rest.due.0 in
        let second = more.due.0 in
        comes_both jobs one.job other.job
        (first.first other.job (more.windows 0 other (omega arith)).known (record { released = omega (arith, second.may_run.released, begin); pending = second.may_run.pending }))
        (second.first one.job (rest.windows 0 one (omega arith)).known (record { released = omega (arith, first.may_run.released, begin); pending = first.may_run.pending }))

    -- what the first gives its job, with what was given before
    given_with : (slot : WholeSlot) (slots : List WholeSlot) → work_given before slot.job + slot.work ≤ work_given (before ++ slot ∷ slots) slot.job
    given_with slot slots = omega (
      arith,
      sum_by-append (λ (s : WholeSlot). if slot.job == s.job then s.work else 0) before (slot ∷ slots),
      sum_by-cons (λ (s : WholeSlot). if slot.job == s.job then s.work else 0) slot slots,
      ap {B = ℕ} (λ b. if b then slot.work else 0) (eq-eqb slot.job slot.job refl),
    )

    -- and with no more
    given_just : (slot : WholeSlot) → work_given (before ++ slot ∷ []) slot.job ≡ work_given before slot.job + slot.work
    given_just slot = omega (
      arith,
      sum_by-append (λ (s : WholeSlot). if slot.job == s.job then s.work else 0) before (slot ∷ []),
      sum_by-cons (λ (s : WholeSlot). if slot.job == s.job then s.work else 0) slot [],
      ap {B = ℕ} (λ b. if b then slot.work else 0) (eq-eqb slot.job slot.job refl),
    )

  -- a slot whose start lies inside a stretch lies in it
  pub stretch_same : (k : ℕ) (slot : WholeSlot) → k < length (stretches jobs) → IsUncut jobs scale slot → slot.from < slot.to → (stretch_at jobs k).from * scale ≤ slot.from →
      slot.from < (stretch_at jobs k).to * scale → LiesIn scale slot (stretch_at jobs k)
  stretch_same k slot within uncut takes from to =
      let found = stretch_of_slot jobs scale slot uncut in
      elim (cases_order found.0 k) [
        | inl same ↦ subst (λ (i : ℕ). LiesIn scale slot (stretch_at jobs i)) same found.2
        | inr (inl before) ↦ absurd (omega (arith, mul-le-mul_right scale (stretch_order jobs found.0 k before within), found.2.to, from, takes))
        | inr (inr after) ↦ absurd (omega (arith, mul-le-mul_right scale (stretch_order jobs k found.0 after found.1), found.2.from, to))
      ]

  -- the second slot doesn't end first: its job would be done, and the first does more of it
  ends_no_sooner : (before : List WholeSlot) (end : ℕ) (one other : WholeSlot) (ones others : List WholeSlot) → IsRest jobs scale before end (one ∷ ones) →
      IsRest jobs scale before end (other ∷ others) → RunsToo one (other ∷ others) → one.from ≡ other.from → one.job ≡ other.job →
      one.work * (other.to - other.from) ≡ other.work * (one.to - one.from) → other.to < one.to → ⊥
  ends_no_sooner before end one other ones [] rest more too begin same speed sooner =
      let none = runs_on other.to other [] (omega arith)
      (too other.to (omega (arith, begin, more.run.1)) sooner) in
      absurd (omega (arith, none.2))
  ends_no_sooner before end one other ones (next ∷ others) rest more too begin same speed sooner =
      let there = runs_on other.to other (next ∷ others) (omega arith)
      (too other.to (omega (arith, begin, more.run.1)) sooner) in
      let starts : next.from ≡ other.to = omega (arith, more.run.2.0, runs_from other.to other.to next others more.run.2 there) in
      let place = stretch_of_slot jobs scale one (rest.uncut 0 one (omega arith)) in
      let lies : LiesIn scale other (stretch_at jobs place.0) = record { from = omega (arith, place.2.from, begin); to = omega (arith, place.2.to, sooner) } in
      let next_lies = stretch_same place.0 next place.1 (more.uncut 1 next (omega arith)) more.run.2.1 (omega (arith, place.2.from, begin, more.run.1, starts))
      (omega (arith, place.2.to, starts, sooner)) in
      let apart : other.job ≡ next.job → ⊥ = λ equal. more.once 0 1 (omega arith) (omega arith) equal place.0 (record { from = 0; to = 0 }) place.1 lies next_lies in
      let known = (more.windows 0 other (omega arith)).known in
      let done = first_done jobs scale before other next positive place.0 place.1 lies next_lies more.run.1 more.run.2.0 more.run.2.1 known
      (more.windows 1 next (omega arith)).known more.due.0 more.due.1.0 apart in
      absurd (omega (
        arith,
        done,
        given_just before end other one (next ∷ others) ones more rest other,
        given_with before end one other ones (next ∷ others) rest more one ones,
        rest.served one.job (rest.windows 0 one (omega arith)).known,
        ap (λ (job : ℕ). work_given before job) same,
        ap (λ (job : ℕ). (job_at jobs job).work * scale) same,
        more_work other.work (other.to - other.from) one.work (one.to - one.from) (more.works 0 other (omega arith)) (omega (arith, more.run.1))
            (omega (arith, begin, sooner, more.run.1)) speed,
      ))

  -- so both are one list
  pub rests_are_one : (all same before : List WholeSlot) (end : ℕ) (ones others : List WholeSlot) → GoesAlong jobs scale all same → GoesAlong jobs scale same all →
      all ≡ before ++ ones → same ≡ before ++ others → IsRest jobs scale before end ones → IsRest jobs scale before end others → ones ≡ others
  rests_are_one all same before end [] [] along back is also rest more = refl
  rests_are_one all same before end [] (other ∷ others) along back is also rest more =
      absurd (let none = back.runs before others [] other end more rest also is other.from (omega arith) more.run.1 in omega (arith, none.2))
  rests_are_one all same before end (one ∷ ones) [] along back is also rest more =
      absurd (let none = along.runs before ones [] one end rest more is also one.from (omega arith) rest.run.1 in omega (arith, none.2))
  rests_are_one all same before end (one ∷ ones) (other ∷ others) along back is also rest more =
      let too = along.runs before ones (other ∷ others) one end rest more is also in
      let again = back.runs before others (one ∷ ones) other end more rest also is in
      let begin : one.from ≡ other.from = omega (
        arith,
        begins_no_later before end one other ones others rest more too,
        begins_no_later before end other one others ones more rest again,
      ) in
      let job : one.job ≡ other.job = same_job before end one other ones others rest more begin in
      let speed : one.work * (other.to - other.from) ≡ other.work * (one.to - one.from) = along.speeds before ones others one other end rest more is also begin job in
      let ends : one.to ≡ other.to = elim (cases_order one.to other.to) [
        | inl equal ↦ equal
        | inr (inl sooner) ↦ absurd (ends_no_sooner before end other one others ones more rest again (sym begin) (sym job) (sym speed) sooner)
        | inr (inr later) ↦ absurd (ends_no_sooner before end one other ones others rest more too begin job speed later)
      ] in
      let time : one.to - one.from ≡ other.to - other.from = omega (arith, begin, ends) in
      let work : one.work ≡ other.work = eq_of_mul-eq-mul_right (one.to - one.from) (omega (arith, rest.run.1)) one.work other.work
      (omega (arith, speed, ap (λ n. one.work * n) time)) in
      let first : one ≡ other =
      ap (λ (n : ℕ). slot_of n one.from one.to one.work) job ∙ ap (λ (n : ℕ). slot_of other.job n one.to one.work) begin
      ∙ ap (λ (n : ℕ). slot_of other.job other.from n one.work) ends ∙ ap (λ (n : ℕ). slot_of other.job other.from other.to n) work in
      let mine = subst (λ (slot : WholeSlot). IsRest jobs scale (before ++ slot ∷ []) slot.to ones) first (rest_next jobs scale before end one ones rest) in
      let others_same = rests_are_one all same (before ++ other ∷ []) other.to ones others along back
      (is ∙ ap (λ (slot : WholeSlot). before ++ slot ∷ ones) first ∙ sym (append_assoc before (other ∷ []) ones)) (also ∙ sym (append_assoc before (other ∷ []) others))
      mine (rest_next jobs scale before end other others more) in
      cc (first, others_same)
