-- A run of Average Rate that never rounded: what is pending never holds it back, so each stretch does just the sum of the jobs' parts.
--
-- A job's whole parts up to a time are its units for so much of its window. So with its part of a stretch they are at most all its units, and
-- nothing before its release. What is served before a stretch is at most the parts of the stretches before it. So what is pending there is
-- at least the parts of the stretch.
use Rattle.yds_model.proofs.Common.{◌≡◌, ℕ, zero, suc, ◌+◌, ◌-◌, ◌*◌, ◌<◌, ◌≤◌, min, List, length, get_or, ◌∙◌, refl, sym, subst, ap, arith, inl, inr, cond, Bool, true, false, ◌&&◌, nat_le, nat_lt, add-one, All, filter, sum_by, cases_lt, cases_order, cases_Bool, cond-true, cond-false, le-leb, lt-leb, leb-true, ltb-true, and_parts, and_from, get_or_default, All-from_get_or, mul-le-mul_left, mul-le-mul_right, le_of_mul-le-mul_right, Job, no_job, job_at, WholeSlot, slots_at, work_given, stretches, LiesIn, IsUncut, pending_at, numbers_of, pending_units, is_live, term_of, terms_of, average_rate, average_rate_rounds, work_in, stretch_at, sum_by-add, sum_by-mul, sum_by_at_most, sum_by_zero, sum_by-filter}
use Rattle.model_lemmas.proofs.Runs.{run_forward}
use Rattle.yds_events.specs.Stretch.{no_stretch}
use Rattle.yds_events.proofs.Neighbours.{stretch_begins, stretch_ends, stretch_forward, stretch_order, release_outside, deadline_outside}
use Rattle.yds_laws.specs.RunLaws.{HasWholeTerms, DoesItsTerms, AverageRateIsExact}
use Rattle.yds_laws.proofs.Group.{given_together, group_at_most}
use Rattle.yds_laws.proofs.Served.{all_numbers, kept_different}
use Rattle.yds_laws.proofs.JobNumbers.{sum_by_number}
use Rattle.yds_laws.proofs.ExactRuns.{none_counted, does_capacity, whole_terms}

-- a stretch begins where the one before it ends
joined : (jobs : List Job) (k : ℕ) → suc k < length (stretches jobs) → (stretch_at jobs (suc k)).from ≡ (stretch_at jobs k).to
joined jobs k here = stretch_begins jobs (suc k) here ∙ sym (rw add-one at (stretch_ends jobs k (omega arith)))

-- # A job's parts

-- its part of a stretch, where it is live there
abbrev part_of : List Job → ℕ → ℕ → ℕ → ℕ
part_of jobs grid k number = cond (is_live (stretch_at jobs k) (job_at jobs number)) (term_of grid (stretch_at jobs k) (job_at jobs number)) 0

-- its parts of the stretches before
abbrev parts_before : List Job → ℕ → ℕ → ℕ → ℕ
parts_before jobs grid zero number = 0
parts_before jobs grid (suc k) number = parts_before jobs grid k number + part_of jobs grid k number

module _ (jobs : List Job) (grid number : ℕ) (known : number < length jobs)
    (whole : (k : ℕ) → k < length (stretches jobs) → HasWholeTerms jobs grid (stretch_at jobs k)) where
  abbrev job : Job
  job = job_at jobs number

  abbrev long : ℕ
  long = job.deadline - job.release

  abbrev units : ℕ
  units = grid * job.work

  -- a whole part is the units for the stretch's length
  part_whole : (k : ℕ) → k < length (stretches jobs) → is_live (stretch_at jobs k) job ≡ true →
      part_of jobs grid k number * long ≡ units * ((stretch_at jobs k).to - (stretch_at jobs k).from)
  part_whole k here live = rw live (whole k here number no_job known live)

  part_none : (k : ℕ) → is_live (stretch_at jobs k) job ≡ false → part_of jobs grid k number ≡ 0
  part_none k dead = rw dead refl

  -- where its parts before a stretch are at most its units for its window before it, so they are with the stretch
  with_part : (k : ℕ) → k < length (stretches jobs) →
      parts_before jobs grid k number * long ≤ units * (min (stretch_at jobs k).from job.deadline - job.release) →
      parts_before jobs grid (suc k) number * long ≤ units * (min (stretch_at jobs k).to job.deadline - job.release)
  with_part k here before = elim (cases_Bool (is_live (stretch_at jobs k) job)) [
    | inr dead ↦
        let more : min (stretch_at jobs k).from job.deadline - job.release ≤ min (stretch_at jobs k).to job.deadline - job.release =
        omega (arith, stretch_forward jobs k here) in
        omega (arith, before, ap (λ n. n * long) (part_none k dead), mul-le-mul_left units more)
    | inl live ↦
        let both = and_parts (nat_le job.release (stretch_at jobs k).from) (nat_lt (stretch_at jobs k).from job.deadline) live in
        let released : job.release ≤ (stretch_at jobs k).from = leb-true _ _ both.0 in
        let due : (stretch_at jobs k).from < job.deadline = ltb-true _ _ both.1 in
        let within : (stretch_at jobs k).to ≤ job.deadline = elim (deadline_outside jobs number k known here) [
          | inl over ↦ absurd (omega (arith, over, due))
          | inr upto ↦ upto
        ] in
        let split : min (stretch_at jobs k).to job.deadline - job.release
        ≡ (min (stretch_at jobs k).from job.deadline - job.release) + ((stretch_at jobs k).to - (stretch_at jobs k).from) =
        omega (arith, released, due, within, stretch_forward jobs k here) in
        omega (arith, before, part_whole k here live, ap (λ n. units * n) split)
  ]

  parts_so_far : (k : ℕ) → k < length (stretches jobs) →
      parts_before jobs grid k number * long ≤ units * (min (stretch_at jobs k).from job.deadline - job.release)
  parts_so_far zero here = omega arith
  parts_so_far (suc k) here =
      let before : k < length (stretches jobs) = omega (arith, here) in
      rw (joined jobs k here) (with_part k before (parts_so_far k before))

  -- a job without a window has no parts
  no_parts : job.deadline ≤ job.release → (k : ℕ) → parts_before jobs grid k number ≡ 0
  no_parts never zero = refl
  no_parts never (suc k) = elim (cases_Bool (is_live (stretch_at jobs k) job)) [
    | inr dead ↦ omega (arith, no_parts never k, part_none k dead)
    | inl live ↦
        let both = and_parts (nat_le job.release (stretch_at jobs k).from) (nat_lt (stretch_at jobs k).from job.deadline) live in
        absurd (omega (arith, never, leb-true job.release (stretch_at jobs k).from both.0, ltb-true (stretch_at jobs k).from job.deadline both.1))
  ]

  -- its parts are at most its units, and nothing before it is released
  pub parts_within : (k : ℕ) → k < length (stretches jobs) →
      parts_before jobs grid k number + part_of jobs grid k number ≤ cond (nat_le job.release (stretch_at jobs k).from) units 0
  parts_within k here = elim (cases_lt job.release job.deadline) [
    | inr never ↦ omega (arith, no_parts never (suc k))
    | inl window ↦
        let some : 1 ≤ long = omega (arith, window) in
        let most = with_part k here (parts_so_far k here) in
        elim (cases_lt (stretch_at jobs k).from job.release) [
          | inr released ↦
              let all : parts_before jobs grid (suc k) number ≤ units = le_of_mul-le-mul_right {k = long} (omega (
                arith,
                most,
                mul-le-mul_left units (let less : min (stretch_at jobs k).to job.deadline - job.release ≤ long = omega arith in less),
              )) some in
              omega (arith, all, cond-true {A = ℕ} (nat_le job.release (stretch_at jobs k).from) units 0 (le-leb job.release (stretch_at jobs k).from released))
          | inl early ↦
              let upto : (stretch_at jobs k).to ≤ job.release = elim (release_outside jobs number k known here) [
                | inl before ↦ absurd (omega (arith, before, early))
                | inr after ↦ after
              ] in
              let none : min (stretch_at jobs k).to job.deadline - job.release ≡ 0 = omega (arith, upto) in
              let all : parts_before jobs grid (suc k) number ≤ 0 = le_of_mul-le-mul_right {k = long} (omega (arith, most, ap (λ n. units * n) none)) some in
              omega (arith, all)
        ]
  ]

-- # All jobs' parts

abbrev all_before : List Job → ℕ → ℕ → ℕ
all_before jobs grid k = sum_by (parts_before jobs grid k) (numbers_of jobs)

-- the parts of a stretch, together
parts_together : (jobs : List Job) (grid k : ℕ) → sum_by (part_of jobs grid k) (numbers_of jobs) ≡ terms_of jobs grid (stretch_at jobs k)
parts_together jobs grid k =
    sum_by_number (λ job. cond (is_live (stretch_at jobs k) job) (term_of grid (stretch_at jobs k) job) 0) jobs
    ∙ sym (sum_by-filter (is_live (stretch_at jobs k)) (term_of grid (stretch_at jobs k)) jobs)

-- with them, those before are those before the next
before_next : (jobs : List Job) (grid k : ℕ) → all_before jobs grid (suc k) ≡ all_before jobs grid k + terms_of jobs grid (stretch_at jobs k)
before_next jobs grid k = omega (arith, sum_by-add (parts_before jobs grid k) (part_of jobs grid k) (numbers_of jobs), parts_together jobs grid k)

abbrev released : List Job → ℕ → List ℕ
released jobs k = filter (λ job. nat_le (job_at jobs job).release (stretch_at jobs k).from) (numbers_of jobs)

-- they are at most the units of the released jobs
all_within : (jobs : List Job) (grid : ℕ) → ((k : ℕ) → k < length (stretches jobs) → HasWholeTerms jobs grid (stretch_at jobs k)) → (k : ℕ) → k < length (stretches jobs) →
    all_before jobs grid (suc k) ≤ grid * sum_by (λ job. (job_at jobs job).work) (released jobs k)
all_within jobs grid whole k here =
    omega (
      arith,
      sum_by_at_most (parts_before jobs grid (suc k)) (λ job. cond (nat_le (job_at jobs job).release (stretch_at jobs k).from) (grid * (job_at jobs job).work) 0) (numbers_of jobs)
          (all_numbers (λ job. parts_before jobs grid (suc k) job ≤ cond (nat_le (job_at jobs job).release (stretch_at jobs k).from) (grid * (job_at jobs job).work) 0) jobs
          (λ number known. parts_within jobs grid number known whole k here)),
      sum_by-filter (λ job. nat_le (job_at jobs job).release (stretch_at jobs k).from) (λ job. grid * (job_at jobs job).work) (numbers_of jobs),
      sum_by-mul grid (λ job. (job_at jobs job).work) (released jobs k),
    )

-- # What is served before a stretch

at_most_all : (b : Bool) (n : ℕ) → cond b n 0 ≤ n
at_most_all true n = omega arith
at_most_all false n = omega arith

-- the stretch that a slot lies in
pub stretch_of_slot : (jobs : List Job) (scale : ℕ) (slot : WholeSlot) → IsUncut jobs scale slot →
    (i : ℕ) × (i < length (stretches jobs)) × LiesIn scale slot (stretch_at jobs i)
stretch_of_slot jobs scale slot (i, stretch, within, is, lies) =
    (i, within, subst (LiesIn scale slot) (sym is ∙ get_or_default (stretches jobs) i stretch no_stretch within) lies)

module _ (jobs : List Job) (scale : ℕ) (slots : List WholeSlot) (forward : All (λ slot. slot.from < slot.to) slots) (uncut : All (IsUncut jobs scale) slots) where
  -- the work of the slots that end by a time
  abbrev done : ℕ → ℕ
  done time = sum_by (λ slot. slot.work) (filter (λ slot. nat_le slot.to (time * scale)) slots)

  abbrev done_part : ℕ → WholeSlot → ℕ
  done_part time slot = cond (nat_le slot.to (time * scale)) slot.work 0

  abbrev part_in : ℕ → WholeSlot → ℕ
  part_in k slot = cond (nat_le ((stretch_at jobs k).from * scale) slot.from && nat_le slot.to ((stretch_at jobs k).to * scale)) slot.work 0

  -- a slot that ends by a stretch's end ends by its start, or lies in it
  slot_next : (k : ℕ) → k < length (stretches jobs) → (slot : WholeSlot) → slot.from < slot.to → IsUncut jobs scale slot →
      done_part (stretch_at jobs k).to slot ≤ done_part (stretch_at jobs k).from slot + part_in k slot
  slot_next k here slot takes cut =
      let place = stretch_of_slot jobs scale slot cut in
      let from = (stretch_at jobs k).from * scale in
      let to = (stretch_at jobs k).to * scale in
      let work = at_most_all (nat_le slot.to to) slot.work in
      elim (cases_order place.0 k) [
        | inl same ↦
            let lies = subst (λ (i : ℕ). LiesIn scale slot (stretch_at jobs i)) same place.2 in
            let inside = and_from (nat_le from slot.from) (nat_le slot.to to) (le-leb from slot.from lies.from) (le-leb slot.to to lies.to) in
            omega (arith, work, cond-true {A = ℕ} (nat_le from slot.from && nat_le slot.to to) slot.work 0 inside)
        | inr (inl before) ↦
            let ends : slot.to ≤ from = omega (arith, place.2.to, mul-le-mul_right scale (stretch_order jobs place.0 k before here)) in
            omega (arith, work, cond-true {A = ℕ} (nat_le slot.to from) slot.work 0 (le-leb slot.to from ends))
        | inr (inr after) ↦
            let later : to < slot.to = omega (arith, takes, place.2.from, mul-le-mul_right scale (stretch_order jobs k place.0 after place.1)) in
            omega (arith, cond-false {A = ℕ} (nat_le slot.to to) slot.work 0 (lt-leb slot.to to later))
      ]

  -- so what is done by a stretch's end is done before it or in it
  done_next : (k : ℕ) → k < length (stretches jobs) → done (stretch_at jobs k).to ≤ done (stretch_at jobs k).from + work_in scale (stretch_at jobs k) slots
  done_next k here =
      omega (
        arith,
        sum_by-filter (λ slot. nat_le slot.to ((stretch_at jobs k).to * scale)) (λ (slot : WholeSlot). slot.work) slots,
        sum_by-filter (λ slot. nat_le slot.to ((stretch_at jobs k).from * scale)) (λ (slot : WholeSlot). slot.work) slots,
        sum_by-filter (λ slot. nat_le ((stretch_at jobs k).from * scale) slot.from && nat_le slot.to ((stretch_at jobs k).to * scale)) (λ (slot : WholeSlot). slot.work) slots,
        sum_by_at_most (done_part (stretch_at jobs k).to) (λ slot. done_part (stretch_at jobs k).from slot + part_in k slot) slots
            (λ i d within. slot_next k here (get_or slots i d) (forward i d within) (uncut i d within)),
        sum_by-add (done_part (stretch_at jobs k).from) (part_in k) slots,
      )

  first_start : (i : ℕ) → i < length (stretches jobs) → (stretch_at jobs 0).from ≤ (stretch_at jobs i).from
  first_start zero here = omega arith
  first_start (suc i) here = omega (arith, stretch_order jobs 0 (suc i) (omega arith) here, stretch_forward jobs 0 (omega arith))

  -- and nothing before the first
  none_done : done (stretch_at jobs 0).from ≡ 0
  none_done =
      sum_by-filter (λ slot. nat_le slot.to ((stretch_at jobs 0).from * scale)) (λ (slot : WholeSlot). slot.work) slots
      ∙ sum_by_zero (done_part (stretch_at jobs 0).from) slots (λ i d within.
      let place = stretch_of_slot jobs scale (get_or slots i d) (uncut i d within) in
      let later : (stretch_at jobs 0).from * scale < (get_or slots i d).to =
      omega (arith, forward i d within, place.2.from, mul-le-mul_right scale (first_start place.0 place.1)) in
      cond-false {A = ℕ} _ (get_or slots i d).work 0 (lt-leb (get_or slots i d).to ((stretch_at jobs 0).from * scale) later))

  module _ (grid : ℕ) (serves : (k : ℕ) → k < length (stretches jobs) → grid * work_in scale (stretch_at jobs k) slots ≤ scale * terms_of jobs grid (stretch_at jobs k)) where
    -- where no stretch does more than its parts, no more is done before one than the parts before it
    done_before : (k : ℕ) → k < length (stretches jobs) → grid * done (stretch_at jobs k).from ≤ scale * all_before jobs grid k
    done_before zero here = omega (arith, ap (λ n. grid * n) none_done)
    done_before (suc k) here =
        let before : k < length (stretches jobs) = omega (arith, here) in
        omega (
          arith,
          ap (λ time. grid * done time) (joined jobs k here),
          mul-le-mul_left grid (done_next k before),
          done_before k before,
          serves k before,
          ap (λ n. scale * n) (before_next jobs grid k),
        )

    -- so with whole parts, at least the parts of a stretch are pending
    pub parts_pending : ((k : ℕ) → k < length (stretches jobs) → HasWholeTerms jobs grid (stretch_at jobs k)) → (k : ℕ) → k < length (stretches jobs) →
        scale * terms_of jobs grid (stretch_at jobs k) ≤ pending_units jobs grid scale slots (stretch_at jobs k)
    parts_pending whole k here =
        let time = (stretch_at jobs k).from in
        let ended = filter (λ (slot : WholeSlot). nat_le slot.to (time * scale)) slots in
        let numbers = released jobs k in
        let left = pending_at jobs scale slots time in
        let work = sum_by (λ job. (job_at jobs job).work) numbers in
        let wanted : scale * work ≤ sum_by left numbers + done time =
        omega (
          arith,
          sum_by-mul scale (λ job. (job_at jobs job).work) numbers,
          sum_by_at_most (λ job. scale * (job_at jobs job).work) (λ job. left job + work_given ended job) numbers (λ i d within. omega arith),
          sum_by-add left (work_given ended) numbers,
          given_together numbers ended,
          group_at_most (λ slot. slot.work) numbers ended (kept_different jobs (λ job. nat_le (job_at jobs job).release time)),
        ) in
        omega (
          arith,
          mul-le-mul_left grid wanted,
          done_before k here,
          ap (λ n. scale * n) (before_next jobs grid k),
          mul-le-mul_left scale (all_within jobs grid whole k here),
        )

-- the law of Average Rate
pub average_rate_is_exact : AverageRateIsExact
average_rate_is_exact jobs grid slots some run =
    let none = none_counted (average_rate_rounds jobs grid) (stretches jobs) run.rounds in
    let whole : (k : ℕ) → k < length (stretches jobs) → HasWholeTerms jobs grid (stretch_at jobs k) =
    λ k here. whole_terms jobs grid (stretch_at jobs k) (none k no_stretch here) in
    record {
      solid = run.run.solid;
      holds = λ scale is.
          let at = slots_at scale slots in
          let set = average_rate jobs grid scale at in
          let runs = run.run.holds scale is in
          let does = does_capacity jobs grid scale some is.positive set at runs in
          let pending = parts_pending jobs scale at (run_forward 0 at runs.feasible.one_at_a_time) runs.served.uncut grid (λ k here. omega (arith, does k here)) whole in
          All-from_get_or (DoesItsTerms jobs grid scale at) (stretches jobs) no_stretch (λ k here. record {
            whole = whole k here;
            does = omega (arith, does k here, pending k here);
          });
    }
