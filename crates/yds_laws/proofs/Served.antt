-- Jobs can be served at or below a top speed exactly where no interval is overfull.
--
-- One way is the confinement bound. For the other, one unit of work runs after another at the top speed, earliest deadline first: at the
-- scale of the top speed each takes one part of time. What is left of the jobs due by a time is always at most the room before it: a part
-- of time either serves such a job, or none of them may run, and then all that is left of them comes later, where they have room.
use Rattle.yds_model.proofs.Common.{◌≡◌, ℕ, zero, suc, ◌+◌, ◌-◌, ◌*◌, ◌/◌, ◌<◌, ◌≤◌, ◌⊎◌, List, [], ◌∷◌, ◌++◌, length, get_or, ◌∙◌, refl, sym, subst, arith, inl, inr, ap, cond, Bool, true, false, ◌&&◌, ◌==◌, nat_lt, nat_le, All, Any, Contains, filter, range_with_len, sum_by, cases_lt, cases_eq, cases_Bool, ltb-true, leb-true, lt-leb, le-leb, eq-eqb, eqb-true, ne_eqb, and_parts, true≢false, sum_by-cons, sum_by_push, get_or-le-sum_by, All-nil, All-tail, All-push, All-filter, filter_passes, get_or-range_with_len, length-range_with_len, mul-sub, mul-le-mul_right, mul-le-mul_left, AreDifferent, count, Job, IsJob, no_job, job_at, WholeSlot, work_given, RunFrom, IsInWindow, numbers_of, IsWithinTop, CanServe, lies_within, confined_work, sum_by_same, sum_by_at_most, sum_by_zero, count-cons, sum_by-filter, found_or_none}
use Rattle.yds_laws.specs.AdmissionLaws.{HasRoom, ServedWhereRoom}
use Rattle.yds_laws.proofs.Bound.{served_at_speed}

-- # Sums over numbers

-- a sum of terms that are at most others, and that of one element less
sum_by_less : (f g : ℕ → ℕ) (xs : List ℕ) (x : ℕ) → All (λ y. f y ≤ g y) xs → Contains xs x → f x < g x → sum_by f xs < sum_by g xs
sum_by_less f g [] x most (k, within, is) less = absurd (omega arith)
sum_by_less f g (y ∷ ys) x most (zero, within, is) less = omega (
  arith,
  sum_by-cons f y ys,
  sum_by-cons g y ys,
  sum_by_at_most f g ys (All-tail (λ z. f z ≤ g z) y ys most),
  ap f is,
  ap g is,
)
sum_by_less f g (y ∷ ys) x most (suc k, within, is) less = omega (
  arith,
  sum_by-cons f y ys,
  sum_by-cons g y ys,
  most 0 y (omega arith),
  sum_by_less f g ys x (All-tail (λ z. f z ≤ g z) y ys most) (k, omega arith, is) less,
)

-- the numbers of jobs are below their number, and each of them is there once
pub all_numbers : (P : ℕ → Type 0) (jobs : List Job) → ((i : ℕ) → i < length jobs → P i) → All P (numbers_of jobs)
all_numbers P jobs each k d within =
    let below : k < length jobs = omega (arith, length-range_with_len 0 (length jobs)) in
    subst P (sym (get_or-range_with_len 0 (length jobs) k d below ∙ omega arith)) (each k below)

pub is_number : (jobs : List Job) (i : ℕ) → i < length jobs → Contains (numbers_of jobs) i
is_number jobs i below = (i, omega (arith, length-range_with_len 0 (length jobs)), get_or-range_with_len 0 (length jobs) i i below ∙ omega arith)

counted_after : (number start n : ℕ) → number < start → count number (range_with_len start n) ≡ 0
counted_after number start zero before = refl
counted_after number start (suc n) before = omega (
  arith,
  count-cons number start (range_with_len (start + 1) n),
  counted_after number (start + 1) n (omega arith),
  ap {B = ℕ} (λ b. cond b 1 0) (ne_eqb number start (λ is. omega (arith, is, before))),
)

pub counted_once : (number start n : ℕ) → count number (range_with_len start n) ≤ 1
counted_once number start zero = omega arith
counted_once number start (suc n) = elim (cases_eq number start) [
  | inl same ↦ omega (
    arith,
    count-cons number start (range_with_len (start + 1) n),
    counted_after number (start + 1) n (omega (arith, same)),
    ap {B = ℕ} (λ b. cond b 1 0) (eq-eqb number start same),
  )
  | inr other ↦ omega (
    arith,
    count-cons number start (range_with_len (start + 1) n),
    counted_once number (start + 1) n,
    ap {B = ℕ} (λ b. cond b 1 0) (ne_eqb number start other),
  )
]

pub cond_less : (p q : Bool) → cond p (cond q 1 0) 0 ≤ cond q 1 0
cond_less true q = omega arith
cond_less false q = omega arith

-- those that a filter keeps are different
pub kept_different : (jobs : List Job) (p : ℕ → Bool) → AreDifferent (filter p (numbers_of jobs))
kept_different jobs p number = omega (
  arith,
  sum_by-filter p (λ other. cond (number == other) 1 0) (numbers_of jobs),
  sum_by_at_most (λ other. cond (p other) (cond (number == other) 1 0) 0) (λ other. cond (number == other) 1 0) (numbers_of jobs)
      (λ k d within. cond_less (p (get_or (numbers_of jobs) k d)) (number == get_or (numbers_of jobs) k d)),
  counted_once number 0 (length jobs),
)

-- # The work confined to an interval

-- what a job adds to it
abbrev pub confined_term : List Job → ℕ → ℕ → ℕ → ℕ
confined_term jobs from to number = cond (lies_within jobs from to number) (job_at jobs number).work 0

pub confined_sum : (jobs : List Job) (numbers : List ℕ) (from to : ℕ) →
    confined_work jobs numbers from to ≡ sum_by (confined_term jobs from to) numbers
confined_sum jobs numbers from to = sum_by-filter (lies_within jobs from to) (λ number. (job_at jobs number).work) numbers

pub inside : (jobs : List Job) (from to number : ℕ) → from ≤ (job_at jobs number).release → (job_at jobs number).deadline ≤ to →
    confined_term jobs from to number ≡ (job_at jobs number).work
inside jobs from to number first second =
    rw (le-leb from (job_at jobs number).release first, le-leb (job_at jobs number).deadline to second) refl

pub begins_outside : (jobs : List Job) (from to number : ℕ) → (job_at jobs number).release < from → confined_term jobs from to number ≡ 0
begins_outside jobs from to number before = rw (lt-leb from (job_at jobs number).release before) refl

pub ends_outside : (jobs : List Job) (from to number : ℕ) → to < (job_at jobs number).deadline → confined_term jobs from to number ≡ 0
ends_outside jobs from to number after = grind arith

-- # Room in any interval that ends at a deadline

not_equal : (a b : ℕ) → a < suc b → (a == b) ≡ false → a < b
not_equal a b less other = grind arith

shorter : (to from : ℕ) → to - suc from ≤ to - from
shorter to from = omega arith

abbrev pub confined : List Job → ℕ → ℕ → ℕ
confined jobs from to = sum_by (confined_term jobs from to) (numbers_of jobs)

some_number : (jobs : List Job) (P : ℕ → Type 0) (i : ℕ) → i < length jobs → P i → Any P (numbers_of jobs)
some_number jobs P i below holds = let there = is_number jobs i below in (there.0, i, there.1, there.2, holds)

module _ (top : ℕ) (jobs : List Job) (are : All IsJob jobs) (room : HasRoom top jobs) (last : ℕ) (known : last < length jobs) where
  -- no job fits where there is no time
  confined_nowhere : (from : ℕ) → (job_at jobs last).deadline ≤ from → confined jobs from (job_at jobs last).deadline ≡ 0
  confined_nowhere from none = sum_by_zero (confined_term jobs from (job_at jobs last).deadline) (numbers_of jobs)
      (all_numbers (λ i. confined_term jobs from (job_at jobs last).deadline i ≡ 0) jobs
      (λ i below. elim (cases_lt (job_at jobs i).release from) [
        | inl before ↦ begins_outside jobs from (job_at jobs last).deadline i before
        | inr after ↦ ends_outside jobs from (job_at jobs last).deadline i (omega (arith, after, none, (are i no_job below).has_window))
      ]))

  -- The work is within the room from any time on, not only from releases: go on to the next release.
  pub room_from : (more from : ℕ) → (job_at jobs last).deadline ≤ from + more →
      confined jobs from (job_at jobs last).deadline ≤ top * ((job_at jobs last).deadline - from)
  room_from zero from near = omega (arith, confined_nowhere from (omega (arith, near)))
  room_from (suc more) from near =
      let to : ℕ = (job_at jobs last).deadline in
      elim (cases_lt from to) [
        | inr none ↦ omega (arith, confined_nowhere from none)
        | inl forward ↦ elim (found_or_none (length jobs) (λ i. (job_at jobs i).release == from)) [
          | inl found ↦ elim (cases_lt (top * (to - from)) (confined_work jobs (numbers_of jobs) from to)) [
            | inr fits ↦ omega (arith, fits, confined_sum jobs (numbers_of jobs) from to)
            | inl much ↦ absurd (room from to (record {
              forward = forward;
              is_release = some_number jobs (λ i. (job_at jobs i).release ≡ from) found.0 found.1 (eqb-true (job_at jobs found.0).release from found.2);
              is_deadline = some_number jobs (λ i. (job_at jobs i).deadline ≡ to) last known refl;
              too_much = much;
            }))
          ]
          | inr none ↦
              let same = sum_by_same (confined_term jobs from to) (confined_term jobs (suc from) to) (numbers_of jobs)
              (all_numbers (λ i. confined_term jobs from to i ≡ confined_term jobs (suc from) to i) jobs
              (λ i below. elim (cases_lt (job_at jobs i).release (suc from)) [
                | inl before ↦ begins_outside jobs from to i (not_equal (job_at jobs i).release from before (none i below))
                    ∙ sym (begins_outside jobs (suc from) to i before)
                | inr after ↦ elim (cases_lt to (job_at jobs i).deadline) [
                  | inl ends ↦ ends_outside jobs from to i ends ∙ sym (ends_outside jobs (suc from) to i ends)
                  | inr within ↦ inside jobs from to i (omega (arith, after)) within ∙ sym (inside jobs (suc from) to i after within)
                ]
              ])) in
              omega (arith, same, room_from more (suc from) (omega (arith, near)), mul-le-mul_left top (shorter to from))
        ]
      ]

-- # One unit of work after another

-- a slot of one part of time, in which a job gets one unit of work: at the scale of the top speed
abbrev unit_slot : ℕ → ℕ → ℕ → WholeSlot
unit_slot top job time = record { job = job; from = time; to = suc time; work = top }

-- the units that are left of the jobs due by a time
abbrev left_term : List Job → (ℕ → ℕ) → ℕ → ℕ → ℕ
left_term jobs given time i = cond (nat_le (job_at jobs i).deadline time) ((job_at jobs i).work - given i) 0

abbrev left_due : List Job → (ℕ → ℕ) → ℕ → ℕ
left_due jobs given time = sum_by (left_term jobs given time) (numbers_of jobs)

-- the job may run in this part of time and isn't done
abbrev may_run : ℕ → List Job → (ℕ → ℕ) → ℕ → ℕ → Bool
may_run top jobs given x i = nat_le ((job_at jobs i).release * top) x && nat_lt (given i) (job_at jobs i).work

-- what has been served in the first x parts of time
record ServedBy (top : ℕ) (jobs : List Job) (x : ℕ) : Type 0 where
  slots : List WholeSlot
  given : ℕ → ℕ
  run : RunFrom 0 slots
  ended : All (λ slot. slot.to ≤ x) slots
  in_windows : All (IsInWindow jobs top) slots
  slow : All (IsWithinTop top) slots
  works : (i : ℕ) → work_given slots i ≡ top * given i
  few : (i : ℕ) → i < length jobs → given i ≤ (job_at jobs i).work
  bound : (last : ℕ) → last < length jobs → left_due jobs given (job_at jobs last).deadline ≤ (job_at jobs last).deadline * top - x

run_push : (start : ℕ) (slots : List WholeSlot) (slot : WholeSlot) → RunFrom start slots → start ≤ slot.from → All (λ s. s.to ≤ slot.from) slots →
    slot.from < slot.to → RunFrom start (slots ++ slot ∷ [])
run_push start [] slot run begins ended forward = (begins, forward, tt)
run_push start (first ∷ slots) slot run begins ended forward =
    (run.0, run.1, run_push first.to slots slot run.2 (ended 0 first (omega arith)) (All-tail (λ s. s.to ≤ slot.from) first slots ended) forward)

-- of the numbers that pass a test one has the least key, or none passes
least_of : (n : ℕ) (test : ℕ → Bool) (key : ℕ → ℕ) →
    ((k : ℕ) × (k < n) × (test k ≡ true) × ((i : ℕ) → i < n → test i ≡ true → key k ≤ key i)) ⊎ ((i : ℕ) → i < n → test i ≡ false)
least_of zero test key = inr (λ i within. absurd (omega arith))
least_of (suc n) test key = elim (cases_Bool (test n)) [
  | inr fails ↦ elim (least_of n test key) [
    | inl found ↦ inl (
      found.0,
      omega (arith, found.1),
      found.2,
      λ i within passes. elim (cases_eq i n) [
        | inl same ↦ absurd (true≢false (sym passes ∙ ap test same ∙ fails))
        | inr other ↦ found.3 i (omega arith) passes
      ],
    )
    | inr none ↦ inr (λ i within. elim (cases_eq i n) [
      | inl same ↦ ap test same ∙ fails
      | inr other ↦ none i (omega arith)
    ])
  ]
  | inl passes ↦ elim (least_of n test key) [
    | inl found ↦ elim (cases_lt (key n) (key found.0)) [
      | inl less ↦ inl (
        n,
        omega arith,
        passes,
        λ i within is. elim (cases_eq i n) [
          | inl same ↦ omega (arith, ap key same)
          | inr other ↦ omega (arith, less, found.3 i (omega arith) is)
        ],
      )
      | inr more ↦ inl (
        found.0,
        omega (arith, found.1),
        found.2,
        λ i within is. elim (cases_eq i n) [
          | inl same ↦ omega (arith, more, ap key same)
          | inr other ↦ found.3 i (omega arith) is
        ],
      )
    ]
    | inr none ↦ inl (
      n,
      omega arith,
      passes,
      λ i within is. elim (cases_eq i n) [
        | inl same ↦ omega (arith, ap key same)
        | inr other ↦ absurd (true≢false (sym is ∙ none i (omega arith)))
      ],
    )
  ]
]

comes_after : (top q x release : ℕ) → top * q ≤ x → x < release * top → suc q ≤ release
comes_after top q x release before after = grind arith

done : (given work begin x : ℕ) → begin ≤ x → (nat_le begin x && nat_lt given work) ≡ false → work ≤ given
done given work begin x released none = grind arith

-- the whole unit of time that a part of time lies in
cell : (top x : ℕ) → 1 ≤ top → (q : ℕ) × (top * q ≤ x) × (x < top * q + top)
cell top x some = (x / top, omega arith, omega arith)

room_after : (top to q x : ℕ) → x < top * q + top → top * (to - suc q) ≤ to * top - suc x
room_after top to q x less = omega (arith, mul-sub top to (suc q))

room_begins : (top to : ℕ) → top * (to - 0) ≡ to * top - 0
room_begins top to = omega (arith, ap (λ n. top * n) (let all : to - 0 ≡ to = omega arith in all))

left_is : (jobs : List Job) (given : ℕ → ℕ) (time i : ℕ) → (job_at jobs i).deadline ≤ time →
    left_term jobs given time i ≡ (job_at jobs i).work - given i
left_is jobs given time i due = rw (le-leb (job_at jobs i).deadline time due) refl

left_none : (jobs : List Job) (given : ℕ → ℕ) (time i : ℕ) → time < (job_at jobs i).deadline → left_term jobs given time i ≡ 0
left_none jobs given time i later = rw (lt-leb (job_at jobs i).deadline time later) refl

-- one unit more for a job
abbrev with_one : (ℕ → ℕ) → ℕ → ℕ → ℕ
with_one given job i = given i + cond (i == job) 1 0

one_more : (given : ℕ → ℕ) (job : ℕ) → with_one given job job ≡ given job + 1
one_more given job = ap {B = ℕ} (λ b. given job + cond b 1 0) (eq-eqb job job refl)

slow_unit : (top x : ℕ) → top ≤ top * (suc x - x)
slow_unit top x = omega (arith, ap (λ n. top * n) (let one : suc x - x ≡ 1 = omega arith in one))

unit_work : (b : Bool) (top given work : ℕ) → work ≡ top * given → work + cond b top 0 ≡ top * (given + cond b 1 0)
unit_work true top given work is = omega (arith, is)
unit_work false top given work is = omega (arith, is)

no_more : (b : Bool) (given work : ℕ) → work - (given + cond b 1 0) ≤ work - given
no_more true given work = omega arith
no_more false given work = omega arith

module _ (top : ℕ) (jobs : List Job) (some : 1 ≤ top) (are : All IsJob jobs) (room : HasRoom top jobs) where
  nothing : ServedBy top jobs 0
  nothing = record {
    slots = [];
    given = λ i. 0;
    run = tt;
    ended = All-nil (λ slot. slot.to ≤ 0);
    in_windows = All-nil (IsInWindow jobs top);
    slow = All-nil (IsWithinTop top);
    works = λ i. omega arith;
    few = λ i within. omega arith;
    bound = λ last known.
        let to : ℕ = (job_at jobs last).deadline in
        omega (
          arith,
          sum_by_at_most (left_term jobs (λ i. 0) to) (confined_term jobs 0 to) (numbers_of jobs)
              (all_numbers (λ i. left_term jobs (λ i. 0) to i ≤ confined_term jobs 0 to i) jobs
              (λ i below. elim (cases_lt to (job_at jobs i).deadline) [
                | inl later ↦ omega (arith, left_none jobs (λ i. 0) to i later)
                | inr due ↦ omega (arith, left_is jobs (λ i. 0) to i due, inside jobs 0 to i (omega arith) due)
              ])),
          room_from top jobs are room last known to 0 (omega arith),
          room_begins top to,
        );
  }

  -- where none of the jobs due by a time may run, all that is left of them comes later
  idle : (x : ℕ) (given : ℕ → ℕ) (last : ℕ) → last < length jobs →
      ((i : ℕ) → i < length jobs → (job_at jobs i).deadline ≤ (job_at jobs last).deadline → may_run top jobs given x i ≡ false) →
      left_due jobs given (job_at jobs last).deadline ≤ (job_at jobs last).deadline * top - suc x
  idle x given last known none =
      let to : ℕ = (job_at jobs last).deadline in
      let here = cell top x some in
      omega (
        arith,
        sum_by_at_most (left_term jobs given to) (confined_term jobs (suc here.0) to) (numbers_of jobs)
            (all_numbers (λ i. left_term jobs given to i ≤ confined_term jobs (suc here.0) to i) jobs
            (λ i below. elim (cases_lt to (job_at jobs i).deadline) [
              | inl later ↦ omega (arith, left_none jobs given to i later)
              | inr due ↦ elim (cases_lt x ((job_at jobs i).release * top)) [
                | inl after ↦ omega (
                  arith,
                  left_is jobs given to i due,
                  inside jobs (suc here.0) to i (comes_after top here.0 x (job_at jobs i).release here.1 after) due,
                )
                | inr released ↦ omega (
                  arith,
                  left_is jobs given to i due,
                  done (given i) (job_at jobs i).work ((job_at jobs i).release * top) x released (none i below due),
                )
              ]
            ])),
        room_from top jobs are room last known to (suc here.0) (omega arith),
        room_after top to here.0 x here.2,
      )

  module _ (x : ℕ) (now : ServedBy top jobs x) (job : ℕ) (known : job < length jobs) (runs : may_run top jobs now.given x job ≡ true)
      (first : (i : ℕ) → i < length jobs → may_run top jobs now.given x i ≡ true → (job_at jobs job).deadline ≤ (job_at jobs i).deadline) where
    released : (job_at jobs job).release * top ≤ x
    released = leb-true ((job_at jobs job).release * top) x
        (and_parts (nat_le ((job_at jobs job).release * top) x) (nat_lt (now.given job) (job_at jobs job).work) runs).0

    pending : now.given job < (job_at jobs job).work
    pending = ltb-true (now.given job) (job_at jobs job).work
        (and_parts (nat_le ((job_at jobs job).release * top) x) (nat_lt (now.given job) (job_at jobs job).work) runs).1

    in_time : suc x ≤ (job_at jobs job).deadline * top
    in_time =
        let to : ℕ = (job_at jobs job).deadline in
        let there = is_number jobs job known in
        omega (
          arith,
          now.bound job known,
          get_or-le-sum_by (left_term jobs now.given to) (numbers_of jobs) there.0 job there.1,
          ap (left_term jobs now.given to) there.2,
          left_is jobs now.given to job (omega arith),
          pending,
        )

    no_later : (time i : ℕ) → left_term jobs (with_one now.given job) time i ≤ left_term jobs now.given time i
    no_later time i = grind arith

    bound_next : (last : ℕ) → last < length jobs →
        left_due jobs (with_one now.given job) (job_at jobs last).deadline ≤ (job_at jobs last).deadline * top - suc x
    bound_next last there =
        let to : ℕ = (job_at jobs last).deadline in
        elim (cases_lt to (job_at jobs job).deadline) [
          | inl later ↦ omega (
            arith,
            sum_by_at_most (left_term jobs (with_one now.given job) to) (left_term jobs now.given to) (numbers_of jobs) (λ k d within. no_later to _),
            idle x now.given last there (λ i below due. elim (cases_Bool (may_run top jobs now.given x i)) [
              | inr not ↦ not
              | inl may ↦ absurd (omega (arith, first i below may, due, later))
            ]),
          )
          | inr due ↦ omega (
            arith,
            now.bound last there,
            sum_by_less (left_term jobs (with_one now.given job) to) (left_term jobs now.given to) (numbers_of jobs) job (λ k d within. no_later to _)
                (is_number jobs job known) (omega (
                  arith,
                  left_is jobs (with_one now.given job) to job due,
                  left_is jobs now.given to job due,
                  one_more now.given job,
                  pending,
                )),
          )
        ]

    served_next : ServedBy top jobs (suc x)
    served_next = record {
      slots = now.slots ++ unit_slot top job x ∷ [];
      given = with_one now.given job;
      run = run_push 0 now.slots (unit_slot top job x) now.run (omega arith) now.ended (omega arith);
      ended = All-push (λ slot. slot.to ≤ suc x) now.slots (unit_slot top job x) (λ k d within. omega (arith, now.ended k d within)) (omega arith);
      in_windows = All-push (IsInWindow jobs top) now.slots (unit_slot top job x) now.in_windows
          (record { known = known; released = released; due = in_time });
      slow = All-push (IsWithinTop top) now.slots (unit_slot top job x) now.slow (slow_unit top x);
      works = λ i. sum_by_push (λ (slot : WholeSlot). cond (i == slot.job) slot.work 0) now.slots (unit_slot top job x)
          ∙ unit_work (i == job) top (now.given i) (work_given now.slots i) (now.works i);
      few = λ i below. elim (cases_eq i job) [
        | inl same ↦ subst (λ j. with_one now.given job j ≤ (job_at jobs j).work) (sym same) (omega (arith, one_more now.given job, pending))
        | inr other ↦ omega (arith, now.few i below, ap {B = ℕ} (λ b. now.given i + cond b 1 0) (ne_eqb i job other))
      ];
      bound = bound_next;
    }

  next : (x : ℕ) → ServedBy top jobs x → ServedBy top jobs (suc x)
  next x now = elim (least_of (length jobs) (may_run top jobs now.given x) (λ i. (job_at jobs i).deadline)) [
    | inr none ↦ record {
      slots = now.slots;
      given = now.given;
      run = now.run;
      ended = λ k d within. omega (arith, now.ended k d within);
      in_windows = now.in_windows;
      slow = now.slow;
      works = now.works;
      few = now.few;
      bound = λ last known. idle x now.given last known (λ i below due. none i below);
    }
    | inl found ↦ served_next x now found.0 found.1 found.2 found.3
  ]

  served_by : (x : ℕ) → ServedBy top jobs x
  served_by zero = nothing
  served_by (suc x) = next x (served_by x)

  -- the last deadline is at most the sum of all, and by then nothing is left
  pub served_all : CanServe top jobs
  served_all =
      let end : ℕ = sum_by (λ (job : Job). job.deadline) jobs * top in
      let all = served_by end in
      record {
        scale = top;
        positive = some;
        slots = all.slots;
        feasible = record {
          one_at_a_time = all.run;
          in_windows = all.in_windows;
          served = λ i below.
              let to : ℕ = (job_at jobs i).deadline in
              let there = is_number jobs i below in
              let whole : all.given i ≡ (job_at jobs i).work = omega (
                arith,
                all.few i below,
                all.bound i below,
                mul-le-mul_right top (get_or-le-sum_by (λ (job : Job). job.deadline) jobs i no_job below),
                get_or-le-sum_by (left_term jobs all.given to) (numbers_of jobs) there.0 i there.1,
                ap (left_term jobs all.given to) there.2,
                left_is jobs all.given to i (omega arith),
              ) in
              all.works i ∙ omega (arith, ap (λ n. top * n) whole);
        };
        within_top = all.slow;
      }

-- a job's window lies within an interval where the test says so
pub lies : (jobs : List Job) (from to number : ℕ) → lies_within jobs from to number ≡ true →
    (from ≤ (job_at jobs number).release) × ((job_at jobs number).deadline ≤ to)
lies jobs from to number passes =
    let both = and_parts (nat_le from (job_at jobs number).release) (nat_le (job_at jobs number).deadline to) passes in
    (leb-true from (job_at jobs number).release both.0, leb-true (job_at jobs number).deadline to both.1)

pub served_where_room : ServedWhereRoom
served_where_room top jobs some are = (
  λ serve from to full. absurd (omega (
    arith,
    full.too_much,
    served_at_speed jobs serve.scale top from to serve.slots (filter (lies_within jobs from to) (numbers_of jobs)) serve.positive full.forward
        serve.feasible serve.within_top (kept_different jobs (lies_within jobs from to))
        (All-filter (lies_within jobs from to) (λ i. i < length jobs) (numbers_of jobs) (all_numbers (λ i. i < length jobs) jobs (λ i below. below)))
        (λ k d within. lies jobs from to _ (filter_passes (lies_within jobs from to) (numbers_of jobs) k d within)),
  )),
  λ room. served_all top jobs some are room,
)
