-- A run of Optimal Available: by each event point every job that is due by then is served in full, and what the code asks of a
-- stretch is what the definition asks.
use Rattle.yds_model.proofs.Common.{◌≡◌, ℕ, zero, suc, ◌-◌, ◌*◌, ◌<◌, ◌≤◌, max, List, length, get_or, map, ◌∙◌, refl, sym, subst, ap, arith, inl, inr, cond, true, false, add-one, mul_assoc, Bool, nat_le, nat_lt, ◌==◌, ◌&&◌, not, All, sum_by, filter, Result, Ok, Err, IfOk, OnOk, list_all, cases_lt, cases_eq, cases_Bool, le-leb, lt-leb, lt-ltb, le-ltb, eq-eqb, ne_eqb, and_left, and_right, and_from, All-filter, All-weaker, Contains-get_or, filter_agree, get_or-eq_default, mul-le-mul_left, mul-pos, eq_of_mul-eq-mul_left, Each, Job, IsJob, no_job, job_at, WrittenSlot, IsScale, slots_at, Piece, event_points, stretches, pending_at, numbers_of, pending_jobs, due_units, pending_deadlines, asked, units_asked, optimal_available, optimal_available_rounds, IsOptimalAvailableRun, stretch_at, sum_by-mul, sum_by_same, sum_by-filter}
use Rattle.model_lemmas.proofs.RoundedUp.{rounded_up_same}
use Rattle.yds_events.specs.Stretch.{no_stretch}
use Rattle.yds_events.proofs.Times.{not_later, release_at, deadline_at}
use Rattle.yds_events.proofs.Neighbours.{count_stretches, stretch_begins, stretch_ends, stretch_forward, release_outside, deadline_outside}
use Rattle.yds_timetable.specs.Shares.{JobShare, units_given, total_units, shares_in, shares_before}
use Rattle.yds_edf.specs.Pending.{units_wanted}
use Rattle.base.specs.Numbers.{sum_below}
use Rattle.yds_edf.specs.Filled.{IsInTime}
use Rattle.yds_edf.specs.PolicyRun.{pending_before, IsServed, IsLaidOut, IsPolicyRun}
use Rattle.model_lemmas.proofs.SumsBelow.{sum_below_same, sum_below_at_most, sum_below_less, sum_by_grouped, sum_numbers, sum_places}
use Rattle.yds_timetable.proofs.SharePlaces.{all_before, none_before}
use Rattle.yds_edf.proofs.AddedShares.{given_next, share_given}
use Rattle.yds_edf.proofs.Demand.{none_given}
use Rattle.yds_edf.proofs.Filled.{stands_in}
use Rattle.yds_edf.proofs.RunAt.{run_at}
use Rattle.yds_edf.proofs.Standing.{all_shares, laid_solid}
use Rattle.yds_edf.proofs.Capped.{pending_term}
use Rattle.yds_edf.proofs.Quotients.{up_most}
use Rattle.yds_oa.specs.Asked.{is_waiting, waiting, due_by, deadlines, asked_by, most_asked, most_rounds}
use Rattle.yds_oa.proofs.Waiting.{waits_for, each_waits}
use Rattle.yds_oa.proofs.Greatest.{asks_at_most, most_at_most}

-- what a waiting job adds to the units that are due by a time
abbrev due_term : List Job → (ℕ → ℕ) → Piece → ℕ → ℕ → ℕ
due_term jobs pending stretch time job =
    cond (is_waiting jobs pending stretch job) (cond (nat_le (job_at jobs job).deadline time) (pending job) 0) 0

due_numbered : (jobs : List Job) (pending : ℕ → ℕ) (stretch : Piece) (time : ℕ) →
    due_by jobs pending stretch time ≡ sum_below (length jobs) (due_term jobs pending stretch time)
due_numbered jobs pending stretch time = grind (arith, sum_by-filter, sum_numbers)

at_most : (b : Bool) (n m : ℕ) → n ≤ m → cond b n 0 ≤ m
at_most true n m few = few
at_most false n m few = omega arith

due_most : (jobs : List Job) (pending : ℕ → ℕ) (stretch : Piece) (time : ℕ) → due_by jobs pending stretch time ≤ sum_below (length jobs) pending
due_most jobs pending stretch time = grind (arith, due_numbered, sum_below_at_most)

-- a deadline that isn't before the stretch's end asks at most what is due by it, and the end itself just that
asks_due : (jobs : List Job) (pending : ℕ → ℕ) (stretch : Piece) (deadline : ℕ) → stretch.from < stretch.to → stretch.to ≤ deadline →
    asked_by jobs pending stretch deadline ≤ due_by jobs pending stretch deadline
asks_due jobs pending stretch deadline long upto = grind (arith, mul-le-mul_left, up_most)

end_asks : (jobs : List Job) (pending : ℕ → ℕ) (stretch : Piece) → stretch.from < stretch.to →
    due_by jobs pending stretch stretch.to ≤ asked_by jobs pending stretch stretch.to
end_asks jobs pending stretch long = grind arith

module _ (jobs : List Job) (grid : ℕ) (some_grid : 1 ≤ grid) (are : All IsJob jobs) (shares : List JobShare)
    (served : IsServed jobs grid (most_asked jobs) shares) where
  abbrev held : ℕ → ℕ → ℕ
  held k = pending_before jobs grid shares k

  abbrev given : ℕ → ℕ → ℕ
  given k number = units_given (shares_before shares k) number

  held_left : (k number : ℕ) → held k number ≤ units_wanted jobs grid number - given k number
  held_left k number = grind arith

  arrived_left : (k number : ℕ) → (job_at jobs number).release ≤ (stretch_at jobs k).from → held k number ≡ units_wanted jobs grid number - given k number
  arrived_left k number arrived = rw (le-leb (job_at jobs number).release (stretch_at jobs k).from arrived) refl

  -- a job never gets more than it wants
  no_more : (k number : ℕ) → k ≤ length (stretches jobs) → number < length jobs → given k number ≤ units_wanted jobs grid number
  no_more zero number here within = omega (arith, ap (λ (part : List JobShare). units_given part number) (none_before shares))
  no_more (suc k) number here within = omega (
    arith,
    no_more k number (omega arith) within,
    given_next shares k number,
    (served.serving k (omega arith)).within number within,
    held_left k number,
  )

  -- where the jobs due by a stretch's start are done, one that is due by its end isn't left with units
  module _ (k : ℕ) (here : k < length (stretches jobs))
      (done : (number : ℕ) → number < length jobs → (job_at jobs number).deadline ≤ (stretch_at jobs k).from → units_wanted jobs grid number ≤ given k number) where
    abbrev end : ℕ
    end = (stretch_at jobs k).to

    waits_here : (number : ℕ) → number < length jobs → 1 ≤ held k number → is_waiting jobs (held k) (stretch_at jobs k) number ≡ true
    waits_here number known some = grind arith

    none_left : (number : ℕ) → number < length jobs → (job_at jobs number).deadline ≡ end → held k number ≤ units_given (shares_in shares k) number
    none_left number known due = elim (cases_lt (units_given (shares_in shares k) number) (held k number)) [
      | inr enough ↦ enough
      | inl less ↦
          let serving = served.serving k here in
          let waits = waits_here number known (omega (arith, less)) in
          let long = stretch_forward jobs k here in
          let first = serving.earliest number known less in
          let soon : (job : ℕ) → job < length jobs → units_given (shares_in shares k) job ≤ due_term jobs (held k) (stretch_at jobs k) end job =
          λ job there. elim (cases_lt end (job_at jobs job).deadline) [
            | inl later ↦ omega (
              arith,
              none_given (shares_in shares k) job (λ i d found is. elim (first i d found) [
                | inl same ↦ absurd (omega (arith, later, due, ap (λ j. (job_at jobs j).deadline) is, ap (λ j. (job_at jobs j).deadline) same))
                | inr (inl before) ↦ absurd (omega (arith, later, due, ap (λ j. (job_at jobs j).deadline) is, before))
                | inr (inr (tied, lower)) ↦ absurd (omega (arith, later, due, ap (λ j. (job_at jobs j).deadline) is, tied))
              ]),
            )
            | inr by_then ↦ elim (cases_lt 0 (held k job)) [
              | inl some ↦ rw (waits_here job there some, le-leb (job_at jobs job).deadline end by_then) (serving.within job there)
              | inr none ↦ omega (arith, serving.within job there, none)
            ]
          ] in
          let mine : units_given (shares_in shares k) number < due_term jobs (held k) (stretch_at jobs k) end number =
          rw (waits, le-leb (job_at jobs number).deadline end (omega (arith, due))) less in
          absurd (omega (
            arith,
            sum_below_less (length jobs) number (units_given (shares_in shares k)) (due_term jobs (held k) (stretch_at jobs k) end) known soon mine,
            sum_by_grouped (length jobs) (λ (share : JobShare). share.job) (λ share. share.units) (shares_in shares k) serving.known,
            serving.total,
            due_numbered jobs (held k) (stretch_at jobs k) end,
            due_most jobs (held k) (stretch_at jobs k) end,
            end_asks jobs (held k) (stretch_at jobs k) long,
            asks_at_most jobs (held k) (stretch_at jobs k) number known waits,
            ap (asked_by jobs (held k) (stretch_at jobs k)) due,
          ))
    ]

  -- so by each event point the jobs that are due by it are done
  done_by : (k number : ℕ) → k ≤ length (stretches jobs) → number < length jobs → (job_at jobs number).deadline ≤ get_or (event_points jobs) k 0 →
      units_wanted jobs grid number ≤ given k number
  done_by zero number within known due =
      let release = release_at jobs number known in
      absurd (omega (arith, due, not_later jobs 0 release.0 (omega arith) release.1, release.2, (are number no_job known).has_window))
  done_by (suc k) number within known due =
      let here : k < length (stretches jobs) = omega (arith, within) in
      let begins = stretch_begins jobs k here in
      let ends : (stretch_at jobs k).to ≡ get_or (event_points jobs) (suc k) 0 = rw add-one at (stretch_ends jobs k here) in
      elim (cases_lt (stretch_at jobs k).from (job_at jobs number).deadline) [
        | inr earlier ↦ omega (arith, done_by k number (omega (arith, here)) known (omega (arith, earlier, begins)), given_next shares k number)
        | inl later ↦ elim (deadline_outside jobs number k known here) [
          | inl over ↦ absurd (omega (arith, over, later))
          | inr upto ↦ elim (release_outside jobs number k known here) [
            | inr after ↦ absurd (omega (arith, after, due, ends, (are number no_job known).has_window))
            | inl arrived ↦ omega (
              arith,
              none_left k here (λ other there over. done_by k other (omega (arith, here)) there (omega (arith, over, begins))) number known (omega (arith, upto, due, ends)),
              arrived_left k number arrived,
              given_next shares k number,
            )
          ]
        ]
      ]

  -- a job with pending units is due after the stretch's start
  due_later : (k number : ℕ) → k < length (stretches jobs) → number < length jobs → 1 ≤ held k number → (stretch_at jobs k).from < (job_at jobs number).deadline
  due_later k number here known some = elim (cases_lt (stretch_at jobs k).from (job_at jobs number).deadline) [
    | inl later ↦ later
    | inr over ↦ absurd (omega (
      arith,
      some,
      held_left k number,
      done_by k number (omega (arith, here)) known (omega (arith, over, stretch_begins jobs k here)),
    ))
  ]

  pub all_done : Each (length jobs) (λ number. units_given shares number ≡ units_wanted jobs grid number)
  all_done number known =
      let m = length (stretches jobs) in
      let deadline = deadline_at jobs number known in
      let all = count_stretches jobs (omega (arith, known)) in
      let due : (job_at jobs number).deadline ≤ get_or (event_points jobs) m 0 =
      omega (arith, not_later jobs deadline.0 m (omega (arith, deadline.1, all)) (omega (arith, all)), deadline.2) in
      omega (
        arith,
        ap (λ (part : List JobShare). units_given part number) (all_before shares m served.known),
        done_by m number (omega arith) known due,
        no_more m number (omega arith) known,
      )

  pub in_time : (slots : List WrittenSlot) → IsLaidOut jobs grid shares slots → All (IsInTime jobs (stretches jobs)) shares
  in_time slots laid i d within =
      let share = get_or shares i d in
      let is = all_shares jobs grid (most_asked jobs) shares slots served laid i d within in
      let k = share.stretch in
      let at = stands_in shares share (Contains-get_or shares i d within) in
      let units : 1 ≤ units_given (shares_in shares k) share.job = omega (
        arith,
        is.some,
        subst (λ (s : JobShare). s.units ≤ units_given (shares_in shares k) s.job) at.2 (share_given (shares_in shares k) at.0 share at.1),
      ) in
      let some : 1 ≤ held k share.job = omega (arith, units, (served.serving k is.within).within share.job is.known) in
      record {
        released = elim (cases_lt (stretch_at jobs k).from (job_at jobs share.job).release) [
          | inr arrived ↦ arrived
          | inl later ↦ absurd (omega (arith, rw (lt-leb (job_at jobs share.job).release (stretch_at jobs k).from later) at some))
        ];
        due = elim (deadline_outside jobs share.job k is.known is.within) [
          | inr upto ↦ upto
          | inl over ↦ absurd (omega (arith, over, due_later k share.job is.within is.known some))
        ];
      }

  -- no more is asked than is pending
  asked_pending : (k : ℕ) → k < length (stretches jobs) → most_asked jobs (held k) (stretch_at jobs k) ≤ sum_below (length jobs) (held k)
  asked_pending k here = most_at_most jobs (held k) (stretch_at jobs k) (sum_below (length jobs) (held k)) (λ job waits known.
      let deadline = (job_at jobs job).deadline in
      let upto : (stretch_at jobs k).to ≤ deadline = elim (deadline_outside jobs job k known here) [
        | inr is ↦ is
        | inl over ↦ absurd (omega (arith, over, (waits_for jobs (held k) (stretch_at jobs k) job waits).1))
      ] in
      omega (
        arith,
        asks_due jobs (held k) (stretch_at jobs k) deadline (stretch_forward jobs k here) upto,
        due_most jobs (held k) (stretch_at jobs k) deadline,
      ))

  pub total_asked : (k : ℕ) → k < length (stretches jobs) → total_units (shares_in shares k) ≡ most_asked jobs (held k) (stretch_at jobs k)
  total_asked k here = omega (arith, (served.serving k here).total, asked_pending k here)

  -- # What the definition asks, at a scale

  module _ (slots : List WrittenSlot) (laid : IsLaidOut jobs grid shares slots) (scale : ℕ) (is : IsScale scale slots) (k : ℕ) (here : k < length (stretches jobs)) where
    abbrev st : Piece
    st = stretch_at jobs k

    abbrev left_at : ℕ → ℕ
    left_at job = pending_at jobs scale (slots_at scale slots) st.from job

    term : (job : ℕ) → grid * cond (nat_le (job_at jobs job).release st.from) (left_at job) 0 ≡ scale * held k job
    term job = pending_term jobs grid (most_asked jobs) shares slots some_grid served laid scale is k job here

    arrived_term : (job : ℕ) → nat_le (job_at jobs job).release st.from ≡ true → grid * left_at job ≡ scale * held k job
    arrived_term job arrived = ap {B = ℕ} (λ b. grid * cond b (left_at job) 0) (sym arrived) ∙ term job

    early_term : (job : ℕ) → nat_le (job_at jobs job).release st.from ≡ false → grid * 0 ≡ scale * held k job
    early_term job not_yet = ap {B = ℕ} (λ b. grid * cond b (left_at job) 0) (sym not_yet) ∙ term job

    -- a job that the definition takes for pending is one that waits
    same_job : (job : ℕ) → (nat_le (job_at jobs job).release st.from && nat_lt 0 (left_at job)) ≡ is_waiting jobs (held k) st job
    same_job job = elim (cases_lt 0 (held k job)) [
      | inl some ↦
          let known : job < length jobs = elim (cases_lt job (length jobs)) [
            | inl there ↦ there
            | inr beyond ↦
                let none : job_at jobs job ≡ no_job = get_or-eq_default jobs no_job beyond in
                absurd (omega (arith, some, held_left k job, ap (λ (j : Job). j.work * grid) none))
          ] in
          let later = due_later k job here known some in
          elim (cases_Bool (nat_le (job_at jobs job).release st.from)) [
            | inl arrived ↦
                let positive : 0 < left_at job = elim (cases_lt 0 (left_at job)) [
                  | inl more ↦ more
                  | inr none ↦
                      let nothing : left_at job ≡ 0 = omega arith in
                      absurd (omega (arith, mul-pos is.positive some, arrived_term job arrived, ap (λ n. grid * n) nothing))
                ] in
                and_from _ _ arrived (lt-ltb 0 (left_at job) positive) ∙ sym (and_from _ _ (lt-ltb 0 (held k job) some) (lt-ltb st.from (job_at jobs job).deadline later))
            | inr not_yet ↦ absurd (omega (arith, mul-pos is.positive some, early_term job not_yet))
          ]
      | inr none ↦
          let nothing : held k job ≡ 0 = omega arith in
          elim (cases_Bool (nat_le (job_at jobs job).release st.from)) [
            | inr not_yet ↦ and_left _ _ not_yet ∙ sym (and_left _ _ (le-ltb 0 (held k job) none))
            | inl arrived ↦
                let zero_left : left_at job ≤ 0 = elim (cases_lt 0 (left_at job)) [
                  | inr zeros ↦ zeros
                  | inl more ↦ absurd (omega (arith, mul-pos some_grid more, arrived_term job arrived, ap (λ n. scale * n) nothing))
                ] in
                and_right _ _ (le-ltb 0 (left_at job) zero_left) ∙ sym (and_left _ _ (le-ltb 0 (held k job) none))
          ]
    ]

    same_jobs : pending_jobs jobs scale (slots_at scale slots) st ≡ waiting jobs (held k) st
    same_jobs = filter_agree (λ job. nat_le (job_at jobs job).release st.from && nat_lt 0 (left_at job)) (is_waiting jobs (held k) st) same_job (numbers_of jobs)

    same_deadlines : pending_deadlines jobs scale (slots_at scale slots) st ≡ deadlines jobs (held k) st
    same_deadlines = ap (map (λ job. (job_at jobs job).deadline)) same_jobs

    waiting_term : (job : ℕ) → is_waiting jobs (held k) st job ≡ true → grid * left_at job ≡ scale * held k job
    waiting_term job waits = grind (arith, arrived_term, cases_Bool, early_term, mul-pos, waits_for)

    same_due : (deadline : ℕ) → due_units jobs grid scale (slots_at scale slots) st deadline ≡ scale * due_by jobs (held k) st deadline
    same_due deadline =
        let soon : ℕ → Bool = λ job. nat_le (job_at jobs job).deadline deadline in
        let xs = filter soon (waiting jobs (held k) st) in
        ap (λ numbers. grid * sum_by left_at (filter soon numbers)) same_jobs
        ∙ sym (sum_by-mul grid left_at xs)
        ∙ sum_by_same (λ job. grid * left_at job) (λ job. scale * held k job) xs
        (All-filter soon (λ job. grid * left_at job ≡ scale * held k job) (waiting jobs (held k) st)
        (All-weaker (λ job. is_waiting jobs (held k) st job ≡ true) (λ job. grid * left_at job ≡ scale * held k job) waiting_term
        (waiting jobs (held k) st) (each_waits jobs (held k) st)))
        ∙ sum_by-mul scale (held k) xs

    same_asked : (deadline : ℕ) → asked jobs grid scale (slots_at scale slots) st deadline ≡ asked_by jobs (held k) st deadline
    same_asked deadline = grind (arith, mul_assoc, rounded_up_same, same_due)

    same_most : units_asked jobs grid scale (slots_at scale slots) st ≡ most_asked jobs (held k) st
    same_most = grind (arith, max, same_asked, same_deadlines)

    pub capacity_is : optimal_available jobs grid scale (slots_at scale slots) st ≡ scale * total_units (shares_in shares k)
    capacity_is = ap (λ n. scale * n) (same_most ∙ sym (total_asked k here))

    eq_scaled : (a b : ℕ) → (scale * a == scale * b) ≡ (a == b)
    eq_scaled a b = grind (arith, cases_eq, eq-eqb, eq_of_mul-eq-mul_left, ne_eqb)

    abbrev short : ℕ → ℕ → Bool
    short most deadline = not (due_by jobs (held k) st deadline * (st.to - st.from) == most * (deadline - st.from))

    abbrev scaled_short : ℕ → ℕ → Bool
    scaled_short most deadline =
        not (due_units jobs grid scale (slots_at scale slots) st deadline * (st.to - st.from) == most * (scale * (deadline - st.from)))

    same_short : (most deadline : ℕ) → scaled_short most deadline ≡ short most deadline
    same_short most deadline =
        let other : most * (scale * (deadline - st.from)) ≡ scale * (most * (deadline - st.from)) = omega arith in
        ap (λ n. not (n * (st.to - st.from) == most * (scale * (deadline - st.from)))) (same_due deadline)
        ∙ ap (λ n. not (n == most * (scale * (deadline - st.from)))) (mul_assoc scale (due_by jobs (held k) st deadline) (st.to - st.from))
        ∙ ap (λ n. not (scale * (due_by jobs (held k) st deadline * (st.to - st.from)) == n)) other
        ∙ ap not (eq_scaled (due_by jobs (held k) st deadline * (st.to - st.from)) (most * (deadline - st.from)))

    pub rounds_is_same : optimal_available_rounds jobs grid scale (slots_at scale slots) st ≡ most_rounds jobs (held k) st
    rounds_is_same =
        let functions : (most : ℕ) → scaled_short most ≡ short most = λ most i deadline. same_short most deadline i in
        ap (λ most. nat_lt 0 most && list_all (scaled_short most) (pending_deadlines jobs scale (slots_at scale slots) st)) same_most
        ∙ ap (λ f. nat_lt 0 (most_asked jobs (held k) st) && list_all f (pending_deadlines jobs scale (slots_at scale slots) st)) (functions (most_asked jobs (held k) st))
        ∙ ap (λ xs. nat_lt 0 (most_asked jobs (held k) st) && list_all (short (most_asked jobs (held k) st)) xs) same_deadlines

-- a run of the policy is a run of Optimal Available
available_run : (jobs : List Job) (grid rounded : ℕ) (slots : List WrittenSlot) → 1 ≤ grid → All IsJob jobs →
    IsPolicyRun jobs grid (most_asked jobs) (most_rounds jobs) rounded slots → IsOptimalAvailableRun jobs grid rounded slots
available_run jobs grid rounded slots some are run =
    let solid = laid_solid jobs grid run.shares slots run.laid in
    record {
      run = record {
        solid = solid;
        holds = λ scale is. run_at jobs grid (most_asked jobs) run.shares slots some run.served run.laid (in_time jobs grid some are run.shares run.served slots run.laid)
            (all_done jobs grid some are run.shares run.served) scale is (optimal_available jobs grid scale (slots_at scale slots))
            (λ k here. capacity_is jobs grid some are run.shares run.served slots run.laid scale is k here);
      };
      rounds = record {
        solid = solid;
        holds = λ scale is.
            run.count
            ∙ sum_below_same (length (stretches jobs)) (λ k. cond (most_rounds jobs (pending_before jobs grid run.shares k) (stretch_at jobs k)) 1 0)
            (λ k. cond (optimal_available_rounds jobs grid scale (slots_at scale slots) (stretch_at jobs k)) 1 0)
            (λ k here. ap {B = ℕ} (λ b. cond b 1 0) (sym (rounds_is_same jobs grid some are run.shares run.served slots run.laid scale is k here)))
            ∙ sym (sum_places (λ stretch. cond (optimal_available_rounds jobs grid scale (slots_at scale slots) stretch) 1 0) (stretches jobs) no_stretch);
      };
    }

pub ok_run : {T E : Type 0} (jobs : List Job) (grid : ℕ) (rounded : T → ℕ) (slots : T → List WrittenSlot) (r : Result T E) → 1 ≤ grid → OnOk r (All IsJob jobs) →
    IfOk r (λ run. IsPolicyRun jobs grid (most_asked jobs) (most_rounds jobs) (rounded run) (slots run)) →
    IfOk r (λ run. IsOptimalAvailableRun jobs grid (rounded run) (slots run))
ok_run jobs grid rounded slots (Ok run) some are is = available_run jobs grid (rounded run) (slots run) some are is
ok_run jobs grid rounded slots (Err e) some are is = tt
