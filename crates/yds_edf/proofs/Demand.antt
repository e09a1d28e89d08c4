-- The demand theorem: where the units confined between any release and any deadline are at most the capacity between them,
-- stretches that are served earliest deadline first serve every job in full inside its window.
--
-- The argument: the units that are left of the jobs due by a deadline are at most the capacity of the stretches that are left
-- before it. A stretch either serves its whole capacity to them, or leaves none of them pending.
use Rattle.yds_model.proofs.Common.{◌≡◌, ◌≢◌, ℕ, zero, suc, ◌+◌, ◌-◌, ◌*◌, ◌<◌, ◌≤◌, List, length, get_or, ◌∙◌, refl, sym, subst, arith, inl, inr, ap, cond, ◌==◌, ◌&&◌, nat_le, nat_lt, All, mul_comm, cases_lt, cases_order, cases_Bool, ltb-true, ltb-false, lt-leb, le-leb, eq-eqb, ne_eqb, eqb-true, true≢false, Each, Job, IsJob, no_job, job_at, Piece, PiecesFrom, window_is_within, work_within, sum_by_zero, found_or_none}
use Rattle.model_lemmas.proofs.Confined.{part_within}
use Rattle.yds_timetable.specs.Shares.{JobShare, units_given, shares_in, shares_before}
use Rattle.yds_edf.specs.Pending.{units_wanted}
use Rattle.base.specs.Numbers.{sum_below}
use Rattle.yds_edf.specs.Serving.{IsServing}
use Rattle.yds_events.specs.Stretch.{no_stretch, nth_stretch}
use Rattle.yds_events.proofs.InOrder.{has_length, starts_rise}
use Rattle.yds_edf.specs.Demand.{capacity_at, capacity_between, IsWithinCapacity, AreUncut}
use Rattle.yds_edf.specs.Filled.{pending_at_start}
use Rattle.model_lemmas.proofs.SumsBelow.{sum_below_same, sum_below_at_most, sum_below_zero, sum_below-add, sum_below_term, sum_below_change, sum_below_less, sum_by_grouped, sum_below-mul, sum_places}
use Rattle.yds_timetable.proofs.SharePlaces.{all_before, none_before}
use Rattle.yds_edf.proofs.AddedShares.{given_next, share_given}

-- a term that counts where two orders hold
both : (a b c d x : ℕ) → a ≤ b → c ≤ d → cond (nat_le a b && nat_le c d) x 0 ≡ x
both a b c d x first second = rw (le-leb a b first, le-leb c d second) refl

not_first : (a b c d x : ℕ) → b < a → cond (nat_le a b && nat_le c d) x 0 ≡ 0
not_first a b c d x less = rw (lt-leb a b less) refl

not_second : (a b c d x : ℕ) → d < c → cond (nat_le a b && nat_le c d) x 0 ≡ 0
not_second a b c d x less = grind arith

-- and where one does
one : (c d x : ℕ) → c ≤ d → cond (nat_le c d) x 0 ≡ x
one c d x first = rw (le-leb c d first) refl

not_one : (c d x : ℕ) → d < c → cond (nat_le c d) x 0 ≡ 0
not_one c d x less = rw (lt-leb c d less) refl

-- what a job adds to the demand between two times, and a stretch to the capacity
abbrev pub confined_term : List Job → ℕ → ℕ → ℕ → ℕ → ℕ
confined_term jobs grain from to number =
    cond (window_is_within from to (job_at jobs number)) (units_wanted jobs grain number) 0

abbrev pub between_term : List Piece → List ℕ → ℕ → ℕ → ℕ → ℕ
between_term stretches capacities from to k =
    cond (nat_le from (nth_stretch stretches k).from && nat_le (nth_stretch stretches k).to to) (capacity_at capacities k) 0

-- the units of the jobs whose windows lie between two times
abbrev pub confined_units : List Job → ℕ → ℕ → ℕ → ℕ
confined_units jobs grain from to = sum_below (length jobs) (confined_term jobs grain from to)

term_units : (grain from to : ℕ) (job : Job) → cond (window_is_within from to job) (job.work * grain) 0 ≡ grain * part_within from to job
term_units grain from to job = grind (arith, cases_Bool, mul_comm)

-- they are so many to a unit of work
pub confined_is : (jobs : List Job) (grain from to : ℕ) → confined_units jobs grain from to ≡ grain * work_within jobs from to
confined_is jobs grain from to =
    sum_below_same (length jobs) (confined_term jobs grain from to) (λ number. grain * part_within from to (job_at jobs number))
    (λ number within. term_units grain from to (job_at jobs number))
    ∙ sum_below-mul (length jobs) grain (λ number. part_within from to (job_at jobs number))
    ∙ ap (λ n. grain * n) (sym (sum_places (part_within from to) jobs no_job))

module _ (jobs : List Job) (grain : ℕ) (stretches : List Piece) (capacities : List ℕ) (are : All IsJob jobs)
    (enough : IsWithinCapacity jobs grain stretches capacities) (last : ℕ) (there : last < length jobs) where
  -- The demand is within the capacity from any time on, not only from releases: go on to the next release.
  from_any : (more from : ℕ) → (job_at jobs last).deadline ≤ from + more →
      confined_units jobs grain from (job_at jobs last).deadline
      ≤ capacity_between stretches capacities from (job_at jobs last).deadline
  from_any zero from near =
      let nothing = sum_below_zero (length jobs)
      (confined_term jobs grain from (job_at jobs last).deadline)
      (λ number within. elim (cases_lt (job_at jobs number).release from) [
        | inl before ↦ not_first from (job_at jobs number).release _ _ _ before
        | inr after ↦ not_second from (job_at jobs number).release (job_at jobs number).deadline (job_at jobs last).deadline _
            (omega (arith, after, near, (are number no_job within).has_window))
      ]) in
      omega (arith, nothing)
  from_any (suc more) from near = elim (found_or_none (length jobs) (λ number. (job_at jobs number).release == from)) [
    | inl found ↦
        subst (λ time. confined_units jobs grain time (job_at jobs last).deadline
        ≤ capacity_between stretches capacities time (job_at jobs last).deadline)
        (eqb-true (job_at jobs found.0).release from found.2)
        (omega (arith, confined_is jobs grain (job_at jobs found.0).release (job_at jobs last).deadline, enough found.0 last found.1 there))
    | inr none ↦
        let demand = sum_below_same (length jobs)
        (confined_term jobs grain from (job_at jobs last).deadline)
        (confined_term jobs grain (suc from) (job_at jobs last).deadline)
        (λ number within. elim (cases_order (job_at jobs number).release from) [
          | inl same ↦ absurd (true≢false (sym (eq-eqb (job_at jobs number).release from same) ∙ none number within))
          | inr (inl before) ↦ not_first from (job_at jobs number).release _ _ _ before
              ∙ sym (not_first (suc from) (job_at jobs number).release _ _ _ (omega (arith, before)))
          | inr (inr after) ↦ rw (le-leb from (job_at jobs number).release (omega (arith, after)), le-leb (suc from) (job_at jobs number).release (omega (arith, after))) refl
        ]) in
        let capacity = sum_below_at_most (length stretches)
        (λ k. between_term stretches capacities (suc from) (job_at jobs last).deadline k)
        (λ k. between_term stretches capacities from (job_at jobs last).deadline k)
        (λ k within. elim (cases_lt (nth_stretch stretches k).from (suc from)) [
          | inl before ↦ omega (arith, not_first (suc from) (nth_stretch stretches k).from (nth_stretch stretches k).to (job_at jobs last).deadline (capacity_at capacities k) before)
          | inr after ↦ rw (le-leb from (nth_stretch stretches k).from (omega (arith, after)), le-leb (suc from) (nth_stretch stretches k).from after) (omega arith)
        ]) in
        omega (arith, demand, capacity, from_any more (suc from) (omega (arith, near)))
  ]

-- the units that the stretches before a stretch left of a job, those of the jobs due by a time together, and the capacity of this
-- stretch and the later ones that end by that time
abbrev pub left_of : List Job → ℕ → List JobShare → ℕ → ℕ → ℕ
left_of jobs grain shares i number = units_wanted jobs grain number - units_given (shares_before shares i) number

abbrev pub left_term : List Job → ℕ → List JobShare → ℕ → ℕ → ℕ → ℕ
left_term jobs grain shares i time number = cond (nat_le (job_at jobs number).deadline time) (left_of jobs grain shares i number) 0

abbrev pub left_due : List Job → ℕ → List JobShare → ℕ → ℕ → ℕ
left_due jobs grain shares i time = sum_below (length jobs) (left_term jobs grain shares i time)

abbrev pub coming_term : List Piece → List ℕ → ℕ → ℕ → ℕ → ℕ
coming_term stretches capacities i time k =
    cond (nat_le i k && nat_le (nth_stretch stretches k).to time) (capacity_at capacities k) 0

abbrev pub capacity_from : List Piece → List ℕ → ℕ → ℕ → ℕ
capacity_from stretches capacities i time = sum_below (length stretches) (coming_term stretches capacities i time)

-- the units given in a stretch to jobs that are due by a time
abbrev given_term : List Job → List JobShare → ℕ → ℕ → ℕ → ℕ
given_term jobs shares i time number = cond (nat_le (job_at jobs number).deadline time) (units_given (shares_in shares i) number) 0

-- the capacity of a stretch that ends by the time is what the next one doesn't have
next_capacity : (stretches : List Piece) (capacities : List ℕ) (i time : ℕ) → i < length stretches →
    (nth_stretch stretches i).to ≤ time →
    capacity_from stretches capacities i time
    ≡ capacity_at capacities i + capacity_from stretches capacities (suc i) time
next_capacity stretches capacities i time within ends = omega (
  arith,
  sum_below_change (length stretches) i (coming_term stretches capacities i time)
      (coming_term stretches capacities (suc i) time) within
      (λ k below other. elim (cases_lt k i) [
        | inl before ↦ not_first i k _ _ _ before ∙ sym (not_first (suc i) k _ _ _ (omega (arith, before)))
        | inr after ↦ rw (le-leb i k after, le-leb (suc i) k (omega (arith, after, other))) refl
      ]),
  both i i (nth_stretch stretches i).to time (capacity_at capacities i) (omega arith) ends,
  not_first (suc i) i (nth_stretch stretches i).to time (capacity_at capacities i) (omega arith),
)

-- that of one that ends later counts in neither
same_capacity : (stretches : List Piece) (capacities : List ℕ) (i time : ℕ) → i < length stretches →
    time < (nth_stretch stretches i).to →
    capacity_from stretches capacities i time ≡ capacity_from stretches capacities (suc i) time
same_capacity stretches capacities i time within later = grind arith

-- before the first stretch no more is left than is wanted
left_first : (jobs : List Job) (grain : ℕ) (shares : List JobShare) (time : ℕ) →
    left_due jobs grain shares 0 time ≤ confined_units jobs grain 0 time
left_first jobs grain shares time = grind (arith, both, cases_lt, not_one, one, sum_below_at_most)

capacity_first : (stretches : List Piece) (capacities : List ℕ) (time : ℕ) →
    capacity_between stretches capacities 0 time ≤ capacity_from stretches capacities 0 time
capacity_first stretches capacities time = grind arith

-- a job of which no share is given gets no units
pub none_given : (shares : List JobShare) (number : ℕ) → All (λ share. number ≢ share.job) shares → units_given shares number ≡ 0
none_given shares number none = sum_by_zero (λ (share : JobShare). cond (number == share.job) share.units 0) shares
    (λ k d within. ap {B = ℕ} (λ b. cond b (get_or shares k d).units 0) (ne_eqb number (get_or shares k d).job (none k d within)))

module _ (jobs : List Job) (tie : ℕ → ℕ) (grain : ℕ) (stretches : List Piece) (capacities : List ℕ) (shares : List JobShare)
    (are : All IsJob jobs) (order : PiecesFrom 0 stretches) (uncut : AreUncut jobs stretches)
    (enough : IsWithinCapacity jobs grain stretches capacities)
    (serving : Each (length stretches) (λ i.
    IsServing jobs tie (pending_at_start jobs grain stretches shares i) (capacity_at capacities i) (shares_in shares i)))
  where
    pending_left : (i number : ℕ) → pending_at_start jobs grain stretches shares i number ≤ left_of jobs grain shares i number
    pending_left i number = grind arith

    -- all that is left of a job that has arrived is pending
    arrived_left : (i number : ℕ) → (job_at jobs number).release ≤ (nth_stretch stretches i).from →
        pending_at_start jobs grain stretches shares i number ≡ left_of jobs grain shares i number
    arrived_left i number arrived = rw (le-leb (job_at jobs number).release (nth_stretch stretches i).from arrived) refl

    -- a job never gets more than it wants
    no_more : (i number : ℕ) → i ≤ length stretches → number < length jobs →
        units_given (shares_before shares i) number ≤ units_wanted jobs grain number
    no_more zero number here within = omega (arith, ap (λ (part : List JobShare). units_given part number) (none_before shares))
    no_more (suc i) number here within = omega (
      arith,
      no_more i number (omega arith) within,
      given_next shares i number,
      (serving i (omega arith)).within number within,
      pending_left i number,
    )

    next_left : (i number : ℕ) → i < length stretches → number < length jobs →
        left_of jobs grain shares (suc i) number + units_given (shares_in shares i) number ≡ left_of jobs grain shares i number
    next_left i number here within = grind (arith, given_next, pending_left)

    next_term : (i time number : ℕ) → i < length stretches → number < length jobs →
        left_term jobs grain shares (suc i) time number + given_term jobs shares i time number
        ≡ left_term jobs grain shares i time number
    next_term i time number here within = grind (arith, cases_lt, le-leb, lt-leb, next_left)

    next_due : (i time : ℕ) → i < length stretches →
        left_due jobs grain shares (suc i) time + sum_below (length jobs) (given_term jobs shares i time)
        ≡ left_due jobs grain shares i time
    next_due i time here =
        sym (sum_below-add (length jobs) (left_term jobs grain shares (suc i) time) (given_term jobs shares i time))
        ∙ sum_below_same (length jobs)
        (λ number. left_term jobs grain shares (suc i) time number + given_term jobs shares i time number)
        (left_term jobs grain shares i time) (λ number within. next_term i time number here within)

    -- a job that is due by the time stays pending: the whole capacity is given to such jobs
    busy : (i time number : ℕ) → i < length stretches → number < length jobs → (job_at jobs number).deadline ≤ time →
        units_given (shares_in shares i) number < pending_at_start jobs grain stretches shares i number →
        sum_below (length jobs) (given_term jobs shares i time) ≡ capacity_at capacities i
    busy i time number here within due pending =
        let serves = serving i here in
        let all_due : (other : ℕ) → other < length jobs →
        given_term jobs shares i time other ≡ units_given (shares_in shares i) other =
        λ other there. elim (cases_lt time (job_at jobs other).deadline) [
          | inr soon ↦ one (job_at jobs other).deadline time (units_given (shares_in shares i) other) soon
          | inl later ↦ not_one (job_at jobs other).deadline time (units_given (shares_in shares i) other) later
              ∙ sym (none_given (shares_in shares i) other (λ k d found is.
              elim (serves.earliest number within pending k d found) [
                | inl same ↦ absurd (omega (arith, later, due, ap (λ job. (job_at jobs job).deadline) is, ap (λ job. (job_at jobs job).deadline) same))
                | inr (inl less) ↦ absurd (omega (arith, later, due, ap (λ job. (job_at jobs job).deadline) is, less))
                | inr (inr (tied, lower)) ↦ absurd (omega (arith, later, due, ap (λ job. (job_at jobs job).deadline) is, tied))
              ]))
        ] in
        omega (
          arith,
          sum_below_same (length jobs) (given_term jobs shares i time) (units_given (shares_in shares i)) all_due,
          sum_by_grouped (length jobs) (λ (share : JobShare). share.job) (λ share. share.units) (shares_in shares i) serves.known,
          serves.total,
          sum_below_less (length jobs) number (units_given (shares_in shares i)) (pending_at_start jobs grain stretches shares i) within
              serves.within pending,
        )

    -- none that is due by the time stays pending: what is left of such jobs arrives after the stretch
    idle : (i time : ℕ) → i < length stretches →
        ((number : ℕ) → number < length jobs → (job_at jobs number).deadline ≤ time →
        pending_at_start jobs grain stretches shares i number ≤ units_given (shares_in shares i) number) →
        left_due jobs grain shares (suc i) time ≤ confined_units jobs grain (nth_stretch stretches i).to time
    idle i time here none = grind (arith, arrived_left, both, cases_lt, next_left, not_one, one, sum_below_at_most)

    later_capacity : (i time : ℕ) → i < length stretches →
        capacity_between stretches capacities (nth_stretch stretches i).to time ≤ capacity_from stretches capacities (suc i) time
    later_capacity i time here = grind (arith, cases_lt, has_length, le-leb, not_first, starts_rise, sum_below_at_most)

    -- what is left of the jobs due by a deadline is at most the capacity that is left before it
    bounded : (last i : ℕ) → last < length jobs → i ≤ length stretches →
        left_due jobs grain shares i (job_at jobs last).deadline
        ≤ capacity_from stretches capacities i (job_at jobs last).deadline
    bounded last zero there within = omega (
      arith,
      left_first jobs grain shares (job_at jobs last).deadline,
      from_any jobs grain stretches capacities are enough last there (job_at jobs last).deadline 0 (omega arith),
      capacity_first stretches capacities (job_at jobs last).deadline,
    )
    bounded last (suc i) there within =
        let time = (job_at jobs last).deadline in
        let here : i < length stretches = omega arith in
        elim (cases_lt time (nth_stretch stretches i).to) [
          | inl later ↦ omega (arith, bounded last i there (omega arith), next_due i time here, same_capacity stretches capacities i time here later)
          | inr ends ↦ elim (found_or_none (length jobs) (λ number.
              nat_lt (given_term jobs shares i time number)
              (cond (nat_le (job_at jobs number).deadline time) (pending_at_start jobs grain stretches shares i number) 0))) [
                | inl found ↦
                    let number = found.0 in
                    let less = ltb-true (given_term jobs shares i time number)
                    (cond (nat_le (job_at jobs number).deadline time) (pending_at_start jobs grain stretches shares i number) 0) found.2 in
                    elim (cases_lt time (job_at jobs number).deadline) [
                      | inl late ↦ absurd (omega (
                        arith,
                        less,
                        not_one (job_at jobs number).deadline time (pending_at_start jobs grain stretches shares i number) late,
                      ))
                      | inr due ↦ omega (
                        arith,
                        bounded last i there (omega arith),
                        next_due i time here,
                        next_capacity stretches capacities i time here ends,
                        busy i time number here found.1 due (omega (
                          arith,
                          less,
                          one (job_at jobs number).deadline time (pending_at_start jobs grain stretches shares i number) due,
                          one (job_at jobs number).deadline time (units_given (shares_in shares i) number) due,
                        )),
                      )
                    ]
                | inr none ↦ omega (
                  arith,
                  idle i time here (λ number known due. omega (
                    arith,
                    ltb-false (given_term jobs shares i time number)
                        (cond (nat_le (job_at jobs number).deadline time) (pending_at_start jobs grain stretches shares i number) 0) (none number known),
                    one (job_at jobs number).deadline time (pending_at_start jobs grain stretches shares i number) due,
                    one (job_at jobs number).deadline time (units_given (shares_in shares i) number) due,
                  )),
                  from_any jobs grain stretches capacities are enough last there time (nth_stretch stretches i).to (omega arith),
                  later_capacity i time here,
                )
              ]
        ]

    -- a share lies in its job's window
    pub in_window : (i k : ℕ) (share : JobShare) → i < length stretches → k < length (shares_in shares i) →
        ((job_at jobs (get_or (shares_in shares i) k share).job).release ≤ (nth_stretch stretches i).from)
        × ((nth_stretch stretches i).to ≤ (job_at jobs (get_or (shares_in shares i) k share).job).deadline)
    in_window i k share here within =
        let job = (get_or (shares_in shares i) k share).job in
        let serves = serving i here in
        let known : job < length jobs = serves.known k share within in
        let some : 1 ≤ pending_at_start jobs grain stretches shares i job =
        omega (arith, serves.some k share within, share_given (shares_in shares i) k share within, serves.within job known) in (
          elim (cases_lt (nth_stretch stretches i).from (job_at jobs job).release) [
            | inr arrived ↦ arrived
            | inl later ↦ absurd (omega (arith, rw (lt-leb (job_at jobs job).release (nth_stretch stretches i).from later) at some))
          ],
          elim ((uncut i no_stretch here) job no_job known).1 [
            | inr ends ↦ ends
            | inl before ↦
                let time = (job_at jobs job).deadline in
                let nothing = sum_below_zero (length stretches) (coming_term stretches capacities i time)
                (λ j below. elim (cases_lt j i) [
                  | inl earlier ↦ not_first i j (nth_stretch stretches j).to time (capacity_at capacities j) earlier
                  | inr after ↦ not_second i j (nth_stretch stretches j).to time (capacity_at capacities j) (omega (
                    arith,
                    before,
                    starts_rise i j stretches order after below,
                    has_length 0 j stretches order below,
                  ))
                ]) in
                absurd (omega (
                  arith,
                  nothing,
                  bounded job i known (omega arith),
                  sum_below_term (length jobs) job (left_term jobs grain shares i time) known,
                  one time time (left_of jobs grain shares i job) (omega arith),
                  pending_left i job,
                  some,
                ))
          ],
        )

    -- and every job is served in full
    pub in_full : All (λ share. share.stretch < length stretches) shares → (number : ℕ) → number < length jobs →
        units_given shares number ≡ units_wanted jobs grain number
    in_full earlier number within =
        let time = (job_at jobs number).deadline in
        let nothing = sum_below_zero (length stretches) (coming_term stretches capacities (length stretches) time)
        (λ j below. not_first (length stretches) j (nth_stretch stretches j).to time (capacity_at capacities j) below) in
        let all = ap (λ (part : List JobShare). units_given part number) (all_before shares (length stretches) earlier) in
        omega (
          arith,
          nothing,
          all,
          bounded number (length stretches) within (omega arith),
          sum_below_term (length jobs) number (left_term jobs grain shares (length stretches) time) within,
          one time time (left_of jobs grain shares (length stretches) number) (omega arith),
          no_more (length stretches) number (omega arith) within,
        )
