-- The live jobs' parts of the stretches: together they are at least the jobs' units, so no job is served too late.
use Rattle.yds_model.proofs.Common.{◌≡◌, ℕ, zero, suc, ◌-◌, ◌*◌, ◌<◌, ◌≤◌, min, List, length, get_or, map, ◌∙◌, refl, sym, ap, arith, inl, inr, cond, true, false, add-one, Bool, nat_le, ◌&&◌, All, cases_lt, cases_Bool, le-leb, lt-leb, lt-ltb, le-ltb, true≢false, Result, Ok, Err, IfOk, OnOk, get_or-map, All-from_get_or, le_of_mul-le-mul_right, Job, IsJob, no_job, job_at, Piece, window_is_within, work_within, event_points, stretches, is_live, term_of, terms_of, average_rate_rounds, IsAverageRateRun, WrittenSlot, stretch_at, sum_by-filter}
use Rattle.yds_events.specs.Stretch.{no_stretch, length_of, IsOutside}
use Rattle.yds_events.proofs.Times.{not_later, deadline_at, release_at}
use Rattle.yds_events.proofs.Neighbours.{count_stretches, stretch_begins, stretch_ends, stretch_forward, release_outside, deadline_outside}
use Rattle.yds_edf.specs.Pending.{units_wanted}
use Rattle.base.specs.Numbers.{sum_below}
use Rattle.yds_edf.specs.Demand.{capacity_at, capacity_between, IsWithinCapacity}
use Rattle.yds_edf.specs.PolicyRun.{IsPolicyRun}
use Rattle.yds_edf.proofs.Capped.{set_run}
use Rattle.yds_edf.proofs.Demand.{confined_is}
use Rattle.model_lemmas.proofs.SumsBelow.{sum_below_same, sum_below_at_most, sum_below_zero, sum_places, sum_below_swap, sum_below-mul}

-- # The lengths of the stretches in a window

module _ (jobs : List Job) (j : ℕ) (known : j < length jobs) (is : IsJob (job_at jobs j)) where
  abbrev job : Job
  job = job_at jobs j

  abbrev live_length : ℕ → ℕ
  live_length k = cond (is_live (stretch_at jobs k) job) (length_of (stretch_at jobs k)) 0

  live_is : (k : ℕ) → job.release ≤ (stretch_at jobs k).from → (stretch_at jobs k).from < job.deadline → is_live (stretch_at jobs k) job ≡ true
  live_is k released due = rw (le-leb job.release (stretch_at jobs k).from released, lt-ltb (stretch_at jobs k).from job.deadline due) refl

  too_early : (k : ℕ) → (stretch_at jobs k).from < job.release → is_live (stretch_at jobs k) job ≡ false
  too_early k early = rw (lt-leb job.release (stretch_at jobs k).from early) refl

  too_late : (k : ℕ) → job.deadline ≤ (stretch_at jobs k).from → is_live (stretch_at jobs k) job ≡ false
  too_late k late =
      rw (le-leb job.release (stretch_at jobs k).from (omega (arith, late, is.has_window)), le-ltb (stretch_at jobs k).from job.deadline late) refl

  -- up to an event point
  lengths_to : (n : ℕ) → n ≤ length (stretches jobs) → sum_below n live_length ≡ min (get_or (event_points jobs) n 0) job.deadline - job.release
  lengths_to zero within =
      let release = release_at jobs j known in
      omega (arith, not_later jobs 0 release.0 (omega arith) release.1, release.2)
  lengths_to (suc n) within =
      let here : n < length (stretches jobs) = omega (arith, within) in
      let begins = stretch_begins jobs n here in
      let ends : (stretch_at jobs n).to ≡ get_or (event_points jobs) (suc n) 0 = rw add-one at (stretch_ends jobs n here) in
      let before = lengths_to n (omega (arith, here)) in
      let long = stretch_forward jobs n here in
      elim (cases_lt (stretch_at jobs n).from job.release) [
        | inl early ↦ elim (release_outside jobs j n known here) [
          | inl released ↦ absurd (omega (arith, early, released))
          | inr after ↦ omega (arith, before, ap {B = ℕ} (λ b. cond b (length_of (stretch_at jobs n)) 0) (too_early n early), begins, ends, early, after, is.has_window)
        ]
        | inr released ↦ elim (cases_lt (stretch_at jobs n).from job.deadline) [
          | inl due ↦ elim (deadline_outside jobs j n known here) [
            | inl over ↦ absurd (omega (arith, due, over))
            | inr upto ↦ omega (arith, before, ap {B = ℕ} (λ b. cond b (length_of (stretch_at jobs n)) 0) (live_is n released due), begins, ends, released, due, upto, long)
          ]
          | inr over ↦ omega (arith, before, ap {B = ℕ} (λ b. cond b (length_of (stretch_at jobs n)) 0) (too_late n over), begins, ends, over, long, is.has_window)
        ]
      ]

  pub lengths_together : sum_below (length (stretches jobs)) live_length ≡ job.deadline - job.release
  lengths_together =
      let deadline = deadline_at jobs j known in
      let all = count_stretches jobs (omega (arith, known)) in
      omega (
        arith,
        lengths_to (length (stretches jobs)) (omega arith),
        not_later jobs deadline.0 (length (stretches jobs)) (omega (arith, deadline.1, all)) (omega (arith, all)),
        deadline.2,
      )

  -- # The job's parts together

  module _ (grid : ℕ) where
    abbrev live_term : ℕ → ℕ
    live_term k = cond (is_live (stretch_at jobs k) job) (term_of grid (stretch_at jobs k) job) 0

    term_enough : (k : ℕ) → grid * job.work * live_length k ≤ (job.deadline - job.release) * live_term k
    term_enough k = grind arith

    pub terms_enough : units_wanted jobs grid j ≤ sum_below (length (stretches jobs)) live_term
    terms_enough =
        le_of_mul-le-mul_right {k = job.deadline - job.release} (omega (
          arith,
          sum_below_at_most (length (stretches jobs)) (λ k. grid * job.work * live_length k) (λ k. (job.deadline - job.release) * live_term k) (λ k within. term_enough k),
          sum_below-mul (length (stretches jobs)) (grid * job.work) live_length,
          sum_below-mul (length (stretches jobs)) (job.deadline - job.release) live_term,
          ap (λ n. grid * job.work * n) lengths_together,
        )) (omega (arith, is.has_window))

-- # The demand

-- the sum of the parts by the jobs' numbers
terms_numbered : (jobs : List Job) (grid : ℕ) (stretch : Piece) →
    terms_of jobs grid stretch ≡ sum_below (length jobs) (λ j. cond (is_live stretch (job_at jobs j)) (term_of grid stretch (job_at jobs j)) 0)
terms_numbered jobs grid stretch =
    sum_by-filter (is_live stretch) (term_of grid stretch) jobs
    ∙ sum_places (λ job. cond (is_live stretch job) (term_of grid stretch job) 0) jobs no_job

-- what is live at its start begins no earlier and is due later
live_from : (stretch : Piece) (job : Job) → is_live stretch job ≡ true → (job.release ≤ stretch.from) × (stretch.from < job.deadline)
live_from stretch job live = grind arith

module _ (jobs : List Job) (grid : ℕ) (are : All IsJob jobs) (from to : ℕ) where
  abbrev confined : ℕ → Bool
  confined j = window_is_within from to (job_at jobs j)

  abbrev between : ℕ → Bool
  between k = nat_le from (stretch_at jobs k).from && nat_le (stretch_at jobs k).to to

  abbrev part : ℕ → ℕ → ℕ
  part k j = cond (confined j) (cond (is_live (stretch_at jobs k) (job_at jobs j)) (term_of grid (stretch_at jobs k) (job_at jobs j)) 0) 0

  -- a stretch of a confined job's window lies between
  stretch_between : (k j : ℕ) → k < length (stretches jobs) → j < length jobs → confined j ≡ true → is_live (stretch_at jobs k) (job_at jobs j) ≡ true → between k ≡ true
  stretch_between k j within known inside live =
      let window = live_from (stretch_at jobs k) (job_at jobs j) live in
      let ends = both_true from (job_at jobs j).release (job_at jobs j).deadline to inside in
      elim (deadline_outside jobs j k known within) [
        | inl over ↦ absurd (omega (arith, over, window.1))
        | inr upto ↦ rw (
          le-leb from (stretch_at jobs k).from (omega (arith, ends.0, window.0)),
          le-leb (stretch_at jobs k).to to (omega (arith, ends.1, upto)),
        ) refl
      ] where
        both_true : (a b c d : ℕ) → (nat_le a b && nat_le c d) ≡ true → (a ≤ b) × (c ≤ d)
        both_true a b c d h = elim (cases_lt b a) [
          | inl less ↦ absurd (true≢false (sym h ∙ rw (lt-leb a b less) refl))
          | inr more ↦ elim (cases_lt d c) [
            | inl less ↦ absurd (true≢false (sym h ∙ rw (le-leb a b more, lt-leb c d less) refl))
            | inr most ↦ (more, most)
          ]
        ]

  -- so what confined jobs have in a stretch is at most its capacity, if it lies between, and nothing if not
  parts_within : (k : ℕ) → k < length (stretches jobs) → sum_below (length jobs) (part k) ≤ cond (between k) (terms_of jobs grid (stretch_at jobs k)) 0
  parts_within k within = elim (cases_Bool (between k)) [
    | inl lies ↦ rw lies (omega (
      arith,
      terms_numbered jobs grid (stretch_at jobs k),
      sum_below_at_most (length jobs) (part k) (λ j. cond (is_live (stretch_at jobs k) (job_at jobs j)) (term_of grid (stretch_at jobs k) (job_at jobs j)) 0)
          (λ j known. at_most (confined j) _),
    ))
    | inr outside ↦ rw outside (omega (
      arith,
      sum_below_zero (length jobs) (part k) (λ j known. elim (cases_Bool (confined j)) [
        | inr other ↦ ap {B = ℕ} (λ b. cond b (cond (is_live (stretch_at jobs k) (job_at jobs j)) (term_of grid (stretch_at jobs k) (job_at jobs j)) 0) 0) other
        | inl inside ↦ elim (cases_Bool (is_live (stretch_at jobs k) (job_at jobs j))) [
          | inl live ↦ absurd (true≢false (sym (stretch_between k j within known inside live) ∙ outside))
          | inr not_now ↦ rw (inside, not_now) refl
        ]
      ]),
    ))
  ] where
    at_most : (b : Bool) (n : ℕ) → cond b n 0 ≤ n
    at_most true n = omega arith
    at_most false n = omega arith

  pub demand_within : grid * work_within jobs from to ≤ capacity_between (stretches jobs) (map (terms_of jobs grid) (stretches jobs)) from to
  demand_within = omega (
    arith,
    confined_is jobs grid from to,
    sum_below_at_most (length jobs) (λ j. cond (confined j) (units_wanted jobs grid j) 0) (λ j. sum_below (length (stretches jobs)) (λ k. part k j))
        (λ j known. job_within j known),
    sum_below_swap (length (stretches jobs)) (length jobs) part,
    sum_below_at_most (length (stretches jobs)) (λ k. sum_below (length jobs) (part k)) (λ k. cond (between k) (terms_of jobs grid (stretch_at jobs k)) 0) parts_within,
    sum_below_same (length (stretches jobs)) (λ k. cond (between k) (terms_of jobs grid (stretch_at jobs k)) 0)
        (λ k. cond (between k) (capacity_at (map (terms_of jobs grid) (stretches jobs)) k) 0)
        (λ k within. ap (λ n. cond (between k) n 0) (sym (get_or-map (terms_of jobs grid) (stretches jobs) k no_stretch 0 within))),
  ) where
    job_within : (j : ℕ) → j < length jobs → cond (confined j) (units_wanted jobs grid j) 0 ≤ sum_below (length (stretches jobs)) (λ k. part k j)
    job_within j known = elim (cases_Bool (confined j)) [
      | inr other ↦ rw other (omega arith)
      | inl inside ↦ rw inside (terms_enough jobs j known (are j no_job known) grid)
    ]

-- The units that are confined between any two times are at most the parts between them.
pub parts_serve : (jobs : List Job) (grid : ℕ) → All IsJob jobs → IsWithinCapacity jobs grid (stretches jobs) (map (terms_of jobs grid) (stretches jobs))
parts_serve jobs grid are first last one other = demand_within jobs grid are (job_at jobs first).release (job_at jobs last).deadline

-- # What the functions need

-- no deadline lies inside a stretch of the jobs
pub deadlines_outside : (jobs : List Job) (k : ℕ) → k < length (stretches jobs) → All (λ job. IsOutside (stretch_at jobs k) job.deadline) jobs
deadlines_outside jobs k within =
    All-from_get_or (λ job. IsOutside (stretch_at jobs k) job.deadline) jobs no_job (λ j known. deadline_outside jobs j k known within)

-- a run of the policy is a run of Average Rate
average_rate_run : (jobs : List Job) (grid rounded : ℕ) (slots : List WrittenSlot) → 1 ≤ grid → All IsJob jobs →
    IsPolicyRun jobs grid (λ pending stretch. terms_of jobs grid stretch) (λ pending stretch. average_rate_rounds jobs grid stretch) rounded slots →
    IsAverageRateRun jobs grid rounded slots
average_rate_run jobs grid rounded slots some are run = record {
  run = set_run jobs grid (λ pending stretch. terms_of jobs grid stretch) (λ pending stretch. average_rate_rounds jobs grid stretch) rounded slots
      (terms_of jobs grid) are some (λ pending stretch. refl) (parts_serve jobs grid are) run;
  rounds = run.count ∙ sym (sum_places (λ stretch. cond (average_rate_rounds jobs grid stretch) 1 0) (stretches jobs) no_stretch);
}

pub ok_run : {T E : Type 0} (jobs : List Job) (grid : ℕ) (rounded : T → ℕ) (slots : T → List WrittenSlot) (r : Result T E) → 1 ≤ grid → OnOk r (All IsJob jobs) →
    IfOk r (λ run. IsPolicyRun jobs grid (λ pending stretch. terms_of jobs grid stretch) (λ pending stretch. average_rate_rounds jobs grid stretch) (rounded run) (slots run)) →
    IfOk r (λ run. IsAverageRateRun jobs grid (rounded run) (slots run))
ok_run jobs grid rounded slots (Ok run) some are is = average_rate_run jobs grid (rounded run) (slots run) some are is
ok_run jobs grid rounded slots (Err e) some are is = tt
