-- The critical interval of the waiting jobs, for those inside it, and what its removal leaves for the others.
use Rattle.yds_model.proofs.Common.{◌≡◌, ℕ, ◌-◌, ◌*◌, ◌<◌, ◌≤◌, List, [], ◌∷◌, length, map, get_or, ◌∙◌, sym, arith, inl, inr, ap, refl, true, Bool, nat_le, not, filter, All, cases_Bool, leb-true, le-leb, and_from, and_parts, not_from_true, not_from_false, not-true, true≢false, get_or-map, length-map, sum_by-cons, sum_by-le, length-filter_both, All-map, All-filter, All-weaker, filter_passes, mul-le-mul_right, Job, IsJob, no_job, job_at, Piece, window_is_within, work_within}
use Rattle.model_lemmas.proofs.Confined.{part_within}
use Rattle.base.specs.declared.limits.TheConstants.{MAX_JOBS, MAX_TIME, MAX_WORK}
use Rattle.yds_critical.specs.declared.interval.Interval.{Interval}
use Rattle.yds_critical.specs.Critical.{IsCritical}
use Rattle.yds_critical.proofs.Searching.{best_works}
use Rattle.yds_contract.specs.Contracted.{AreApartFrom, place, Removes}
use Rattle.yds_textbook.specs.Waiting.{contracted, contracted_jobs, CanWait, lies_in, inside, outside}
use Rattle.yds_textbook.specs.Stages.{IsDensest}
use Rattle.yds_contract.proofs.ContractedPlaces.{place_rises, place_removes, window_left}

-- some of the jobs have no more work in an interval than all have
inside_less : (f : ℕ → Job) (q : ℕ → Bool) (numbers : List ℕ) (from to : ℕ) →
    work_within (map f (filter q numbers)) from to ≤ work_within (map f numbers) from to
inside_less f q [] from to = omega arith
inside_less f q (number ∷ numbers) from to = elim (cases_Bool (q number)) [
  | inl holds ↦ rw holds (omega (
    arith,
    sum_by-cons (part_within from to) (f number) (map f (filter q numbers)),
    sum_by-cons (part_within from to) (f number) (map f numbers),
    inside_less f q numbers from to,
  ))
  | inr fails ↦ rw fails (omega (arith, sum_by-cons (part_within from to) (f number) (map f numbers), inside_less f q numbers from to))
]

share_few : (from to : ℕ) (job : Job) → job.work ≤ MAX_WORK → part_within from to job ≤ MAX_WORK
share_few from to job few = grind (arith, cases_Bool)

-- so many jobs have so much work
work_few : (jobs : List Job) (from to : ℕ) → All IsJob jobs → work_within jobs from to ≤ length jobs * MAX_WORK
work_few jobs from to are =
    sum_by-le (part_within from to) MAX_WORK jobs (All-weaker IsJob (λ job. part_within from to job ≤ MAX_WORK) (λ job is. share_few from to job is.work_in_range) jobs are)

-- a job that may wait is a job in the time that is left too
can_be : (jobs : List Job) (removed : List Piece) (number : ℕ) → CanWait jobs removed number → IsJob (contracted removed (job_at jobs number))
can_be jobs removed number can = grind arith

pub are_jobs : (jobs : List Job) (removed : List Piece) (numbers : List ℕ) → All (CanWait jobs removed) numbers → All IsJob (contracted_jobs jobs removed numbers)
are_jobs jobs removed numbers can =
    All-map IsJob (λ number. contracted removed (job_at jobs number)) numbers
    (All-weaker (CanWait jobs removed) (λ number. IsJob (contracted removed (job_at jobs number))) (can_be jobs removed) numbers can)

pub have_work : (jobs : List Job) (removed : List Piece) (numbers : List ℕ) → All (CanWait jobs removed) numbers →
    All (λ job. 1 ≤ job.work) (contracted_jobs jobs removed numbers)
have_work jobs removed numbers can =
    All-map (λ job. 1 ≤ job.work) (λ number. contracted removed (job_at jobs number)) numbers
    (All-weaker (CanWait jobs removed) (λ number. 1 ≤ (job_at jobs number).work) (λ number is. is.has_work) numbers can)

-- the job at a place of those that wait
pub waits_at : (jobs : List Job) (removed : List Piece) (waiting : List ℕ) (k : ℕ) → k < length waiting →
    job_at (contracted_jobs jobs removed waiting) k ≡ contracted removed (job_at jobs (get_or waiting k 0))
waits_at jobs removed waiting k within = get_or-map (λ number. contracted removed (job_at jobs number)) waiting k 0 no_job within

pub as_many : (jobs : List Job) (removed : List Piece) (waiting : List ℕ) → length (contracted_jobs jobs removed waiting) ≡ length waiting
as_many jobs removed waiting = length-map waiting (λ number. contracted removed (job_at jobs number))

-- fewer jobs lie outside an interval to which some work is confined
less_outside : (f : ℕ → Job) (start end : ℕ) (numbers : List ℕ) → 1 ≤ work_within (map f numbers) start end →
    length (filter (λ number. not (window_is_within start end (f number))) numbers) < length numbers
less_outside f start end [] work = absurd (omega arith)
less_outside f start end (number ∷ numbers) work = elim (cases_Bool (window_is_within start end (f number))) [
  | inl holds ↦
      let few : length (filter (λ (n : ℕ). not (window_is_within start end (f n))) numbers) ≤ length numbers =
      omega (arith, length-filter_both (λ (n : ℕ). window_is_within start end (f n)) (λ n. not (window_is_within start end (f n))) (λ n. refl) numbers) in
      rw (not_from_true (window_is_within start end (f number)) holds) (omega (arith, few))
  | inr fails ↦
      let none : part_within start end (f number) ≡ 0 = rw fails refl in
      let rest : 1 ≤ work_within (map f numbers) start end = omega (arith, work, none, sum_by-cons (part_within start end) (f number) (map f numbers)) in
      rw (not_from_false (window_is_within start end (f number)) fails) (omega (arith, less_outside f start end numbers rest))
]

-- a job that lies in an interval ends in it
ends_within : (start end : ℕ) (job : Job) → window_is_within start end job ≡ true → job.deadline ≤ end
ends_within start end job lies = leb-true job.deadline end (and_parts (nat_le start job.release) (nat_le job.deadline end) lies).1

-- and one that doesn't has time left once the interval is removed
wait_on : (jobs : List Job) (removed changed : List Piece) (interval : Interval) (number : ℕ) → AreApartFrom 0 removed → interval.start < interval.end →
    Removes removed interval.start interval.end changed → CanWait jobs removed number → not (lies_in jobs removed interval number) ≡ true →
    CanWait jobs changed number
wait_on jobs removed changed interval number apart forward removes can outside =
    let job : Job = job_at jobs number in
    let from = place_removes interval.start interval.end removed changed apart forward removes job.release in
    let to = place_removes interval.start interval.end removed changed apart forward removes job.deadline in
    record {
      known = can.known;
      valid = can.valid;
      has_work = can.has_work;
      has_window = rw (from, to)
          (window_left interval.start interval.end (place removed job.release) (place removed job.deadline) forward can.has_window
          (λ begins ends. true≢false (sym (and_from _ _ (le-leb interval.start (place removed job.release) begins) (le-leb (place removed job.deadline) interval.end ends))
          ∙ not-true (lies_in jobs removed interval number) outside)));
    }

-- an interval from the release of a job to the deadline of one, in the time that is left
pub record IsFromEvents (jobs : List Job) (removed : List Piece) (interval : Interval) : Type 0 where
  pub first : ℕ
  pub last : ℕ
  pub first_known : first < length jobs
  pub last_known : last < length jobs
  pub start : interval.start ≡ place removed (job_at jobs first).release
  pub end : interval.end ≡ place removed (job_at jobs last).deadline

module _ (jobs : List Job) (removed : List Piece) (waiting : List ℕ) (interval : Interval) (can : All (CanWait jobs removed) waiting)
    (critical : IsCritical (contracted_jobs jobs removed waiting) interval) where
  some : 0 < length (contracted_jobs jobs removed waiting)
  some = omega (arith, critical.candidate.is_release.1, length-map (contracted_jobs jobs removed waiting) (λ (job : Job). job.release))

  -- the end is that of a job's window
  abbrev last : ℕ
  last = get_or waiting critical.candidate.is_deadline.0 0

  last_within : critical.candidate.is_deadline.0 < length waiting
  last_within = grind (arith, as_many, length-map)

  ends_at : interval.end ≡ place removed (job_at jobs last).deadline
  ends_at =
      let k = critical.candidate.is_deadline.0 in
      sym critical.candidate.is_deadline.2
      ∙ get_or-map (λ (job : Job). job.deadline) (contracted_jobs jobs removed waiting) k no_job interval.end (omega (arith, last_within, as_many jobs removed waiting))
      ∙ ap (λ (job : Job). job.deadline) (waits_at jobs removed waiting k last_within)

  first_within : critical.candidate.is_release.0 < length waiting
  first_within = grind (arith, as_many, length-map)

  starts_at : interval.start ≡ place removed (job_at jobs (get_or waiting critical.candidate.is_release.0 0)).release
  starts_at =
      let k = critical.candidate.is_release.0 in
      sym critical.candidate.is_release.2
      ∙ get_or-map (λ (job : Job). job.release) (contracted_jobs jobs removed waiting) k no_job interval.start (omega (arith, first_within, as_many jobs removed waiting))
      ∙ ap (λ (job : Job). job.release) (waits_at jobs removed waiting k first_within)

  pub from_events : IsFromEvents jobs removed interval
  from_events = grind (arith, ends_at, first_within, last_within, starts_at)

  pub ends_in_time : AreApartFrom 0 removed → interval.end ≤ place removed MAX_TIME
  ends_in_time apart =
      omega (arith, ends_at, place_rises (job_at jobs last).deadline MAX_TIME removed apart (can critical.candidate.is_deadline.0 0 last_within).valid.time_in_range)

  pub has_work : 1 ≤ interval.work
  has_work =
      let all : List Job = contracted_jobs jobs removed waiting in
      let first : IsJob (job_at all 0) = are_jobs jobs removed waiting can 0 no_job some in
      best_works all interval some first (have_work jobs removed waiting can 0 no_job some) critical.candidate.forward
      (critical.leads (job_at all 0).release (job_at all 0).deadline first.has_window)

  pub is_denser : (from to : ℕ) → from < to →
      work_within (contracted_jobs jobs removed waiting) from to * (interval.end - interval.start) ≤ interval.work * (to - from)
  is_denser from to forward = grind arith

  pub is_densest : length waiting ≤ MAX_JOBS → IsDensest (contracted_jobs jobs removed (inside jobs removed interval waiting)) interval
  is_densest few = record {
    forward = critical.candidate.forward;
    ends = omega (arith, ends_at, (can critical.candidate.is_deadline.0 0 last_within).valid.time_in_range);
    has_work = has_work;
    few = omega (
      arith,
      few,
      critical.candidate.is_work,
      as_many jobs removed waiting,
      work_few (contracted_jobs jobs removed waiting) interval.start interval.end (are_jobs jobs removed waiting can),
    );
    inside = All-map (λ job. job.deadline ≤ interval.end) (λ number. contracted removed (job_at jobs number)) (inside jobs removed interval waiting)
        (All-weaker (λ number. lies_in jobs removed interval number ≡ true) (λ number. place removed (job_at jobs number).deadline ≤ interval.end)
        (λ number lies. ends_within interval.start interval.end (contracted removed (job_at jobs number)) lies)
        (inside jobs removed interval waiting) (filter_passes (lies_in jobs removed interval) waiting));
    densest = λ from to forward. omega (
      arith,
      is_denser from to forward,
      mul-le-mul_right (interval.end - interval.start)
          (inside_less (λ number. contracted removed (job_at jobs number)) (lies_in jobs removed interval) waiting from to),
    );
  }

  -- fewer wait once it is removed
  pub fewer : length (outside jobs removed interval waiting) < length waiting
  fewer = less_outside (λ number. contracted removed (job_at jobs number)) interval.start interval.end waiting (omega (arith, has_work, critical.candidate.is_work))

  pub all_wait_on : (changed : List Piece) → AreApartFrom 0 removed → Removes removed interval.start interval.end changed →
      All (CanWait jobs changed) (outside jobs removed interval waiting)
  all_wait_on changed apart removes k d within =
      wait_on jobs removed changed interval (get_or (outside jobs removed interval waiting) k d) apart critical.candidate.forward removes
      (All-filter (λ number. not (lies_in jobs removed interval number)) (CanWait jobs removed) waiting can k d within)
      (filter_passes (λ number. not (lies_in jobs removed interval number)) waiting k d within)

-- none waits where there is no critical interval
pub none_waits : (jobs : List Job) (removed : List Piece) (waiting : List ℕ) → contracted_jobs jobs removed waiting ≡ [] → waiting ≡ []
none_waits jobs removed [] none = refl
none_waits jobs removed (number ∷ waiting) none = cc

-- those inside an interval, and those outside, are no more than wait
pub few_inside : (jobs : List Job) (removed : List Piece) (interval : Interval) (waiting : List ℕ) →
    length (inside jobs removed interval waiting) ≤ length waiting
few_inside jobs removed interval waiting =
    omega (arith, length-filter_both (lies_in jobs removed interval) (λ number. not (lies_in jobs removed interval number)) (λ number. refl) waiting)

pub few_outside : (jobs : List Job) (removed : List Piece) (interval : Interval) (waiting : List ℕ) →
    length (outside jobs removed interval waiting) ≤ length waiting
few_outside jobs removed interval waiting =
    omega (arith, length-filter_both (lies_in jobs removed interval) (λ number. not (lies_in jobs removed interval number)) (λ number. refl) waiting)
