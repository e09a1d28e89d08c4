-- A refused job is refused since with it the work of some jobs is more than the top speed does in an interval that all of them have to keep.
use Rattle.yds_model.proofs.Common.{◌≡◌, ℕ, ◌-◌, ◌*◌, ◌<◌, ◌≤◌, List, [], ◌∷◌, ◌++◌, length, get_or, cond, ◌==◌, sym, ap, subst, ◌∙◌, arith, append_assoc, inl, inr, Bool, false, ◌⊎◌, All, Contains, filter, get_or_default, get_or-map, get_or_append_left, length-append, length-map, All-nil, All-cons, All-append, All-filter, filter_passes, sum_by-append, sum_by-cons, cases_Bool, get_or-append_seam, Job, no_job, job_at, work_of, numbers_of, count-cons, sum_by_at_most, sum_by-map, sum_by-filter, AreDifferent, CanServe, jobs_with, lies_within, Refusal, IsRefusal, AdmitsAfter, confined_work, window_is_within}
use Rattle.yds_laws.proofs.Bound.{served_at_speed}
use Rattle.yds_laws.proofs.JobNumbers.{sum_by_number}
use Rattle.yds_laws.proofs.Served.{all_numbers, counted_once, cond_less, kept_different, lies}
use Rattle.base.proofs.Filters.{contains_filter, filter_all}
use Rattle.yds_laws.specs.AdmissionLaws.{IsForced, RefusalsAreForced}

-- # Different numbers

-- what a filter keeps of different numbers is different
kept_apart : (p : ℕ → Bool) (numbers : List ℕ) → AreDifferent numbers → AreDifferent (filter p numbers)
kept_apart p numbers different number = omega (
  arith,
  different number,
  sum_by-filter p (λ other. cond (number == other) 1 0) numbers,
  sum_by_at_most (λ other. cond (p other) (cond (number == other) 1 0) 0) (λ other. cond (number == other) 1 0) numbers
      (λ k d within. cond_less (p (get_or numbers k d)) (number == get_or numbers k d)),
)

-- of the first numbers, one more and others: the first ones with the one, and the first ones with the others
with_one : (before numbers : List ℕ) (number : ℕ) → AreDifferent (before ++ number ∷ numbers) → AreDifferent (before ++ number ∷ [])
with_one before numbers number different other = omega (
  arith,
  different other,
  sum_by-append (λ x. cond (other == x) 1 0) before (number ∷ numbers),
  sum_by-append (λ x. cond (other == x) 1 0) before (number ∷ []),
  count-cons other number numbers,
  count-cons other number [],
)

without_one : (before numbers : List ℕ) (number : ℕ) → AreDifferent (before ++ number ∷ numbers) → AreDifferent (before ++ numbers)
without_one before numbers number different other = omega (
  arith,
  different other,
  sum_by-append (λ x. cond (other == x) 1 0) before (number ∷ numbers),
  sum_by-append (λ x. cond (other == x) 1 0) before numbers,
  count-cons other number numbers,
)

-- # The jobs that force it

-- the work of those whose windows lie in an interval is at most what the top speed does there, where all of them can be served
inside_fits : (jobs : List Job) (top from to : ℕ) (numbers : List ℕ) → from < to → CanServe top (jobs_with jobs numbers) →
    confined_work jobs numbers from to ≤ top * (to - from)
inside_fits jobs top from to numbers forward serve =
    let all = jobs_with jobs numbers in
    let passes = lies_within all from to in
    let places = filter passes (numbers_of all) in
    let fits : work_of all places ≤ top * (to - from) =
    served_at_speed all serve.scale top from to serve.slots places serve.positive forward serve.feasible serve.within_top
    (kept_different all passes)
    (All-filter passes (λ i. i < length all) (numbers_of all) (all_numbers (λ i. i < length all) all (λ i below. below)))
    (λ k d within. lies all from to _ (filter_passes passes (numbers_of all) k d within)) in
    omega (
      arith,
      fits,
      sum_by-filter passes (λ i. (job_at all i).work) (numbers_of all),
      sum_by_number (λ (job : Job). cond (window_is_within from to job) job.work 0) all,
      sum_by-map (job_at jobs) (λ (job : Job). cond (window_is_within from to job) job.work 0) numbers,
      sum_by-filter (lies_within jobs from to) (λ i. (job_at jobs i).work) numbers,
    )

-- where one more has its window outside, the work inside is as before
outside_adds_nothing : (jobs : List Job) (from to : ℕ) (before : List ℕ) (number : ℕ) → lies_within jobs from to number ≡ false →
    confined_work jobs (before ++ number ∷ []) from to ≡ confined_work jobs before from to
outside_adds_nothing jobs from to before number outside =
    let work : ℕ → ℕ = λ i. (job_at jobs i).work in
    let term : ℕ → ℕ = λ i. cond (lies_within jobs from to i) (work i) 0 in
    omega (
      arith,
      sum_by-filter (lies_within jobs from to) work (before ++ number ∷ []),
      sum_by-append term before (number ∷ []),
      sum_by-cons term number [],
      ap {B = ℕ} (λ b. cond b (work number) 0) outside,
      sum_by-filter (lies_within jobs from to) work before,
    )

-- those in the interval of the refusal do
refusal_forced : (jobs : List Job) (top : ℕ) (before taken numbers : List ℕ) (number : ℕ) (refusal : Refusal) → AreDifferent (before ++ number ∷ numbers) →
    CanServe top (jobs_with jobs before) → IsRefusal jobs top (before ++ number ∷ []) number refusal → IsForced jobs top (before ++ taken) refusal
refusal_forced jobs top before taken numbers number refusal different served is =
    let competing = before ++ number ∷ [] in
    let passes = lies_within jobs refusal.from refusal.to in
    let kept = filter passes competing in
    let own : All (λ one. (one ≡ refusal.job) ⊎ Contains (before ++ taken) one) competing =
    All-append (λ one. (one ≡ refusal.job) ⊎ Contains (before ++ taken) one) before (number ∷ [])
    (λ k d within. inr (k, omega (arith, within, length-append before taken), get_or_append_left before taken (get_or before k d) k within ∙ get_or_default before k (get_or before k d) d within))
    (All-cons (λ one. (one ≡ refusal.job) ⊎ Contains (before ++ taken) one) number [] (inl (sym is.is_job)) (All-nil _)) in
    let inside : All (λ one. (refusal.from ≤ (job_at jobs one).release) × ((job_at jobs one).deadline ≤ refusal.to)) kept =
    λ k d within. lies jobs refusal.from refusal.to _ (filter_passes passes competing k d within) in
    let too_much : top * (refusal.to - refusal.from) < refusal.work = omega (arith, is.is_work, is.interval.overfull.too_much) in
    let itself : Contains kept number = elim (cases_Bool (passes number)) [
      | inl lies_there ↦ contains_filter passes competing number lies_there (length before, omega (arith, length-append before (number ∷ [])), get_or-append_seam before number [] _)
      | inr outside ↦ absurd (omega (
        arith,
        is.interval.overfull.too_much,
        outside_adds_nothing jobs refusal.from refusal.to before number outside,
        inside_fits jobs top refusal.from refusal.to before is.interval.overfull.forward served,
      ))
    ] in
    record {
      numbers = kept;
      itself = subst (λ (job : ℕ). Contains kept job) (sym is.is_job) itself;
      different = kept_apart passes competing (with_one before numbers number different);
      own = All-filter passes (λ one. (one ≡ refusal.job) ⊎ Contains (before ++ taken) one) competing own;
      inside = inside;
      work = is.is_work;
      too_much = too_much;
      unserved = λ serve. omega (
        arith,
        too_much,
        is.is_work,
        ap (λ (list : List ℕ). work_of jobs list) (filter_all passes kept (filter_passes passes competing)),
        inside_fits jobs top refusal.from refusal.to kept is.interval.overfull.forward serve,
      );
    }

-- and so on, job after job
forced_after : (jobs : List Job) (top : ℕ) (before numbers taken : List ℕ) (refused : List Refusal) → AreDifferent (before ++ numbers) →
    CanServe top (jobs_with jobs before) → AdmitsAfter jobs top before numbers taken refused → All (IsForced jobs top (before ++ taken)) refused
forced_after jobs top before [] taken refused different served (none, done) = subst (All (IsForced jobs top (before ++ taken))) (sym done) (All-nil _)
forced_after jobs top before (number ∷ numbers) taken refused different served (inl (serves, later, is, rest)) =
    let same : (before ++ number ∷ []) ++ later ≡ before ++ taken = append_assoc before (number ∷ []) later ∙ ap (λ (l : List ℕ). before ++ l) (sym is) in
    subst (λ (all : List ℕ). All (IsForced jobs top all) refused) same
    (forced_after jobs top (before ++ number ∷ []) numbers later refused (subst AreDifferent (sym (append_assoc before (number ∷ []) numbers)) different) serves rest)
forced_after jobs top before (number ∷ numbers) taken refused different served (inr (overfull, refusal, others, is, refuses, rest)) =
    subst (All (IsForced jobs top (before ++ taken))) (sym is)
    (All-cons (IsForced jobs top (before ++ taken)) refusal others
    (refusal_forced jobs top before taken numbers number refusal different served refuses)
    (forced_after jobs top before numbers taken others (without_one before numbers number different) served rest))

-- no job is served by no slot
none_served : (jobs : List Job) (top : ℕ) → CanServe top (jobs_with jobs [])
none_served jobs top = record {
  scale = 1;
  positive = omega arith;
  slots = [];
  feasible = record { one_at_a_time = tt; in_windows = All-nil _; served = λ number within. absurd (omega (arith, within)) };
  within_top = All-nil _;
}

-- the law of it
pub refusals_are_forced : RefusalsAreForced
refusals_are_forced jobs top taken refused admission =
    forced_after jobs top [] (numbers_of jobs) taken refused (λ number. counted_once number 0 (length jobs)) (none_served jobs top) admission
