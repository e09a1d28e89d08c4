-- The times of a chain, deadline by deadline.
use Rattle.yds_model.proofs.Common.{◌≡◌, ℕ, ◌+◌, ◌-◌, ◌*◌, ◌<◌, ◌≤◌, List, [], ◌∷◌, ◌++◌, length, get_or, take, ◌∙◌, subst, arith, ap, All, Any, Contains, IsPermutation, IsNonDecreasing, IsNonDecreasingBy, All-permutation, cases_lt, length_push, get_or_push, get_or_append_left, take_all, get_or_default, All-nil, All-cons, All-push, All-more, Contains-append_left, Contains-push, mul-sub, mul-le-mul_left, Job, IsJob, no_job, job_at}
use Rattle.yds_admit.specs.Chain.{AreTimes, IsPlace}
use Rattle.yds_admit.specs.Pieces.{AreDue}

-- the deadlines of the first jobs are among the times, of which none is later than the last one, and that not later than the next deadline
pub record TimesUpTo (jobs : List Job) (i : ℕ) (times : List ℕ) (last : ℕ) : Type 0 where
  pub some : 1 ≤ length times
  pub first : get_or times 0 0 ≡ 0
  pub rising : IsNonDecreasing times
  pub most : All (λ time. time ≤ last) times
  pub known : Contains times last
  pub before : (j : ℕ) → i ≤ j → j < length jobs → last ≤ (job_at jobs j).deadline
  pub all : All (λ job. 0 < job.deadline → Contains times job.deadline) (take i jobs)

pub begun : (jobs : List Job) → TimesUpTo jobs 0 (0 ∷ []) 0
begun jobs = grind (arith, All-cons, All-nil, Contains-push)

module _ (jobs : List Job) (i : ℕ) (times : List ℕ) (last : ℕ) (rising : IsNonDecreasingBy (λ (job : Job). job.deadline) jobs) (within : i < length jobs)
    (up_to : TimesUpTo jobs i times last) (deadline : ℕ) (is : deadline ≡ (job_at jobs i).deadline) where
  -- a deadline that is there already
  pub passed : deadline ≤ last → TimesUpTo jobs (i + 1) times last
  passed early =
      let same : last ≡ (job_at jobs i).deadline = omega (arith, early, is, up_to.before i (omega arith) within) in
      record {
        some = up_to.some;
        first = up_to.first;
        rising = up_to.rising;
        most = up_to.most;
        known = up_to.known;
        before = λ j behind below. up_to.before j (omega arith) below;
        all = All-more (λ job. 0 < job.deadline → Contains times job.deadline) jobs i no_job within up_to.all
            (λ later. subst (λ time. Contains times time) same up_to.known);
      }

  pushed_rising : last < deadline → IsNonDecreasing (times ++ deadline ∷ [])
  pushed_rising later k j d order below = grind (arith, cases_lt, get_or_append_left, get_or_push, length_push)

  -- a new one
  pub added : last < deadline → TimesUpTo jobs (i + 1) (times ++ deadline ∷ []) deadline
  added later = record {
    some = omega (arith, length_push times deadline);
    first = get_or_append_left times (deadline ∷ []) 0 0 up_to.some ∙ up_to.first;
    rising = pushed_rising later;
    most = All-push (λ time. time ≤ deadline) times deadline (λ k d below. omega (arith, up_to.most k d below, later)) (omega arith);
    known = Contains-push times deadline;
    before = λ j behind below. omega (arith, rising i j no_job (omega arith) below, is);
    all = All-more (λ job. 0 < job.deadline → Contains (times ++ deadline ∷ []) job.deadline) jobs i no_job within
        (λ k d there after. Contains-append_left times (deadline ∷ []) _ (up_to.all k d there after))
        (λ after. subst (λ time. Contains (times ++ deadline ∷ []) time) is (Contains-push times deadline));
  }

pub are_times : (jobs : List Job) (i : ℕ) (times : List ℕ) (last : ℕ) → length jobs ≤ i → TimesUpTo jobs i times last → AreTimes 0 jobs times
are_times jobs i times last all up_to = grind (arith, take_all)

-- # The gaps between the times

pub gap_pushed : (top : ℕ) (times gaps : List ℕ) (next product : ℕ) → 1 ≤ next → length gaps + 1 ≡ next →
    product ≡ top * (get_or times next 0 - get_or times (next - 1) 0) → get_or times (next - 1) 0 ≤ get_or times next 0 →
    ((q : ℕ) → q + 1 < next → get_or gaps q 0 + top * get_or times q 0 ≡ top * get_or times (q + 1) 0) →
    (q : ℕ) → q + 1 < next + 1 → get_or (gaps ++ product ∷ []) q 0 + top * get_or times q 0 ≡ top * get_or times (q + 1) 0
gap_pushed top times gaps next product some long is rising each q below = grind (arith, cases_lt, get_or_append_left, get_or_push, mul-le-mul_left, mul-sub)

-- the times of jobs in another order
pub same_times : (due : ℕ) (jobs others : List Job) (times : List ℕ) → IsPermutation others jobs → AreTimes due others times → AreTimes due jobs times
same_times due jobs others times same are = record {
  some = are.some;
  first = are.first;
  rising = are.rising;
  all = All-permutation (λ (job : Job). due < job.deadline → Contains times job.deadline) others jobs same are.all;
}

-- the first place of one of the times
module _ (times : List ℕ) (time place : ℕ) (rising : IsNonDecreasing times) (known : Contains times time) (is : IsPlace times time place) where
  not_after : place ≤ known.0
  not_after = grind (arith, cases_lt, get_or_default)

  pub place_known : place < length times
  place_known = omega (arith, not_after, known.1)

  pub time_there : get_or times place 0 ≡ time
  time_there = grind (arith, get_or_default, not_after, place_known)

-- the deadlines of some of the jobs are among the times
pub all_due : (rows jobs : List Job) (times : List ℕ) → AreTimes 0 rows times → All (λ job. Any (λ one. one ≡ job) rows) jobs → All IsJob jobs → AreDue times jobs
all_due rows jobs times are known jobs_are k d below =
    let some = known k d below in
    let is : get_or rows some.0 some.1 ≡ get_or jobs k d = some.3 ∙ some.4 in
    subst (λ (job : Job). Contains times job.deadline) is
    (are.all some.0 some.1 some.2 (omega (arith, ap (λ (job : Job). job.deadline) is, (jobs_are k d below).has_window)))
