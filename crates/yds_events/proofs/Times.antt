-- The event points of jobs: they rise, have each release and each deadline, and are at most two a job.
use Rattle.yds_model.proofs.Common.{◌≡◌, ℕ, zero, suc, ◌+◌, ◌*◌, ◌<◌, ◌≤◌, List, [], ◌∷◌, length, get_or, ◌∙◌, refl, arith, All, get_or_default, cases_lt, cases_eq, All-nil, All-cons, All-head, All-tail, Job, IsJob, job_at, with_time, event_points}
use Rattle.base.specs.declared.limits.TheConstants.{MAX_TIME}
use Rattle.yds_events.specs.Keys.{ends_of}
use Rattle.yds_events.proofs.Rising.{rises_times, rises_at, stands_times, contains_from_Stands, stands_from_Contains, rising_all, with_time_length}

-- a later event point is later
pub times_rise : (jobs : List Job) (i j : ℕ) → i < j → j < length (event_points jobs) →
    get_or (event_points jobs) i 0 < get_or (event_points jobs) j 0
times_rise jobs i j before within = rises_at 0 (event_points jobs) i j (rises_times (ends_of jobs)) before within

pub not_later : (jobs : List Job) (i j : ℕ) → i ≤ j → j < length (event_points jobs) →
    get_or (event_points jobs) i 0 ≤ get_or (event_points jobs) j 0
not_later jobs i j before within = grind (arith, cases_eq, times_rise)

-- so places go by times
pub place_before : (jobs : List Job) (i j : ℕ) → i < length (event_points jobs) →
    get_or (event_points jobs) i 0 < get_or (event_points jobs) j 0 → i < j
place_before jobs i j within less = grind (arith, cases_lt, not_later)

pub place_not_after : (jobs : List Job) (i j : ℕ) → i < length (event_points jobs) →
    get_or (event_points jobs) i 0 ≤ get_or (event_points jobs) j 0 → i ≤ j
place_not_after jobs i j within most = grind (arith, cases_lt, times_rise)

-- where the jobs' releases and deadlines stand
pub length_ends : (jobs : List Job) → length (ends_of jobs) ≡ 2 * length jobs
length_ends [] = omega arith
length_ends (job ∷ jobs) = omega (arith, length_ends jobs)

pub release_end : (jobs : List Job) (j : ℕ) → j < length jobs → get_or (ends_of jobs) (2 * j) 0 ≡ (job_at jobs j).release
release_end [] j within = absurd (omega arith)
release_end (job ∷ jobs) zero within = refl
release_end (job ∷ jobs) (suc j) within = let next : 2 * suc j ≡ suc (suc (2 * j)) = omega arith in rw next (release_end jobs j (omega arith))

pub deadline_end : (jobs : List Job) (j : ℕ) → j < length jobs → get_or (ends_of jobs) (2 * j + 1) 0 ≡ (job_at jobs j).deadline
deadline_end [] j within = absurd (omega arith)
deadline_end (job ∷ jobs) zero within = refl
deadline_end (job ∷ jobs) (suc j) within =
    let next : 2 * suc j + 1 ≡ suc (suc (2 * j + 1)) = omega arith in rw next (deadline_end jobs j (omega arith))

-- a job's release and its deadline are event points
place_of : (jobs : List Job) (number time : ℕ) → number < 2 * length jobs → get_or (ends_of jobs) number 0 ≡ time →
    (i : ℕ) × (i < length (event_points jobs)) × (get_or (event_points jobs) i 0 ≡ time)
place_of jobs number time within is =
    let inside : number < length (ends_of jobs) = omega (arith, within, length_ends jobs) in
    let found = contains_from_Stands time (event_points jobs) (stands_times time (ends_of jobs)
    (stands_from_Contains time (ends_of jobs) (number, inside, get_or_default (ends_of jobs) number time 0 inside ∙ is))) in
    (found.0, found.1, get_or_default (event_points jobs) found.0 0 time found.1 ∙ found.2)

pub release_at : (jobs : List Job) (j : ℕ) → j < length jobs →
    (i : ℕ) × (i < length (event_points jobs)) × (get_or (event_points jobs) i 0 ≡ (job_at jobs j).release)
release_at jobs j within = place_of jobs (2 * j) (job_at jobs j).release (omega arith) (release_end jobs j within)

pub deadline_at : (jobs : List Job) (j : ℕ) → j < length jobs →
    (i : ℕ) × (i < length (event_points jobs)) × (get_or (event_points jobs) i 0 ≡ (job_at jobs j).deadline)
deadline_at jobs j within = place_of jobs (2 * j + 1) (job_at jobs j).deadline (omega arith) (deadline_end jobs j within)

-- at most two event points a job
pub few_times : (jobs : List Job) → length (event_points jobs) ≤ 2 * length jobs
few_times [] = omega arith
few_times (job ∷ jobs) = omega (
  arith,
  few_times jobs,
  with_time_length job.deadline (event_points jobs),
  with_time_length job.release (with_time job.deadline (event_points jobs)),
)

-- no event point is past the limit of times
abbrev pub IsInTime : ℕ → Type 0
IsInTime time = time ≤ MAX_TIME

ends_in_range : (jobs : List Job) → All IsJob jobs → All IsInTime (ends_of jobs)
ends_in_range [] all = All-nil IsInTime
ends_in_range (job ∷ jobs) all =
    let is = All-head IsJob job jobs all in
    All-cons IsInTime job.release (job.deadline ∷ ends_of jobs) (omega (arith, is.has_window, is.time_in_range))
    (All-cons IsInTime job.deadline (ends_of jobs) is.time_in_range (ends_in_range jobs (All-tail IsJob job jobs all)))

pub events_in_range : (jobs : List Job) → All IsJob jobs → All IsInTime (event_points jobs)
events_in_range jobs all = rising_all IsInTime (ends_of jobs) (ends_in_range jobs all)
