-- The waiting jobs, and the units that are due, in order of numbers and in order of deadlines.
use Rattle.yds_model.proofs.Common.{◌≡◌, ℕ, ◌<◌, ◌≤◌, List, length, get_or, ◌∙◌, refl, sym, arith, cond, true, false, Bool, nat_le, nat_lt, ◌&&◌, All, Contains, sum_by, IsPermutation, lt-ltb, get_or-map, length-map, length-range_with_len, get_or-range_with_len, sum_by-IsPermutation, All-filter, filter_passes, Job, job_at, Piece, numbers_of, sum_by_same, sum_by-map, sum_by-filter, contains_filter}
use Rattle.yds_edf.specs.declared.due_order.Due.{Due}
use Rattle.yds_edf.specs.DueOrder.{due_job, due_jobs}
use Rattle.yds_oa.specs.Asked.{is_waiting, waiting, due_by, deadlines}

-- # Who waits

pub waits_is : (jobs : List Job) (pending : ℕ → ℕ) (stretch : Piece) (job : ℕ) → 1 ≤ pending job → stretch.from < (job_at jobs job).deadline →
    is_waiting jobs pending stretch job ≡ true
waits_is jobs pending stretch job some later = rw (lt-ltb 0 (pending job) some, lt-ltb stretch.from (job_at jobs job).deadline later) refl

pub waits_for : (jobs : List Job) (pending : ℕ → ℕ) (stretch : Piece) (job : ℕ) → is_waiting jobs pending stretch job ≡ true →
    (1 ≤ pending job) × (stretch.from < (job_at jobs job).deadline)
waits_for jobs pending stretch job waits = grind arith

-- a job is among the waiting ones exactly where it waits
pub stands_waiting : (jobs : List Job) (pending : ℕ → ℕ) (stretch : Piece) (job : ℕ) → job < length jobs → is_waiting jobs pending stretch job ≡ true →
    Contains (waiting jobs pending stretch) job
stands_waiting jobs pending stretch job known waits =
    contains_filter (is_waiting jobs pending stretch) (numbers_of jobs) job waits
    (job, omega (arith, known, length-range_with_len 0 (length jobs)), omega (arith, get_or-range_with_len 0 (length jobs) job job known))

pub each_waits : (jobs : List Job) (pending : ℕ → ℕ) (stretch : Piece) → All (λ job. is_waiting jobs pending stretch job ≡ true) (waiting jobs pending stretch)
each_waits jobs pending stretch = filter_passes (is_waiting jobs pending stretch) (numbers_of jobs)

pub each_known : (jobs : List Job) (pending : ℕ → ℕ) (stretch : Piece) → All (λ job. job < length jobs) (waiting jobs pending stretch)
each_known jobs pending stretch = All-filter (is_waiting jobs pending stretch) (λ job. job < length jobs) (numbers_of jobs)
    (λ i d within.
    let below : i < length jobs = omega (arith, within, length-range_with_len 0 (length jobs)) in
    omega (arith, below, get_or-range_with_len 0 (length jobs) i d below))

-- the place of a waiting job's deadline among the deadlines
pub deadline_place : (jobs : List Job) (pending : ℕ → ℕ) (stretch : Piece) (job : ℕ) → job < length jobs → is_waiting jobs pending stretch job ≡ true →
    (k : ℕ) × (k < length (deadlines jobs pending stretch)) × (get_or (deadlines jobs pending stretch) k 0 ≡ (job_at jobs job).deadline)
deadline_place jobs pending stretch job known waits = grind (arith, get_or-map, length-map, stands_waiting)

-- # The jobs in order of deadlines

-- the units of an entry's job, where it is due after the stretch's start and by a deadline
abbrev pub weight_by : (ℕ → ℕ) → Piece → ℕ → Due → ℕ
weight_by pending stretch deadline due = cond (nat_le due.deadline deadline) (cond (nat_lt stretch.from due.deadline) (pending due.job) 0) 0

-- a term under two tests, in either order
turned : (n : ℕ) (one other : Bool) → ◌≡◌ {A = ℕ} (cond one (cond other n 0) 0) (cond other (cond one n 0) 0)
turned n true true = refl
turned n true false = refl
turned n false true = refl
turned n false false = refl

one : (n : ℕ) (later soon : Bool) → ◌≡◌ {A = ℕ} (cond (nat_lt 0 n && later) (cond soon n 0) 0) (cond soon (cond later n 0) 0)
one n later soon = grind arith

-- the units that are due by a deadline, summed in that order
pub due_in_order : (jobs : List Job) (pending : ℕ → ℕ) (stretch : Piece) (ties : List ℕ) (order : List Due) → IsPermutation (due_jobs jobs ties) order → (deadline : ℕ) →
    due_by jobs pending stretch deadline ≡ sum_by (weight_by pending stretch deadline) order
due_in_order jobs pending stretch ties order same deadline =
    let soon : ℕ → Bool = λ job. nat_le (job_at jobs job).deadline deadline in
    sum_by-filter soon pending (waiting jobs pending stretch)
    ∙ sum_by-filter (is_waiting jobs pending stretch) (λ job. cond (soon job) (pending job) 0) (numbers_of jobs)
    ∙ sum_by_same (λ job. cond (is_waiting jobs pending stretch job) (cond (soon job) (pending job) 0) 0) (λ job. weight_by pending stretch deadline (due_job jobs ties job)) (numbers_of jobs)
    (λ i d within. one (pending (get_or (numbers_of jobs) i d)) (nat_lt stretch.from (job_at jobs (get_or (numbers_of jobs) i d)).deadline) (soon (get_or (numbers_of jobs) i d)))
    ∙ sym (sum_by-map (due_job jobs ties) (weight_by pending stretch deadline) (numbers_of jobs))
    ∙ sym (sum_by-IsPermutation (weight_by pending stretch deadline) (due_jobs jobs ties) order same)
