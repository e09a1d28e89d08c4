-- The stretches of jobs are together as long as the horizon.
use Rattle.yds_model.proofs.Common.{◌≡◌, ℕ, suc, ◌+◌, ◌-◌, ◌<◌, ◌≤◌, ◌⊎◌, min, max, List, [], ◌∷◌, length, get_or, refl, sym, ap, ◌∙◌, arith, inl, inr, sum_by, All, flat_map, fold, All-nil, All-cons, All-head, All-tail, All-from_get_or, sum_by-cons, Job, no_job, job_at, first_release, last_deadline, horizon, event_points, neighbours, stretches}
use Rattle.model_lemmas.proofs.Horizon.{deadlines_below, releases_above}
use Rattle.yds_events.specs.Stretch.{length_of}
use Rattle.yds_events.proofs.Rising.{Rises, rises_times, rising_all}
use Rattle.yds_events.proofs.Times.{not_later, release_at, deadline_at}

-- # From the first time to the last

-- neighbours are together as long as from the first of rising times to the last
neighbours_long : (low time : ℕ) (times : List ℕ) → Rises low (time ∷ times) → time + sum_by length_of (neighbours (time ∷ times)) ≡ get_or (time ∷ times) (length times) 0
neighbours_long low time [] rises = omega arith
neighbours_long low time (next ∷ times) rises =
    omega (
      arith,
      rises.1.0,
      sum_by-cons length_of (record { from = time; to = next }) (neighbours (next ∷ times)),
      neighbours_long (suc time) next times rises.1,
    )

-- # The last deadline and the first release

-- what picks the greater or the lesser of two again and again comes to the first number, or to one of the jobs'
picked : (pick : ℕ → ℕ → ℕ) (of : Job → ℕ) → ((x y : ℕ) → (pick x y ≡ x) ⊎ (pick x y ≡ y)) → (from : ℕ) (jobs : List Job) →
    (fold (λ time job. pick time (of job)) from jobs ≡ from)
    ⊎ ((number : ℕ) × (number < length jobs) × (of (job_at jobs number) ≡ fold (λ time job. pick time (of job)) from jobs))
picked pick of either from [] = inl refl
picked pick of either from (job ∷ jobs) = elim (picked pick of either (pick from (of job)) jobs) [
  | inr (number, within, is) ↦ inr (suc number, omega (arith, within), is)
  | inl is ↦ elim (either from (of job)) [
    | inl first ↦ inl (is ∙ first)
    | inr second ↦ inr (0, omega arith, sym (is ∙ second))
  ]
]

-- so the last deadline is one of the jobs', or 0
last_one : (jobs : List Job) → (last_deadline jobs ≡ 0) ⊎ ((number : ℕ) × (number < length jobs) × ((job_at jobs number).deadline ≡ last_deadline jobs))
last_one jobs = picked max (λ job. job.deadline) (λ x y. grind arith) 0 jobs

-- and the first release is one of them, or the last deadline
first_one : (jobs : List Job) →
    (first_release jobs ≡ last_deadline jobs) ⊎ ((number : ℕ) × (number < length jobs) × ((job_at jobs number).release ≡ first_release jobs))
first_one jobs = picked min (λ job. job.release) (λ x y. grind arith) (last_deadline jobs) jobs

-- # The horizon

-- all releases and deadlines lie between these two
ends_between : (first last : ℕ) (jobs : List Job) → All (λ job. (first ≤ job.release) × (job.release < job.deadline) × (job.deadline ≤ last)) jobs →
    All (λ time. (first ≤ time) × (time ≤ last)) (flat_map (λ job. job.release ∷ job.deadline ∷ []) jobs)
ends_between first last [] each = All-nil (λ time. (first ≤ time) × (time ≤ last))
ends_between first last (job ∷ jobs) each =
    let P : ℕ → Type 0 = λ time. (first ≤ time) × (time ≤ last) in
    let Q : Job → Type 0 = λ job. (first ≤ job.release) × (job.release < job.deadline) × (job.deadline ≤ last) in
    let here = All-head Q job jobs each in
    let rest = flat_map (λ (job : Job). job.release ∷ job.deadline ∷ []) jobs in
    All-cons P job.release (job.deadline ∷ rest) (here.0, omega (arith, here.1, here.2))
    (All-cons P job.deadline rest (omega (arith, here.0, here.1), here.2) (ends_between first last jobs (All-tail Q job jobs each)))

-- rising times that begin with the first and end with the last
long_between : (first last : ℕ) (times : List ℕ) → 1 ≤ length times → Rises 0 times → All (λ time. (first ≤ time) × (time ≤ last)) times → get_or times 0 0 ≤ first →
    last ≤ get_or times (length times - 1) 0 → sum_by length_of (neighbours times) ≡ last - first
long_between first last [] some rises between begins ends = absurd (omega (arith, some))
long_between first last (time ∷ times) some rises between begins ends =
    let place : suc (length times) - 1 ≡ length times = omega arith in
    let end : last ≤ get_or (time ∷ times) (length times) 0 = omega (arith, ends, ap (λ n. get_or (time ∷ times) n 0) place) in
    let at_first = between 0 0 (omega arith) in
    let at_last = between (length times) 0 (omega arith) in
    omega (arith, neighbours_long 0 time times rises, at_first.0, at_last.1, begins, end)

-- of jobs whose windows aren't empty, the first release and the last deadline are event points
first_event : (jobs : List Job) → 1 ≤ length jobs → ((number : ℕ) → number < length jobs → (job_at jobs number).release < (job_at jobs number).deadline) →
    get_or (event_points jobs) 0 0 ≤ first_release jobs
first_event jobs some window =
    elim (first_one jobs) [
      | inl is ↦ absurd (omega (arith, is, releases_above jobs (last_deadline jobs) 0 some, window 0 some, deadlines_below jobs 0 0 some))
      | inr (number, within, is) ↦
          let event = release_at jobs number within in
          omega (arith, is, event.2, not_later jobs 0 event.0 (omega arith) event.1)
    ]

last_event : (jobs : List Job) → 1 ≤ length jobs → ((number : ℕ) → number < length jobs → (job_at jobs number).release < (job_at jobs number).deadline) →
    last_deadline jobs ≤ get_or (event_points jobs) (length (event_points jobs) - 1) 0
last_event jobs some window =
    elim (last_one jobs) [
      | inl is ↦ absurd (omega (arith, is, window 0 some, deadlines_below jobs 0 0 some))
      | inr (number, within, is) ↦
          let event = deadline_at jobs number within in
          omega (arith, is, event.2, not_later jobs event.0 (length (event_points jobs) - 1) (omega (arith, event.1)) (omega (arith, event.1)))
    ]

-- the law of it, for jobs whose windows aren't empty
pub stretches_long : (jobs : List Job) → All (λ job. job.release < job.deadline) jobs → sum_by length_of (stretches jobs) ≡ horizon jobs
stretches_long [] windows = refl
stretches_long (job ∷ others) windows =
    let jobs : List Job = job ∷ others in
    let window : (number : ℕ) → number < length jobs → (job_at jobs number).release < (job_at jobs number).deadline = λ number within. windows number no_job within in
    let each : All (λ job. (first_release jobs ≤ job.release) × (job.release < job.deadline) × (job.deadline ≤ last_deadline jobs)) jobs =
    All-from_get_or (λ job. (first_release jobs ≤ job.release) × (job.release < job.deadline) × (job.deadline ≤ last_deadline jobs)) jobs no_job
    (λ number within. (releases_above jobs (last_deadline jobs) number within, window number within, deadlines_below jobs 0 number within)) in
    long_between (first_release jobs) (last_deadline jobs) (event_points jobs) (let event = release_at jobs 0 (omega arith) in omega (arith, event.1))
    (rises_times (flat_map (λ job. job.release ∷ job.deadline ∷ []) jobs))
    (rising_all (λ time. (first_release jobs ≤ time) × (time ≤ last_deadline jobs)) (flat_map (λ job. job.release ∷ job.deadline ∷ []) jobs)
    (ends_between (first_release jobs) (last_deadline jobs) jobs each))
    (first_event jobs (omega arith) window) (last_event jobs (omega arith) window)
