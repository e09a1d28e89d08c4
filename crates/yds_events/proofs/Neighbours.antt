-- The stretches of jobs: each is from an event point to the next, so they follow one another and no release or deadline lies
-- inside one.
use Rattle.yds_model.proofs.Common.{◌≡◌, ℕ, zero, suc, ◌+◌, ◌*◌, ◌<◌, ◌≤◌, List, [], ◌∷◌, length, get_or, refl, ap, inl, inr, arith, add-one, All, flat_map, get_or_read, cases_lt, Job, IsJob, job_at, Piece, PiecesFrom, event_points, neighbours, stretches, stretch_at}
use Rattle.base.specs.declared.limits.TheConstants.{MAX_TIME}
use Rattle.yds_events.specs.Stretch.{no_stretch, IsOutside}
use Rattle.yds_events.specs.Window.{length_at}
use Rattle.yds_events.proofs.InOrder.{has_length, later_start, starts_rise}
use Rattle.yds_events.proofs.Rising.{Rises, rises_times}
use Rattle.yds_events.proofs.Times.{not_later, release_at, deadline_at, few_times, events_in_range}

-- # Neighbours

length_neighbours : (time : ℕ) (times : List ℕ) → length (neighbours (time ∷ times)) ≡ length times
length_neighbours time [] = refl
length_neighbours time (next ∷ times) = omega (arith, length_neighbours next times)

counted : (times : List ℕ) → 1 ≤ length times → length times ≡ length (neighbours times) + 1
counted [] some = absurd (omega arith)
counted (time ∷ times) some = omega (arith, length_neighbours time times)

neighbour_at : (times : List ℕ) (k : ℕ) → k + 1 < length times →
    get_or (neighbours times) k no_stretch ≡ record { from = get_or times k 0; to = get_or times (suc k) 0 }
neighbour_at [] k within = absurd (omega arith)
neighbour_at (time ∷ []) k within = absurd (omega arith)
neighbour_at (time ∷ next ∷ times) zero within = refl
neighbour_at (time ∷ next ∷ times) (suc k) within = neighbour_at (next ∷ times) k (omega arith)

neighbours_run : (low : ℕ) (times : List ℕ) → Rises low times → PiecesFrom low (neighbours times)
neighbours_run low [] rises = tt
neighbours_run low (time ∷ []) rises = tt
neighbours_run low (time ∷ next ∷ times) rises =
    (rises.0, omega (arith, rises.1.0), neighbours_run next (next ∷ times) (omega arith, rises.1.1))

-- # How many

-- one stretch fewer than event points
pub count_stretches : (jobs : List Job) → 1 ≤ length jobs → length (event_points jobs) ≡ length (stretches jobs) + 1
count_stretches jobs some = counted (event_points jobs) (omega (arith, (release_at jobs 0 some).1))

-- jobs with a stretch are some
pub some_jobs : (jobs : List Job) (k : ℕ) → k < length (stretches jobs) → 1 ≤ length jobs
some_jobs [] k within = absurd (omega arith)
some_jobs (job ∷ jobs) k within = omega arith

pub stretch_next : (jobs : List Job) (k : ℕ) → k < length (stretches jobs) → k + 1 < length (event_points jobs)
stretch_next jobs k within = omega (arith, count_stretches jobs (some_jobs jobs k within))

pub few_stretches : (jobs : List Job) → length (stretches jobs) ≤ 2 * length jobs
few_stretches [] = omega arith
few_stretches (job ∷ jobs) = omega (arith, count_stretches (job ∷ jobs) (omega arith), few_times (job ∷ jobs))

-- # Where they lie

-- a stretch is from an event point to the next
pub stretch_is : (jobs : List Job) (k : ℕ) → k + 1 < length (event_points jobs) →
    stretch_at jobs k ≡ record { from = get_or (event_points jobs) k 0; to = get_or (event_points jobs) (k + 1) 0 }
stretch_is jobs k within = rw add-one (neighbour_at (event_points jobs) k within)

pub stretch_begins : (jobs : List Job) (k : ℕ) → k < length (stretches jobs) → (stretch_at jobs k).from ≡ get_or (event_points jobs) k 0
stretch_begins jobs k within = ap (λ (piece : Piece). piece.from) (stretch_is jobs k (stretch_next jobs k within))

pub stretch_ends : (jobs : List Job) (k : ℕ) → k < length (stretches jobs) → (stretch_at jobs k).to ≡ get_or (event_points jobs) (k + 1) 0
stretch_ends jobs k within = ap (λ (piece : Piece). piece.to) (stretch_is jobs k (stretch_next jobs k within))

-- one after another
pub stretches_run : (jobs : List Job) → PiecesFrom 0 (stretches jobs)
stretches_run jobs = neighbours_run 0 (event_points jobs) (rises_times (flat_map (λ job. job.release ∷ job.deadline ∷ []) jobs))

pub stretch_forward : (jobs : List Job) (k : ℕ) → k < length (stretches jobs) → (stretch_at jobs k).from < (stretch_at jobs k).to
stretch_forward jobs k within = has_length 0 k (stretches jobs) (stretches_run jobs) within

pub stretch_order : (jobs : List Job) (i k : ℕ) → i < k → k < length (stretches jobs) → (stretch_at jobs i).to ≤ (stretch_at jobs k).from
stretch_order jobs i k order within = later_start 0 i k (stretches jobs) (stretches_run jobs) order within

pub stretch_starts_rise : (jobs : List Job) (i k : ℕ) → i ≤ k → k < length (stretches jobs) → (stretch_at jobs i).from ≤ (stretch_at jobs k).from
stretch_starts_rise jobs i k order within = starts_rise i k (stretches jobs) (stretches_run jobs) order within

-- # Their lengths

-- each stretch takes time
pub stretch_long : (jobs : List Job) (k : ℕ) → k < length (stretches jobs) → 1 ≤ length_at jobs k
stretch_long jobs k within = omega (arith, stretch_forward jobs k within)

-- within the limit of times
pub stretch_in_range : (jobs : List Job) (k : ℕ) → All IsJob jobs → k < length (stretches jobs) → (stretch_at jobs k).to ≤ MAX_TIME
stretch_in_range jobs k all within =
    omega (arith, stretch_ends jobs k within, events_in_range jobs all (k + 1) 0 (stretch_next jobs k within))

-- # Releases, deadlines and other times

-- no event point lies inside a stretch
outside : (jobs : List Job) (i k time : ℕ) → i < length (event_points jobs) → get_or (event_points jobs) i 0 ≡ time →
    k < length (stretches jobs) → IsOutside (stretch_at jobs k) time
outside jobs i k time known is within = elim (cases_lt k i) [
  | inl after ↦ inr (omega (arith, stretch_ends jobs k within, not_later jobs (k + 1) i (omega arith) known, is))
  | inr before ↦ inl (omega (arith, stretch_begins jobs k within, not_later jobs i k before (omega (arith, stretch_next jobs k within)), is))
]

pub release_outside : (jobs : List Job) (j k : ℕ) → j < length jobs → k < length (stretches jobs) →
    IsOutside (stretch_at jobs k) (job_at jobs j).release
release_outside jobs j k known within =
    let release = release_at jobs j known in outside jobs release.0 k (job_at jobs j).release release.1 release.2 within

pub deadline_outside : (jobs : List Job) (j k : ℕ) → j < length jobs → k < length (stretches jobs) →
    IsOutside (stretch_at jobs k) (job_at jobs j).deadline
deadline_outside jobs j k known within =
    let deadline = deadline_at jobs j known in outside jobs deadline.0 k (job_at jobs j).deadline deadline.1 deadline.2 within

-- between two of some numbers there is a step over each time
step_over : (f : ℕ → ℕ) (n time : ℕ) → f 0 ≤ time → time < f n → (k : ℕ) × (k < n) × (f k ≤ time) × (time < f (k + 1))
step_over f zero time from below = absurd (omega arith)
step_over f (suc n) time from below = elim (cases_lt time (f n)) [
  | inl earlier ↦ let found = step_over f n time from earlier in (found.0, omega (arith, found.1), found.2, found.3)
  | inr later ↦ (n, omega arith, later, rw add-one below)
]

-- the stretch has the unit of time that begins at `time`
pub record HasTime (jobs : List Job) (time k : ℕ) : Type 0 where
  pub known : k < length (stretches jobs)
  pub from : (stretch_at jobs k).from ≤ time
  pub below : time < (stretch_at jobs k).to

-- each time of a job's window lies in a stretch
pub stretch_with : (jobs : List Job) (j time : ℕ) → j < length jobs → (job_at jobs j).release ≤ time → time < (job_at jobs j).deadline →
    (k : ℕ) × HasTime jobs time k
stretch_with jobs j time known from below =
    let release = release_at jobs j known in
    let deadline = deadline_at jobs j known in
    let found = step_over (λ k. get_or (event_points jobs) k 0) deadline.0 time
    (omega (arith, not_later jobs 0 release.0 (omega arith) release.1, release.2)) (omega (arith, deadline.2)) in
    let within : found.0 < length (stretches jobs) = omega (arith, found.1, deadline.1, count_stretches jobs (omega arith)) in (
      found.0,
      record {
        known = within;
        from = omega (arith, stretch_begins jobs found.0 within, found.2);
        below = omega (arith, stretch_ends jobs found.0 within, found.3);
      },
    )

-- a stretch that is read from the list of them
pub stretch_read : (jobs : List Job) (timeline : List Piece) (k : ℕ) (read seen : Piece) → timeline ≡ stretches jobs → k < length (stretches jobs) →
    read ≡ get_or timeline k read → seen ≡ read → seen ≡ stretch_at jobs k
stretch_read jobs timeline k read seen are within is view = grind (arith, get_or_read)
