-- The jobs that wait and the stretches, in the time that is left.
use Rattle.std.specs.Prelude.{◌≡◌, ℕ, ◌+◌, ◌-◌, ◌<◌, ◌≤◌, ◌⊎◌, Bool, nat_le, nat_lt, not, ◌&&◌, List, length, map, filter}
use Rattle.std.specs.List.{All, range_with_len}
use Rattle.base.specs.declared.limits.TheConstants.{MAX_JOBS}
use Rattle.yds_model.specs.Job.{Job, IsJob, job_at}
use Rattle.base.specs.Numbers.{Each}
use Rattle.yds_model.specs.Piece.{Piece}
use Rattle.yds_model.specs.Event.{stretches}
use Rattle.yds_events.specs.Stretch.{nth_stretch}
use Rattle.yds_model.specs.Confined.{window_is_within}
use Rattle.yds_critical.specs.declared.interval.Interval.{Interval}
use Rattle.yds_contract.specs.Contracted.{AreApartFrom, place}

-- the job in the time that is left once so much is removed
abbrev pub contracted : List Piece → Job → Job
contracted removed job = record { release = place removed job.release; deadline = place removed job.deadline; work = job.work }

abbrev pub contracted_jobs : List Job → List Piece → List ℕ → List Job
contracted_jobs jobs removed numbers = map (λ number. contracted removed (job_at jobs number)) numbers

-- a job with work, of whose window some time is left
pub record CanWait (jobs : List Job) (removed : List Piece) (number : ℕ) : Type 0 where
  pub known : number < length jobs
  pub valid : IsJob (job_at jobs number)
  pub has_work : 1 ≤ (job_at jobs number).work
  pub has_window : place removed (job_at jobs number).release < place removed (job_at jobs number).deadline

-- the job has work
abbrev pub job_has_work : List Job → ℕ → Bool
job_has_work jobs number = nat_le 1 (job_at jobs number).work

-- in the time that is left the job's window lies in the interval
abbrev pub lies_in : List Job → List Piece → Interval → ℕ → Bool
lies_in jobs removed interval number = window_is_within interval.start interval.end (contracted removed (job_at jobs number))

-- the numbers of the waiting jobs that lie in the interval, and those of the others
abbrev pub inside : List Job → List Piece → Interval → List ℕ → List ℕ
inside jobs removed interval waiting = filter (lies_in jobs removed interval) waiting

abbrev pub outside : List Job → List Piece → Interval → List ℕ → List ℕ
outside jobs removed interval waiting = filter (λ number. not (lies_in jobs removed interval number)) waiting

-- the stretch in the time that is left
abbrev pub contracted_stretch : List Piece → Piece → Piece
contracted_stretch removed stretch = record { from = place removed stretch.from; to = place removed stretch.to }

abbrev pub contracted_stretches : List Piece → List Piece → List ℕ → List Piece
contracted_stretches timeline removed numbers = map (λ k. contracted_stretch removed (nth_stretch timeline k)) numbers

-- some of the stretch is left, and in the time that is left it lies in the interval
abbrev pub is_left_in : List Piece → Interval → Piece → Bool
is_left_in removed interval stretch =
    nat_lt (place removed stretch.from) (place removed stretch.to)
    && (nat_le interval.start (place removed stretch.from) && nat_le (place removed stretch.to) interval.end)

abbrev pub stretch_lies_in : List Piece → List Piece → Interval → ℕ → Bool
stretch_lies_in timeline removed interval k = is_left_in removed interval (nth_stretch timeline k)

-- the numbers of the stretches that lie in the interval
abbrev pub stretches_inside : List Piece → List Piece → Interval → List ℕ
stretches_inside timeline removed interval = filter (stretch_lies_in timeline removed interval) (range_with_len 0 (length timeline))

-- each stretch is removed whole, or is left whole
abbrev pub AreWhole : List Piece → List Piece → Type 0
AreWhole timeline removed =
    Each (length timeline) (λ k.
    (place removed (nth_stretch timeline k).to ≡ place removed (nth_stretch timeline k).from)
    ⊎ (place removed (nth_stretch timeline k).to
    ≡ place removed (nth_stretch timeline k).from + ((nth_stretch timeline k).to - (nth_stretch timeline k).from)))

-- In the time that is left these jobs wait. Each stretch of the timeline is taken whole or left whole.
pub record AreLeft (jobs : List Job) (timeline removed : List Piece) (waiting : List ℕ) : Type 0 where
  pub few_jobs : length jobs ≤ MAX_JOBS
  pub few : length waiting ≤ MAX_JOBS
  pub all_stretches : timeline ≡ stretches jobs
  pub apart : AreApartFrom 0 removed
  pub whole : AreWhole (stretches jobs) removed
  pub can_wait : All (CanWait jobs removed) waiting
