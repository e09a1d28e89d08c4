-- What Optimal Available asks of a stretch, where so many units of each job are pending.
use Rattle.std.specs.Prelude.{ℕ, ◌-◌, ◌*◌, List, sum_by, fold, map, max, Bool, nat_lt, nat_le, ◌==◌, ◌&&◌, not}
use Rattle.std.specs.List.{filter, list_all}
use Rattle.yds_model.specs.Job.{Job, job_at}
use Rattle.yds_model.specs.Piece.{Piece}
use Rattle.yds_model.specs.Policy.{div_up, numbers_of}

-- the job has pending units, and is due after the stretch's start
abbrev pub is_waiting : List Job → (ℕ → ℕ) → Piece → ℕ → Bool
is_waiting jobs pending stretch job = nat_lt 0 (pending job) && nat_lt stretch.from (job_at jobs job).deadline

abbrev pub waiting : List Job → (ℕ → ℕ) → Piece → List ℕ
waiting jobs pending stretch = filter (is_waiting jobs pending stretch) (numbers_of jobs)

-- the units of such jobs that are due by a deadline
abbrev pub due_by : List Job → (ℕ → ℕ) → Piece → ℕ → ℕ
due_by jobs pending stretch deadline =
    sum_by pending (filter (λ job. nat_le (job_at jobs job).deadline deadline) (waiting jobs pending stretch))

abbrev pub deadlines : List Job → (ℕ → ℕ) → Piece → List ℕ
deadlines jobs pending stretch = map (λ job. (job_at jobs job).deadline) (waiting jobs pending stretch)

-- the units that a deadline asks of the stretch, rounded up, and the greatest number that one asks
abbrev pub asked_by : List Job → (ℕ → ℕ) → Piece → ℕ → ℕ
asked_by jobs pending stretch deadline =
    div_up (due_by jobs pending stretch deadline * (stretch.to - stretch.from)) (deadline - stretch.from)

abbrev pub most_asked : List Job → (ℕ → ℕ) → Piece → ℕ
most_asked jobs pending stretch = fold max 0 (map (asked_by jobs pending stretch) (deadlines jobs pending stretch))

-- something is asked, and no deadline asks just that much before it is rounded up
abbrev pub most_rounds : List Job → (ℕ → ℕ) → Piece → Bool
most_rounds jobs pending stretch =
    nat_lt 0 (most_asked jobs pending stretch)
    && list_all (λ deadline. not (due_by jobs pending stretch deadline * (stretch.to - stretch.from)
    == most_asked jobs pending stretch * (deadline - stretch.from))) (deadlines jobs pending stretch)
