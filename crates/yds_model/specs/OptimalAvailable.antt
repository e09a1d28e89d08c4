-- The policy Optimal Available on a grid: the speed is the greatest, over the deadlines of pending jobs, of the pending work that
-- is due by then divided by the time until then, a stretch's part rounded up to a whole unit. After Yao, Demers and Shenker
-- (FOCS 1995) and Bansal, Kimbrel and Pruhs (J. ACM 2007); the rule by the greatest quotient and the grid are this program's own.
use Rattle.std.specs.Prelude.{◌≡◌, ℕ, ◌-◌, ◌*◌, List, sum_by, count_by, fold, map, max, Bool, nat_lt, nat_le, ◌==◌, ◌&&◌, not}
use Rattle.std.specs.List.{filter, list_all}
use Rattle.yds_model.specs.Job.{Job, job_at}
use Rattle.yds_model.specs.Slot.{WholeSlot, WrittenSlot, AtEachScale}
use Rattle.yds_model.specs.Piece.{Piece}
use Rattle.yds_model.specs.Event.{stretches}
use Rattle.yds_model.specs.Policy.{div_up, pending_at, numbers_of, IsRunAt}

-- the released jobs with pending work, at the stretch's start
abbrev pub pending_jobs : List Job → ℕ → List WholeSlot → Piece → List ℕ
pending_jobs jobs scale slots stretch =
    filter (λ job. nat_le (job_at jobs job).release stretch.from && nat_lt 0 (pending_at jobs scale slots stretch.from job)) (numbers_of jobs)

-- the pending units that are due by a deadline, times the scale
abbrev pub due_units : List Job → ℕ → ℕ → List WholeSlot → Piece → ℕ → ℕ
due_units jobs grid scale slots stretch deadline =
    grid * sum_by (λ job. pending_at jobs scale slots stretch.from job)
    (filter (λ job. nat_le (job_at jobs job).deadline deadline) (pending_jobs jobs scale slots stretch))

-- the deadlines of the pending jobs
abbrev pub pending_deadlines : List Job → ℕ → List WholeSlot → Piece → List ℕ
pending_deadlines jobs scale slots stretch = map (λ job. (job_at jobs job).deadline) (pending_jobs jobs scale slots stretch)

-- the units that a deadline asks of the stretch, rounded up
abbrev pub asked : List Job → ℕ → ℕ → List WholeSlot → Piece → ℕ → ℕ
asked jobs grid scale slots stretch deadline =
    div_up (due_units jobs grid scale slots stretch deadline * (stretch.to - stretch.from)) (scale * (deadline - stretch.from))

abbrev pub units_asked : List Job → ℕ → ℕ → List WholeSlot → Piece → ℕ
units_asked jobs grid scale slots stretch = fold max 0 (map (asked jobs grid scale slots stretch) (pending_deadlines jobs scale slots stretch))

-- a stretch serves the greatest number that a pending deadline asks, times the scale
abbrev pub optimal_available : List Job → ℕ → ℕ → List WholeSlot → Piece → ℕ
optimal_available jobs grid scale slots stretch = scale * units_asked jobs grid scale slots stretch

-- The greatest quotient wasn't whole: something is asked, and no deadline asks just that much.
abbrev pub optimal_available_rounds : List Job → ℕ → ℕ → List WholeSlot → Piece → Bool
optimal_available_rounds jobs grid scale slots stretch =
    nat_lt 0 (units_asked jobs grid scale slots stretch)
    && list_all (λ deadline. not (due_units jobs grid scale slots stretch deadline * (stretch.to - stretch.from)
    == units_asked jobs grid scale slots stretch * (scale * (deadline - stretch.from)))) (pending_deadlines jobs scale slots stretch)

pub record IsOptimalAvailableRun (jobs : List Job) (grid rounded : ℕ) (slots : List WrittenSlot) : Type 0 where
  pub run : AtEachScale slots (λ scale whole. IsRunAt jobs grid scale (optimal_available jobs grid scale whole) whole)
  pub rounds : AtEachScale slots (λ scale whole. rounded ≡ count_by (optimal_available_rounds jobs grid scale whole) (stretches jobs))
