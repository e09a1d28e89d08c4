-- The policy Average Rate on a grid: the speed is the sum of work / (deadline - release) over the jobs in their windows, each
-- stretch's part of a job rounded up to a whole unit. Yao, Demers and Shenker (FOCS 1995); the grid is this program's own.
use Rattle.std.specs.Prelude.{◌≡◌, ℕ, ◌-◌, ◌*◌, ◌%◌, List, sum_by, count_by, min, Bool, nat_lt, nat_le, ◌==◌, ◌&&◌, not}
use Rattle.std.specs.List.{filter, list_any}
use Rattle.yds_model.specs.Job.{Job}
use Rattle.yds_model.specs.Slot.{WholeSlot, WrittenSlot, AtEachScale}
use Rattle.yds_model.specs.Piece.{Piece}
use Rattle.yds_model.specs.Event.{stretches}
use Rattle.yds_model.specs.Policy.{div_up, pending_units, IsRunAt}

-- the stretch lies in the job's window
abbrev pub is_live : Piece → Job → Bool
is_live stretch job = nat_le job.release stretch.from && nat_lt stretch.from job.deadline

-- the job's units in the stretch, before and after they are rounded up
abbrev pub term_numerator : ℕ → Piece → Job → ℕ
term_numerator grid stretch job = grid * job.work * (stretch.to - stretch.from)

abbrev pub term_of : ℕ → Piece → Job → ℕ
term_of grid stretch job = div_up (term_numerator grid stretch job) (job.deadline - job.release)

abbrev pub terms_of : List Job → ℕ → Piece → ℕ
terms_of jobs grid stretch = sum_by (term_of grid stretch) (filter (is_live stretch) jobs)

-- a stretch serves the sum of the terms, but no more than what is pending; both times the scale
abbrev pub average_rate : List Job → ℕ → ℕ → List WholeSlot → Piece → ℕ
average_rate jobs grid scale slots stretch = min (pending_units jobs grid scale slots stretch) (scale * terms_of jobs grid stretch)

-- some live job's term wasn't whole before it was rounded up
abbrev pub rounds_term : ℕ → Piece → Job → Bool
rounds_term grid stretch job = not (term_numerator grid stretch job % (job.deadline - job.release) == 0)

abbrev pub average_rate_rounds : List Job → ℕ → Piece → Bool
average_rate_rounds jobs grid stretch = list_any (rounds_term grid stretch) (filter (is_live stretch) jobs)

pub record IsAverageRateRun (jobs : List Job) (grid rounded : ℕ) (slots : List WrittenSlot) : Type 0 where
  pub run : AtEachScale slots (λ scale whole. IsRunAt jobs grid scale (average_rate jobs grid scale whole) whole)
  pub rounds : rounded ≡ count_by (average_rate_rounds jobs grid) (stretches jobs)
