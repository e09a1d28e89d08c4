-- A job's rate: its units by the length of its window, as whole units of a time unit and a rest. What it has in a stretch.
use Rattle.std.specs.Prelude.{◌≡◌, ℕ, ◌+◌, ◌-◌, ◌*◌, ◌/◌, ◌%◌, ◌<◌, ◌≤◌, Bool, ◌==◌, not}
use Rattle.base.specs.declared.limits.TheConstants.{MAX_TIME}
use Rattle.yds_model.specs.Job.{Job}
use Rattle.yds_model.specs.Piece.{Piece}
use Rattle.yds_model.specs.Policy.{div_up}
use Rattle.yds_avr.specs.declared.rate.Rate.{Rate}

-- how long the window is, in time units
abbrev pub window_length : Rate → ℕ
window_length rate = rate.deadline - rate.release

-- the job's units
abbrev pub rate_units : Rate → ℕ
rate_units rate = rate.whole * window_length rate + rate.rest

-- a rest by the window's length, in parts of a unit of which there are 2^64
abbrev pub rest_by_window : ℕ → ℕ → ℕ
rest_by_window rest window = rest * 18446744073709551616 / window

abbrev pub rate_of : ℕ → Job → Rate
rate_of grid job = record {
  release = job.release;
  deadline = job.deadline;
  whole = grid * job.work / (job.deadline - job.release);
  rest = grid * job.work % (job.deadline - job.release);
  fraction = rest_by_window (grid * job.work % (job.deadline - job.release)) (job.deadline - job.release);
}

pub record IsRate (rate : Rate) : Type 0 where
  pub has_window : rate.release < rate.deadline
  pub time_in_range : rate.deadline ≤ MAX_TIME
  pub less : rate.rest < window_length rate
  pub fraction_is : rate.fraction ≡ rest_by_window rate.rest (window_length rate)
  pub few : rate_units rate ≤ 1000000000000

-- the stretch lies in the job's window
pub record IsLive (stretch : Piece) (rate : Rate) : Type 0 where
  pub is_rate : IsRate rate
  pub released : rate.release ≤ stretch.from
  pub due : stretch.to ≤ rate.deadline

-- the job's units in the stretch, rounded up, and whether they weren't whole
abbrev pub rate_term : Piece → Rate → ℕ
rate_term stretch rate = div_up (rate_units rate * (stretch.to - stretch.from)) (window_length rate)

abbrev pub rate_rounds : Piece → Rate → Bool
rate_rounds stretch rate = not (rate_units rate * (stretch.to - stretch.from) % window_length rate == 0)
