-- The jobs' rates in three parts: those that are live, those that are over, and those that are to come.
use Rattle.std.specs.Prelude.{◌≡◌, ℕ, ◌+◌, ◌-◌, ◌<◌, ◌≤◌, List, ◌++◌, length, map, drop, sum_by, All, vec_capacity}
use Rattle.std.specs.List.{slice_index_or}
use Rattle.std.specs.List.Sorted.{IsPermutation, IsNonDecreasingBy}
use Rattle.base.specs.declared.limits.TheConstants.{MAX_GRID, MAX_JOBS, MAX_TIME}
use Rattle.yds_model.specs.Job.{Job}
use Rattle.yds_model.specs.Event.{stretches, stretch_at}
use Rattle.yds_avr.specs.declared.rate.Rate.{Rate}
use Rattle.yds_avr.specs.declared.roster.Roster.{Roster}
use Rattle.yds_avr.specs.Rate.{rate_of, IsRate}

abbrev pub no_rate : Rate
no_rate = record { release = 0; deadline = 0; whole = 0; rest = 0; fraction = 0 }

abbrev pub rate_at : List Rate → ℕ → Rate
rate_at order place = slice_index_or order place no_rate

-- the rates of all jobs, in order of their numbers
abbrev pub rates_of : ℕ → List Job → List Rate
rates_of grid jobs = map (rate_of grid) jobs

abbrev pub HaveFallingDeadlines : List Rate → Type 0
HaveFallingDeadlines rates = IsNonDecreasingBy (λ rate. MAX_TIME - rate.deadline) rates

-- the rates of some jobs, which are no more than there may be
pub record AreRates (rates : List Rate) : Type 0 where
  pub each : All IsRate rates
  pub few : length rates ≤ MAX_JOBS

-- Of those that have arrived all are released by this time, and those that aren't live are due by it.
pub record AreParts (order live : List Rate) (arrived whole capacity time : ℕ) : Type 0 where
  pub within : arrived ≤ length order
  pub rising : IsNonDecreasingBy (λ rate. rate.release) order
  pub together : whole ≡ sum_by (λ rate. rate.whole) live
  pub room : length live + (length order - arrived) ≤ capacity
  pub over : List Rate
  pub same : IsPermutation order (live ++ (over ++ drop arrived order))
  pub come : All (λ rate. rate.release ≤ time) live
  pub done : All (λ rate. rate.deadline ≤ time) over

-- the same, where those that are live stand in falling order of their deadlines
pub record IsRoster (order live : List Rate) (arrived whole capacity time : ℕ) : Type 0 where
  pub parts : AreParts order live arrived whole capacity time
  pub falling : HaveFallingDeadlines live

abbrev pub IsRosterAt : Roster → ℕ → Type 0
IsRosterAt roster time = IsRoster roster.order.items roster.live.items roster.arrived roster.whole (vec_capacity roster.live) time

-- those of the jobs before the stretch with this number
pub record IsRosterBefore (jobs : List Job) (grid : ℕ) (roster : Roster) (number : ℕ) : Type 0 where
  pub grid_in_range : grid ≤ MAX_GRID
  pub same : IsPermutation (rates_of grid jobs) roster.order.items
  pub stands : (later : ℕ) → number ≤ later → later < length (stretches jobs) → IsRosterAt roster (stretch_at jobs later).from
