-- Average Rate itself, without a grid: its speed in each stretch, and what it spends at that. And the speed of the units that a run rounds up.
-- Yao, Demers and Shenker (FOCS 1995); the grid is this program's own.
use Rattle.std.specs.Prelude.{ℕ, ◌-◌, ◌*◌, ◌^◌, List, [], ◌∷◌, map, count_by}
use Rattle.std.specs.List.{filter}
use Rattle.yds_model.specs.Job.{Job}
use Rattle.yds_model.specs.Scale.{Quotient}
use Rattle.yds_model.specs.Slot.{WholeSlot}
use Rattle.yds_model.specs.Piece.{Piece}
use Rattle.yds_model.specs.Event.{stretches}
use Rattle.yds_model.specs.AverageRate.{is_live, rounds_term}
use Rattle.yds_model.specs.Comparison.{work_in}
use Rattle.yds_ratios.specs.SpendingByPower.{sum_of_quotients}

-- quotients together
abbrev pub sum_of : List Quotient → Quotient
sum_of [] = record { num = 0; den = 1 }
sum_of (x ∷ xs) = sum_of_quotients x (sum_of xs)

-- a quotient some times
abbrev pub multiple_of_quotient : ℕ → Quotient → Quotient
multiple_of_quotient factor x = record { num = factor * x.num; den = x.den }

-- a job's work over the length of its window
abbrev pub rate_of : Job → Quotient
rate_of job = record { num = job.work; den = job.deadline - job.release }

-- the policy's speed in a stretch: the rates of the jobs in whose windows it lies, together
abbrev pub policy_speed : List Job → Piece → Quotient
policy_speed jobs stretch = sum_of (map rate_of (filter (is_live stretch) jobs))

-- one unit of the grid for each of these jobs whose part isn't whole before it is rounded up, done in all of the stretch
abbrev pub rounded_speed : List Job → ℕ → Piece → Quotient
rounded_speed jobs grid stretch = record { num = count_by (rounds_term grid stretch) (filter (is_live stretch) jobs); den = grid * (stretch.to - stretch.from) }

-- the speed of what slots of a scale do in a stretch, taken over all of it
abbrev pub speed_in : ℕ → List WholeSlot → Piece → Quotient
speed_in scale slots stretch = record { num = work_in scale stretch slots; den = (stretch.to - stretch.from) * scale }

-- what so much time at a speed spends, where power is speed to an exponent
abbrev pub spent_at : ℕ → ℕ → Quotient → Quotient
spent_at exponent time speed = record { num = time * speed.num ^ exponent; den = speed.den ^ exponent }

-- what all stretches spend, each at a speed of its own
abbrev pub spent_in_stretches : ℕ → (Piece → Quotient) → List Piece → Quotient
spent_in_stretches exponent speed all = sum_of (map (λ stretch. spent_at exponent (stretch.to - stretch.from) (speed stretch)) all)

-- what the policy itself spends
abbrev pub policy_spends : ℕ → List Job → Quotient
policy_spends exponent jobs = spent_in_stretches exponent (policy_speed jobs) (stretches jobs)

-- what the units that a run rounds up would spend alone
abbrev pub rounded_spends : ℕ → List Job → ℕ → Quotient
rounded_spends exponent jobs grid = spent_in_stretches exponent (rounded_speed jobs grid) (stretches jobs)
