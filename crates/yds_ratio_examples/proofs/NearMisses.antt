-- Near misses of the laws: a run that rounded, a schedule that isn't feasible, one that is no plan, an exponent of 0, operating points on the
-- square, and a number that is no scale.
use Rattle.yds_model.proofs.Common.{◌≡◌, ◌*◌, ◌+◌, ◌≤◌, List, [], ◌∷◌, refl, arith, Job, of_whole, of_parts, WrittenSlot, IsScale, slots_at, IsFeasible, Point, IsSpent, average_rate, IsAverageRateRun, optimal_available, IsOptimalAvailableRun, excess, work_of}
use Rattle.yds_energy.proofs.Finer.{each_scale_of}
use Rattle.yds_energy.proofs.RunScale.{average_rate_run_free, optimal_available_run_free, optimal_available_rounds_free}
use Rattle.yds_energy.proofs.SpentScale.{spent_free}
use Rattle.yds_ratios.specs.SpendingByPower.{spending, IsAtMostTimes, SpendsAtMost, time_above, faster_throughout}
use Rattle.yds_examples.proofs.Tests.{proved}
use Rattle.yds_examples.proofs.TestedSchedules.{is_scale, run_at, feasible_by_test, not_feasible_by_test}
use Rattle.yds_ratio_examples.proofs.Spendings.{job, slot, at_most_times, even, hasty, spends_by_test, more_by_test}
use Rattle.yds_ratio_examples.proofs.FourJobs.{run, scale, plan}

-- # A run that rounded

-- a job from 0 to 9 with work 1, and one from 0 to 1 without work, which makes 1 an event point
abbrev two : List Job
two = job 0 9 1 ∷ job 0 1 0 ∷ []

-- On the grid 1 both policies round the ninth of a unit up, and all is done by 1.
abbrev early : List WrittenSlot
early = slot 0 (of_whole 0) (of_whole 1) (of_whole 1) ∷ []

early_scale : IsScale 1 early
early_scale = proved (is_scale 1 early) refl

-- Average Rate has rounded at both event points, although the second stretch has nothing to serve,
early_rate : IsAverageRateRun two 1 2 early
early_rate = record {
  run = each_scale_of _ (average_rate_run_free two 1) early 1 early_scale
      (proved (run_at two 1 1 (average_rate two 1 1 (slots_at 1 early)) (slots_at 1 early)) refl);
  rounds = refl;
}

-- and Optimal Available at the first.
early_available : IsOptimalAvailableRun two 1 1 early
early_available = record {
  run = each_scale_of _ (optimal_available_run_free two 1) early 1 early_scale
      (proved (run_at two 1 1 (optimal_available two 1 1 (slots_at 1 early)) (slots_at 1 early)) refl);
  rounds = each_scale_of _ (optimal_available_rounds_free two 1 1) early 1 early_scale refl;
}

-- All of the window is enough,
abbrev late : List WrittenSlot
late = slot 0 (of_whole 0) (of_whole 9) (of_whole 1) ∷ []

late_feasible : IsFeasible two late
late_feasible = feasible_by_test two late 1 refl refl

-- and costs a ninth: neither 4 times that nor 8 times is enough for the runs.
rounded_spends : (SpendsAtMost 2 4 early late → ⊥) × (SpendsAtMost 2 8 early late → ⊥)
rounded_spends = (more_by_test 2 4 1 early late refl refl, more_by_test 2 8 1 early late refl refl)

-- In all of its window the run is faster than 1/2 for the job without work alone,
faster : faster_throughout two 1 2 1 (slots_at 1 early) ≡ 1 ∷ []
faster = refl

-- but it does something above 1/2.
above : excess 1 2 (slots_at 1 early) ≤ 2 * 1 * work_of two (faster_throughout two 1 2 1 (slots_at 1 early)) → ⊥
above most = absurd (omega (arith, most))

-- And it does more above 1/2 than the other schedule above 1/9 and 1/9 for as long as the run is faster than 1/2.
two_speeds : 9 * excess 1 2 (slots_at 1 early) ≤ 2 * excess 1 9 (slots_at 1 late) + 2 * 1 * time_above 1 2 (slots_at 1 early) → ⊥
two_speeds most = absurd (omega (arith, most))

-- # A schedule that isn't feasible

-- a job from 0 to 1 with work 1
abbrev one : List Job
one = job 0 1 1 ∷ []

-- both policies' run never rounded
one_rate : IsAverageRateRun one 1 0 early
one_rate = record {
  run = each_scale_of _ (average_rate_run_free one 1) early 1 early_scale
      (proved (run_at one 1 1 (average_rate one 1 1 (slots_at 1 early)) (slots_at 1 early)) refl);
  rounds = refl;
}

one_available : IsOptimalAvailableRun one 1 0 early
one_available = record {
  run = each_scale_of _ (optimal_available_run_free one 1) early 1 early_scale
      (proved (run_at one 1 1 (optimal_available one 1 1 (slots_at 1 early)) (slots_at 1 early)) refl);
  rounds = each_scale_of _ (optimal_available_rounds_free one 1 0) early 1 early_scale refl;
}

-- What runs on after the deadline costs a ninth of it, and isn't feasible.
late_refused : IsFeasible one late → ⊥
late_refused = not_feasible_by_test one late 1 refl refl

-- # No plan

-- Of a job from 0 to 4 with work 4, a schedule at twice the speed for half the time is feasible, too,
both_feasible : IsFeasible (job 0 4 4 ∷ []) even × IsFeasible (job 0 4 4 ∷ []) hasty
both_feasible = (feasible_by_test (job 0 4 4 ∷ []) even 1 refl refl, feasible_by_test (job 0 4 4 ∷ []) hasty 1 refl refl)

-- but spends more than the other.
hasty_spends : SpendsAtMost 2 1 hasty even → ⊥
hasty_spends = more_by_test 2 1 1 hasty even refl refl

-- # One less

-- Where power is speed, the factor of both policies is 1, and 0 isn't enough.
not_nothing : SpendsAtMost 1 0 run plan → ⊥
not_nothing = more_by_test 1 0 scale run plan refl refl

-- # An exponent of 0

-- By it each slot would spend 1, and the 7 slots of a run more than the 4 of a plan: the laws ask for at least 1.
slots_counted : (spending 0 (slots_at scale run) ≡ record { num = 7; den = 1 }) × (spending 0 (slots_at scale plan) ≡ record { num = 4; den = 1 })
    × (SpendsAtMost 0 1 run plan → ⊥)
slots_counted = (refl, refl, more_by_test 0 1 scale run plan refl refl)

-- # Operating points on the square

-- Two jobs, the second known from 2 on.
abbrev both : List Job
both = job 0 4 2 ∷ job 2 4 2 ∷ []

-- Both policies run at 1/2 until 2, and at 3/2 then,
abbrev waiting : List WrittenSlot
waiting = slot 0 (of_whole 0) (of_whole 2) (of_whole 1) ∷ slot 0 (of_whole 2) (of_parts 8 3) (of_whole 1) ∷ slot 1 (of_parts 8 3) (of_whole 4) (of_whole 2) ∷ []

waiting_scale : IsScale 3 waiting
waiting_scale = proved (is_scale 3 waiting) refl

-- and never round on the grid 4.
waiting_rate : IsAverageRateRun both 4 0 waiting
waiting_rate = record {
  run = each_scale_of _ (average_rate_run_free both 4) waiting 3 waiting_scale
      (proved (run_at both 4 3 (average_rate both 4 3 (slots_at 3 waiting)) (slots_at 3 waiting)) refl);
  rounds = refl;
}

waiting_available : IsOptimalAvailableRun both 4 0 waiting
waiting_available = record {
  run = each_scale_of _ (optimal_available_run_free both 4) waiting 3 waiting_scale
      (proved (run_at both 4 3 (optimal_available both 4 3 (slots_at 3 waiting)) (slots_at 3 waiting)) refl);
  rounds = each_scale_of _ (optimal_available_rounds_free both 4 0) waiting 3 waiting_scale refl;
}

-- The plan runs at 1.
abbrev steady : List WrittenSlot
steady = slot 0 (of_whole 0) (of_whole 2) (of_whole 2) ∷ slot 1 (of_whole 2) (of_whole 4) (of_whole 2) ∷ []

steady_scale : IsScale 1 steady
steady_scale = proved (is_scale 1 steady) refl

-- By the square the run spends 5, and the plan 4.
by_the_square : SpendsAtMost 2 4 waiting steady
by_the_square = spends_by_test 2 4 3 waiting steady refl refl refl

-- The power of each of these points is the square of its speed. Between two of them it goes in a straight line.
abbrev squares : List Point
squares = record { speed = 0; power = 0 } ∷ record { speed = 1; power = 1 } ∷ record { speed = 100; power = 10000 } ∷ []

-- On them the plan spends 4, all at the speed 1,
steady_spends : IsSpent both squares steady (record { energy = of_whole 4; times = of_whole 0 ∷ of_whole 4 ∷ of_whole 0 ∷ [] })
steady_spends = each_scale_of _ (spent_free both squares _ (omega arith)) steady 1 steady_scale (record { energy = refl; times = refl })

-- and the run 104, with 1/99 of a unit of time at the speed 100: 26 times as much, where the laws' factors are 4 and 8.
waiting_spends : IsSpent both squares waiting (record { energy = of_whole 104; times = of_whole 1 ∷ of_parts 296 99 ∷ of_parts 1 99 ∷ [] })
waiting_spends = each_scale_of _ (spent_free both squares _ (omega arith)) waiting 3 waiting_scale (record { energy = refl; times = refl })

-- # A number that is no scale

-- At 1 a slot that ends at 1+1/3 seems to end at 1.
abbrev thirds : List WrittenSlot
thirds = slot 0 (of_whole 0) (of_parts 4 3) (of_parts 4 3) ∷ slot 0 (of_parts 4 3) (of_whole 4) (of_parts 8 3) ∷ []

-- work 4 in 5 units of time
abbrev slower : List WrittenSlot
slower = slot 0 (of_whole 0) (of_whole 5) (of_whole 4) ∷ []

-- The comparison there would say that the first spends at most what the second does, which isn't so.
no_scale : IsAtMostTimes 1 (spending 2 (slots_at 1 thirds)) (spending 2 (slots_at 1 slower)) × (SpendsAtMost 2 1 thirds slower → ⊥)
no_scale = (proved (at_most_times 1 (spending 2 (slots_at 1 thirds)) (spending 2 (slots_at 1 slower))) refl, more_by_test 2 1 3 thirds slower refl refl)
