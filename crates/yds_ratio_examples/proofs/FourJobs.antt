-- Four jobs that are all due at 28. Both policies run at 5, 14, 30 and 71 and spend 14,383 by the square; the plan spends 8,281 + 79/102.
use Rattle.yds_model.proofs.Common.{◌≡◌, ℕ, ◌+◌, ◌*◌, List, [], ◌∷◌, ◌++◌, ◌≤◌, refl, arith, Job, of_whole, of_parts, IsSameQuotient, WrittenSlot, IsScale, slots_at, IsFeasible, IsRunAt, average_rate, IsAverageRateRun, optimal_available, IsOptimalAvailableRun, excess, work_of, Level, IsProper, IsPlan}
use Rattle.yds_energy.proofs.Finer.{each_scale_of}
use Rattle.yds_energy.proofs.RunScale.{average_rate_run_free, optimal_available_run_free, optimal_available_rounds_free}
use Rattle.yds_ratios.specs.SpendingByPower.{spending, SpendsAtMost, time_above, faster_throughout}
use Rattle.yds_ratios.proofs.PlansByPower.{plans_spend_least}
use Rattle.yds_ratios.proofs.AboveSpeed.{optimal_available_above_a_speed}
use Rattle.yds_ratios.proofs.OptimalAvailableSpends.{optimal_available_of_two_speeds, optimal_available_spends}
use Rattle.yds_ratios.proofs.AverageRateSpends.{average_rate_spends}
use Rattle.yds_examples.proofs.Tests.{proved}
use Rattle.yds_examples.proofs.TestedSchedules.{is_scale, run_at, feasible_by_test}
use Rattle.yds_examples.proofs.TestedPlans.{proper_by_test, served_by_test, plan_by_test}
use Rattle.yds_ratio_examples.proofs.Spendings.{job, slot, spends_by_test, more_by_test}

-- the jobs
abbrev pub jobs : List Job
jobs =
    job 0 28 140 ∷ job 17 28 99 ∷ job 23 28 80 ∷ job 26 28 82 ∷ []

-- both policies' run
abbrev pub run : List WrittenSlot
run =
    slot 0 (of_whole 0) (of_whole 17) (of_whole 85) ∷ slot 0 (of_whole 17) (of_parts 293 14) (of_whole 55)
    ∷ slot 1 (of_parts 293 14) (of_whole 23) (of_whole 29) ∷ slot 1 (of_whole 23) (of_parts 76 3) (of_whole 70)
    ∷ slot 2 (of_parts 76 3) (of_whole 26) (of_whole 20) ∷ slot 2 (of_whole 26) (of_parts 1906 71) (of_whole 60)
    ∷ slot 3 (of_parts 1906 71) (of_whole 28) (of_whole 82) ∷ []

-- a common multiple of their denominators
abbrev pub scale : ℕ
scale = 2982

-- is a scale of them
run_scale : IsScale scale run
run_scale = proved (is_scale scale run) refl

-- at that scale they are a run of Average Rate
rate_at_scale : IsRunAt jobs 1 scale (average_rate jobs 1 scale (slots_at scale run)) (slots_at scale run)
rate_at_scale = proved (run_at jobs 1 scale (average_rate jobs 1 scale (slots_at scale run)) (slots_at scale run)) refl

-- so they are at each, and it never rounded
pub rate_run : IsAverageRateRun jobs 1 0 run
rate_run = record { run = each_scale_of _ (average_rate_run_free jobs 1) run scale run_scale rate_at_scale; rounds = refl }

-- They are one of Optimal Available, too,
available_at_scale : IsRunAt jobs 1 scale (optimal_available jobs 1 scale (slots_at scale run)) (slots_at scale run)
available_at_scale = proved (run_at jobs 1 scale (optimal_available jobs 1 scale (slots_at scale run)) (slots_at scale run)) refl

-- at each scale, and it never rounded.
pub available_run : IsOptimalAvailableRun jobs 1 0 run
available_run = record {
  run = each_scale_of _ (optimal_available_run_free jobs 1) run scale run_scale available_at_scale;
  rounds = each_scale_of _ (optimal_available_rounds_free jobs 1 0) run scale run_scale refl;
}

-- the plan's slots: each job in a time of its own
abbrev pub plan : List WrittenSlot
plan =
    slot 0 (of_whole 0) (of_whole 17) (of_whole 140) ∷ slot 1 (of_whole 17) (of_whole 23) (of_whole 99)
    ∷ slot 2 (of_whole 23) (of_whole 26) (of_whole 80) ∷ slot 3 (of_whole 26) (of_whole 28) (of_whole 82) ∷ []

-- it is feasible
pub plan_feasible : IsFeasible jobs plan
plan_feasible = feasible_by_test jobs plan 1 refl refl

-- and its levels, from the fastest on
abbrev levels : List Level
levels =
    record { work = 82; length = 2; pieces = record { from = 26; to = 28 } ∷ []; members = 3 ∷ [] }
    ∷ record { work = 80; length = 3; pieces = record { from = 23; to = 26 } ∷ []; members = 2 ∷ [] }
    ∷ record { work = 99; length = 6; pieces = record { from = 17; to = 23 } ∷ []; members = 1 ∷ [] }
    ∷ record { work = 140; length = 17; pieces = record { from = 0; to = 17 } ∷ []; members = 0 ∷ [] } ∷ []

-- a proper certificate
proper : IsProper jobs plan levels
proper = proper_by_test jobs plan levels refl refl refl

-- so they are a plan
is_plan : IsPlan jobs plan levels
is_plan = plan_by_test jobs plan levels proper (served_by_test jobs plan 1 refl refl) refl

-- # What they spend

-- the run, in the scale's parts
run_spent : IsSameQuotient (spending 2 (slots_at scale run)) (record { num = 14383 * scale; den = 1 })
run_spent = refl

-- the plan: 8,281 + 79/102
plan_spent : IsSameQuotient (spending 2 (slots_at 1 plan)) (record { num = 844741; den = 102 })
plan_spent = refl

-- the run, over the plan: 1,467,066/844,741, some 1.737
ratio : (spending 2 (slots_at scale run)).num * (spending 2 (slots_at scale plan)).den * 844741
    ≡ 1467066 * (spending 2 (slots_at scale plan)).num * (spending 2 (slots_at scale run)).den
ratio = refl

-- So it spends at most twice as much, but not at most as much.
twice : SpendsAtMost 2 2 run plan × (SpendsAtMost 2 1 run plan → ⊥)
twice = (spends_by_test 2 2 scale run plan refl refl refl, more_by_test 2 1 scale run plan refl refl)

-- By the cube it spends between 3 and 4 times as much.
cubes : SpendsAtMost 3 4 run plan × (SpendsAtMost 3 3 run plan → ⊥)
cubes = (spends_by_test 3 4 scale run plan refl refl refl, more_by_test 3 3 scale run plan refl refl)

-- # By the laws

-- what a run is includes that it is feasible
run_feasible : IsFeasible jobs run
run_feasible = feasible_by_test jobs run scale refl refl

-- The plan spends at most what the run does, by every power,
plan_least : SpendsAtMost 2 1 plan run × SpendsAtMost 3 1 plan run
plan_least = (
  plans_spend_least 2 jobs plan run levels (omega arith) is_plan run_feasible,
  plans_spend_least 3 jobs plan run levels (omega arith) is_plan run_feasible,
)

-- the run at most 4 times the plan by the square and 27 times by the cube, as one of Optimal Available,
available : SpendsAtMost 2 4 run plan × SpendsAtMost 3 27 run plan
available = (
  optimal_available_spends 2 jobs 1 run plan (omega arith) (omega arith) available_run plan_feasible,
  optimal_available_spends 3 jobs 1 run plan (omega arith) (omega arith) available_run plan_feasible,
)

-- and at most 8 times and 108 times, as one of Average Rate.
rate : SpendsAtMost 2 8 run plan × SpendsAtMost 3 108 run plan
rate = (
  average_rate_spends 2 jobs 1 run plan (omega arith) (omega arith) rate_run plan_feasible,
  average_rate_spends 3 jobs 1 run plan (omega arith) (omega arith) rate_run plan_feasible,
)

-- Where power is speed, all feasible schedules spend their work.
work_spent : SpendsAtMost 1 1 run plan × SpendsAtMost 1 1 plan run
work_spent = (
  optimal_available_spends 1 jobs 1 run plan (omega arith) (omega arith) available_run plan_feasible,
  plans_spend_least 1 jobs plan run levels (omega arith) is_plan run_feasible,
)

-- # Above a speed

-- From 17 on the run is faster than 10. So it is throughout the windows of all jobs but the first.
faster : faster_throughout jobs 10 1 scale (slots_at scale run) ≡ 1 ∷ 2 ∷ 3 ∷ []
faster = refl

-- their work is 261
faster_work : work_of jobs (1 ∷ 2 ∷ 3 ∷ []) ≡ 261
faster_work = refl

-- and above 10 the run does 4 * 6 + 20 * 3 + 61 * 2, which is 206
run_above : excess 10 1 (slots_at scale run) ≡ 206 * scale
run_above = refl

-- at most that, by the law
above : excess 10 1 (slots_at scale run) ≤ 1 * scale * work_of jobs (faster_throughout jobs 10 1 scale (slots_at scale run))
above = (optimal_available_above_a_speed jobs 1 run (omega arith) available_run).holds scale run_scale 10 1 (omega arith)

-- It is faster than 10 for 11 units of time, and above 5 the plan does 261.
plan_above : (excess 5 1 (slots_at scale plan) ≡ 261 * scale) × (time_above 10 1 (slots_at scale run) ≡ 11 * scale)
plan_above = (refl, refl)

-- 206 is at most 261 and 5 times 11, by the law of two speeds
two_speeds : 1 * excess 10 1 (slots_at scale run) ≤ 1 * excess 5 1 (slots_at scale plan) + 1 * 5 * time_above 10 1 (slots_at scale run)
two_speeds = optimal_available_of_two_speeds jobs 1 scale 10 1 5 1 run plan (omega arith) available_run plan_feasible
    (proved (is_scale scale (run ++ plan)) refl) (omega arith) (omega arith)
