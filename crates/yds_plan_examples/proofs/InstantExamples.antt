-- How fast schedules run at each instant, tried on one and two jobs of one window: least schedules of the same jobs, plans of a job and of one more,
-- and what is asked of these.
use Rattle.yds_model.proofs.Common.{◌*◌, ◌-◌, ℕ, suc, List, [], ◌∷◌, ◌++◌, refl, arith, Job, of_whole, IsScale, WrittenSlot, WholeSlot, slots_at, IsLeast, Level, IsPlan}
use Rattle.yds_plan_laws.specs.InstantLaws.{IsAsFastAt}
use Rattle.yds_plan_laws.proofs.Certified.{levels_certify_the_least}
use Rattle.yds_plan_laws.proofs.Instants.{one_speed_at_each_instant}
use Rattle.yds_plan_laws.proofs.MoreJobs.{more_jobs_never_slow}
use Rattle.yds_examples.proofs.Tests.{Test, test_le, test_like, test_both, test_any, proved, refuted}
use Rattle.yds_examples.proofs.TestedSchedules.{is_scale}
use Rattle.yds_examples.proofs.TestedPlans.{proper_by_test, served_by_test, plan_by_test}
use Rattle.yds_plan_examples.proofs.LeastExamples.{job, slot, level, jobs, planned, levels, plan, planned_least, exchanged, exchanged_least, hasty}

-- whether slots are as fast at a time
abbrev as_fast : (p q time : ℕ) (slots : List WholeSlot) → Test (IsAsFastAt p q time slots)
as_fast p q time slots =
    test_any (λ (one : WholeSlot).
    test_like (λ h. (h.0, h.1.0, h.1.1)) (λ h. (h.0, (h.1, h.2)))
    (test_both (test_le one.from time) (test_both (test_le (suc time) one.to) (test_le (p * (one.to - one.from)) (q * one.work))))) slots

-- # One speed at each instant

-- The plan and another least schedule run other jobs at the time 0, both at the speed 1.
plan_runs : IsAsFastAt 1 1 0 (slots_at 1 planned)
plan_runs = proved (as_fast 1 1 0 (slots_at 1 planned)) refl

other_runs : IsAsFastAt 1 1 0 (slots_at 1 exchanged)
other_runs = one_speed_at_each_instant jobs planned planned exchanged levels 1 0 1 1 plan planned_least exchanged_least (proved (is_scale 1 (planned ++ exchanged)) refl) (omega arith) plan_runs

-- and no faster
no_faster : IsAsFastAt 2 1 0 (slots_at 1 exchanged) → ⊥
no_faster = refuted (as_fast 2 1 0 (slots_at 1 exchanged)) refl

-- Slots that are feasible and not least run twice as fast there,
hasty_runs : IsAsFastAt 2 1 0 (slots_at 1 hasty)
hasty_runs = proved (as_fast 2 1 0 (slots_at 1 hasty)) refl

plan_is_slower : IsAsFastAt 2 1 0 (slots_at 1 planned) → ⊥
plan_is_slower = refuted (as_fast 2 1 0 (slots_at 1 planned)) refl

-- and not at the time 1, where the plan runs. So both schedules have to be least.
plan_runs_on : IsAsFastAt 1 1 1 (slots_at 1 planned)
plan_runs_on = proved (as_fast 1 1 1 (slots_at 1 planned)) refl

hasty_rests : IsAsFastAt 1 1 1 (slots_at 1 hasty) → ⊥
hasty_rests = refuted (as_fast 1 1 1 (slots_at 1 hasty)) refl

-- A job of no work may have a slot, which gives none: that runs at the speed 0, where the plan runs nothing. So the speed has to be above 0.
abbrev free : List Job
free = job 0 1 0 ∷ []

free_plan : IsPlan free [] []
free_plan = plan_by_test free [] [] (proper_by_test free [] [] refl refl refl) (served_by_test free [] 1 refl refl) refl

abbrev idle : List WrittenSlot
idle = slot 0 0 1 0 ∷ []

idle_least : IsLeast free idle
idle_least = (levels_certify_the_least free [] idle [] free_plan).0 (proper_by_test free idle [] refl refl refl)

none_least : IsLeast free []
none_least = (levels_certify_the_least free [] [] [] free_plan).0 free_plan.proper

idle_runs : IsAsFastAt 0 1 0 (slots_at 1 idle)
idle_runs = proved (as_fast 0 1 0 (slots_at 1 idle)) refl

none_runs : IsAsFastAt 0 1 0 (slots_at 1 []) → ⊥
none_runs = refuted (as_fast 0 1 0 (slots_at 1 [])) refl

-- At a number that is no scale of the slots their times aren't what they are: 1/2 is read as 0.
abbrev cut : List WrittenSlot
cut =
    record { job = 0; from = of_whole 0; to = record { whole = 0; num = 1; den = 2 }; work = record { whole = 0; num = 1; den = 2 } }
    ∷ record { job = 0; from = record { whole = 0; num = 1; den = 2 }; to = of_whole 2; work = record { whole = 1; num = 1; den = 2 } } ∷ slot 1 2 4 2 ∷ []

cut_least : IsLeast jobs cut
cut_least = (levels_certify_the_least jobs planned cut levels plan).0 (proper_by_test jobs cut levels refl refl refl)

cut_misread : IsAsFastAt 1 1 0 (slots_at 1 cut) → ⊥
cut_misread = refuted (as_fast 1 1 0 (slots_at 1 cut)) refl

no_scale : IsScale 1 (planned ++ cut) → ⊥
no_scale = refuted (is_scale 1 (planned ++ cut)) refl

-- # More jobs never slow any instant

-- The plan of the first job alone runs it at half the speed,
abbrev one_job : List Job
one_job = job 0 4 2 ∷ []

abbrev one_slot : List WrittenSlot
one_slot = slot 0 0 4 2 ∷ []

abbrev one_level : List Level
one_level = level 2 4 0 4 (0 ∷ []) ∷ []

one_plan : IsPlan one_job one_slot one_level
one_plan = plan_by_test one_job one_slot one_level (proper_by_test one_job one_slot one_level refl refl refl) (served_by_test one_job one_slot 1 refl refl) refl

one_runs : IsAsFastAt 1 2 3 (slots_at 1 one_slot)
one_runs = proved (as_fast 1 2 3 (slots_at 1 one_slot)) refl

-- so that of both is as fast, and is faster.
both_run : IsAsFastAt 1 2 3 (slots_at 1 planned)
both_run = more_jobs_never_slow one_job one_job one_slot planned one_level levels 1 3 1 2 one_plan plan (proved (is_scale 1 (one_slot ++ planned)) refl) one_runs

faster : IsAsFastAt 1 1 3 (slots_at 1 planned)
faster = proved (as_fast 1 1 3 (slots_at 1 planned)) refl

one_is_slower : IsAsFastAt 1 1 3 (slots_at 1 one_slot) → ⊥
one_is_slower = refuted (as_fast 1 1 3 (slots_at 1 one_slot)) refl

-- Beside no more jobs than its own `hasty`, which is no plan, is faster at one time than the plan, and at another slower: `hasty_runs` and
-- `plan_is_slower`, `plan_runs_on` and `hasty_rests`. So both have to be plans.

-- A shorter window is no such law: the job's plan in half the time is faster up to there, and then runs nothing.
abbrev short_job : List Job
short_job = job 0 2 2 ∷ []

abbrev short_slot : List WrittenSlot
short_slot = slot 0 0 2 2 ∷ []

abbrev short_level : List Level
short_level = level 2 2 0 2 (0 ∷ []) ∷ []

short_plan : IsPlan short_job short_slot short_level
short_plan = plan_by_test short_job short_slot short_level (proper_by_test short_job short_slot short_level refl refl refl) (served_by_test short_job short_slot 1 refl refl) refl

short_runs : IsAsFastAt 1 1 1 (slots_at 1 short_slot)
short_runs = proved (as_fast 1 1 1 (slots_at 1 short_slot)) refl

short_rests : IsAsFastAt 1 2 3 (slots_at 1 short_slot) → ⊥
short_rests = refuted (as_fast 1 2 3 (slots_at 1 short_slot)) refl
