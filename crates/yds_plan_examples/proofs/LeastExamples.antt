-- Which schedules are least, tried on two jobs of one window: another schedule than the plan's that is, one that is feasible and isn't, and
-- another certificate than the plan's.
use Rattle.yds_model.proofs.Common.{◌≡◌, ◌*◌, ◌-◌, ℕ, List, [], ◌∷◌, ◌++◌, refl, arith, Job, of_whole, WrittenSlot, slots_at, IsFeasible, IsLeast, Level, IsProper, IsPlan, Speed, Window, IsJudgement}
use Rattle.yds_plan_laws.proofs.Certified.{levels_certify_the_least, least_speeds_are_one}
use Rattle.yds_examples.proofs.Tests.{proved, refuted}
use Rattle.yds_examples.proofs.TestedSchedules.{is_scale, feasible_by_test, served_in_stretches}
use Rattle.yds_examples.proofs.TestedPlans.{window_covered, proper_by_test, served_by_test, plan_by_test, is_judgement}

abbrev pub job : ℕ → ℕ → ℕ → Job
job release deadline work = record { release = release; deadline = deadline; work = work }

abbrev pub slot : ℕ → ℕ → ℕ → ℕ → WrittenSlot
slot job from to work = record { job = job; from = of_whole from; to = of_whole to; work = of_whole work }

abbrev pub level : ℕ → ℕ → ℕ → ℕ → List ℕ → Level
level work length from to members = record { work = work; length = length; pieces = record { from = from; to = to } ∷ []; members = members }

-- two jobs from 0 to 4, of work 2
abbrev pub jobs : List Job
jobs = job 0 4 2 ∷ job 0 4 2 ∷ []

-- The plan has the first one first, at the speed 1,
abbrev pub planned : List WrittenSlot
planned = slot 0 0 2 2 ∷ slot 1 2 4 2 ∷ []

-- and one level.
abbrev pub levels : List Level
levels = level 4 4 0 4 (0 ∷ 1 ∷ []) ∷ []

pub plan : IsPlan jobs planned levels
plan = plan_by_test jobs planned levels (proper_by_test jobs planned levels refl refl refl) (served_by_test jobs planned 1 refl refl) refl

-- # Another schedule that is least

-- The second job first, the first one in two slots, the second of them with a cut at no event point:
abbrev pub exchanged : List WrittenSlot
exchanged = slot 1 0 2 2 ∷ slot 0 2 3 1 ∷ slot 0 3 4 1 ∷ []

-- the plan's levels are a proper certificate of it,
exchanged_proper : IsProper jobs exchanged levels
exchanged_proper = proper_by_test jobs exchanged levels refl refl refl

-- so it is least,
pub exchanged_least : IsLeast jobs exchanged
exchanged_least = (levels_certify_the_least jobs planned exchanged levels plan).0 exchanged_proper

-- but no plan: the first job goes first in a plan.
no_plan : IsPlan jobs exchanged levels → ⊥
no_plan is = refuted (served_in_stretches jobs 1 (slots_at 1 exchanged)) refl (is.served 1 (proved (is_scale 1 exchanged) refl))

-- # One that is feasible and not least

-- The first job at twice the speed, for half the time:
abbrev pub hasty : List WrittenSlot
hasty = slot 0 0 1 2 ∷ slot 1 2 4 2 ∷ []

pub hasty_feasible : IsFeasible jobs hasty
hasty_feasible = feasible_by_test jobs hasty 1 refl refl

-- beside the plan's levels its first slot is the fault,
hasty_judged : IsJudgement jobs hasty levels (Speed 0)
hasty_judged = proved (is_judgement jobs hasty levels (Speed 0)) refl

-- since it hasn't its level's speed, so they are no proper certificate of it,
hasty_improper : IsProper jobs hasty levels → ⊥
hasty_improper is = absurd (omega (arith, is.speeds 1 (proved (is_scale 1 hasty) refl) 0 (omega arith) 0 (omega arith) (0, omega arith, refl)))

-- and it isn't least.
pub hasty_not_least : IsLeast jobs hasty → ⊥
hasty_not_least least = hasty_improper ((levels_certify_the_least jobs planned hasty levels plan).1 least)

-- # Another certificate

-- A level for each job, in the time in which the plan runs it: they are no certificate of the plan's slots, nor of any other,
abbrev pub halves : List Level
halves = level 2 2 0 2 (0 ∷ []) ∷ level 2 2 2 4 (1 ∷ []) ∷ []

-- since the first job's window isn't covered by the first piece. So a no beside other levels than a plan's says nothing of the slots, which are least.
halves_judged : IsJudgement jobs planned halves (Window 0)
halves_judged = proved (is_judgement jobs planned halves (Window 0)) refl

halves_improper : (slots : List WrittenSlot) → IsProper jobs slots halves → ⊥
halves_improper slots is = refuted (window_covered jobs halves 0) refl (is.windows 0 (omega arith))

pub planned_least : IsLeast jobs planned
planned_least = (levels_certify_the_least jobs planned planned levels plan).0 plan.proper

-- # One speed

-- The slots of the first job have the speed 1 in both least schedules: work 2 in 2 units of time, and 1 in 1.
same_speed : 2 * (3 - 2) ≡ 1 * (2 - 0)
same_speed = least_speeds_are_one jobs planned planned exchanged levels 1 0 1 plan planned_least exchanged_least (proved (is_scale 1 (planned ++ exchanged)) refl) (omega arith) (omega arith) refl

-- In the one that isn't least it has another.
other_speed : 2 * (1 - 0) ≡ 2 * (2 - 0) → ⊥
other_speed same = absurd (omega (arith, same))
