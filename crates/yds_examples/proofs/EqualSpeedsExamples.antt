-- The one form of a plan where two jobs have the same speed: x from 0 to 2 and y from 2 to 4, each with work 2.
use Rattle.yds_model.proofs.Common.{List, [], ◌∷◌, refl, arith, Job, of_whole, WrittenSlot, IsFeasible, Level, no_level, IsProper, IsPlan}
use Rattle.yds_examples.proofs.Tests.{refuted}
use Rattle.yds_examples.proofs.TestedSchedules.{feasible_by_test}
use Rattle.yds_examples.proofs.TestedPlans.{slower, proper_by_test, served_by_test, plan_by_test}

-- x and y
abbrev jobs : List Job
jobs = record { release = 0; deadline = 2; work = 2 } ∷ record { release = 2; deadline = 4; work = 2 } ∷ []

-- each runs over its window
abbrev slots : List WrittenSlot
slots =
    record { job = 0; from = of_whole 0; to = of_whole 2; work = of_whole 2 }
    ∷ record { job = 1; from = of_whole 2; to = of_whole 4; work = of_whole 2 } ∷ []

-- each gets its work
feasible : IsFeasible jobs slots
feasible = feasible_by_test jobs slots 1 refl refl

-- both in one level, of one piece: this is the plan
abbrev together : List Level
together = record { work = 4; length = 4; pieces = record { from = 0; to = 4 } ∷ []; members = 0 ∷ 1 ∷ [] } ∷ []

-- by the laws of scale and of tests
plan : IsPlan jobs slots together
plan =
    plan_by_test jobs slots together (proper_by_test jobs slots together refl refl refl) (served_by_test jobs slots 1 refl refl) refl

-- Each in a level of its own: this is proper,
abbrev apart : List Level
apart =
    record { work = 2; length = 2; pieces = record { from = 0; to = 2 } ∷ []; members = 0 ∷ [] }
    ∷ record { work = 2; length = 2; pieces = record { from = 2; to = 4 } ∷ []; members = 1 ∷ [] } ∷ []

-- since its level may have the same speed
apart_proper : IsProper jobs slots apart
apart_proper = proper_by_test jobs slots apart refl refl refl

-- but no plan, since the second level isn't slower.
apart_no_plan : IsPlan jobs slots apart → ⊥
apart_no_plan plan = refuted (slower apart 1) refl (plan.falling 1 (omega arith))

-- One level of two pieces that touch: this is proper,
abbrev touching : List Level
touching = record { work = 4; length = 4; pieces = record { from = 0; to = 2 } ∷ record { from = 2; to = 4 } ∷ []; members = 0 ∷ 1 ∷ [] } ∷ []

-- since pieces may touch
touching_proper : IsProper jobs slots touching
touching_proper = proper_by_test jobs slots touching refl refl refl

-- but no plan.
touching_no_plan : IsPlan jobs slots touching → ⊥
touching_no_plan plan = let apart = plan.pieces_apart 0 no_level (omega arith) in absurd (omega (arith, apart.0))

-- The members of the level in the other order: this is proper,
abbrev turned : List Level
turned = record { work = 4; length = 4; pieces = record { from = 0; to = 4 } ∷ []; members = 1 ∷ 0 ∷ [] } ∷ []

-- since members may come in any order
turned_proper : IsProper jobs slots turned
turned_proper = proper_by_test jobs slots turned refl refl refl

-- but no plan.
turned_no_plan : IsPlan jobs slots turned → ⊥
turned_no_plan plan = let rise = plan.members_rise 0 no_level (omega arith) in absurd (omega (arith, rise.0))
