-- The definitions of schedules, certificates and plans, tried on the plan of three nested jobs: a from 0 to 12 with work 4, b from 2
-- to 10 with work 8, c from 4 to 6 with work 6. Its slots and levels meet them.
use Rattle.yds_model.proofs.Common.{◌≡◌, ℕ, List, [], ◌∷◌, refl, arith, Job, Fraction, of_whole, WrittenSlot, IsScale, slots_at, work_given, IsFeasibleAt, IsFeasible, IsEarliestFirst, excess, IsLeast, Piece, Level, levels_above, Forces, Explains, IsProper, IsPlan, AreSlots, given_of, Accepted, IsJudgement}
use Rattle.yds_laws.proofs.Judgements.{judgement_is_exact}
use Rattle.yds_laws.proofs.Plans.{plans_are_least}
use Rattle.yds_energy.specs.EnergyLaws.{IsCheapest}
use Rattle.yds_energy.proofs.PlansEnergy.{least_is_cheapest_among_written}
use Rattle.yds_examples.proofs.Tests.{proved}
use Rattle.yds_examples.proofs.TestedSchedules.{is_scale, are_slots as has_slots, feasible_at, feasible_by_test, earliest_first}
use Rattle.yds_examples.proofs.TestedPlans.{proper_by_test, served_by_test, plan_by_test}

-- the jobs a, b and c
abbrev pub jobs : List Job
jobs = record { release = 0; deadline = 12; work = 4 } ∷ record { release = 2; deadline = 10; work = 8 } ∷ record { release = 4; deadline = 6; work = 6 } ∷ []

-- a fraction in thirds
abbrev pub third : ℕ → ℕ → Fraction
third whole num = record { whole = whole; num = num; den = 3 }

-- a slot with whole ends
abbrev pub slot : ℕ → ℕ → ℕ → Fraction → WrittenSlot
slot job from to work = record { job = job; from = of_whole from; to = of_whole to; work = work }

-- the slots
abbrev pub slots : List WrittenSlot
slots = slot 0 0 2 (of_whole 2) ∷ slot 1 2 4 (third 2 2) ∷ slot 2 4 6 (of_whole 6) ∷ slot 1 6 10 (third 5 1) ∷ slot 0 10 12 (of_whole 2) ∷ []

-- all ends and works are whole or thirds
pub thirds : IsScale 3 slots
thirds = proved (is_scale 3 slots) refl

-- b gets 8, in thirds
served_b : work_given (slots_at 3 slots) 1 ≡ 24
served_b = refl

-- and 8 as it is written
given_b : given_of slots 1 ≡ of_whole 8
given_b = refl

-- at scale 3 they run one after another, in their jobs' windows, and each job gets three times its work
feasible : IsFeasibleAt jobs 3 (slots_at 3 slots)
feasible = proved (feasible_at jobs 3 (slots_at 3 slots)) refl

-- so they are feasible, at each scale
pub feasible_at_each : IsFeasible jobs slots
feasible_at_each = feasible_by_test jobs slots 3 refl refl

-- what runs is what is due first: from 4 to 6 all three jobs are pending, and c's deadline is the earliest
earliest : IsEarliestFirst jobs 3 (slots_at 3 slots)
earliest = proved (earliest_first jobs 3 (slots_at 3 slots)) refl

-- The excess above five speeds, times the speed's denominator and the scale: above 0 all work.
above_0 : excess 0 1 (slots_at 3 slots) ≡ 54
above_0 = refl

-- above 1 six units
above_1 : excess 1 1 (slots_at 3 slots) ≡ 18
above_1 = refl

-- above 4/3 ten thirds
above_4_3 : excess 4 3 (slots_at 3 slots) ≡ 30
above_4_3 = refl

-- above 2 two
above_2 : excess 2 1 (slots_at 3 slots) ≡ 6
above_2 = refl

-- above 3 nothing
above_3 : excess 3 1 (slots_at 3 slots) ≡ 0
above_3 = refl

-- The certificate: c in 4-6, b in 2-4 and 6-10, a in 0-2 and 10-12.
abbrev pub piece : ℕ → ℕ → Piece
piece from to = record { from = from; to = to }

-- c's level
abbrev pub level_c : Level
level_c = record { work = 6; length = 2; pieces = piece 4 6 ∷ []; members = 2 ∷ [] }

-- b's level
abbrev pub level_b : Level
level_b = record { work = 8; length = 6; pieces = piece 2 4 ∷ piece 6 10 ∷ []; members = 1 ∷ [] }

-- a's level
abbrev pub level_a : Level
level_a = record { work = 4; length = 4; pieces = piece 0 2 ∷ piece 10 12 ∷ []; members = 0 ∷ [] }

-- fastest first
abbrev pub levels : List Level
levels = level_c ∷ level_b ∷ level_a ∷ []

-- above the speed 1 stand the first two levels
above_one : levels_above 1 1 levels ≡ level_c ∷ level_b ∷ []
above_one = refl

-- 4/3 is the second level's speed, so it isn't above it
above_four_thirds : levels_above 4 3 levels ≡ level_c ∷ []
above_four_thirds = refl

-- The certificate is proper.
pub proper : IsProper jobs slots levels
proper = proper_by_test jobs slots levels refl refl refl

-- So they are a plan: each scale is a multiple of 3, at which they are served in stretches.
pub plan : IsPlan jobs slots levels
plan = plan_by_test jobs slots levels proper (served_by_test jobs slots 3 refl refl) refl

-- by the law of plans the slots are least, and the levels explain them
pub least_and_explained : IsLeast jobs slots × Explains jobs slots levels
least_and_explained = plans_are_least jobs slots levels plan

-- so they are cheapest, by every convex table
pub cheapest : IsCheapest jobs slots
cheapest = least_is_cheapest_among_written jobs slots least_and_explained.0

-- above the speed 2, c and its piece force the excess of 2 units
pub forced : Forces jobs 3 2 1 (slots_at 3 slots) (2 ∷ []) (piece 4 6 ∷ [])
forced = (least_and_explained.1.holds 3 thirds).forced 2 1 (omega arith)

-- The slots are such as the program's types keep,
pub are_slots : AreSlots 3 slots
are_slots = proved (has_slots 3 slots) refl

-- so the judgement of them is 'accepted'.
pub accepted : IsJudgement jobs slots levels Accepted
accepted = (judgement_is_exact jobs slots levels are_slots proper.well_formed).1 proper
