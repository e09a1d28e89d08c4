-- The timetable of a plan, tried on that of the three nested jobs: in each of the five stretches one job runs, at its level's speed.
use Rattle.yds_model.proofs.Common.{◌≡◌, ℕ, List, [], ◌∷◌, ◌++◌, length, take, Option, Some, None, refl, ap, arith, Job, of_whole, WrittenSlot, Level, Piece}
use Rattle.yds_timetable.specs.declared.pace.Pace.{Pace}
use Rattle.yds_timetable.specs.Timetable.{Row}
use Rattle.yds_plan.specs.Timetabled.{pace_of_level, IsTimetabled}
use Rattle.yds_examples.proofs.ThreeJobs.{jobs, slot, slots, levels, level_a, level_b, level_c, piece}

-- a stretch at a pace, with a share of a job
abbrev pub row : ℕ → Piece → Pace → ℕ → ℕ → Row
row number stretch pace job units = record { stretch = stretch; pace = Some pace; shares = record { stretch = number; job = job; units = units } ∷ [] }

-- The units of b are thirds: it gets 8 of them in two time units, and 16 in four.
abbrev pub rows : List Row
rows =
    row 0 (piece 0 2) (pace_of_level level_a) 0 2 ∷ row 1 (piece 2 4) (pace_of_level level_b) 1 8 ∷ row 2 (piece 4 6) (pace_of_level level_c) 2 6
    ∷ row 3 (piece 6 10) (pace_of_level level_b) 1 16 ∷ row 4 (piece 10 12) (pace_of_level level_a) 0 2 ∷ []

-- each with its level's number, fastest first
abbrev pub numbers : List (Option ℕ)
numbers = Some 2 ∷ Some 1 ∷ Some 0 ∷ Some 1 ∷ Some 2 ∷ []

-- They are the timetable of the plan,
timetable : IsTimetabled jobs rows numbers slots levels
timetable = grind arith

-- but not where a stretch of b has the number of c's level: that is faster,
not_faster : IsTimetabled jobs rows (Some 2 ∷ Some 1 ∷ Some 0 ∷ Some 0 ∷ Some 2 ∷ []) slots levels → ⊥
not_faster is = let same : 4 ≡ 3 = ap (λ (pace : Pace). pace.units) is.levels_are.1.1.1.0.1 in absurd (omega (arith, same))

-- nor without the last stretch,
not_shorter : IsTimetabled jobs (take 4 rows) (take 4 numbers) slots levels → ⊥
not_shorter is = let same : 4 ≡ 5 = ap (λ (pieces : List Piece). length pieces) is.stretches_are in absurd (omega (arith, same))

-- nor where a gets less in it: its slot would end sooner
not_less : IsTimetabled jobs (take 4 rows ++ row 4 (piece 10 12) (pace_of_level level_a) 0 1 ∷ []) numbers slots levels → ⊥
not_less is = grind (arith, slots)

-- # A stretch in which nothing runs

-- two jobs with time between them
abbrev pub two : List Job
two = record { release = 0; deadline = 2; work = 2 } ∷ record { release = 4; deadline = 6; work = 2 } ∷ []

-- one level, and a slot in each of its pieces
abbrev pub level : Level
level = record { work = 4; length = 4; pieces = piece 0 2 ∷ piece 4 6 ∷ []; members = 0 ∷ 1 ∷ [] }

abbrev pub two_rows : List Row
two_rows =
    row 0 (piece 0 2) (pace_of_level level) 0 2 ∷ record { stretch = piece 2 4; pace = None; shares = [] } ∷ row 2 (piece 4 6) (pace_of_level level) 1 2 ∷ []

abbrev pub two_slots : List WrittenSlot
two_slots = slot 0 0 2 (of_whole 2) ∷ slot 1 4 6 (of_whole 2) ∷ []

-- the stretch between has no level,
idle : IsTimetabled two two_rows (Some 0 ∷ None ∷ Some 0 ∷ []) two_slots (level ∷ [])
idle = record { stretches_are = refl; levels_are = ((omega arith, refl), (tt, ((omega arith, refl), tt))); slots_are = refl }

-- and can't be given one
not_at_a_level : IsTimetabled two two_rows (Some 0 ∷ Some 0 ∷ Some 0 ∷ []) two_slots (level ∷ []) → ⊥
not_at_a_level is = is.levels_are.1.0
