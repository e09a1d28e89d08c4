-- What the search finds, laid out: the slots of a plan and its levels.
use Rattle.std.specs.Prelude.{ℕ, zero, suc, Bool, ◌+◌, ◌*◌, List, [], ◌∷◌, length, map, sum_by, nat_lt, ◌==◌, if◌then◌else◌}
use Rattle.std.specs.List.{filter, range_with_len}
use Rattle.yds_model.specs.Job.{Job}
use Rattle.yds_model.specs.Slot.{WrittenSlot}
use Rattle.yds_model.specs.Piece.{Piece}
use Rattle.yds_model.specs.Level.{Level}
use Rattle.yds_model.specs.Event.{stretches, stretch_at}
use Rattle.yds_timetable.specs.declared.pace.Pace.{Pace}
use Rattle.yds_timetable.specs.Timetable.{Row, row_of, rows_of, slots_of}
use Rattle.yds_search.specs.Found.{Group, Found, group_at, per_time, per_work, group_of}

-- a group's speed in lowest terms, as a pace
abbrev pub pace_of_group : Group → Pace
pace_of_group group = record { units = per_time group; time = 1; grain = per_work group }

-- a stretch at the pace of its group, with its shares, or idle
abbrev pub row_found : List Job → Found → ℕ → Row
row_found jobs found = row_of (stretches jobs) (map pace_of_group found.groups) found.group_of_stretch found.shares

-- The timetable of a plan: its stretches so. The slots of a plan are those of its timetable.
abbrev pub rows_found : List Job → Found → List Row
rows_found jobs found = rows_of (stretches jobs) (map pace_of_group found.groups) found.group_of_stretch found.shares

abbrev pub laid_slots : List Job → Found → List WrittenSlot
laid_slots jobs found = slots_of (rows_found jobs found)

-- the group after this place is slower than the one at it
abbrev pub slows_after : List Group → ℕ → Bool
slows_after groups i =
    nat_lt ((group_at groups (i + 1)).work * (group_at groups i).length) ((group_at groups i).work * (group_at groups (i + 1)).length)

-- Groups of the same speed make one level. The number of a group's level is how often the speed falls up to it.
abbrev pub level_of : List Group → ℕ → ℕ
level_of groups zero = 0
level_of groups (suc i) = level_of groups i + (if slows_after groups i then 1 else 0)

-- how many levels the first groups make
abbrev pub levels_among : List Group → ℕ → ℕ
levels_among groups zero = 0
levels_among groups (suc i) = level_of groups i + 1

-- the level of a job or stretch by the place of its group; where it is in none, no level has this number
abbrev pub level_of_place : List Group → ℕ → ℕ
level_of_place groups i = if nat_lt i (length groups) then level_of groups i else length groups

-- pieces in order, of which those that touch are one
abbrev pub merge : Piece → List Piece → List Piece
merge piece [] = piece ∷ []
merge piece (next ∷ pieces) =
    if piece.to == next.from then record { from = piece.from; to = next.to } ∷ pieces else piece ∷ next ∷ pieces

abbrev pub merged : List Piece → List Piece
merged [] = []
merged (piece ∷ pieces) = merge piece (merged pieces)

-- the jobs and the stretches of a level, by number, and what its groups have together
abbrev pub members_of : List Job → Found → ℕ → List ℕ
members_of jobs found level =
    filter (λ j. level_of_place found.groups (group_of found.group_of_job j) == level) (range_with_len 0 (length jobs))

abbrev pub stretches_of_level : List Job → Found → ℕ → List ℕ
stretches_of_level jobs found level =
    filter (λ k. level_of_place found.groups (group_of found.group_of_stretch k) == level) (range_with_len 0 (length (stretches jobs)))

abbrev pub together : (Group → ℕ) → List Group → ℕ → ℕ
together f groups level = sum_by (λ i. if level_of groups i == level then f (group_at groups i) else 0) (range_with_len 0 (length groups))

abbrev pub level_numbered : List Job → Found → ℕ → Level
level_numbered jobs found level = record {
  work = together (λ group. group.work) found.groups level;
  length = together (λ group. group.length) found.groups level;
  pieces = merged (map (stretch_at jobs) (stretches_of_level jobs found level));
  members = members_of jobs found level;
}

-- The levels of a plan, the fastest first.
abbrev pub levels_of : List Job → Found → List Level
levels_of jobs found = map (level_numbered jobs found) (range_with_len 0 (levels_among found.groups (length found.groups)))
