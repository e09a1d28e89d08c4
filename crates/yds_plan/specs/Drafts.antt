-- Levels on the way: what stands of them after so many groups, jobs and stretches.
use Rattle.std.specs.Prelude.{ℕ, zero, suc, ◌+◌, ◌-◌, ◌≤◌, ◌<◌, Bool, true, false, not, List, [], ◌∷◌, ◌++◌, length, map, sum_by, nat_lt, slice_set, ◌==◌, if◌then◌else◌}
use Rattle.std.specs.List.{slice_index_or, filter, range_with_len}
use Rattle.yds_model.specs.Piece.{Piece}
use Rattle.yds_model.specs.Level.{Level, level_at}
use Rattle.base.specs.declared.limits.TheConstants.{MAX_JOBS, MAX_LEVEL_LENGTH, MAX_LEVEL_WORK}
use Rattle.yds_search.specs.Found.{Group, Found, group_at, group_of}
use Rattle.yds_events.specs.Stretch.{no_stretch, nth_stretch}
use Rattle.yds_plan.specs.Laid.{slows_after, level_of, levels_among, level_of_place, merged, together}

-- what the first groups of a level have together
abbrev pub among : (Group → ℕ) → List Group → ℕ → ℕ → ℕ
among f groups n level = sum_by (λ i. if level_of groups i == level then f (group_at groups i) else 0) (range_with_len 0 n)

-- a level of the first groups, with no piece and no member
abbrev pub empty_level : List Group → ℕ → ℕ → Level
empty_level groups n level = record {
  work = among (λ group. group.work) groups n level;
  length = among (λ group. group.length) groups n level;
  pieces = [];
  members = [];
}

abbrev pub empty_levels : List Group → ℕ → List Level
empty_levels groups n = map (empty_level groups n) (range_with_len 0 (levels_among groups n))

-- the levels with the first jobs as members and the first stretches as pieces
abbrev pub draft : List Piece → Found → ℕ → ℕ → ℕ → Level
draft timeline found j k level = record {
  work = together (λ group. group.work) found.groups level;
  length = together (λ group. group.length) found.groups level;
  pieces = merged (map (nth_stretch timeline)
      (filter (λ stretch. level_of_place found.groups (group_of found.group_of_stretch stretch) == level) (range_with_len 0 k)));
  members = filter (λ job. level_of_place found.groups (group_of found.group_of_job job) == level) (range_with_len 0 j);
}

abbrev pub drafts : List Piece → Found → ℕ → ℕ → List Level
drafts timeline found j k = map (draft timeline found j k) (range_with_len 0 (levels_among found.groups (length found.groups)))

-- the piece begins where the last one ends
abbrev pub touches_last : List Piece → Piece → Bool
touches_last pieces piece =
    if nat_lt 0 (length pieces) then (slice_index_or pieces (length pieces - 1) no_stretch).to == piece.from else false

-- the piece joins the last one, or stands last
abbrev pub with_next : List Piece → Bool → Piece → List Piece
with_next pieces true piece =
    slice_set pieces (length pieces - 1) (record { from = (slice_index_or pieces (length pieces - 1) no_stretch).from; to = piece.to })
with_next pieces false piece = pieces ++ piece ∷ []

-- the pieces and one more, which joins the last where they touch
abbrev pub extended : List Piece → Piece → List Piece
extended pieces piece = with_next pieces (touches_last pieces piece) piece

abbrev pub extended_level : Piece → Level → Level
extended_level piece level =
    record { work = level.work; length = level.length; pieces = extended level.pieces piece; members = level.members }

-- the group at this place has the speed of the one before it
abbrev pub joins_before : List Group → ℕ → Bool
joins_before groups zero = false
joins_before groups (suc i) = not (slows_after groups i)

abbrev pub level_of_one : Group → Level
level_of_one group = record { work = group.work; length = group.length; pieces = []; members = [] }

abbrev pub with_more : Level → Group → Level
with_more level group = record { work = level.work + group.work; length = level.length + group.length; pieces = level.pieces; members = level.members }

-- the group joins the last level, or makes one of its own
abbrev pub with_group : List Level → Bool → Group → List Level
with_group levels true group = slice_set levels (length levels - 1) (with_more (level_at levels (length levels - 1)) group)
with_group levels false group = levels ++ level_of_one group ∷ []

-- groups that levels can be made of: what they have together is within a level's limits
pub record AreGroupsWithin (groups : List Group) : Type 0 where
  pub some_work : (i : ℕ) → i < length groups → 1 ≤ (group_at groups i).work
  pub some_length : (i : ℕ) → i < length groups → 1 ≤ (group_at groups i).length
  pub work_in_range : sum_by (λ group. group.work) groups ≤ MAX_LEVEL_WORK
  pub length_in_range : sum_by (λ group. group.length) groups ≤ MAX_LEVEL_LENGTH
  pub few : length groups ≤ MAX_JOBS
