-- What the search finds makes a plan.
use Rattle.yds_model.proofs.Common.{◌≡◌, ℕ, ◌+◌, ◌*◌, ◌<◌, ◌≤◌, List, Some, None, ◌∙◌, length, map, get_or, refl, sym, ap, ap₂, arith, inl, inr, Option, Result, IfOk, slice_get, All, Contains, sum_by, range_with_len, cases_lt, length-map, get_or-map, length-map-range_with_len, get_or-map-range_with_len, slice_get-get_or, slice_get_past, All-contains, Each, Job, IsJob, job_at, work_of, WrittenSlot, no_slot, no_written_slot, IsSolid, IsScale, slots_at, written_slot_at, Level, level_at, all_members, PiecesStand, StandsOnce, SumsAgree, IsWindowCovered, HasLevelSpeed, AreLevels, stretches, IsSlower, DontTouch, Rise, HasLevelDenominators, IsPlan, speed_num, speed_den, stretch_at}
use Rattle.fraction_lemmas.proofs.Fractions.{same_through}
use Rattle.fraction_lemmas.proofs.Divisor.{lowest_terms_are_one}
use Rattle.base.specs.declared.limits.TheConstants.{MAX_JOBS}
use Rattle.yds_slots.specs.Schedule.{WrittenSchedule}
use Rattle.yds_timetable.specs.Shares.{JobShare, no_share}
use Rattle.yds_timetable.specs.Timetable.{Row, slots_of}
use Rattle.yds_timetable.proofs.Lists.{all_second, zipped_at, zipped_by_places}
use Rattle.yds_timetable.proofs.Rows.{no_row, rows_solid}
use Rattle.yds_timetable.proofs.Made.{rows_stretches}
use Rattle.yds_search.specs.Found.{Found, IsFound, group_of, group_at, per_time, per_work}
use Rattle.yds_events.specs.Window.{length_at}
use Rattle.yds_plan.specs.Laid.{level_of, levels_among, together, members_of, stretches_of_level, level_numbered, levels_of, pace_of_group, row_found, rows_found, laid_slots}
use Rattle.yds_plan.specs.Timetabled.{pace_of_level, RunsAtLevel, IsTimetabled}
use Rattle.yds_slots.proofs.WorkParts.{of_parts_over}
use Rattle.yds_events.proofs.Neighbours.{release_outside, deadline_outside, stretch_with, few_stretches}
use Rattle.yds_plan.proofs.Merged.{all_of_blocks}
use Rattle.yds_plan.proofs.Rows.{IsLaid, sorted_shares, has_work, terms, paced, unpaced, all_laid, rows_are, slots_length, length_sorted}
use Rattle.yds_plan.proofs.Schedule.{Stands, all_stand, feasible, served_in_stretches}
use Rattle.yds_plan.proofs.Drafts.{AreGroups, level_rises, among_above, among_found, level_speed, level_has, level_slower}
use Rattle.yds_plan.proofs.Levels.{IsMember, place_level, group_sum, level_there, levels_length, each_level, members_joined, each_member, members_rise, member_at_most_once, member_once, pieces_apart, pieces_run, pieces_dont_touch, pieces_total, some_pieces, stretch_covered, few_pieces}

-- a speed of work over units, as one of work over length
at_speed : (work time p q g w l : ℕ) → work * q ≡ p * time → p * g ≡ w → q * g ≡ l → work * l ≡ w * time
at_speed work time p q g w l e f h = omega (arith, ap (λ n. n * g) e, ap (λ n. n * time) f, ap (λ n. work * n) h)

module _ (jobs : List Job) (proper : All IsJob jobs) (few : length jobs ≤ MAX_JOBS) (found : Found) (is : IsFound jobs found) where
  abbrev count_of_levels : ℕ
  count_of_levels = levels_among found.groups (length found.groups)

  groups_are : AreGroups found.groups
  groups_are = record { some_work = is.some_work; some_length = is.some_length; order = is.order }

  abbrev level_work : ℕ → ℕ
  level_work l = together (λ group. group.work) found.groups l

  abbrev level_length : ℕ → ℕ
  level_length l = together (λ group. group.length) found.groups l

  some_level_work : (l : ℕ) → l < count_of_levels → 1 ≤ level_work l
  some_level_work l known =
      let k = among_found found.groups (length found.groups) l known in
      omega (arith, is.some_work k.0 k.1, rw (k.2) at (level_has found.groups groups_are (λ group. group.work) k.0 k.1))

  some_level_length : (l : ℕ) → l < count_of_levels → 1 ≤ level_length l
  some_level_length l known =
      let k = among_found found.groups (length found.groups) l known in
      omega (arith, is.some_length k.0 k.1, rw (k.2) at (level_has found.groups groups_are (λ group. group.length) k.0 k.1))

  -- sums
  members_work : (l : ℕ) → l < count_of_levels → level_work l ≡ work_of jobs (members_of jobs found l)
  members_work l known =
      group_sum found.groups found.group_of_job (λ j. (job_at jobs j).work) (length jobs) l (λ group. group.work) is.works known

  stretches_length : (l : ℕ) → l < count_of_levels → level_length l ≡ sum_by (length_at jobs) (stretches_of_level jobs found l)
  stretches_length l known =
      group_sum found.groups found.group_of_stretch (length_at jobs) (length (stretches jobs)) l (λ group. group.length) is.lengths known

  well_formed : AreLevels jobs (levels_of jobs found)
  well_formed = record {
    positive = each_level (λ level. (1 ≤ level.work) × (1 ≤ level.length)) jobs found (λ l known. (some_level_work l known, some_level_length l known));
    known = each_level (λ level. All (λ number. number < length jobs) level.members) jobs found (λ l known k d within. (each_member jobs found l known k d within).known);
  }

  pieces_stand : Each (length (levels_of jobs found)) (PiecesStand (levels_of jobs found))
  pieces_stand i within =
      let known : i < count_of_levels = omega (arith, levels_length jobs found) in
      let here = level_there jobs found i known in
      record {
        some = rw here (some_pieces jobs found i (omega (arith, some_level_length i known, stretches_length i known)));
        in_order = rw here (pieces_run jobs found i);
        apart = rw here (pieces_apart jobs found i known);
      }

  sums_agree : Each (length (levels_of jobs found)) (SumsAgree jobs (levels_of jobs found))
  sums_agree i within = grind (arith, level_there, levels_length, members_work, pieces_total, stretches_length)

  stands_once : Each (length jobs) (StandsOnce jobs (levels_of jobs found))
  stands_once number known = record {
    at_most_once = member_at_most_once jobs found number;
    with_work = λ some.
        let grouped = is.with_work number known some in
        member_once jobs found number known (rw (place_level found.groups (group_of found.group_of_job number) grouped)
        (among_above found.groups (length found.groups) (group_of found.group_of_job number) grouped));
  }

  falling : Each (length (levels_of jobs found)) (IsSlower (levels_of jobs found))
  falling i within before is_before =
      let known : i < count_of_levels = omega (arith, levels_length jobs found) in
      let next : before + 1 < count_of_levels = omega arith in
      rw (level_there jobs found i known, level_there jobs found before (omega arith), ← is_before) (level_slower found.groups groups_are before next)

  -- a member of the level at a place
  member_there : (i number : ℕ) → i < length (levels_of jobs found) → Contains (level_at (levels_of jobs found) i).members number → IsMember jobs found i number
  member_there i number within contains = grind (arith, All-contains, each_member, level_there, levels_length)

  windows_covered : Each (length jobs) (IsWindowCovered jobs (levels_of jobs found))
  windows_covered number known i within contains time from below =
      let member = member_there i number within contains in
      let k = stretch_with jobs number time known from below in
      let released : (job_at jobs number).release ≤ (stretch_at jobs k.0).from =
      elim (release_outside jobs number k.0 known k.1.known) [ inl h ↦ h | inr h ↦ absurd (omega (arith, k.1.below)) ] in
      let due : (stretch_at jobs k.0).to ≤ (job_at jobs number).deadline =
      elim (deadline_outside jobs number k.0 known k.1.known) [ inl h ↦ absurd (omega (arith, k.1.from)) | inr h ↦ h ] in
      let first = is.windows number k.0 known (has_work jobs found is number known member.grouped) k.1.known (record { released = released; due = due }) in
      let grouped : group_of found.group_of_stretch k.0 < length found.groups = omega (arith, member.grouped) in
      stretch_covered jobs found k.0 (i + 1) time k.1.known (rw (place_level found.groups (group_of found.group_of_stretch k.0) grouped)
      (omega (arith, level_rises found.groups _ _ first, member.level))) (omega (arith, levels_length jobs found)) (k.1.from, k.1.below)

  -- a level's speed is that of the group of its members' stretches
  group_speed : (i g : ℕ) → i < count_of_levels → g < length found.groups → level_of found.groups g ≡ i →
      level_work i * (group_at found.groups g).length ≡ (group_at found.groups g).work * level_length i
  group_speed i g known grouped level = rw level at (level_speed found.groups groups_are g grouped)

  -- so they are the same in lowest terms
  same_terms : (i g : ℕ) → i < count_of_levels → g < length found.groups → level_of found.groups g ≡ i →
      (speed_num (level_numbered jobs found i) ≡ per_time (group_at found.groups g)) × (speed_den (level_numbered jobs found i) ≡ per_work (group_at found.groups g))
  same_terms i g known grouped level = lowest_terms_are_one (level_work i) (level_length i) (group_at found.groups g).work (group_at found.groups g).length
      (some_level_length i known) (is.some_length g grouped) (group_speed i g known grouped level)

  -- # The timetable

  -- a group runs at the pace of its level
  level_pace : (g : ℕ) → g < length found.groups →
      (level_of found.groups g < length (levels_of jobs found)) × (pace_of_group (group_at found.groups g) ≡ pace_of_level (level_at (levels_of jobs found) (level_of found.groups g)))
  level_pace g grouped =
      let known = among_above found.groups (length found.groups) g grouped in
      let same = same_terms (level_of found.groups g) g known grouped refl in (
        omega (arith, known, levels_length jobs found),
        rw (level_there jobs found (level_of found.groups g) known)
            (sym (ap₂ (λ units grain. record { units = units; time = 1; grain = grain }) same.0 same.1)),
      )

  module _ (numbers : List ℕ) (stretch_levels : List (Option ℕ)) (are : numbers ≡ map (level_of found.groups) (range_with_len 0 (length found.groups)))
      (told : stretch_levels ≡ map (slice_get numbers) found.group_of_stretch) where
    numbered : (g : ℕ) → g < length found.groups → slice_get numbers g ≡ Some (level_of found.groups g)
    numbered g grouped =
        ap (λ (some : List ℕ). slice_get some g) are
        ∙ slice_get-get_or (map (level_of found.groups) (range_with_len 0 (length found.groups))) g 0
        (omega (arith, grouped, length-map-range_with_len (level_of found.groups) 0 (length found.groups)))
        ∙ ap Some (get_or-map-range_with_len (level_of found.groups) 0 (length found.groups) g g 0 grouped (omega arith))

    unnumbered : (g : ℕ) → length found.groups ≤ g → slice_get numbers g ≡ None
    unnumbered g past = slice_get_past numbers g (omega (arith, past, ap (λ (some : List ℕ). length some) are, length-map-range_with_len (level_of found.groups) 0 (length found.groups)))

    runs_at : (k : ℕ) → RunsAtLevel (levels_of jobs found) (slice_get (map pace_of_group found.groups) (group_of found.group_of_stretch k)) (slice_get numbers (group_of found.group_of_stretch k))
    runs_at k = grind (arith, cases_lt, level_pace, numbered, paced, unnumbered, unpaced)

    found_timetabled : IsTimetabled jobs (rows_found jobs found) stretch_levels (laid_slots jobs found) (levels_of jobs found)
    found_timetabled = record {
      stretches_are = rows_stretches (stretches jobs) (map pace_of_group found.groups) found.group_of_stretch found.shares;
      levels_are = zipped_by_places (λ (row : Row) (number : Option ℕ). RunsAtLevel (levels_of jobs found) row.pace number) (rows_found jobs found) stretch_levels no_row None
          (omega (arith, ap (λ (some : List (Option ℕ)). length some) told, length-map found.group_of_stretch (slice_get numbers), is.all_stretches, as_many_rows))
          (λ k within.
          let known : k < length (stretches jobs) = omega (arith, within, as_many_rows) in
          let there : get_or stretch_levels k None ≡ slice_get numbers (group_of found.group_of_stretch k) =
          ap (λ (some : List (Option ℕ)). get_or some k None) told
          ∙ get_or-map (slice_get numbers) found.group_of_stretch k 0 None (omega (arith, known, is.all_stretches)) in
          rw (get_or-map-range_with_len (row_found jobs found) 0 (length (stretches jobs)) k k no_row known (omega arith), there)
          (runs_at k));
      slots_are = refl;
    } where
      as_many_rows : length (rows_found jobs found) ≡ length (stretches jobs)
      as_many_rows = length-map-range_with_len (row_found jobs found) 0 (length (stretches jobs))

    -- the same of what was made
    pub timetabled : (rows : List Row) (slots : List WrittenSlot) (levels : List Level) → rows ≡ rows_found jobs found → slots ≡ slots_of rows →
        levels ≡ levels_of jobs found → IsTimetabled jobs rows stretch_levels slots levels
    timetabled rows slots levels is_rows is_slots is_levels = rw (is_slots, is_rows, is_levels) found_timetabled

  -- # The plan

  speeds : (scale : ℕ) → IsScale scale (laid_slots jobs found) →
      Each (length (laid_slots jobs found)) (HasLevelSpeed (levels_of jobs found) (slots_at scale (laid_slots jobs found)))
  speeds scale divided s within i inside contains =
      let member = member_there i _ inside contains in
      let here = zipped_at (Stands jobs found scale) (sorted_shares jobs found) (slots_at scale (laid_slots jobs found)) s no_share no_slot
      (all_stand jobs found is proper few scale divided) (omega (arith, within, slots_length jobs found is proper few, length_sorted jobs found is)) in
      let g = group_of found.group_of_stretch (get_or (sorted_shares jobs found) s no_share).stretch in
      let grouped : g < length found.groups = omega (arith, here.is_share.same_group, here.is_share.grouped) in
      let level : level_of found.groups g ≡ i = ap (level_of found.groups) (here.is_share.same_group ∙ ap (group_of found.group_of_job) (sym here.job)) ∙ member.level in
      let known : i < count_of_levels = omega (arith, levels_length jobs found) in
      let low = terms jobs found is g grouped in
      rw (level_there jobs found i known) (same_through _ (group_at found.groups g).work (level_work i) _ (group_at found.groups g).length (level_length i)
      (is.some_length g grouped) (at_speed _ _ _ _ _ (group_at found.groups g).work (group_at found.groups g).length here.speed low.first low.second)
      (sym (group_speed i g known grouped level)))

  members_have_work : All (λ number. 1 ≤ (job_at jobs number).work) (all_members (levels_of jobs found))
  members_have_work =
      rw (members_joined jobs found) (all_of_blocks (λ number. 1 ≤ (job_at jobs number).work) (members_of jobs found) count_of_levels (λ l known k d within.
      let member = each_member jobs found l known k d within in
      has_work jobs found is _ member.known member.grouped))

  -- each slot is that of a share, so its denominators are at least 1
  abbrev IsWritten : WrittenSlot → Type 0
  IsWritten slot = (share : JobShare) × IsLaid jobs found share slot

  all_written : All IsWritten (laid_slots jobs found)
  all_written = all_second (IsLaid jobs found) IsWritten (λ share slot laid. (share, laid)) (sorted_shares jobs found) (laid_slots jobs found) (all_laid jobs found is proper few)

  all_solid : All IsSolid (laid_slots jobs found)
  all_solid = rows_solid (rows_found jobs found) (rows_are jobs found is proper few)

  denominators : (i s : ℕ) → i < length (levels_of jobs found) → s < length (laid_slots jobs found) →
      Contains (level_at (levels_of jobs found) i).members (written_slot_at (laid_slots jobs found) s).job →
      HasLevelDenominators (level_at (levels_of jobs found) i) (written_slot_at (laid_slots jobs found) s)
  denominators i s within inside contains =
      let member = member_there i _ within contains in
      let written = all_written s no_written_slot inside in
      let share = written.0 in
      let laid = written.1 in
      let g = group_of found.group_of_stretch share.stretch in
      let grouped : g < length found.groups = omega (arith, laid.is_share.same_group, laid.is_share.grouped) in
      let level : level_of found.groups g ≡ i =
      ap (level_of found.groups) (laid.is_share.same_group ∙ ap (λ (slot : WrittenSlot). group_of found.group_of_job slot.job) (sym laid.slot_is)) ∙ member.level in
      let known : i < count_of_levels = omega (arith, levels_length jobs found) in
      let same = same_terms i g known grouped level in
      rw (level_there jobs found i known, laid.slot_is) (record {
        from = rw (same.0) (of_parts_over ((stretch_at jobs share.stretch).from * per_time (group_at found.groups g) + laid.done * 1) (per_time (group_at found.groups g)));
        to = rw (same.0) (of_parts_over ((stretch_at jobs share.stretch).from * per_time (group_at found.groups g) + (laid.done + share.units) * 1) (per_time (group_at found.groups g)));
        work = rw (same.1) (of_parts_over share.units (per_work (group_at found.groups g)));
      })

  pub makes_plan : IsPlan jobs (laid_slots jobs found) (levels_of jobs found)
  makes_plan = record {
    proper = record {
      well_formed = well_formed;
      feasible = record { solid = all_solid; holds = λ scale divided. feasible jobs found is proper few scale divided };
      pieces = pieces_stand;
      members = stands_once;
      sums = sums_agree;
      order = λ i within before is_before. omega (arith, falling i within before is_before);
      windows = windows_covered;
      speeds = speeds;
    };
    falling = falling;
    pieces_apart = each_level (λ level. DontTouch level.pieces) jobs found (λ l known. pieces_dont_touch jobs found l);
    members_rise = each_level (λ level. Rise level.members) jobs found (λ l known. members_rise jobs found l);
    members_work = members_have_work;
    served = λ scale divided. served_in_stretches jobs found is proper few scale divided;
    few_slots = omega (arith, slots_length jobs found is proper few, is.few, few_stretches jobs);
    few_pieces = omega (arith, few_pieces jobs found, few_stretches jobs);
    denominators = denominators;
  }

-- What is found makes a plan.
pub found_makes_plan : (jobs : List Job) → All IsJob jobs → length jobs ≤ MAX_JOBS → (found : Found) → IsFound jobs found → IsPlan jobs (laid_slots jobs found) (levels_of jobs found)
found_makes_plan = makes_plan

-- slots and levels that are those of what was found make a plan
pub laid_plan : {T E : Type 0} (jobs : List Job) → All IsJob jobs → length jobs ≤ MAX_JOBS → (found : Found) (schedule : T → WrittenSchedule) (levels : T → List Level) (r : Result T E) →
    IsFound jobs found → IfOk r (λ x. schedule x ≡ record { jobs = length jobs; slots = laid_slots jobs found }) →
    IfOk r (λ x. levels x ≡ levels_of jobs found) → IfOk r (λ x. IsPlan jobs (schedule x).slots (levels x))
laid_plan jobs proper few found schedule levels r is laid certified = grind (arith, found_makes_plan)
