-- What a plan's timetable has in one stretch: shares of members of one level, which fill it at the level's speed.
use Rattle.yds_model.proofs.Common.{◌≡◌, ℕ, suc, ◌+◌, ◌-◌, ◌*◌, ◌<◌, ◌≤◌, List, [], ◌∷◌, ◌++◌, length, get_or, take, drop, refl, sym, ap, ◌∙◌, subst, arith, Some, Option, All, Contains, get_or-map, get_or_append_left, length-map, length-append, take-append-drop, take_all, flat_map-append, All-map, All-contains, All-from_get_or, Contains-get_or, mul-pos, eq_of_mul-eq-mul_right, drop-cons, get_or-append_right, count, Job, WrittenSlot, WholeSlot, IsDivided, IsScale, no_slot, no_written_slot, slot_at, slot_at_scale, slots_at, written_slot_at, Piece, Level, no_level, level_at, all_members, common_divisor, stretches, LiesIn, LiesWritten, IsPlan, speed_num, speed_den}
use Rattle.yds_energy.proofs.PlanParts.{HasSpeeds, plan_part}
use Rattle.yds_energy.proofs.FullStretches.{planned_once, level_of_member}
use Rattle.yds_events.specs.Stretch.{no_stretch, length_of}
use Rattle.yds_timetable.specs.declared.pace.Pace.{Pace}
use Rattle.yds_timetable.specs.Shares.{JobShare, total_units}
use Rattle.yds_timetable.specs.Pace.{slot_of, slots_from, Fills}
use Rattle.yds_timetable.specs.Timetable.{Row, row_at, stretches_of, slots_at_pace, row_slots, slots_of, IsFilledAt, IsRow}
use Rattle.yds_timetable.proofs.Lists.{all_of_part}
use Rattle.yds_timetable.proofs.Paces.{runs, lies_written}
use Rattle.yds_timetable.proofs.Rows.{no_row, paced_all, row_stays}
use Rattle.yds_plan.specs.Timetabled.{pace_of_level}
use Rattle.yds_round.proofs.Splits.{work_over, length_over}
use Rattle.yds_round.proofs.Levels.{one_speed, same_speed}
use Rattle.yds_round.proofs.InTurn.{AreApart, share_jobs, jobs_of}

-- # Lists

-- what holds of the slots at a scale holds of those that are written
back_at : (Q : WholeSlot → Type 0) (scale : ℕ) (slots : List WrittenSlot) → All Q (slots_at scale slots) → All (λ slot. Q (slot_at_scale scale slot)) slots
back_at Q scale slots all k d within =
    subst Q (get_or-map (slot_at_scale scale) slots k d (slot_at_scale scale d) within)
    (all k (slot_at_scale scale d) (omega (arith, within, length-map slots (slot_at_scale scale))))

-- an element of the second of three lists
in_middle : {X : Type 0} (front here rest : List X) (i : ℕ) (d : X) → i < length here → get_or (front ++ (here ++ rest)) (length front + i) d ≡ get_or here i d
in_middle front here rest i d within = grind (arith, get_or-append_right, get_or_append_left)

-- slots of different jobs
apart_by : (slots : List WrittenSlot) → ((i j : ℕ) → i < j → j < length slots → (written_slot_at slots i).job ≡ (written_slot_at slots j).job → ⊥) →
    AreApart (jobs_of slots)
apart_by [] once = tt
apart_by (slot ∷ slots) once = (
  All-map (λ (job : ℕ). job ≡ slot.job → ⊥) (λ (s : WrittenSlot). s.job) slots
      (All-from_get_or (λ (s : WrittenSlot). s.job ≡ slot.job → ⊥) slots no_written_slot
      (λ j within same. once 0 (suc j) (omega arith) (omega (arith, within)) (sym same))),
  apart_by slots (λ i j order within same. once (suc i) (suc j) (omega (arith, order)) (omega (arith, within)) same),
)

-- a pace's slots are of the shares' jobs
pub same_jobs : (pace : Pace) (start done : ℕ) (shares : List JobShare) → jobs_of (slots_from pace start done shares) ≡ share_jobs shares
same_jobs pace start done [] = refl
same_jobs pace start done (share ∷ shares) = ap (λ jobs. share.job ∷ jobs) (same_jobs pace start (done + share.units) shares)

-- # A stretch of a plan

-- shares of members of the level fill the stretch at its speed, one for each job
pub record IsHeld (levels : List Level) (level : Level) (stretch : Piece) (shares : List JobShare) : Type 0 where
  pub has : Contains levels level
  pub some_length : 1 ≤ level.length
  pub members : All (λ job. Contains level.members job) (share_jobs shares)
  pub fills : Fills (pace_of_level level) stretch shares
  pub apart : AreApart (share_jobs shares)

-- they are as much as the level does there
pub units_held : (level : Level) (stretch : Piece) (shares : List JobShare) → Fills (pace_of_level level) stretch shares →
    total_units shares ≡ speed_num level * length_of stretch
units_held level stretch shares fills = grind arith

-- at a scale a slot takes time, and runs at the speed num/den
record RunsAtSpeed (num den scale : ℕ) (slot : WrittenSlot) : Type 0 where
  forward : (slot_at_scale scale slot).from < (slot_at_scale scale slot).to
  speed : (slot_at_scale scale slot).work * den ≡ num * ((slot_at_scale scale slot).to - (slot_at_scale scale slot).from)

-- in plain numbers: units that fill a stretch at a speed
speed_by : (w den num long scale units time : ℕ) → 1 ≤ long → 1 ≤ scale → units ≡ num * long → w * (den * long * scale) ≡ scale * units * time → w * den ≡ num * time
speed_by w den num long scale units time some positive all speed =
    eq_of_mul-eq-mul_right (long * scale) (mul-pos some positive) (w * den) (num * time) (omega (arith, speed, ap (λ n. scale * n * time) all))

-- the slot's job is a member of a level, and the slot runs at its speed
abbrev HasLevel : List Level → ℕ → WrittenSlot → Type 0
HasLevel levels scale slot =
    (i : ℕ) × (i < length levels) × Contains (level_at levels i).members slot.job
    × ((slot_at_scale scale slot).work * (level_at levels i).length ≡ (level_at levels i).work * ((slot_at_scale scale slot).to - (slot_at_scale scale slot).from))

module _ (jobs : List Job) (planned : List WrittenSlot) (levels : List Level) (plan : IsPlan jobs planned levels) (scale : ℕ) (is : IsScale scale planned) where
  -- of jobs that are known
  pub known : All (λ slot. slot.job < length jobs) planned
  known = back_at (λ slot. slot.job < length jobs) scale planned (λ i e inside. ((plan.proper.feasible.holds scale is).in_windows i e inside).known)

  have_levels : All (HasLevel levels scale) planned
  have_levels i d inside =
      let slot = get_or planned i d in
      let once : count slot.job (all_members levels) ≡ 1 =
      back_at (λ s. count s.job (all_members levels) ≡ 1) scale planned (planned_once jobs planned levels scale plan is) i d inside in
      let all : all_members (take (length levels) levels) ≡ all_members levels = ap all_members (take_all (length levels) levels (omega arith)) in
      let found = level_of_member levels (length levels) slot.job (omega arith) (omega (arith, once, ap (count slot.job) all)) in (
        found.0,
        found.1,
        found.2,
        back_at (HasSpeeds levels) scale planned (plan_part jobs planned levels scale plan is).speeds i d inside (level_at levels found.0)
            (Contains-get_or levels found.0 no_level found.1) found.2,
      )

  -- two slots of one job don't lie in one stretch
  module _ (rows : List Row) (on : stretches_of rows ≡ stretches jobs) (laid : planned ≡ slots_of rows) (are : All IsRow rows) (k : ℕ) (within : k < length rows) where
    abbrev row : Row
    row = row_at rows k

    -- the row's slots among all
    in_parts : planned ≡ slots_of (take k rows) ++ (row_slots row ++ slots_of (drop (suc k) rows))
    in_parts =
        laid ∙ ap slots_of (sym (take-append-drop k rows) ∙ ap (λ rest. take k rows ++ rest) (drop-cons rows k no_row within))
        ∙ flat_map-append row_slots (take k rows) (row ∷ drop (suc k) rows)

    contained : Contains (stretches jobs) row.stretch
    contained = subst (λ (pieces : List Piece). Contains pieces row.stretch) on
        (subst (λ (piece : Piece). Contains (stretches_of rows) piece) (get_or-map (λ (r : Row). r.stretch) rows k no_row no_stretch within)
        (Contains-get_or (stretches_of rows) k no_stretch (omega (arith, within, length-map rows (λ (r : Row). r.stretch)))))

    divided : All (IsDivided scale) (row_slots row)
    divided = all_of_part (IsDivided scale) row_slots rows k no_row within (subst (All (IsDivided scale)) laid is.divided)

    lies : All (λ slot. LiesIn scale (slot_at_scale scale slot) row.stretch) (row_slots row)
    lies i d inside = (row_stays row (are k no_row within) i d inside scale is.positive (divided i d inside)).lies_in

    pub apart : AreApart (jobs_of (row_slots row))
    apart = apart_by (row_slots row) (λ i j order inside same.
        let front = slots_of (take k rows) in
        let rest = slots_of (drop (suc k) rows) in
        let fits : length front + j < length planned = omega (
          arith,
          inside,
          ap (λ (slots : List WrittenSlot). length slots) in_parts,
          length-append front (row_slots row ++ rest),
          length-append (row_slots row) rest,
        ) in
        let read = λ (n : ℕ) (less : n < length (row_slots row)) (far : length front + n < length planned).
        get_or-map (slot_at_scale scale) planned (length front + n) no_written_slot no_slot far
        ∙ ap (slot_at_scale scale) (ap (λ (slots : List WrittenSlot). written_slot_at slots (length front + n)) in_parts ∙ in_middle front (row_slots row) rest n no_written_slot less) in
        let first : slot_at (slots_at scale planned) (length front + i) ≡ slot_at_scale scale (written_slot_at (row_slots row) i) = read i (omega (arith, order, inside)) (omega (arith, order, fits)) in
        let second : slot_at (slots_at scale planned) (length front + j) ≡ slot_at_scale scale (written_slot_at (row_slots row) j) = read j inside fits in
        let once = (plan.served scale is).once (length front + i) (length front + j) (omega (arith, order)) (omega (arith, fits, length-map planned (slot_at_scale scale)))
        (ap (λ (s : WholeSlot). s.job) first ∙ same ∙ sym (ap (λ (s : WholeSlot). s.job) second)) in
        All-contains (λ piece. LiesIn scale (slot_at (slots_at scale planned) (length front + i)) piece → LiesIn scale (slot_at (slots_at scale planned) (length front + j)) piece → ⊥)
        (stretches jobs) row.stretch once contained
        (subst (λ (s : WholeSlot). LiesIn scale s row.stretch) (sym first) (lies i no_written_slot (omega (arith, order, inside))))
        (subst (λ (s : WholeSlot). LiesIn scale s row.stretch) (sym second) (lies j no_written_slot inside)))

    -- at the speed of the level with this number
    module _ (number : ℕ) (is_level : number < length levels) (at : row.pace ≡ Some (pace_of_level (level_at levels number))) where
      abbrev level : Level
      level = level_at levels number

      fills : Fills (pace_of_level level) row.stretch row.shares
      fills = subst (λ (p : Option Pace). IsFilledAt p row.stretch row.shares) at (are k no_row within)

      pub held_slots : row_slots row ≡ slots_from (pace_of_level level) row.stretch.from 0 row.shares
      held_slots = ap (λ (p : Option Pace). slots_at_pace p row.stretch.from row.shares) at

      -- the slots run at its speed
      run : All (RunsAtSpeed (speed_num level) (speed_den level) scale) (row_slots row)
      run i d inside = paced_all (λ slot. IsDivided scale slot → RunsAtSpeed (speed_num level) (speed_den level) scale slot) row.pace row.stretch row.shares
          (are k no_row within)
          (λ pace pace_at filled done share some enough parts.
          let same : pace ≡ pace_of_level level = same_pace (sym pace_at ∙ at) in
          let here = runs pace row.stretch (total_units row.shares) filled.own done share some enough scale is.positive parts in
          let grain : pace.grain ≡ speed_den level = ap (λ (p : Pace). p.grain) same in
          let long : 1 ≤ length_of row.stretch = omega (arith, filled.own.is_stretch.has_length) in
          record {
            forward = here.forward;
            speed = speed_by _ (speed_den level) (speed_num level) (length_of row.stretch) scale (total_units row.shares) _ long is.positive
                (units_held level row.stretch row.shares fills)
                (subst (λ (g : ℕ). (slot_at_scale scale (slot_of pace row.stretch.from done share)).work * (g * length_of row.stretch * scale)
                ≡ scale * total_units row.shares * ((slot_at_scale scale (slot_of pace row.stretch.from done share)).to - (slot_at_scale scale (slot_of pace row.stretch.from done share)).from))
                grain here.speed);
          }) i d inside (divided i d inside)
        where
          same_pace : {p q : Pace} → Some p ≡ Some q → p ≡ q
          same_pace e = cc

      -- so their jobs are its members
      members : All (λ slot. Contains level.members slot.job) (row_slots row)
      members i d inside =
          let found = all_of_part (HasLevel levels scale) row_slots rows k no_row within (subst (All (HasLevel levels scale)) laid have_levels) i d inside in
          let own = run i d inside in
          let positive = λ (n : ℕ) (less : n < length levels). (plan.proper.well_formed.positive n no_level less).1 in
          let same : found.0 ≡ number = one_speed levels (λ n e less. (plan.proper.well_formed.positive n e less).1) plan.falling found.0 number found.1 is_level
          (same_speed _ (level_at levels found.0).work (level_at levels found.0).length (speed_num level) (speed_den level) (common_divisor level.work level.length) level.work level.length _
          (omega (arith, own.forward)) found.3 own.speed
          (work_over level.work level.length (common_divisor level.work level.length) (positive number is_level) refl)
          (length_over level.work level.length (common_divisor level.work level.length) (positive number is_level) refl)) in
          subst (λ (n : ℕ). Contains (level_at levels n).members (get_or (row_slots row) i d).job) same found.2

      pub held : IsHeld levels level row.stretch row.shares
      held =
          let of_jobs = ap jobs_of held_slots ∙ same_jobs (pace_of_level level) row.stretch.from 0 row.shares in
          record {
            has = Contains-get_or levels number no_level is_level;
            some_length = (plan.proper.well_formed.positive number no_level is_level).1;
            members = subst (All (λ job. Contains level.members job)) of_jobs (All-map (λ job. Contains level.members job) (λ (s : WrittenSlot). s.job) (row_slots row) members);
            fills = fills;
            apart = subst AreApart of_jobs apart;
          }

-- a row's slots lie in its stretch
pub row_lies : (row : Row) → IsRow row → All (λ slot. LiesWritten slot row.stretch) (row_slots row)
row_lies row is = paced_all (λ slot. LiesWritten slot row.stretch) row.pace row.stretch row.shares is
    (λ pace at fills done share some enough. lies_written pace row.stretch (total_units row.shares) fills.own done share some enough)
