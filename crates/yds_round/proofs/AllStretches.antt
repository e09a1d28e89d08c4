-- A plan's timetable, rounded stretch by stretch.
use Rattle.yds_model.proofs.Common.{◌≡◌, ℕ, zero, suc, ◌+◌, ◌*◌, ◌<◌, ◌≤◌, ◌⊎◌, List, [], ◌∷◌, ◌++◌, length, get_or, take, drop, refl, sym, ap, ◌∙◌, subst, arith, inl, inr, append_assoc, add-one, Some, None, Option, All, AllZip, Contains, append-nil, length-append, length-map, get_or-map, take_all, take_at, drop_at, take_more, take-append-drop, flat_map-append, All-nil, All-append, All-map, drop-cons, Job, WrittenSlot, IsScale, Piece, Level, no_level, level_at, Point, hull_of, stretches, LiesWritten, IsPlan, RoundsStretch, RoundsStretches, flat_map-take}
use Rattle.model_lemmas.proofs.Scale.{scale_exists}
use Rattle.base.specs.declared.limits.TheConstants.{MAX_JOBS}
use Rattle.yds_events.specs.Stretch.{no_stretch}
use Rattle.yds_events.proofs.Neighbours.{few_stretches}
use Rattle.yds_timetable.specs.declared.pace.Pace.{Pace as Speed}
use Rattle.yds_timetable.specs.Shares.{JobShare}
use Rattle.yds_timetable.specs.Timetable.{Row, row_at, stretches_of, slots_at_pace, row_slots, slots_of, IsFilledAt, IsRow}
use Rattle.yds_timetable.proofs.Filling.{length_from}
use Rattle.yds_timetable.proofs.Lists.{all_of_part, zipped_at, length_zipped}
use Rattle.yds_timetable.proofs.Rows.{no_row}
use Rattle.yds_plan.specs.Timetabled.{pace_of_level, RunsAtLevel, IsTimetabled}
use Rattle.yds_round.specs.declared.split.Split.{Split}
use Rattle.yds_round.specs.LevelPace.{RunsAs, pace_at}
use Rattle.yds_round.specs.Written.{written_at, FitsJob}
use Rattle.yds_round.specs.Cut.{CanRound}
use Rattle.yds_round.specs.Rounded.{written_row, written_to, level_number_at}
use Rattle.yds_round.proofs.Cuts.{WorksOver}
use Rattle.yds_round.proofs.InTurn.{share_jobs, jobs_of}
use Rattle.yds_round.proofs.Held.{IsHeld, known, held, held_slots, row_lies, same_jobs}
use Rattle.yds_round.proofs.Rounds.{level_slots, pace_grain, rounds_by, over_by, jobs_by, more_by, can_round_by}
use Rattle.model_lemmas.proofs.Counted.{one_level}

-- # A timetable's slots, stretch by stretch

-- as many as shares
row_length : (pace : Option Speed) (stretch : Piece) (shares : List JobShare) → IsFilledAt pace stretch shares →
    length (slots_at_pace pace stretch.from shares) ≡ length shares
row_length None stretch shares is = ap (λ (xs : List JobShare). length xs) (sym is.1)
row_length (Some pace) stretch shares fills = length_from pace stretch.from 0 shares

-- the next are as many as the stretch has shares
module _ (rows : List Row) (are : All IsRow rows) (k : ℕ) (within : k < length rows) where
  own : length (row_slots (row_at rows k)) ≡ length (row_at rows k).shares
  own = row_length (row_at rows k).pace (row_at rows k).stretch (row_at rows k).shares (are k no_row within)

  rest_is : slots_of (drop k rows) ≡ row_slots (row_at rows k) ++ slots_of (drop (suc k) rows)
  rest_is = ap slots_of (drop-cons rows k no_row within)

  pub enough : length (row_at rows k).shares ≤ length (slots_of (drop k rows))
  enough = omega (arith, own, ap (λ (slots : List WrittenSlot). length slots) rest_is, length-append (row_slots (row_at rows k)) (slots_of (drop (suc k) rows)))

  pub next_slots : take (length (row_at rows k).shares) (slots_of (drop k rows)) ≡ row_slots (row_at rows k)
  next_slots = ap (take (length (row_at rows k).shares)) rest_is ∙ take_at (row_slots (row_at rows k)) (slots_of (drop (suc k) rows)) (length (row_at rows k).shares) own

  pub later_slots : drop (length (row_at rows k).shares) (slots_of (drop k rows)) ≡ slots_of (drop (suc k) rows)
  later_slots = ap (drop (length (row_at rows k).shares)) rest_is ∙ drop_at (row_slots (row_at rows k)) (slots_of (drop (suc k) rows)) (length (row_at rows k).shares) own

-- the first ones are no more than all
few_before : (rows : List Row) (k : ℕ) → length (slots_of (take k rows)) ≤ length (slots_of rows)
few_before rows k = omega (
  arith,
  ap (λ (slots : List WrittenSlot). length slots) (ap slots_of (sym (take-append-drop k rows)) ∙ flat_map-append row_slots (take k rows) (drop k rows)),
  length-append (slots_of (take k rows)) (slots_of (drop k rows)),
)

-- # One more stretch

-- is rounded after others
rounds_push : (hull : List Point) (levels : List Level) (pieces : List Piece) (planned written : List WrittenSlot) (piece : Piece) (here made : List WrittenSlot) →
    RoundsStretches hull levels pieces planned written → All (λ slot. LiesWritten slot piece) here → RoundsStretch hull levels piece here made →
    RoundsStretches hull levels (pieces ++ piece ∷ []) (planned ++ here) (written ++ made)
rounds_push hull levels [] planned written piece here made rounds lies one = (
  here,
  [],
  made,
  [],
  ap (λ (slots : List WrittenSlot). slots ++ here) rounds.0 ∙ sym (append-nil here),
  ap (λ (slots : List WrittenSlot). slots ++ made) rounds.1 ∙ sym (append-nil made),
  lies,
  one,
  (refl, refl),
)
rounds_push hull levels (first ∷ pieces) planned written piece here made (own, later, done, done_later, parts, made_parts, own_lies, own_rounds, rest) lies one = (
  own,
  later ++ here,
  done,
  done_later ++ made,
  ap (λ (slots : List WrittenSlot). slots ++ here) parts ∙ append_assoc own later here,
  ap (λ (slots : List WrittenSlot). slots ++ made) made_parts ∙ append_assoc done done_later made,
  own_lies,
  own_rounds,
  rounds_push hull levels pieces later done_later piece here made rest lies one,
)

-- it is idle, or runs at the speed of the level with its number
abbrev RunsThere : List Level → Option Speed → Option ℕ → Type 0
RunsThere levels pace number =
    ((pace ≡ None) × (number ≡ None))
    ⊎ ((n : ℕ) × (number ≡ Some n) × (n < length levels) × (pace ≡ Some (pace_of_level (level_at levels n))))

runs_there : (levels : List Level) (pace : Option Speed) (number : Option ℕ) → RunsAtLevel levels pace number → RunsThere levels pace number
runs_there levels None None at = inl (refl, refl)
runs_there levels None (Some number) at = absurd at
runs_there levels (Some pace) None at = absurd at
runs_there levels (Some pace) (Some number) at = inr (number, refl, at.0, ap (λ (p : Speed). Some p) at.1)

module _ (jobs : List Job) (points : List Point) (planned : List WrittenSlot) (levels : List Level) (paces : List (Option Split)) (rows : List Row) (numbers : List (Option ℕ))
    (plan : IsPlan jobs planned levels) (are : AllZip (RunsAs points) levels paces) (on : IsTimetabled jobs rows numbers planned levels) (all_rows : All IsRow rows) where
  scale : (n : ℕ) × IsScale n planned
  scale = scale_exists planned plan.proper.feasible.solid

  -- the denominator that the works of a level's jobs are written in
  abbrev grain_at : ℕ → ℕ
  grain_at place = pace_grain (level_at levels place) (pace_at paces place)

  abbrev KeepsGrain : WrittenSlot → Type 0
  KeepsGrain slot = (place : ℕ) → place < length levels → Contains (level_at levels place).members slot.job → WorksOver (grain_at place) slot

  -- # One stretch

  module _ (k : ℕ) (within : k < length rows) where
    abbrev row : Row
    row = row_at rows k

    abbrev made : List WrittenSlot
    made = written_row paces row (level_number_at numbers k)

    there : RunsThere levels row.pace (level_number_at numbers k)
    there = runs_there levels row.pace (level_number_at numbers k) (zipped_at (λ (r : Row) (number : Option ℕ). RunsAtLevel levels r.pace number) rows numbers k no_row None on.levels_are within)

    own_known : All (λ slot. slot.job < length jobs) (row_slots row)
    own_known = all_of_part (λ slot. slot.job < length jobs) row_slots rows k no_row within
        (subst (All (λ slot. slot.job < length jobs)) on.slots_are (known jobs planned levels plan scale.0 scale.1))

    -- where it is idle nothing is planned or written
    none_planned : row.pace ≡ None → row_slots row ≡ []
    none_planned idle = ap (λ (p : Option Speed). slots_at_pace p row.stretch.from row.shares) idle

    none_written : level_number_at numbers k ≡ None → made ≡ []
    none_written idle = ap (written_row paces row) idle

    module _ (n : ℕ) (is_number : level_number_at numbers k ≡ Some n) (is_level : n < length levels) (at : row.pace ≡ Some (pace_of_level (level_at levels n))) where
      holds : IsHeld levels (level_at levels n) row.stretch row.shares
      holds = held jobs planned levels plan scale.0 scale.1 rows on.stretches_are on.slots_are all_rows k within n is_level at

      slots_are : row_slots row ≡ level_slots (level_at levels n) row.stretch row.shares
      slots_are = held_slots jobs planned levels plan scale.0 scale.1 rows on.stretches_are on.slots_are all_rows k within n is_level at

      written_is : made ≡ written_at row.stretch row.shares (level_slots (level_at levels n) row.stretch row.shares) (pace_at paces n)
      written_is = ap (written_row paces row) is_number ∙ ap (λ (slots : List WrittenSlot). written_at row.stretch row.shares slots (pace_at paces n)) slots_are

      pace_is : RunsAs points (level_at levels n) (pace_at paces n)
      pace_is = zipped_at (RunsAs points) levels paces n no_level None are is_level

      level_rounds : RoundsStretch (hull_of points) levels row.stretch (row_slots row) made
      level_rounds = rw (written_is, slots_are)
          (rounds_by points levels (level_at levels n) (pace_at paces n) row.stretch row.shares pace_is holds)

      known_jobs : All (λ job. job < length jobs) (share_jobs row.shares)
      known_jobs = subst (All (λ job. job < length jobs)) (ap jobs_of slots_are ∙ same_jobs (pace_of_level (level_at levels n)) row.stretch.from 0 row.shares)
          (All-map (λ job. job < length jobs) (λ (slot : WrittenSlot). slot.job) (row_slots row) own_known)

      level_keeps : All KeepsGrain made
      level_keeps =
          let split = pace_at paces n in
          let level = level_at levels n in
          let works = over_by levels level split row.stretch row.shares holds in
          let members = jobs_by (λ job. Contains level.members job) level split row.stretch row.shares holds.members in
          let jobs_known = jobs_by (λ job. job < length jobs) level split row.stretch row.shares known_jobs in
          subst (All KeepsGrain) (sym written_is) (λ i d inside place less has.
          let slot = get_or (written_at row.stretch row.shares (level_slots level row.stretch row.shares) split) i d in
          let same : n ≡ place = one_level levels n place slot.job (plan.proper.members slot.job (jobs_known i d inside)).at_most_once is_level less (members i d inside) has in
          subst (λ (m : ℕ). WorksOver (grain_at m) slot) same (works i d inside))

      level_more : length made ≤ length (row_slots row) + 1
      level_more = rw (written_is, slots_are) (more_by points (level_at levels n) (pace_at paces n) row.stretch row.shares pace_is)

    rounds : RoundsStretch (hull_of points) levels row.stretch (row_slots row) made
    rounds = grind (arith, level_rounds, none_planned, none_written, there)

    keeps : All KeepsGrain made
    keeps = grind (arith, All-nil, level_keeps, none_written, there)

    -- at most one slot more than the plan has
    more : length made ≤ length (row_slots row) + 1
    more = grind (arith, level_more, none_written, there)

    planned_next : length (slots_of (take (suc k) rows)) ≡ length (slots_of (take k rows)) + length (row_slots row)
    planned_next = omega (
      arith,
      ap (λ (slots : List WrittenSlot). length slots) (flat_map-take row_slots rows k no_row within),
      length-append (slots_of (take k rows)) (row_slots row),
    )

  -- # The first stretches

  rounds_to : (k : ℕ) → k ≤ length rows →
      RoundsStretches (hull_of points) levels (take k (stretches_of rows)) (slots_of (take k rows)) (written_to paces rows numbers k)
  rounds_to zero few = (refl, refl)
  rounds_to (suc k) few =
      let within : k < length rows = omega (arith, few) in
      let long : k < length (stretches_of rows) = omega (arith, within, length-map rows (λ (r : Row). r.stretch)) in
      let pieces : take (suc k) (stretches_of rows) ≡ take k (stretches_of rows) ++ (row_at rows k).stretch ∷ [] =
      (rw add-one at (take_more {X = Piece} (stretches_of rows) k no_stretch long))
      ∙ ap (λ (piece : Piece). take k (stretches_of rows) ++ piece ∷ []) (get_or-map (λ (r : Row). r.stretch) rows k no_row no_stretch within) in
      rw (pieces, flat_map-take row_slots rows k no_row within)
      (rounds_push (hull_of points) levels (take k (stretches_of rows)) (slots_of (take k rows)) (written_to paces rows numbers k) (row_at rows k).stretch
      (row_slots (row_at rows k)) (written_row paces (row_at rows k) (level_number_at numbers k)) (rounds_to k (omega (arith, few)))
      (row_lies (row_at rows k) (all_rows k no_row within)) (rounds k within))

  keeps_to : (k : ℕ) → k ≤ length rows → All KeepsGrain (written_to paces rows numbers k)
  keeps_to zero few = All-nil KeepsGrain
  keeps_to (suc k) few =
      All-append KeepsGrain (written_to paces rows numbers k) (written_row paces (row_at rows k) (level_number_at numbers k)) (keeps_to k (omega (arith, few)))
      (keeps k (omega (arith, few)))

  few_to : (k : ℕ) → k ≤ length rows → length (written_to paces rows numbers k) ≤ length (slots_of (take k rows)) + k
  few_to zero few = omega arith
  few_to (suc k) few = omega (
    arith,
    few_to k (omega (arith, few)),
    more k (omega (arith, few)),
    planned_next k (omega (arith, few)),
    length-append (written_to paces rows numbers k) (written_row paces (row_at rows k) (level_number_at numbers k)),
  )

  pub few_rows : length rows ≤ 2 * length jobs
  few_rows = omega (arith, ap (λ (pieces : List Piece). length pieces) on.stretches_are, length-map rows (λ (r : Row). r.stretch), few_stretches jobs)

  few_all : (k : ℕ) → k ≤ length rows → length (written_to paces rows numbers k) ≤ 5 * length jobs
  few_all k few = omega (
    arith,
    few_to k few,
    few_before rows k,
    ap (λ (slots : List WrittenSlot). length slots) on.slots_are,
    plan.few_slots,
    few,
    few_rows,
  )

  -- # All stretches

  pub rounds_plan : RoundsStretches (hull_of points) levels (stretches jobs) planned (written_to paces rows numbers (length rows))
  rounds_plan =
      let all_pieces : take (length rows) (stretches_of rows) ≡ stretches jobs =
      take_all (length rows) (stretches_of rows) (omega (arith, length-map rows (λ (r : Row). r.stretch))) ∙ on.stretches_are in
      let all_slots : slots_of (take (length rows) rows) ≡ planned = ap slots_of (take_all (length rows) rows (omega arith)) ∙ sym on.slots_are in
      subst (λ (pieces : List Piece). RoundsStretches (hull_of points) levels pieces planned (written_to paces rows numbers (length rows))) all_pieces
      (subst (λ (slots : List WrittenSlot). RoundsStretches (hull_of points) levels (take (length rows) (stretches_of rows)) slots (written_to paces rows numbers (length rows))) all_slots
      (rounds_to (length rows) (omega arith)))

  pub few_written : length (written_to paces rows numbers (length rows)) ≤ 5 * length jobs
  few_written = few_all (length rows) (omega arith)

  -- # One more stretch, as the code reads it

  module _ (k n : ℕ) (within : k < length rows) (is_number : level_number_at numbers k ≡ Some n) where
    abbrev next : Row
    next = row_at rows k

    level_there : (n < length levels) × (next.pace ≡ Some (pace_of_level (level_at levels n)))
    level_there = elim (there k within) [
      | inl idle ↦ absurd (let no : Some n ≡ None = sym is_number ∙ idle.1 in cc)
      | inr (m, is_other, is_level, at) ↦
          let same : m ≡ n = (let both : Some m ≡ Some n = sym is_other ∙ is_number in cc) in
          subst (λ (i : ℕ). (i < length levels) × (next.pace ≡ Some (pace_of_level (level_at levels i)))) same (is_level, at)
    ]

    pub pace_known : n < length paces
    pace_known = omega (arith, level_there.0, length_zipped (RunsAs points) levels paces are)

    pub can_round : length jobs ≤ MAX_JOBS →
        CanRound (pace_at paces n) next.stretch (length jobs) (written_to paces rows numbers k) next.shares (row_slots next)
    can_round few =
        let level = level_at levels n in
        let before = written_to paces rows numbers k in
        let is_level = level_there.0 in
        let at = level_there.1 in
        let holding = holds k within n is_number is_level at in
        let so_far : k ≤ length rows = omega (arith, within) in
        let fits : All (λ job. FitsJob (grain_at n) before job) (share_jobs next.shares) = λ i d inside.
        λ j e there same. keeps_to k so_far j e there n is_level (subst (Contains level.members) (sym same) (holding.members i d inside)) in
        rw (slots_are k within n is_number is_level at)
        (can_round_by points levels level (pace_at paces n) next.stretch (length jobs) before next.shares
        (pace_is k within n is_number is_level at) holding (known_jobs k within n is_number is_level at) fits (omega (
          arith,
          few,
          few_all k so_far,
          planned_next k within,
          few_before rows (suc k),
          own rows all_rows k within,
          ap (λ (slots : List WrittenSlot). length slots) on.slots_are,
          plan.few_slots,
        )))
