-- The slots of a timetable's stretches: they run one after another, and which of them lie in a stretch.
use Rattle.yds_model.proofs.Common.{◌≡◌, ◌≢◌, ℕ, zero, suc, ◌+◌, ◌*◌, ◌<◌, ◌≤◌, List, [], ◌∷◌, ◌++◌, ◌∙◌, length, get_or, refl, sym, subst, arith, inl, inr, ap, ap₂, true, false, Some, None, Bool, Option, ◌&&◌, ◌==◌, cond, nat_le, sum_by, filter, All, AllZip, cases_eq, cases_lt, eq-eqb, le-leb, lt-leb, ne_eqb, and_right, append-nil, map-append, get_or-map, length-map, All-nil, All-tail, All-map, All-weaker, filter-append, sum_by-cons, mul-le-mul_right, mul-pos, at_scale, of_whole, WrittenSlot, WholeSlot, IsDivided, IsScale, IsSolid, slot_at, slot_at_scale, slots_at, work_given, Piece, PiecesFrom, RunFrom, LiesIn, slots_in, FillsAtSpeed, ServesCapacity, All-front, All-back, All-flat, filter_all, filter_none}
use Rattle.model_lemmas.proofs.Runs.{run_earlier, run_joined}
use Rattle.yds_model.specs.Plan.{IsOver}
use Rattle.yds_slots.proofs.WorkParts.{of_parts_over}
use Rattle.yds_events.specs.Stretch.{no_stretch, length_of}
use Rattle.yds_events.proofs.InOrder.{later_start}
use Rattle.yds_timetable.specs.declared.pace.Pace.{Pace}
use Rattle.yds_timetable.specs.Shares.{JobShare, total_units, units_given}
use Rattle.yds_timetable.specs.Pace.{time_after, slot_of, slots_from, Fills}
use Rattle.yds_timetable.specs.Timetable.{Row, row_at, stretches_of, slots_at_pace, row_slots, shares_of, slots_of, IsFilledAt, IsRow, HasGrain}
use Rattle.yds_timetable.proofs.Filling.{time_begins}
use Rattle.yds_timetable.proofs.Lists.{all_of_part, AllZip-flat}
use Rattle.yds_timetable.proofs.Paces.{IsFor, is_for, runs, solid, some_times, time_ends, each_slot, each_pair, slots_run, slots_fill, slots_work}

-- # One stretch

abbrev pub no_row : Row
no_row = record { stretch = no_stretch; pace = None; shares = [] }

-- what holds of each slot that a pace gives
pub paced_all : (P : WrittenSlot → Type 0) (pace : Option Pace) (stretch : Piece) (shares : List JobShare) → IsFilledAt pace stretch shares →
    ((p : Pace) → pace ≡ Some p → Fills p stretch shares → (done : ℕ) (share : JobShare) → 1 ≤ share.units → done + share.units ≤ total_units shares →
    P (slot_of p stretch.from done share)) → All P (slots_at_pace pace stretch.from shares)
paced_all P None stretch shares is each = All-nil P
paced_all P (Some pace) stretch shares fills each = each_slot pace stretch (total_units shares) fills.own P (each pace refl fills) 0 shares fills.some (omega arith)

-- at each scale the slot lies in the stretch and takes time
pub record Stays (scale : ℕ) (stretch : Piece) (slot : WholeSlot) : Type 0 where
  pub lies_in : LiesIn scale slot stretch
  pub forward : slot.from < slot.to

abbrev pub StaysIn : Piece → WrittenSlot → Type 0
StaysIn stretch slot = (scale : ℕ) → 1 ≤ scale → IsDivided scale slot → Stays scale stretch (slot_at_scale scale slot)

pub row_stays : (row : Row) → IsRow row → All (StaysIn row.stretch) (row_slots row)
row_stays row is = paced_all (StaysIn row.stretch) row.pace row.stretch row.shares is
    (λ pace at fills done share some enough scale positive divided.
    let here = runs pace row.stretch (total_units row.shares) fills.own done share some enough scale positive divided in
    record { lies_in = here.lies_in; forward = here.forward })

-- at a scale
pub stays_at : (row : Row) → IsRow row → (scale : ℕ) → 1 ≤ scale → All (IsDivided scale) (row_slots row) → All (Stays scale row.stretch) (slots_at scale (row_slots row))
stays_at row is scale positive divided = All-map (Stays scale row.stretch) (slot_at_scale scale) (row_slots row)
    (λ k d within. row_stays row is k d within scale positive (divided k d within))

-- denominators are at least 1, and a work is over the pace's grain
pub row_solid : (row : Row) → IsRow row → All IsSolid (row_slots row)
row_solid row is = paced_all IsSolid row.pace row.stretch row.shares is (λ pace at fills done share some enough. solid pace row.stretch (total_units row.shares) fills.own done share some enough)

pub row_over : (grain : ℕ) (row : Row) → IsRow row → HasGrain grain row.pace → All (λ slot. IsOver grain slot.work) (row_slots row)
row_over grain row is has = paced_all (λ slot. IsOver grain slot.work) row.pace row.stretch row.shares is
    (λ pace at fills done share some enough.
    subst (λ (g : ℕ). IsOver g (slot_of pace row.stretch.from done share).work) (subst (λ (p : Option Pace). HasGrain grain p) at has) (of_parts_over share.units pace.grain))

-- each slot is for its share
row_for : (grain : ℕ) (pace : Option Pace) (stretch : Piece) (shares : List JobShare) → IsFilledAt pace stretch shares → HasGrain grain pace →
    AllZip (IsFor stretch grain) shares (slots_at_pace pace stretch.from shares)
row_for grain None stretch shares is has = rw (is.1) tt
row_for grain (Some pace) stretch shares fills has =
    subst (λ (g : ℕ). AllZip (IsFor stretch g) shares (slots_from pace stretch.from 0 shares)) has (each_pair pace stretch (total_units shares) fills.own (IsFor stretch pace.grain) (is_for pace stretch (total_units shares) fills.own) 0 shares fills.some (omega arith))

module _ (scale : ℕ) (positive : 1 ≤ scale) where
  whole_at : (time : ℕ) → at_scale scale (of_whole time) ≡ time * scale
  whole_at time = omega arith

  -- they run one after another from the stretch's start
  paced_run : (pace : Option Pace) (stretch : Piece) (shares : List JobShare) → IsFilledAt pace stretch shares →
      All (IsDivided scale) (slots_at_pace pace stretch.from shares) → RunFrom (stretch.from * scale) (slots_at scale (slots_at_pace pace stretch.from shares))
  paced_run None stretch shares is divided = tt
  paced_run (Some pace) stretch shares fills divided =
      subst (λ (time : ℕ). RunFrom time (slots_at scale (slots_from pace stretch.from 0 shares)))
      (ap (at_scale scale) (time_begins pace stretch.from fills.own.some_units) ∙ whole_at stretch.from)
      (slots_run pace stretch (total_units shares) fills.own scale positive 0 shares fills.some (omega arith) divided)

  -- and fill it at its speed, or there are none
  paced_serves : (grain : ℕ) (pace : Option Pace) (stretch : Piece) (shares : List JobShare) (slots : List WholeSlot) → IsFilledAt pace stretch shares →
      HasGrain grain pace → All (IsDivided scale) (slots_at_pace pace stretch.from shares) →
      slots_in scale stretch slots ≡ slots_at scale (slots_at_pace pace stretch.from shares) → ServesCapacity grain scale (scale * total_units shares) stretch slots
  paced_serves grain None stretch shares slots is has divided there =
      serves_none (scale * total_units shares) (ap (λ (xs : List JobShare). scale * total_units xs) is.1 ∙ (omega arith)) there
    where
      serves_none : (capacity : ℕ) → capacity ≡ 0 → slots_in scale stretch slots ≡ [] → ServesCapacity grain scale capacity stretch slots
      serves_none zero none nothing = nothing
      serves_none (suc capacity) none nothing = absurd (omega arith)
  paced_serves grain (Some pace) stretch shares slots fills has divided there =
      serves_some (scale * total_units shares) (mul-pos positive some_units)
      (rw there (subst (λ (g : ℕ). FillsAtSpeed (scale * total_units shares) (g * length_of stretch * scale) (stretch.from * scale) (stretch.to * scale)
      (slots_at scale (slots_from pace stretch.from 0 shares))) has
      (subst (λ (from : ℕ). FillsAtSpeed (scale * total_units shares) (pace.grain * length_of stretch * scale) from (stretch.to * scale)
      (slots_at scale (slots_from pace stretch.from 0 shares)))
      (ap (at_scale scale) (time_begins pace stretch.from fills.own.some_units) ∙ whole_at stretch.from)
      (subst (λ (to : ℕ). FillsAtSpeed (scale * total_units shares) (pace.grain * length_of stretch * scale) (at_scale scale (time_after pace stretch.from 0)) to
      (slots_at scale (slots_from pace stretch.from 0 shares)))
      (ap (at_scale scale) (let all : 0 + total_units shares ≡ total_units shares = omega arith in ap (time_after pace stretch.from) all ∙ time_ends pace stretch (total_units shares) fills.own) ∙ whole_at stretch.to)
      (slots_fill pace stretch (total_units shares) fills.own scale positive 0 shares fills.some (omega arith) divided)))))
    where
      some_units : 1 ≤ total_units shares
      some_units = omega (arith, mul-pos fills.own.some_units (some_times pace stretch (total_units shares) fills.own), fills.own.units_is)

      serves_some : (capacity : ℕ) → 1 ≤ capacity →
          FillsAtSpeed capacity (grain * length_of stretch * scale) (stretch.from * scale) (stretch.to * scale) (slots_in scale stretch slots) →
          ServesCapacity grain scale capacity stretch slots
      serves_some zero more fill = absurd (omega arith)
      serves_some (suc capacity) more fill = fill

-- the work of a stretch's slots, in units
paced_work : (grain scale : ℕ) (pace : Option Pace) (stretch : Piece) (shares : List JobShare) → IsFilledAt pace stretch shares → HasGrain grain pace →
    All (IsDivided scale) (slots_at_pace pace stretch.from shares) →
    grain * sum_by (λ slot. slot.work) (slots_at scale (slots_at_pace pace stretch.from shares)) ≡ scale * total_units shares
paced_work grain scale None stretch shares is has divided = omega (arith, ap (λ (xs : List JobShare). scale * total_units xs) is.1)
paced_work grain scale (Some pace) stretch shares fills has divided =
    ap (λ g. g * sum_by (λ slot. slot.work) (slots_at scale (slots_from pace stretch.from 0 shares))) (sym has) ∙ slots_work pace stretch.from scale 0 shares divided

-- # Stretch after stretch

-- what runs one after another, by two places
run_at : (start : ℕ) (slots : List WholeSlot) (j : ℕ) → RunFrom start slots → j < length slots → start ≤ (slot_at slots j).from
run_at start [] j run within = absurd (omega arith)
run_at start (slot ∷ slots) zero run within = run.0
run_at start (slot ∷ slots) (suc j) run within = omega (arith, run.0, run.1, run_at slot.to slots j run.2 (omega arith))

pub run_pairs : (start : ℕ) (slots : List WholeSlot) (i j : ℕ) → RunFrom start slots → i < j → j < length slots → (slot_at slots i).to ≤ (slot_at slots j).from
run_pairs start [] i j run order within = absurd (omega arith)
run_pairs start (slot ∷ slots) i zero run order within = absurd (omega arith)
run_pairs start (slot ∷ slots) zero (suc j) run order within = run_at slot.to slots j run.2 (omega arith)
run_pairs start (slot ∷ slots) (suc i) (suc j) run order within = run_pairs slot.to slots i j run.2 (omega arith) (omega arith)

-- all slots run one after another
pub rows_run : (scale : ℕ) → 1 ≤ scale → (start : ℕ) (rows : List Row) → PiecesFrom start (stretches_of rows) → All IsRow rows →
    All (IsDivided scale) (slots_of rows) → RunFrom (start * scale) (slots_at scale (slots_of rows))
rows_run scale positive start [] order are divided = tt
rows_run scale positive start (row ∷ rows) order are divided =
    let mine = All-front (IsDivided scale) (row_slots row) (slots_of rows) divided in
    let is : IsRow row = are 0 row (omega arith) in
    let from : start * scale ≤ row.stretch.from * scale = mul-le-mul_right scale order.0 in
    let to : row.stretch.from * scale ≤ row.stretch.to * scale =
    mul-le-mul_right scale (let forward : row.stretch.from ≤ row.stretch.to = omega (arith, order.1) in forward) in
    rw (map-append (slot_at_scale scale) (row_slots row) (slots_of rows))
    (run_joined (start * scale) (row.stretch.to * scale) (slots_at scale (row_slots row)) (slots_at scale (slots_of rows)) (omega (arith, from, to))
    (run_earlier (start * scale) (row.stretch.from * scale) (slots_at scale (row_slots row)) from (paced_run scale positive row.pace row.stretch row.shares is mine))
    (All-weaker (Stays scale row.stretch) (λ slot. slot.to ≤ row.stretch.to * scale) (λ slot stays. stays.lies_in.to) (slots_at scale (row_slots row))
    (stays_at row is scale positive mine))
    (rows_run scale positive row.stretch.to rows order.2 (All-tail IsRow row rows are) (All-back (IsDivided scale) (row_slots row) (slots_of rows) divided)))

-- # In one stretch

-- a test that no slot passes but those of one row
no_row_passes : (test : WholeSlot → Bool) (scale : ℕ) (rows : List Row) →
    ((j : ℕ) → j < length rows → filter test (slots_at scale (row_slots (row_at rows j))) ≡ []) → filter test (slots_at scale (slots_of rows)) ≡ []
no_row_passes test scale [] none = refl
no_row_passes test scale (row ∷ rows) none =
    ap (filter test) (map-append (slot_at_scale scale) (row_slots row) (slots_of rows))
    ∙ filter-append test (slots_at scale (row_slots row)) (slots_at scale (slots_of rows))
    ∙ ap₂ (λ (xs ys : List WholeSlot). xs ++ ys) (none 0 (omega arith)) (no_row_passes test scale rows (λ j within. none (suc j) (omega arith)))

one_row_passes : (test : WholeSlot → Bool) (scale : ℕ) (rows : List Row) (k : ℕ) → k < length rows →
    ((j : ℕ) → j < length rows → j ≢ k → filter test (slots_at scale (row_slots (row_at rows j))) ≡ []) →
    filter test (slots_at scale (row_slots (row_at rows k))) ≡ slots_at scale (row_slots (row_at rows k)) →
    filter test (slots_at scale (slots_of rows)) ≡ slots_at scale (row_slots (row_at rows k))
one_row_passes test scale [] k within none own = absurd (omega arith)
one_row_passes test scale (row ∷ rows) zero within none own =
    ap (filter test) (map-append (slot_at_scale scale) (row_slots row) (slots_of rows))
    ∙ filter-append test (slots_at scale (row_slots row)) (slots_at scale (slots_of rows))
    ∙ ap₂ (λ (xs ys : List WholeSlot). xs ++ ys) own (no_row_passes test scale rows (λ j below. none (suc j) (omega arith) (λ is. omega (arith, is))))
    ∙ append-nil (slots_at scale (row_slots row))
one_row_passes test scale (row ∷ rows) (suc k) within none own =
    ap (filter test) (map-append (slot_at_scale scale) (row_slots row) (slots_of rows))
    ∙ filter-append test (slots_at scale (row_slots row)) (slots_at scale (slots_of rows))
    ∙ ap₂ (λ (xs ys : List WholeSlot). xs ++ ys) (none 0 (omega arith) (λ is. omega (arith, is)))
    (one_row_passes test scale rows k (omega arith) (λ j below other. none (suc j) (omega arith) (λ is. other (omega (arith, is)))) own)

module _ (rows : List Row) (order : PiecesFrom 0 (stretches_of rows)) (are : All IsRow rows) (scale : ℕ) (is : IsScale scale (slots_of rows)) where
  row_is : (k : ℕ) → k < length rows → IsRow (row_at rows k)
  row_is k within = are k no_row within

  divided_at : (k : ℕ) → k < length rows → All (IsDivided scale) (row_slots (row_at rows k))
  divided_at k within = all_of_part (IsDivided scale) row_slots rows k no_row within is.divided

  before : (j k : ℕ) → j < k → k < length rows → (row_at rows j).stretch.to * scale ≤ (row_at rows k).stretch.from * scale
  before j k less within = mul-le-mul_right scale (omega (
    arith,
    later_start 0 j k (stretches_of rows) order less (omega (arith, within, length-map rows (λ (row : Row). row.stretch))),
    ap (λ (piece : Piece). piece.to) (get_or-map (λ (row : Row). row.stretch) rows j no_row no_stretch (omega (arith, less, within))),
    ap (λ (piece : Piece). piece.from) (get_or-map (λ (row : Row). row.stretch) rows k no_row no_stretch within),
  ))

  abbrev lies : ℕ → WholeSlot → Bool
  lies k slot = nat_le ((row_at rows k).stretch.from * scale) slot.from && nat_le slot.to ((row_at rows k).stretch.to * scale)

  other_row : (k : ℕ) → k < length rows → (j : ℕ) → j < length rows → j ≢ k → filter (lies k) (slots_at scale (row_slots (row_at rows j))) ≡ []
  other_row k within j below other = filter_none (lies k) (slots_at scale (row_slots (row_at rows j)))
      (All-weaker (Stays scale (row_at rows j).stretch) (λ slot. lies k slot ≡ false) (λ slot stays. elim (cases_lt j k) [
        | inl earlier ↦ rw (lt-leb ((row_at rows k).stretch.from * scale) slot.from (omega (arith, before j k earlier within, stays.lies_in.to, stays.forward))) refl
        | inr later ↦
            let after : k < j = omega (arith, later, other) in
            and_right (nat_le ((row_at rows k).stretch.from * scale) slot.from) _
            (lt-leb slot.to ((row_at rows k).stretch.to * scale) (omega (arith, before k j after below, stays.lies_in.from, stays.forward)))
      ]) (slots_at scale (row_slots (row_at rows j))) (stays_at (row_at rows j) (row_is j below) scale is.positive (divided_at j below)))

  own_row : (k : ℕ) → k < length rows → filter (lies k) (slots_at scale (row_slots (row_at rows k))) ≡ slots_at scale (row_slots (row_at rows k))
  own_row k within = filter_all (lies k) (slots_at scale (row_slots (row_at rows k)))
      (All-weaker (Stays scale (row_at rows k).stretch) (λ slot. lies k slot ≡ true) (λ slot stays.
      rw (le-leb ((row_at rows k).stretch.from * scale) slot.from stays.lies_in.from, le-leb slot.to ((row_at rows k).stretch.to * scale) stays.lies_in.to) refl)
      (slots_at scale (row_slots (row_at rows k))) (stays_at (row_at rows k) (row_is k within) scale is.positive (divided_at k within)))

  -- the slots that lie in a stretch are its own
  pub slots_in_row : (k : ℕ) → k < length rows →
      slots_in scale (row_at rows k).stretch (slots_at scale (slots_of rows)) ≡ slots_at scale (row_slots (row_at rows k))
  slots_in_row k within = one_row_passes (lies k) scale rows k within (other_row k within) (own_row k within)

  module _ (grain : ℕ) (has : All (λ row. HasGrain grain row.pace) rows) where
    -- they fill it
    pub row_serves : (k : ℕ) → k < length rows →
        ServesCapacity grain scale (scale * total_units (row_at rows k).shares) (row_at rows k).stretch (slots_at scale (slots_of rows))
    row_serves k within =
        paced_serves scale is.positive grain (row_at rows k).pace (row_at rows k).stretch (row_at rows k).shares (slots_at scale (slots_of rows)) (row_is k within)
        (has k no_row within) (divided_at k within) (slots_in_row k within)

    -- and their work is what its shares are
    pub row_work : (k : ℕ) → k < length rows →
        grain * sum_by (λ slot. slot.work) (slots_in scale (row_at rows k).stretch (slots_at scale (slots_of rows))) ≡ scale * total_units (row_at rows k).shares
    row_work k within =
        ap (λ (xs : List WholeSlot). grain * sum_by (λ slot. slot.work) xs) (slots_in_row k within)
        ∙ paced_work grain scale (row_at rows k).pace (row_at rows k).stretch (row_at rows k).shares (row_is k within) (has k no_row within) (divided_at k within)

-- # All slots

pub rows_solid : (rows : List Row) → All IsRow rows → All IsSolid (slots_of rows)
rows_solid rows are = All-flat IsSolid row_slots rows (All-weaker IsRow (λ row. All IsSolid (row_slots row)) (λ row is. row_solid row is) rows are)

pub rows_over : (grain : ℕ) (rows : List Row) → All IsRow rows → All (λ row. HasGrain grain row.pace) rows → All (λ slot. IsOver grain slot.work) (slots_of rows)
rows_over grain rows are has = All-flat (λ slot. IsOver grain slot.work) row_slots rows
    (λ k d within. row_over grain (get_or rows k d) (are k d within) (has k d within))

-- each slot is for a share, within the share's stretch
pub rows_for : (R : JobShare → WrittenSlot → Type 0) (grain : ℕ) (rows : List Row) → All IsRow rows → All (λ row. HasGrain grain row.pace) rows →
    ((k : ℕ) → k < length rows → AllZip (IsFor (row_at rows k).stretch grain) (row_at rows k).shares (row_slots (row_at rows k)) → AllZip R (row_at rows k).shares (row_slots (row_at rows k))) →
    AllZip R (shares_of rows) (slots_of rows)
rows_for R grain rows are has each = AllZip-flat R (λ (row : Row). row.shares) row_slots rows no_row
    (λ k within. each k within (row_for grain (row_at rows k).pace (row_at rows k).stretch (row_at rows k).shares (are k no_row within) (has k no_row within)))

-- slots beside shares: the work that they give a job, where a unit of work has q of its units
pub zipped_work : (R : JobShare → WholeSlot → Type 0) (q scale job : ℕ) →
    ((share : JobShare) (slot : WholeSlot) → R share slot → (slot.job ≡ share.job) × (share.job ≡ job → slot.work * q ≡ share.units * scale)) →
    (shares : List JobShare) (slots : List WholeSlot) → AllZip R shares slots → q * work_given slots job ≡ scale * units_given shares job
zipped_work R q scale job says [] [] beside = omega arith
zipped_work R q scale job says [] (slot ∷ slots) beside = absurd beside
zipped_work R q scale job says (share ∷ shares) [] beside = absurd beside
zipped_work R q scale job says (share ∷ shares) (slot ∷ slots) beside =
    let here = says share slot beside.0 in
    let mine : q * cond (job == slot.job) slot.work 0 ≡ scale * cond (job == share.job) share.units 0 =
    rw (here.0) (elim (cases_eq job share.job) [
      | inl same ↦ rw (eq-eqb job share.job same) (omega (arith, here.1 (sym same)))
      | inr other ↦ rw (ne_eqb job share.job other) (omega arith)
    ]) in
    omega (
      arith,
      mine,
      zipped_work R q scale job says shares slots beside.1,
      ap (λ n. q * n) (sum_by-cons (λ (s : WholeSlot). cond (job == s.job) s.work 0) slot slots),
      ap (λ n. scale * n) (sum_by-cons (λ (s : JobShare). cond (job == s.job) s.units 0) share shares),
    )
