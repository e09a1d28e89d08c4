-- Share by share and stretch by stretch: the next slots are within their limits, and then they stand last.
use Rattle.yds_model.proofs.Common.{◌≡◌, ℕ, ◌+◌, ◌*◌, ◌<◌, ◌≤◌, List, [], ◌∷◌, ◌++◌, ◌∙◌, length, get_or, take, drop, sym, refl, ap, ap₂, subst, arith, Some, None, add-one, Option, All, append_assoc, length-append, take_more, take-append-drop, length-take-le, flat_map-append, length-flat_map-take, sum_by-cons, sum_by_push, sum_by_more_le, All-nil, All-cons, All-append, mul-le-mul_right, le_of_mul-le-mul_right, Fraction, of_whole, of_parts, WrittenSlot, Piece, IsFraction, All-front, All-back, flat_map-take}
use Rattle.base.specs.declared.limits.TheConstants.{MAX_SLOTS, MAX_TIME, MAX_SLOT_WORK, MAX_WHOLE}
use Rattle.yds_model.specs.Plan.{IsOver}
use Rattle.yds_events.specs.Stretch.{no_stretch}
use Rattle.yds_fraction.proofs.WithinLimits.{IsFraction-within}
use Rattle.yds_slots.specs.Schedule.{FitsGrain}
use Rattle.yds_timetable.specs.declared.limits.TheConstants.{MAX_UNITS}
use Rattle.yds_timetable.specs.declared.pace.Pace.{Pace}
use Rattle.yds_timetable.specs.Shares.{JobShare, total_units}
use Rattle.yds_timetable.specs.Pace.{time_after, slot_of, slots_from, IsPaceOf, Fills}
use Rattle.yds_timetable.specs.Timetable.{Row, row_at, slots_at_pace, row_slots, shares_of, slots_of, IsRow, IsFilledAt}
use Rattle.yds_timetable.specs.Room.{HaveGrains, CanLay, CanFill, CanRun, CanReach, CanFollow}
use Rattle.yds_timetable.proofs.Grains.{fits_over}

-- # One share more

-- a whole number of wholes
pub whole_parts : (n den : ℕ) → 1 ≤ den → of_parts (n * den) den ≡ of_whole n
whole_parts n den some = grind arith

-- nothing is done yet
pub time_begins : (pace : Pace) (start : ℕ) → 1 ≤ pace.units → time_after pace start 0 ≡ of_whole start
time_begins pace start some = grind arith

-- the slots of shares, and of others after them
slots_after : (pace : Pace) (start done : ℕ) (shares more : List JobShare) →
    slots_from pace start done (shares ++ more) ≡ slots_from pace start done shares ++ slots_from pace start (done + total_units shares) more
slots_after pace start done [] more = let same : done + 0 ≡ done = omega arith in rw same refl
slots_after pace start done (first ∷ shares) more =
    let same : done + first.units + total_units shares ≡ done + total_units (first ∷ shares) =
    omega (arith, sum_by-cons (λ (one : JobShare). one.units) first shares) in
    ap (λ slots. slot_of pace start done first ∷ slots) (slots_after pace start (done + first.units) shares more
    ∙ ap (λ n. slots_from pace start (done + first.units) shares ++ slots_from pace start n more) same)

slots_first : (pace : Pace) (start : ℕ) (shares more : List JobShare) →
    slots_from pace start 0 (shares ++ more) ≡ slots_from pace start 0 shares ++ slots_from pace start (total_units shares) more
slots_first pace start shares more =
    let same : 0 + total_units shares ≡ total_units shares = omega arith in
    slots_after pace start 0 shares more ∙ ap (λ n. slots_from pace start 0 shares ++ slots_from pace start n more) same

pub length_from : (pace : Pace) (start done : ℕ) (shares : List JobShare) → length (slots_from pace start done shares) ≡ length shares
length_from pace start done [] = refl
length_from pace start done (share ∷ shares) = omega (arith, length_from pace start (done + share.units) shares)

-- what is reached after some of the shares
pub record IsReached (pace : Pace) (start : ℕ) (shares : List JobShare) (done : ℕ) (from : Fraction) : Type 0 where
  pub units : done ≡ total_units shares
  pub is : from ≡ time_after pace start done
  pub kept : IsFraction MAX_TIME from

pub reached_none : (pace : Pace) (start : ℕ) (shares : List JobShare) (from : Fraction) → CanRun pace start shares → from ≡ of_whole start →
    IsFraction MAX_WHOLE from → IsReached pace start [] 0 from
reached_none pace start shares from can is kept = grind (arith, IsFraction-within, le_of_mul-le-mul_right, time_begins)

-- the next of the shares
pub record IsNext (pace : Pace) (start : ℕ) (shares : List JobShare) (i : ℕ) (share : JobShare) (done : ℕ) (from : Fraction) : Type 0 where
  pub can : CanRun pace start shares
  pub within : i < length shares
  pub default : JobShare
  pub is : share ≡ get_or shares i default
  pub reached : IsReached pace start (take i shares) done from

module _ (pace : Pace) (start : ℕ) (shares : List JobShare) (i : ℕ) (share : JobShare) (done : ℕ) (from : Fraction)
    (next : IsNext pace start shares i share done from) where
  here : total_units (take i shares) + share.units ≤ total_units shares
  here = grind (arith, sum_by_more_le)

  taken : take (i + 1) shares ≡ take i shares ++ share ∷ []
  taken = take_more shares i next.default next.within ∙ ap (λ s. take i shares ++ s ∷ []) (sym next.is)

  pub can_reach : CanReach pace start done share.units
  can_reach = grind (arith, here, mul-le-mul_right)

  -- what holds of those before it and of itself
  pub all_next : (P : JobShare → Type 0) → All P (take i shares) → P share → All P (take (i + 1) shares)
  all_next P before mine = subst (λ (xs : List JobShare). All P xs) (sym taken) (All-append P (take i shares) (share ∷ []) before (All-cons P share [] mine (All-nil P)))

  -- its slot comes last
  pub slots_next : slots_from pace start 0 (take (i + 1) shares) ≡ slots_from pace start 0 (take i shares) ++ slot_of pace start done share ∷ []
  slots_next = grind (arith, slots_first, taken)

  pub reached_next : (slot : WrittenSlot) (units : ℕ) → slot ≡ slot_of pace start done share → units ≡ share.units → IsFraction MAX_TIME slot.to →
      IsReached pace start (take (i + 1) shares) (done + units) slot.to
  reached_next slot units slot_is same kept = grind (arith, sum_by_push, taken)

  -- and it can stand after others
  module _ (jobs : ℕ) (slots now : List WrittenSlot) (can : CanFollow jobs slots pace start shares) (laid : now ≡ slots ++ slots_from pace start 0 (take i shares)) where
    pub room_next : length now < MAX_SLOTS
    room_next = omega (
      arith,
      ap length laid,
      length-append slots (slots_from pace start 0 (take i shares)),
      length_from pace start 0 (take i shares),
      length-take-le i shares (let most : i ≤ length shares = let within = next.within in omega arith in most),
      next.within,
      can.few,
    )

    pub grain_next : (slot : WrittenSlot) → slot ≡ slot_of pace start done share → FitsGrain now slot
    grain_next slot slot_is =
        let grain = can.grains.0 in
        let Over : WrittenSlot → Type 0 = λ one. IsOver (grain one.job) one.work in
        let more = slots_from pace start (total_units (take (i + 1) shares)) (drop (i + 1) shares) in
        let rest : slots_from pace start 0 shares ≡ slots_from pace start 0 (take (i + 1) shares) ++ more =
        ap (slots_from pace start 0) (sym (take-append-drop (i + 1) shares)) ∙ slots_first pace start (take (i + 1) shares) (drop (i + 1) shares) in
        let all : All Over ((now ++ slot_of pace start done share ∷ []) ++ more) = subst (λ (xs : List WrittenSlot). All Over xs)
        (ap (λ xs. slots ++ xs) (rest ∙ ap (λ xs. xs ++ more) slots_next)
        ∙ sym (append_assoc slots (slots_from pace start 0 (take i shares) ++ slot_of pace start done share ∷ []) more)
        ∙ ap (λ xs. xs ++ more) (sym (append_assoc slots (slots_from pace start 0 (take i shares)) (slot_of pace start done share ∷ [])))
        ∙ ap (λ xs. (xs ++ slot_of pace start done share ∷ []) ++ more) (sym laid)) can.grains.1 in
        let front = All-front Over (now ++ slot_of pace start done share ∷ []) more all in
        rw (slot_is)
        (fits_over grain now (slot_of pace start done share) (All-front Over now (slot_of pace start done share ∷ []) front)
        (All-back Over now (slot_of pace start done share ∷ []) front 0 slot (omega arith)))

    pub laid_next : (slot : WrittenSlot) → slot ≡ slot_of pace start done share → now ++ slot ∷ [] ≡ slots ++ slots_from pace start 0 (take (i + 1) shares)
    laid_next slot slot_is = grind (arith, append_assoc, ap₂, slots_next)

-- # One stretch more

-- in plain numbers: what fills a stretch ends with it
ends_in_range : (from to units time times all : ℕ) → from + time * times ≡ to → units * times ≡ all → to ≤ MAX_TIME → from * units + all * time ≤ MAX_TIME * units
ends_in_range from to units time times all long total few = omega (arith, ap (λ n. n * units) long, ap (λ n. n * time) total, mul-le-mul_right units few)

-- shares of at most the units that fill a stretch
pub can_run : (pace : Pace) (stretch : Piece) (units : ℕ) (shares : List JobShare) → IsPaceOf pace stretch units → total_units shares ≤ units →
    total_units shares ≤ MAX_UNITS → All (λ share. share.units ≤ pace.grain * MAX_SLOT_WORK) shares → CanRun pace stretch.from shares
can_run pace stretch units shares is enough few works = record {
  some_units = is.some_units;
  units_in_range = is.units_in_range;
  some_grain = is.some_grain;
  grain_in_range = is.grain_in_range;
  ends = omega (
    arith,
    ends_in_range stretch.from stretch.to pace.units pace.time is.times units (omega (arith, is.length_is, is.is_stretch.has_length)) is.units_is
        is.is_stretch.time_in_range,
    mul-le-mul_right pace.time enough,
  );
  few_units = few;
  works = works;
}

-- a stretch's slots can stand where the shares that fill it can
pub can_follow : (jobs : ℕ) (slots : List WrittenSlot) (row : Row) (pace : Pace) → row.pace ≡ Some pace → IsRow row → CanFill jobs slots row →
    CanFollow jobs slots pace row.stretch.from row.shares
can_follow jobs slots row pace at is can =
    let fills : Fills pace row.stretch row.shares = subst (λ (p : Option Pace). IsFilledAt p row.stretch row.shares) at is in
    record {
      run = can_run pace row.stretch (total_units row.shares) row.shares fills.own (omega arith) fills.few fills.works;
      few = can.few;
      known = can.known;
      grains = subst (λ (p : Option Pace). HaveGrains (slots ++ slots_at_pace p row.stretch.from row.shares)) at can.grains;
    }

-- no more slots than shares
few_at_pace : (pace : Option Pace) (start : ℕ) (shares : List JobShare) → length (slots_at_pace pace start shares) ≤ length shares
few_at_pace None start shares = omega arith
few_at_pace (Some pace) start shares = omega (arith, length_from pace start 0 shares)

few_slots : (rows : List Row) → length (slots_of rows) ≤ length (shares_of rows)
few_slots [] = omega arith
few_slots (row ∷ rows) = omega (
  arith,
  few_at_pace row.pace row.stretch.from row.shares,
  few_slots rows,
  length-append (row_slots row) (slots_of rows),
  length-append row.shares (shares_of rows),
)

pub stretch_next : (rows : List Row) (i : ℕ) → i < length rows → slots_of (take i rows) ++ row_slots (row_at rows i) ≡ slots_of (take (i + 1) rows)
stretch_next rows i within = rw add-one (sym (flat_map-take row_slots rows i _ within))

pub can_fill : (jobs : ℕ) (rows : List Row) (i : ℕ) → CanLay jobs rows → i < length rows → CanFill jobs (slots_of (take i rows)) (row_at rows i)
can_fill jobs rows i can within =
    let none : Row = record { stretch = no_stretch; pace = None; shares = [] } in
    let Over : WrittenSlot → Type 0 = λ one. IsOver (can.grains.0 one.job) one.work in
    let split : slots_of rows ≡ slots_of (take (i + 1) rows) ++ slots_of (drop (i + 1) rows) =
    ap slots_of (sym (take-append-drop (i + 1) rows)) ∙ flat_map-append row_slots (take (i + 1) rows) (drop (i + 1) rows) in
    let Known : JobShare → Type 0 = λ share. share.job < jobs in
    let parts : shares_of rows ≡ (shares_of (take i rows) ++ (row_at rows i).shares) ++ shares_of (drop (i + 1) rows) =
    ap shares_of (sym (take-append-drop (i + 1) rows)) ∙ flat_map-append (λ (row : Row). row.shares) (take (i + 1) rows) (drop (i + 1) rows)
    ∙ ap (λ xs. xs ++ shares_of (drop (i + 1) rows)) (rw add-one (flat_map-take (λ (row : Row). row.shares) rows i none within)) in
    record {
      few = omega (arith, can.few, few_slots (take i rows), length-flat_map-take (λ (row : Row). row.shares) rows i none within);
      known = All-back Known (shares_of (take i rows)) (row_at rows i).shares
          (All-front Known (shares_of (take i rows) ++ (row_at rows i).shares) (shares_of (drop (i + 1) rows)) (subst (λ (xs : List JobShare). All Known xs) parts can.known));
      grains = (
        can.grains.0,
        subst (λ (xs : List WrittenSlot). All Over xs) (sym (stretch_next rows i within))
            (All-front Over (slots_of (take (i + 1) rows)) (slots_of (drop (i + 1) rows)) (subst (λ (xs : List WrittenSlot). All Over xs) split can.grains.1)),
      );
    }
