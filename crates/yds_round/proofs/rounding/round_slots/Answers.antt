use Rattle.yds_model.proofs.Common.{◌≡◌, ◌+◌, ◌++◌, ◌∙◌, ◌<◌, ℕ, List, length, take, drop, sym, ap, ap₂, arith, add-one, Some, None, Option, All, AllZip, append-nil, get_or_read, WrittenSlot, Level}
use Rattle.yds_slots.specs.Schedule.{WrittenSchedule}
use Rattle.yds_timetable.specs.Shares.{JobShare}
use Rattle.yds_timetable.specs.Timetable.{Row, row_at, row_slots, slots_of, IsRow}
use Rattle.yds_timetable.proofs.Lists.{length_zipped}
use Rattle.yds_plan.specs.Timetabled.{RunsAtLevel}
use Rattle.yds_round.specs.LevelPace.{pace_at}
use Rattle.yds_round.specs.Rounded.{written_row, written_to, level_number_at}
use Rattle.yds_round.specs.Written.{written_at}
use Rattle.yds_round.proofs.AllStretches.{enough, next_slots, later_slots, few_rows, pace_known, can_round}
use Rattle.yds_round.proofs.rounding.round_slots.Goals as goal
use Rattle.yds_round.proofs.rounding.round_slots.Goals.{in-Some+in_ok-round_stretch, in_default}

-- the stretch that is reached has a row and a number
reached : (levels : List Level) (rows : List Row) (numbers : List (Option ℕ)) (k end : ℕ) → AllZip (λ row number. RunsAtLevel levels row.pace number) rows numbers →
    k < end → end ≡ length rows → (k < length rows) × (k < length numbers)
reached levels rows numbers k end are below is =
    (omega (arith, below, is), omega (arith, below, is, length_zipped (λ (row : Row) (number : Option ℕ). RunsAtLevel levels row.pace number) rows numbers are))

-- and its slots are those that are read
read_slots : (rows : List Row) (are : All IsRow rows) (k : ℕ) → k < length rows → (shares : List JobShare) (rest planned : List WrittenSlot) →
    shares ≡ (row_at rows k).shares → rest ≡ slots_of (drop k rows) → planned ≡ take (length shares) rest → planned ≡ row_slots (row_at rows k)
read_slots rows are k within shares rest planned shares_are rest_is part =
    part ∙ ap₂ (λ (n : ℕ) (slots : List WrittenSlot). take n slots) (ap (λ (xs : List JobShare). length xs) shares_are) rest_is ∙ next_slots rows are k within

pub overflow_add-rest : goal.overflow_add-rest
overflow_add-rest c = omega (
  arith,
  c.requires.few,
  c.requires.plan.few_slots,
  few_rows c.args.rows.now c.args.table.now c.args.plan.now.schedule.slots c.args.plan.now.certificate c.args.paces.now c.args.plan.now.timetable
      c.args.plan.now.level_of_stretch.items c.requires.plan c.requires.paces c.requires.timetable c.len.ensures.kept,
  c.len.ensures.value,
  ap (λ (slots : List WrittenSlot). length slots) c.slots-rest.ensures.value,
)

pub split_at-requires : goal.split_at-requires
split_at-requires c = omega (
  arith,
  ap (λ (slots : List WrittenSlot). length slots) c.loop-number.invariant.rest,
  enough c.args.plan.now.timetable c.len.ensures.kept c.loop-number.number (omega (arith, c.loop-number-test.true, c.len-number-end.ensures.value)),
  ap (λ (shares : List JobShare). length shares) c.shares.ensures,
)

pub index-requires : goal.index-requires
index-requires c = omega (
  arith,
  reached c.args.plan.now.certificate c.args.plan.now.timetable c.args.plan.now.level_of_stretch.items c.loop-number.number _ c.requires.timetable.levels_are c.loop-number-test.true
      c.len-number-end.ensures.value,
  c.args.plan.now.level_of_stretch.ok.0,
)

pub bounds-paces-level : goal.bounds-paces-level
bounds-paces-level c =
    let numbers = c.args.plan.now.level_of_stretch.items in
    let inside = reached c.args.plan.now.certificate c.args.plan.now.timetable numbers c.loop-number.number _ c.requires.timetable.levels_are c.loop-number-test.true c.len-number-end.ensures.value in
    let number : level_number_at numbers c.loop-number.number ≡ Some c.in-Some.level =
    sym (get_or_read numbers c.loop-number.number c.index.result.now inside.1 c.index.ensures None) ∙ c.in-Some.is in
    pace_known c.args.rows.now c.args.table.now c.args.plan.now.schedule.slots c.args.plan.now.certificate c.args.paces.now c.args.plan.now.timetable
    numbers c.requires.plan c.requires.paces c.requires.timetable c.len.ensures.kept c.loop-number.number c.in-Some.level inside.0 number

pub round_stretch-requires-clause-can : goal.round_stretch-requires-clause-can
round_stretch-requires-clause-can c =
    let rows = c.args.plan.now.timetable in
    let numbers = c.args.plan.now.level_of_stretch.items in
    let inside = reached c.args.plan.now.certificate rows numbers c.loop-number.number _ c.requires.timetable.levels_are c.loop-number-test.true c.len-number-end.ensures.value in
    let number : level_number_at numbers c.loop-number.number ≡ Some c.in-Some.level =
    sym (get_or_read numbers c.loop-number.number c.index.result.now inside.1 c.index.ensures None) ∙ c.in-Some.is in
    let planned = read_slots rows c.len.ensures.kept c.loop-number.number inside.0 _ _ _ c.shares.ensures c.loop-number.invariant.rest c.split_at.ensures.front in
    rw (planned, c.loop-number.invariant.written)
    (can_round c.args.rows.now c.args.table.now c.args.plan.now.schedule.slots c.args.plan.now.certificate c.args.paces.now rows
    numbers c.requires.plan c.requires.paces c.requires.timetable c.len.ensures.kept c.loop-number.number c.in-Some.level inside.0 number c.requires.few)

pub loop-number-preserved : goal.loop-number-preserved
loop-number-preserved c =
    let rows = c.args.plan.now.timetable in
    let numbers = c.args.plan.now.level_of_stretch.items in
    let paces = c.args.paces.now in
    let k = c.loop-number.number in
    let inside = reached c.args.plan.now.certificate rows numbers k _ c.requires.timetable.levels_are c.loop-number-test.true c.len-number-end.ensures.value in
    let planned = read_slots rows c.len.ensures.kept k inside.0 _ _ _ c.shares.ensures c.loop-number.invariant.rest c.split_at.ensures.front in
    let later : c.split_at.result.1.now ≡ slots_of (drop (k + 1) rows) =
    rw add-one (c.split_at.ensures.back ∙ ap₂ (λ (n : ℕ) (slots : List WrittenSlot). drop n slots) (ap (λ (xs : List JobShare). length xs) c.shares.ensures) c.loop-number.invariant.rest
    ∙ later_slots rows c.len.ensures.kept k inside.0) in
    let read = get_or_read numbers k c.index.result.now inside.1 c.index.ensures None in
    let made : List WrittenSlot → WrittenSchedule = λ slots. record { jobs = length c.args.rows.now; slots = written_to paces rows numbers k ++ slots } in
    elim c.match-index.branch [
      | in-Some+in_ok-round_stretch w ↦
          let number : level_number_at numbers k ≡ Some w.in-Some.level = sym read ∙ w.in-Some.is in
          let at : List WrittenSlot → List WrittenSlot = λ slots. written_at (row_at rows k).stretch (row_at rows k).shares slots (pace_at paces w.in-Some.level) in
          let grown : WrittenSchedule → WrittenSchedule = λ before. record { jobs = before.jobs; slots = before.slots ++ at c.split_at.result.0.now } in
          record {
            written = rw add-one (w.rounded-is ∙ w.in_ok-round_stretch.ensures ∙ ap grown c.loop-number.invariant.written ∙ ap (λ slots. made (at slots)) planned
                ∙ ap (λ n. made (written_row paces (row_at rows k) n)) (sym number));
            rest = later;
          }
      | in_default w ↦
          let number : level_number_at numbers k ≡ None = sym read ∙ w.in_default.is in
          let plain : List WrittenSlot → WrittenSchedule = λ slots. record { jobs = length c.args.rows.now; slots = slots } in
          record {
            written = rw add-one (w.rounded-is ∙ c.loop-number.invariant.written ∙ ap plain (sym (append-nil (written_to paces rows numbers k)))
                ∙ ap (λ n. made (written_row paces (row_at rows k) n)) (sym number));
            rest = later;
          }
    ]
