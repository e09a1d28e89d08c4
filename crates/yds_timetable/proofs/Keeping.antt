-- One more stretch of a timetable: those before it keep their shares.
use Rattle.yds_model.proofs.Common.{◌≡◌, ℕ, ◌≤◌, Some, None, List, [], ◌∷◌, ◌++◌, length, drop, ap, ap₂, sym, subst, refl, ◌∙◌, arith, Option, Result, Ok, Err, OnErr, slice_range, append-nil, get_or_append_left, take-append-le, drop_at, map-append, length-append, slice_get-get_or, All-nil, All-cons, All-tail, All-append, between_is, between_to_end}
use Rattle.yds_timetable.specs.declared.pace.Pace.{Pace}
use Rattle.yds_timetable.specs.declared.timetable.KeptRow.{KeptRow}
use Rattle.yds_timetable.specs.Shares.{JobShare}
use Rattle.yds_timetable.specs.Timetable.{Row, IsRow}
use Rattle.yds_timetable.specs.KeptRows.{pace_kept, row_kept, rows_kept, IsPlaced, IsKeptRow, AreKept, Keeps}

-- a part of a list stays where others come after it
part_stays : (xs ys : List JobShare) (a b : ℕ) → b ≤ length xs → slice_range (xs ++ ys) a b ≡ slice_range xs a b
part_stays xs ys a b within =
    between_is (xs ++ ys) a b ∙ ap (λ zs. drop a zs) (take-append-le b xs ys within) ∙ sym (between_is xs a b)

-- and the last part is what came last
part_last : (xs ys : List JobShare) → slice_range (xs ++ ys) (length xs) (length (xs ++ ys)) ≡ ys
part_last xs ys = between_to_end (xs ++ ys) (length xs) (length (xs ++ ys)) (omega arith) ∙ drop_at xs ys (length xs) refl

no_pace : Pace
no_pace = record { units = 0; time = 0; grain = 0 }

module _ (paces added : List Pace) (shares more : List JobShare) where
  -- a pace stays where others come after it
  pace_stays : (place : Option ℕ) → IsPlaced paces place → pace_kept (paces ++ added) place ≡ pace_kept paces place
  pace_stays None is = refl
  pace_stays (Some place) is =
      slice_get-get_or (paces ++ added) place no_pace (omega (arith, is, length-append paces added))
      ∙ ap Some (get_or_append_left paces added no_pace place is) ∙ sym (slice_get-get_or paces place no_pace is)

  row_stays : (kept : KeptRow) → IsKeptRow paces shares kept → row_kept (paces ++ added) (shares ++ more) kept ≡ row_kept paces shares kept
  row_stays kept is =
      ap₂ (λ (pace : Option Pace) (own : List JobShare). record { stretch = kept.stretch; pace = pace; shares = own }) (pace_stays kept.pace is.placed)
      (part_stays shares more kept.first kept.end is.within)

  pub rows_stay : (rows : List KeptRow) → AreKept paces shares rows → rows_kept (paces ++ added) (shares ++ more) rows ≡ rows_kept paces shares rows
  rows_stay [] are = refl
  rows_stay (kept ∷ rows) are =
      ap₂ (λ (row : Row) (rest : List Row). row ∷ rest) (row_stays kept (are 0 kept (omega arith)))
      (rows_stay rows (All-tail (IsKeptRow paces shares) kept rows are))

  kept_stay : (kept : KeptRow) → IsKeptRow paces shares kept → IsKeptRow (paces ++ added) (shares ++ more) kept
  kept_stay kept is = grind (arith, length-append, row_stays)

  all_stay : (rows : List KeptRow) → AreKept paces shares rows → AreKept (paces ++ added) (shares ++ more) rows
  all_stay rows are k d within = kept_stay _ (are k d within)

-- the shares alone
pub rows_stay_beside : (paces : List Pace) (shares more : List JobShare) (rows : List KeptRow) → AreKept paces shares rows →
    rows_kept paces (shares ++ more) rows ≡ rows_kept paces shares rows
rows_stay_beside paces shares more rows are =
    ap (λ (some : List Pace). rows_kept some (shares ++ more) rows) (sym (append-nil paces)) ∙ rows_stay paces [] shares more rows are

-- the row that is put last
module _ (paces now : List Pace) (pace : Option Pace) (place : Option ℕ) (shares more : List JobShare) (keeps : Keeps paces pace place now) where
  pub rows_stay_now : (rows : List KeptRow) → AreKept paces shares rows → rows_kept now (shares ++ more) rows ≡ rows_kept paces shares rows
  rows_stay_now rows are = ap (λ (some : List Pace). rows_kept some (shares ++ more) rows) keeps.more_are ∙ rows_stay paces keeps.added shares more rows are

  pub kept_stays_now : (rows : List KeptRow) → AreKept paces shares rows → AreKept now (shares ++ more) rows
  kept_stays_now rows are = subst (λ (some : List Pace). AreKept some (shares ++ more) rows) (sym keeps.more_are) (all_stay paces keeps.added shares more rows are)

  module _ (kept : KeptRow) (is_place : kept.pace ≡ place) (begins : kept.first ≡ length shares) (ends : kept.end ≡ length (shares ++ more)) where
    row_last : row_kept now (shares ++ more) kept ≡ record { stretch = kept.stretch; pace = pace; shares = more }
    row_last = grind (arith, ap₂, part_last)

    pub kept_more : (rows : List KeptRow) → AreKept paces shares rows → IsRow (record { stretch = kept.stretch; pace = pace; shares = more }) →
        AreKept now (shares ++ more) (rows ++ kept ∷ [])
    kept_more rows are is =
        All-append (IsKeptRow now (shares ++ more)) rows (kept ∷ []) (kept_stays_now rows are)
        (All-cons (IsKeptRow now (shares ++ more)) kept [] (record {
          forward = omega (arith, begins, ends, length-append shares more);
          within = omega (arith, ends);
          placed = subst (IsPlaced now) (sym is_place) keeps.placed;
          is_row = subst IsRow (sym row_last) is;
        }) (All-nil (IsKeptRow now (shares ++ more))))

    pub rows_more : (rows : List KeptRow) → AreKept paces shares rows →
        rows_kept now (shares ++ more) (rows ++ kept ∷ []) ≡ rows_kept paces shares rows ++ record { stretch = kept.stretch; pace = pace; shares = more } ∷ []
    rows_more rows are = grind (arith, ap₂, map-append, row_last, rows_stay_now)

pub on_err : {T E P : Type 0} (r : Result T E) → P → OnErr r P
on_err (Ok x) holds = tt
on_err (Err e) holds = holds
