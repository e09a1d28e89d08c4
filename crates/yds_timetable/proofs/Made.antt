-- The rows that are made of lists, as they are kept.
use Rattle.yds_model.proofs.Common.{ℕ, ◌≡◌, ◌<◌, Bool, true, false, List, None, length, map, ◌∙◌, refl, sym, ap₂, subst, arith, Option, nat_lt, slice_get, slice_index, then_some, All, range_with_len, ext_get_or, ltb-true, ltb-false, slice_get_past, map-map, All-from_get_or, length-map-range_with_len, get_or-map-range_with_len, Piece}
use Rattle.yds_events.specs.Stretch.{no_stretch, nth_stretch}
use Rattle.yds_timetable.specs.declared.pace.Pace.{Pace}
use Rattle.yds_timetable.specs.declared.timetable.KeptRow.{KeptRow}
use Rattle.yds_timetable.specs.Shares.{JobShare}
use Rattle.yds_timetable.specs.Timetable.{Row, row_of, rows_of, stretches_of, IsRow}
use Rattle.yds_timetable.specs.KeptRows.{pace_kept, row_kept, rows_kept, IsPlaced, IsKeptRow, AreKept}
use Rattle.yds_timetable.specs.Sorted.{kept_row, AreSorted}
use Rattle.yds_timetable.proofs.Lists.{map_range_same}
use Rattle.yds_timetable.proofs.Rows.{no_row}

abbrev no_kept : KeptRow
no_kept = record { stretch = record { from = 0; to = 0 }; pace = None; first = 0; end = 0 }

-- the pace at a place, where there is one
pace_read : (paces : List Pace) (place : ℕ) (b : Bool) → nat_lt place (length paces) ≡ b → pace_kept paces (then_some b place) ≡ slice_get paces place
pace_read paces place true is = refl
pace_read paces place false is = sym (slice_get_past paces place (ltb-false place (length paces) is))

place_read : (paces : List Pace) (place : ℕ) (b : Bool) → nat_lt place (length paces) ≡ b → IsPlaced paces (then_some b place)
place_read paces place true is = ltb-true place (length paces) is
place_read paces place false is = tt

module _ (timeline : List Piece) (paces : List Pace) (places ends : List ℕ) (shares sorted : List JobShare)
    (are : AreSorted shares (length timeline) ends sorted) where
  row_read : (k : ℕ) → k < length timeline → row_kept paces sorted (kept_row timeline (length paces) places ends k) ≡ row_of timeline paces places shares k
  row_read k within =
      ap₂ (λ (pace : Option Pace) (own : List JobShare). record { stretch = nth_stretch timeline k; pace = pace; shares = own })
      (pace_read paces (slice_index places k) _ refl) (are.parts k within)

  abbrev kept : List KeptRow
  kept = map (kept_row timeline (length paces) places ends) (range_with_len 0 (length timeline))

  -- they are read as rows of the lists
  pub rows_read : rows_kept paces sorted kept ≡ rows_of timeline paces places shares
  rows_read = map-map (row_kept paces sorted) (kept_row timeline (length paces) places ends) (range_with_len 0 (length timeline))
      ∙ map_range_same no_row (λ k. row_kept paces sorted (kept_row timeline (length paces) places ends k)) (row_of timeline paces places shares) (length timeline) row_read

  -- and each is one
  pub rows_keep : All IsRow (rows_of timeline paces places shares) → AreKept paces sorted kept
  rows_keep rows = All-from_get_or (IsKeptRow paces sorted) kept no_kept (λ k within.
      let below : k < length timeline = omega (arith, within, length-map-range_with_len (kept_row timeline (length paces) places ends) 0 (length timeline)) in
      rw (get_or-map-range_with_len (kept_row timeline (length paces) places ends) 0 (length timeline) k k no_kept below (omega arith)) (record {
        forward = are.forward k below;
        within = are.within k below;
        placed = place_read paces (slice_index places k) _ refl;
        is_row = subst IsRow (sym (row_read k below)) (subst IsRow (get_or-map-range_with_len (row_of timeline paces places shares) 0 (length timeline) k k no_row below (omega arith))
            (rows k no_row (omega (arith, below, length-map-range_with_len (row_of timeline paces places shares) 0 (length timeline)))));
      }))

-- the stretches of rows of lists are those of the timeline
pub rows_stretches : (timeline : List Piece) (paces : List Pace) (places : List ℕ) (shares : List JobShare) → stretches_of (rows_of timeline paces places shares) ≡ timeline
rows_stretches timeline paces places shares =
    map-map (λ (row : Row). row.stretch) (row_of timeline paces places shares) (range_with_len 0 (length timeline))
    ∙ ext_get_or no_stretch _ _ (length-map-range_with_len (nth_stretch timeline) 0 (length timeline)) (λ i within.
    get_or-map-range_with_len (nth_stretch timeline) 0 (length timeline) i i no_stretch (omega (arith, within, length-map-range_with_len (nth_stretch timeline) 0 (length timeline))) (omega arith))
