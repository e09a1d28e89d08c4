-- A timetable: stretches, each with its pace and the shares that fill it, or idle. Its slots are those of the stretches in order.
use Rattle.std.specs.Prelude.{◌≡◌, ℕ, List, [], Option, Some, None, length, map, slice_get, slice_index}
use Rattle.std.specs.List.{flat_map, range_with_len, slice_index_or}
use Rattle.yds_model.specs.Slot.{WrittenSlot}
use Rattle.yds_model.specs.Piece.{Piece}
use Rattle.yds_events.specs.Stretch.{IsStretch, no_stretch, nth_stretch}
use Rattle.yds_timetable.specs.declared.pace.Pace.{Pace}
use Rattle.yds_timetable.specs.Shares.{JobShare, shares_in}
use Rattle.yds_timetable.specs.Pace.{slots_from, Fills}

pub record Row : Type 0 where
  pub stretch : Piece
  pub pace : Option Pace
  pub shares : List JobShare

-- the row at a place; an empty one stands where there is none
abbrev pub row_at : List Row → ℕ → Row
row_at rows number = slice_index_or rows number (record { stretch = no_stretch; pace = None; shares = [] })

abbrev pub stretches_of : List Row → List Piece
stretches_of rows = map (λ row. row.stretch) rows

-- the slots of shares that begin at `start`; without a pace there are none
abbrev pub slots_at_pace : Option Pace → ℕ → List JobShare → List WrittenSlot
slots_at_pace None start shares = []
slots_at_pace (Some pace) start shares = slots_from pace start 0 shares

abbrev pub row_slots : Row → List WrittenSlot
row_slots row = slots_at_pace row.pace row.stretch.from row.shares

-- the slots of a timetable, and its shares
abbrev pub slots_of : List Row → List WrittenSlot
slots_of rows = flat_map row_slots rows

abbrev pub shares_of : List Row → List JobShare
shares_of rows = flat_map (λ row. row.shares) rows

-- idle and without shares, or filled at the pace
abbrev pub IsFilledAt : Option Pace → Piece → List JobShare → Type 0
IsFilledAt None stretch shares = IsStretch stretch × (shares ≡ [])
IsFilledAt (Some pace) stretch shares = Fills pace stretch shares

abbrev pub IsRow : Row → Type 0
IsRow row = IsFilledAt row.pace row.stretch row.shares

-- a unit of work has so many units where the stretch runs
abbrev pub HasGrain : ℕ → Option Pace → Type 0
HasGrain grain None = Unit {0}
HasGrain grain (Some pace) = pace.grain ≡ grain

-- Rows that are made of lists: a stretch, the pace that stands at its place, none where there is none, and the shares in it, in the
-- order in which they stand.
abbrev pub row_of : List Piece → List Pace → List ℕ → List JobShare → ℕ → Row
row_of timeline paces places shares k = record {
  stretch = nth_stretch timeline k;
  pace = slice_get paces (slice_index places k);
  shares = shares_in shares k;
}

abbrev pub rows_of : List Piece → List Pace → List ℕ → List JobShare → List Row
rows_of timeline paces places shares = map (row_of timeline paces places shares) (range_with_len 0 (length timeline))
