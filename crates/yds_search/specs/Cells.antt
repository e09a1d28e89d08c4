-- What is known of each stretch as a group is filled: its room, and how far to the left jobs reach from it.
use Rattle.std.specs.Prelude.{◌≡◌, ℕ, ◌+◌, ◌*◌, ◌-◌, ◌<◌, ◌≤◌, ◌⊎◌, min, Bool, true, false, List, [], ◌∷◌, ◌++◌, length, map, slice_index, slice_set}
use Rattle.std.specs.List.{slice_index_or}
use Rattle.yds_events.specs.declared.window.Window.{Window}
use Rattle.yds_timetable.specs.Shares.{JobShare}
use Rattle.yds_search.specs.declared.filling.Cell.{Cell}
use Rattle.yds_search.specs.declared.own.OwnStretch.{OwnStretch}
use Rattle.yds_search.specs.Fill.{IsNotAfter, IsServed, IsFill}
use Rattle.yds_search.specs.Closure.{AreLateReaches, AreShareReaches}

-- the room of the stretches, and how far those reach who have a share in them, and late jobs that end with them
abbrev pub rooms_of : List Cell → List ℕ
rooms_of cells = map (λ cell. cell.room) cells

abbrev pub shared_of : List Cell → List ℕ
shared_of cells = map (λ cell. cell.shared) cells

abbrev pub lates_of : List Cell → List ℕ
lates_of cells = map (λ cell. cell.late) cells

-- the cell at a place
abbrev pub no_cell : Cell
no_cell = record { room = 0; shared = 0; late = 0 }

abbrev pub cell_at : List Cell → ℕ → Cell
cell_at cells k = slice_index_or cells k no_cell

-- a stretch with all its room, one of m
abbrev pub first_cell : ℕ → ℕ → OwnStretch → Cell
first_cell per_time m own = record { room = per_time * own.length; shared = m; late = m }

-- after a job took units in it whose window begins at `first`, and after one is late that ends with it
abbrev pub taken_cell : Cell → ℕ → ℕ → Cell
taken_cell cell first units = record { room = cell.room - units; shared = min cell.shared first; late = cell.late }

abbrev pub late_cell : Cell → ℕ → Cell
late_cell cell first = record { room = cell.room; shared = cell.shared; late = min cell.late first }

-- A job has passed over a stretch, because it is done or the stretch is full, or has taken what it could.
abbrev pub IsTake : ℕ → ℕ → ℕ → ℕ → List JobShare → List Cell → ℕ → List JobShare → List Cell → Type 0
IsTake job first stretch left shares cells left' shares' cells' =
    ((1 ≤ left → (cell_at cells stretch).room ≡ 0) × (left' ≡ left) × (shares' ≡ shares) × (cells' ≡ cells))
    ⊎ ((units : ℕ) × (1 ≤ left) × (1 ≤ (cell_at cells stretch).room) × (units ≡ min left (cell_at cells stretch).room) × (left' ≡ left - units)
    × (shares' ≡ shares ++ record { job = job; stretch = stretch; units = units } ∷ []) × (cells' ≡ slice_set cells stretch (taken_cell (cell_at cells stretch) first units)))

-- where it was kept how far those reach who have shares, it is kept with the shares that are new
abbrev pub KeepReaches : List Window → List JobShare → List Cell → List JobShare → List Cell → Type 0
KeepReaches windows shares cells shares' cells' =
    (m : ℕ) → AreShareReaches windows shares (length shares) m (shared_of cells) → AreShareReaches windows shares' (length shares') m (shared_of cells')

-- as long as nobody is late all shares are kept
abbrev pub Keeps : Bool → List JobShare → List JobShare → Type 0
Keeps late kept shares = late ≡ false → kept ≡ shares

-- A job has taken what it could before stretch `next`, and so much of its want is left.
pub record IsServing (windows : List Window) (job want : ℕ) (late : Bool) (kept shares : List JobShare) (cells : List Cell) (next left : ℕ)
    (kept' : List JobShare) (cells' : List Cell) : Type 0 where
  pub shares' : List JobShare
  pub served : IsServed windows job want shares (rooms_of cells) next left shares' (rooms_of cells')
  pub reaches : KeepReaches windows shares cells shares' cells'
  pub keeps : Keeps late kept shares → Keeps late kept' shares'
  pub lates : lates_of cells' ≡ lates_of cells

-- All jobs have taken what they could, with so much `left` of what each wants, and it is kept how far those reach who have shares or are late.
pub record IsFilled (windows : List Window) (wants rooms : List ℕ) (late : Bool) (kept : List JobShare) (cells : List Cell) : Type 0 where
  pub shares : List JobShare
  pub left : List ℕ
  pub fill : IsFill IsNotAfter windows wants rooms shares left (rooms_of cells)
  pub keeps : Keeps late kept shares
  pub lates : AreLateReaches windows left (length windows) (length rooms) (lates_of cells)
  pub shareds : AreShareReaches windows shares (length shares) (length rooms) (shared_of cells)
  pub some : late ≡ true → (i : ℕ) × (i < length left) × (1 ≤ slice_index left i)
  pub none : late ≡ false → (i : ℕ) → slice_index left i ≡ 0
