-- What a run of a policy on a grid is, of which only that is left open how many units a stretch serves and where it is
-- rounded: stretch by stretch shares are served earliest deadline first, and fill the stretch at one pace.
use Rattle.std.specs.Prelude.{◌≡◌, ℕ, ◌+◌, ◌/◌, ◌<◌, ◌≤◌, ◌⊎◌, Bool, Option, Some, None, if◌then◌else◌, List, [], ◌∷◌, ◌++◌, length, All, AllPairs}
use Rattle.base.specs.Numbers.{Each, sum_below}
use Rattle.yds_model.specs.Job.{Job}
use Rattle.yds_model.specs.Slot.{WrittenSlot}
use Rattle.yds_model.specs.Piece.{Piece}
use Rattle.yds_model.specs.Divisor.{common_divisor}
use Rattle.yds_model.specs.Event.{stretches, stretch_at}
use Rattle.yds_model.specs.Policy.{HasRunDenominators}
use Rattle.yds_events.specs.Stretch.{length_of}
use Rattle.yds_timetable.specs.declared.pace.Pace.{Pace}
use Rattle.yds_timetable.specs.Shares.{JobShare, total_units, shares_in}
use Rattle.yds_timetable.specs.Timetable.{Row, row_at, stretches_of, shares_of, slots_of, IsFilledAt, IsRow, HasGrain}
use Rattle.yds_edf.specs.Serving.{IsDueBefore, IsServing}
use Rattle.yds_edf.specs.Filled.{pending_at_start}

-- jobs in order of their numbers
abbrev pub by_number : ℕ → ℕ
by_number number = number

-- the share is of an earlier stretch, or of the same one and of a job that is due before
abbrev pub IsServedBefore : List Job → JobShare → JobShare → Type 0
IsServedBefore jobs one other =
    (one.stretch < other.stretch) ⊎ ((one.stretch ≡ other.stretch) × IsDueBefore jobs by_number one.job other.job)

-- the units of each job that are pending at the start of a stretch of the jobs
abbrev pub pending_before : List Job → ℕ → List JobShare → ℕ → ℕ → ℕ
pending_before jobs grid shares i = pending_at_start jobs grid (stretches jobs) shares i

-- Each stretch serves, earliest deadline first, the units that are set for it, or all that is pending.
pub record IsServed (jobs : List Job) (grid : ℕ) (units : (ℕ → ℕ) → Piece → ℕ) (shares : List JobShare) : Type 0 where
  pub in_order : AllPairs (IsServedBefore jobs) shares
  pub known : All (λ share. share.stretch < length (stretches jobs)) shares
  pub serving : Each (length (stretches jobs)) (λ i.
      IsServing jobs by_number (pending_before jobs grid shares i) (units (pending_before jobs grid shares i) (stretch_at jobs i)) (shares_in shares i))
  pub few : length shares ≤ length jobs + length (stretches jobs)

-- units and time of a pace are in lowest terms
abbrev pub IsLowest : Option Pace → Piece → List JobShare → Type 0
IsLowest None stretch shares = Unit {0}
IsLowest (Some pace) stretch shares = pace.units ≡ total_units shares / common_divisor (total_units shares) (length_of stretch)

-- The timetable has the jobs' stretches, each filled by its shares at a pace on the grid in lowest terms, or idle.
pub record AreRowsOf (jobs : List Job) (grid : ℕ) (rows : List Row) : Type 0 where
  pub stretches_are : stretches_of rows ≡ stretches jobs
  pub filled : All IsRow rows
  pub grains : All (λ row. HasGrain grid row.pace) rows
  pub lowest : All (λ row. IsLowest row.pace row.stretch row.shares) rows
  pub numbered : Each (length rows) (λ k. shares_in (shares_of rows) k ≡ (row_at rows k).shares)

-- The shares are those of a timetable of the jobs' stretches, and the slots are its slots.
pub record IsLaidOut (jobs : List Job) (grid : ℕ) (shares : List JobShare) (slots : List WrittenSlot) : Type 0 where
  pub rows : List Row
  pub are : AreRowsOf jobs grid rows
  pub shares_are : shares ≡ shares_of rows
  pub slots_are : slots ≡ slots_of rows
  pub denominators : All (HasRunDenominators jobs grid) slots

-- A run of the policy that sets these units and rounds at these stretches, with its count of the stretches that are rounded.
pub record IsPolicyRun (jobs : List Job) (grid : ℕ) (units : (ℕ → ℕ) → Piece → ℕ) (rounds : (ℕ → ℕ) → Piece → Bool) (rounded : ℕ)
    (slots : List WrittenSlot) : Type 0 where
  pub shares : List JobShare
  pub served : IsServed jobs grid units shares
  pub laid : IsLaidOut jobs grid shares slots
  pub count : rounded ≡ sum_below (length (stretches jobs)) (λ i.
      if rounds (pending_before jobs grid shares i) (stretch_at jobs i) then 1 else 0)

-- the stretch is put last, with these shares
pub record PutsRow (grain : ℕ) (stretch : Piece) (shares : List JobShare) (old new : List Row) : Type 0 where
  pub pace : Option Pace
  pub filled : IsFilledAt pace stretch shares
  pub grain_is : HasGrain grain pace
  pub lowest : IsLowest pace stretch shares
  pub after : new ≡ old ++ record { stretch = stretch; pace = pace; shares = shares } ∷ []
