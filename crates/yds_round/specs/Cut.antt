-- A stretch that is cut between two points, and how far its work is done.
use Rattle.std.specs.Prelude.{◌≡◌, ℕ, ◌+◌, ◌*◌, ◌<◌, ◌≤◌, List, length, Option, Some, None}
use Rattle.std.specs.List.{All}
use Rattle.base.specs.declared.limits.TheConstants.{MAX_SLOTS, MAX_SLOT_WORK, MAX_TIME}
use Rattle.yds_model.specs.Slot.{WrittenSlot}
use Rattle.yds_model.specs.Piece.{Piece}
use Rattle.yds_model.specs.Plan.{IsOver}
use Rattle.yds_model.specs.Within.{IsFraction}
use Rattle.yds_round.specs.declared.split.Split.{Split}
use Rattle.yds_round.specs.declared.cut.Cut.{Cut}
use Rattle.yds_round.specs.declared.cut.Reached.{Reached}
use Rattle.yds_events.specs.Stretch.{IsStretch}
use Rattle.yds_timetable.specs.Shares.{JobShare, total_units}
use Rattle.yds_round.specs.Split.{IsSplit}
use Rattle.yds_round.specs.Written.{all_units, surplus_of, moment, fast_course, slow_course, FitsJob}

pub record IsCut (cut : Cut) : Type 0 where
  pub kept : IsSplit cut.split
  pub lasts : IsStretch cut.stretch
  pub is_surplus : cut.surplus ≡ surplus_of cut.split cut.stretch
  pub is_end : cut.fast_end ≡ moment cut.stretch (cut.surplus * cut.split.fast.switch) cut.split.fast.den
  pub is_start : cut.slow_start ≡ moment cut.stretch (cut.surplus * cut.split.slow.switch) cut.split.slow.den
  pub end_in_range : IsFraction MAX_TIME cut.fast_end
  pub start_in_range : IsFraction MAX_TIME cut.slow_start

-- the times at which so many units are done
pub record IsReached (cut : Cut) (reached : Reached) : Type 0 where
  pub within : reached.units ≤ all_units cut.split cut.stretch
  pub is_fast : reached.fast ≡ moment cut.stretch ((fast_course cut.split cut.stretch).time reached.units) cut.split.fast.den
  pub is_slow : reached.slow ≡ moment cut.stretch ((slow_course cut.split cut.stretch).time reached.units) cut.split.slow.den
  pub fast_in_range : IsFraction MAX_TIME reached.fast
  pub slow_in_range : IsFraction MAX_TIME reached.slow

-- the shares fill the stretch, and their slots can be put after what is written
pub record CanServe (split : Split) (stretch : Piece) (jobs : ℕ) (before : List WrittenSlot) (shares : List JobShare) : Type 0 where
  pub full : total_units shares ≡ all_units split stretch
  pub works : All (λ share. share.units ≤ split.den * MAX_SLOT_WORK) shares
  pub known : All (λ share. share.job < jobs) shares
  pub grains : All (λ share. FitsJob (split.den * split.gap) before share.job) shares
  pub room : length before + 2 * length shares ≤ MAX_SLOTS

-- the same where the slots stay
pub record CanKeep (jobs : ℕ) (before planned : List WrittenSlot) : Type 0 where
  pub grain : ℕ
  pub works : All (λ slot. IsOver grain slot.work) planned
  pub known : All (λ slot. slot.job < jobs) planned
  pub grains : All (λ slot. FitsJob grain before slot.job) planned
  pub room : length before + length planned ≤ MAX_SLOTS

abbrev pub CanRound : Option Split → Piece → ℕ → List WrittenSlot → List JobShare → List WrittenSlot → Type 0
CanRound None stretch jobs before shares planned = CanKeep jobs before planned
CanRound (Some split) stretch jobs before shares planned = IsSplit split × CanServe split stretch jobs before shares
