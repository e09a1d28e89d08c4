-- A pace: so many units are done in so many time units. The slots of shares that follow one another at a pace.
use Rattle.std.specs.Prelude.{◌≡◌, ℕ, ◌+◌, ◌*◌, ◌/◌, ◌≤◌, List, [], ◌∷◌}
use Rattle.std.specs.List.{All}
use Rattle.base.specs.declared.limits.TheConstants.{MAX_DENOMINATOR, MAX_SLOT_WORK}
use Rattle.yds_model.specs.Divisor.{common_divisor}
use Rattle.yds_model.specs.Scale.{Fraction, of_parts}
use Rattle.yds_model.specs.Slot.{WrittenSlot}
use Rattle.yds_model.specs.Piece.{Piece}
use Rattle.yds_events.specs.Stretch.{IsStretch, length_of}
use Rattle.yds_timetable.specs.declared.limits.TheConstants.{MAX_UNITS}
use Rattle.yds_timetable.specs.declared.pace.Pace.{Pace}
use Rattle.yds_timetable.specs.Shares.{JobShare, total_units}

-- the time at which so many units are done, of which the first begins at `start`
abbrev pub time_after : Pace → ℕ → ℕ → Fraction
time_after pace start done = of_parts (start * pace.units + done * pace.time) pace.units

-- the slot of a share, before which so many units are done
abbrev pub slot_of : Pace → ℕ → ℕ → JobShare → WrittenSlot
slot_of pace start done share = record {
  job = share.job;
  from = time_after pace start done;
  to = time_after pace start (done + share.units);
  work = of_parts share.units pace.grain;
}

-- one share after another, without a gap
abbrev pub slots_from : Pace → ℕ → ℕ → List JobShare → List WrittenSlot
slots_from pace start done [] = []
slots_from pace start done (share ∷ shares) = slot_of pace start done share ∷ slots_from pace start (done + share.units) shares

-- the pace at which so many units fill the stretch, in lowest terms
abbrev pub lowest_pace : ℕ → Piece → ℕ → Pace
lowest_pace units stretch grain = record {
  units = units / common_divisor units (length_of stretch);
  time = length_of stretch / common_divisor units (length_of stretch);
  grain = grain;
}

-- So many units fill the stretch at the pace: the stretch has the pace's time as often as they have its units.
pub record IsPaceOf (pace : Pace) (stretch : Piece) (units : ℕ) : Type 0 where
  pub is_stretch : IsStretch stretch
  pub times : ℕ
  pub length_is : pace.time * times ≡ length_of stretch
  pub units_is : pace.units * times ≡ units
  pub some_units : 1 ≤ pace.units
  pub units_in_range : pace.units ≤ MAX_DENOMINATOR
  pub some_grain : 1 ≤ pace.grain
  pub grain_in_range : pace.grain ≤ MAX_DENOMINATOR

-- the shares fill the stretch at the pace
pub record Fills (pace : Pace) (stretch : Piece) (shares : List JobShare) : Type 0 where
  pub own : IsPaceOf pace stretch (total_units shares)
  pub some : All (λ share. 1 ≤ share.units) shares
  pub works : All (λ share. share.units ≤ pace.grain * MAX_SLOT_WORK) shares
  pub few : total_units shares ≤ MAX_UNITS
