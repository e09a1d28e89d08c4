-- Units and a length in lowest terms, and units that are read off a pace.
use Rattle.yds_model.proofs.Common.{◌≡◌, ℕ, ◌*◌, ◌/◌, ◌≤◌, List, Some, ap, subst, sym, ◌∙◌, arith, Option, All, div-mul_cancel, div-le_self, mul-div_cancel, common_divisor, Piece}
use Rattle.fraction_lemmas.proofs.Divisor.{divisor_is_greatest}
use Rattle.fraction_lemmas.proofs.Fractions.{factors}
use Rattle.base.specs.declared.limits.TheConstants.{MAX_DENOMINATOR, MAX_SLOT_WORK}
use Rattle.yds_events.specs.Stretch.{IsStretch, length_of}
use Rattle.yds_timetable.specs.declared.limits.TheConstants.{MAX_UNITS}
use Rattle.yds_timetable.specs.declared.pace.Pace.{Pace}
use Rattle.yds_timetable.specs.Shares.{JobShare, total_units}
use Rattle.yds_timetable.specs.Pace.{lowest_pace, IsPaceOf, Fills}
use Rattle.yds_timetable.specs.Timetable.{Row, IsFilledAt, IsRow}

-- units fill a stretch at the pace in lowest terms
pub lowest_is : (units : ℕ) (stretch : Piece) (grain : ℕ) → IsStretch stretch → 1 ≤ units → 1 ≤ grain → grain ≤ MAX_DENOMINATOR →
    units / common_divisor units (length_of stretch) ≤ MAX_DENOMINATOR → IsPaceOf (lowest_pace units stretch grain) stretch units
lowest_is units stretch grain is some some_grain grain_in_range in_range =
    let greatest = divisor_is_greatest units (length_of stretch) in
    let divisor = common_divisor units (length_of stretch) in
    let units_is : units / divisor * divisor ≡ units = div-mul_cancel divisor greatest.0 in
    record {
      is_stretch = is;
      times = divisor;
      length_is = div-mul_cancel divisor greatest.1;
      units_is = units_is;
      some_units = (factors (units / divisor) divisor units units_is some).0;
      units_in_range = in_range;
      some_grain = some_grain;
      grain_in_range = grain_in_range;
    }

-- and so do shares of so many units
pub lowest_fills : (units : ℕ) (stretch : Piece) (grain : ℕ) (shares : List JobShare) → IsStretch stretch → 1 ≤ units → units ≡ total_units shares →
    1 ≤ grain → grain ≤ MAX_DENOMINATOR → units ≤ MAX_DENOMINATOR → All (λ share. 1 ≤ share.units) shares →
    All (λ share. share.units ≤ grain * MAX_SLOT_WORK) shares → Fills (lowest_pace units stretch grain) stretch shares
lowest_fills units stretch grain shares is some total some_grain grain_in_range in_range each works = grind (arith, div-le_self, lowest_is)

-- a stretch serves its pace's units as often as it has the pace's time
pub units_read : (row : Row) (pace : Pace) (length : ℕ) → row.pace ≡ Some pace → IsRow row → length ≡ length_of row.stretch →
    (pace.units * (length / pace.time) ≡ total_units row.shares) × (total_units row.shares ≤ MAX_UNITS)
units_read row pace length at is long =
    let fills : Fills pace row.stretch row.shares = subst (λ (p : Option Pace). IsFilledAt p row.stretch row.shares) at is in
    let some_time : 1 ≤ pace.time = (factors pace.time fills.own.times (length_of row.stretch) fills.own.length_is (omega (arith, fills.own.is_stretch.has_length))).0 in
    let often : length / pace.time ≡ fills.own.times =
    ap (λ n. n / pace.time) (long ∙ sym fills.own.length_is ∙ (omega arith)) ∙ mul-div_cancel fills.own.times some_time in
    (ap (λ n. pace.units * n) often ∙ fills.own.units_is, fills.few)
