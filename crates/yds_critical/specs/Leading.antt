-- Which of two intervals goes before the other: the denser one, of equal ones the one that begins earlier, and of those that
-- begin together the one that ends later.
use Rattle.std.specs.Prelude.{◌≡◌, ◌-◌, ◌*◌, ◌<◌, ◌≤◌, ◌⊎◌}
use Rattle.yds_critical.specs.declared.interval.Interval.{Interval}

-- Intensities are work by length; they are compared by cross products.
abbrev pub IsDenser : Interval → Interval → Type 0
IsDenser one other = other.work * (one.end - one.start) < one.work * (other.end - other.start)

abbrev pub IsAsDense : Interval → Interval → Type 0
IsAsDense one other = other.work * (one.end - one.start) ≡ one.work * (other.end - other.start)

-- the first interval begins earlier, or at the same time and doesn't end earlier
abbrev pub IsEarlier : Interval → Interval → Type 0
IsEarlier one other = (one.start < other.start) ⊎ ((one.start ≡ other.start) × (other.end ≤ one.end))

abbrev pub Leads : Interval → Interval → Type 0
Leads one other = IsDenser one other ⊎ (IsAsDense one other × IsEarlier one other)
