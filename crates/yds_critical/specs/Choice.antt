-- A choice among intervals, one after another.
use Rattle.std.specs.Prelude.{◌≡◌, ℕ, ◌<◌, ◌⊎◌, List, Option, Some, None}
use Rattle.std.specs.List.{All}
use Rattle.std.specs.Prelude.{length}
use Rattle.yds_intensity.specs.declared.sweeping.Sum.{Sum}
use Rattle.yds_intensity.specs.Sums.{sum_at}
use Rattle.yds_critical.specs.declared.interval.Interval.{Interval}
use Rattle.yds_critical.specs.Leading.{Leads}

abbrev pub TakesTime : Interval → Type 0
TakesTime interval = interval.start < interval.end

-- the best so far goes before the interval
abbrev pub IsLedBy : Option Interval → Interval → Type 0
IsLedBy None other = ⊥
IsLedBy (Some best) other = Leads best other

-- the interval from this start to the sum's end
abbrev pub interval_of : ℕ → Sum → Interval
interval_of start sum = record { start = start; end = sum.end; work = sum.work }

-- each sum ends later than this start
abbrev pub AreLater : ℕ → List Sum → Type 0
AreLater start sums = All (λ sum. start < sum.end) sums

-- one of the two, which goes before both and before whatever the best so far does
pub record IsPreferred (best : Option Interval) (other preferred : Interval) : Type 0 where
  pub chosen : (best ≡ Some preferred) ⊎ (preferred ≡ other)
  pub leads_other : Leads preferred other
  pub leads : (interval : Interval) → TakesTime interval → IsLedBy best interval → Leads preferred interval

-- the best so far, or one that ends with one of the first n sums: it goes before those and before whatever the best so far does
pub record IsFoundAmong (n : ℕ) (best : Option Interval) (start : ℕ) (sums : List Sum) (found : Option Interval) : Type 0 where
  pub chosen : (found ≡ best) ⊎ ((k : ℕ) × (k < length sums) × (found ≡ Some (interval_of start (sum_at sums k))))
  pub leads_each : (k : ℕ) → k < n → IsLedBy found (interval_of start (sum_at sums k))
  pub leads : (interval : Interval) → TakesTime interval → IsLedBy best interval → IsLedBy found interval

abbrev pub IsFoundAmongAll : Option Interval → ℕ → List Sum → Option Interval → Type 0
IsFoundAmongAll best start sums found = IsFoundAmong (length sums) best start sums found
