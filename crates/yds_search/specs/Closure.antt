-- What late jobs close upon: the stretches of their windows, and those of the windows of jobs with a share in such a stretch.
use Rattle.std.specs.Prelude.{◌≡◌, ℕ, zero, suc, ◌+◌, ◌-◌, ◌<◌, ◌≤◌, nat_le, min, if◌then◌else◌, List, length, take, slice_index, sum}
use Rattle.yds_events.specs.declared.window.Window.{Window}
use Rattle.yds_timetable.specs.Shares.{JobShare, share_at}
use Rattle.yds_events.specs.Window.{window_at, IsIn}

-- Of the first n items those that count have a place among m and a value each: for each place the least value, or m where there is none.
pub record AreLeast (Counts : ℕ → Type 0) (place value : ℕ → ℕ) (n m : ℕ) (reaches : List ℕ) : Type 0 where
  pub all : length reaches ≡ m
  pub least : (i : ℕ) → i < n → Counts i → slice_index reaches (place i) ≤ value i
  pub some : (p : ℕ) → p < m → slice_index reaches p < m → (i : ℕ) × (i < n) × Counts i × (place i ≡ p) × (value i ≡ slice_index reaches p)

-- for each of m stretches the least first one of the windows that have it as their last one, of those of the first n jobs that still want units
abbrev pub AreLateReaches : List Window → List ℕ → ℕ → ℕ → List ℕ → Type 0
AreLateReaches windows wants n m reaches =
    AreLeast (λ j. 1 ≤ slice_index wants j) (λ j. (window_at windows j).end - 1) (λ j. (window_at windows j).first) n m reaches

-- for each of m stretches the least first one of the windows of the jobs with one of the first n shares in it
abbrev pub AreShareReaches : List Window → List JobShare → ℕ → ℕ → List ℕ → Type 0
AreShareReaches windows shares n m reaches =
    AreLeast (λ x. Unit {0}) (λ x. (share_at shares x).stretch) (λ x. (window_at windows (share_at shares x).job).first) n m reaches

-- from the right: as far to the left as one reaches that ends here, and if it reaches this stretch, as who has a share here
abbrev pub reach_from : ℕ → ℕ → ℕ → ℕ → ℕ
reach_from after late shared k = if nat_le (min after late) k then min (min after late) shared else min after late

-- what is reached over the last of m stretches, so many
abbrev pub reach_over : List ℕ → List ℕ → ℕ → ℕ → ℕ
reach_over late shared m zero = m
reach_over late shared m (suc count) =
    reach_from (reach_over late shared m count) (slice_index late (m - suc count)) (slice_index shared (m - suc count)) (m - suc count)

-- 1 for each stretch that is reached, 0 for each other
pub record AreMarksOf (late shared : List ℕ) (m : ℕ) (marks : List ℕ) : Type 0 where
  pub all : length marks ≡ m
  pub each : (p : ℕ) → p < m → slice_index marks p ≡ (if nat_le (reach_over late shared m (m - p)) p then 1 else 0)

-- the marks of what late jobs reach, directly or through shares
pub record AreClosing (windows : List Window) (wants : List ℕ) (shares : List JobShare) (m : ℕ) (marks : List ℕ) : Type 0 where
  pub late : List ℕ
  pub shared : List ℕ
  pub lates : AreLateReaches windows wants (length windows) m late
  pub shareds : AreShareReaches windows shares (length shares) m shared
  pub are : AreMarksOf late shared m marks

-- the stretch is closed upon
abbrev pub IsMarked : List ℕ → ℕ → Type 0
IsMarked marks k = 1 ≤ slice_index marks k

-- Of the own stretches of a group all that are marked are full, who has a share in one has only marked ones, and so does who is late.
pub record AreClosed (IsOwn : ℕ → Type 0) (windows : List Window) (shares : List JobShare) (wants rooms marks : List ℕ) : Type 0 where
  pub full : (k : ℕ) → IsOwn k → IsMarked marks k → slice_index rooms k ≡ 0
  pub shared : (x k : ℕ) → x < length shares → IsMarked marks (share_at shares x).stretch → IsIn windows (share_at shares x).job k →
      IsOwn k → IsMarked marks k
  pub late : (j k : ℕ) → j < length windows → 1 ≤ slice_index wants j → IsIn windows j k → IsOwn k → IsMarked marks k

-- for each place how many of the marks before it are 1
pub record AreRanks (marks ranks : List ℕ) : Type 0 where
  pub count : length ranks ≡ length marks + 1
  pub each : (p : ℕ) → p ≤ length marks → slice_index ranks p ≡ sum (take p marks)
