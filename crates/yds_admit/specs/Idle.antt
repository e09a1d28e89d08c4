-- What is idle between rising times, so that later jobs may take it.
use Rattle.std.specs.Prelude.{◌≡◌, ℕ, ◌+◌, ◌-◌, ◌*◌, ◌<◌, ◌≤◌, List, length, slice_index}
use Rattle.yds_model.specs.Job.{Job}
use Rattle.base.specs.Numbers.{sum_below}
use Rattle.yds_model.specs.Confined.{work_within}

-- what is idle in the gaps before a place
abbrev pub idle_before : List ℕ → ℕ → ℕ
idle_before idle q = sum_below q (λ k. slice_index idle k)

-- The jobs whose windows lie in an interval that ends at one of the times leave this much to others, in the gaps between any two of the
-- times that lie in it.
pub record HasIdle (top : ℕ) (times : List ℕ) (jobs : List Job) (idle : List ℕ) : Type 0 where
  pub as_long : length idle + 1 ≡ length times
  pub room : (from a b : ℕ) → a ≤ b → b < length times → from ≤ slice_index times a →
      work_within jobs from (slice_index times b) + idle_before idle b ≤ top * (slice_index times b - from) + idle_before idle a

-- so many units were taken from what is idle before `end`: from the gap before the place `after` and later ones, or all that was idle where `after` is 0
pub record IsTakenFrom (old new : List ℕ) (end units after : ℕ) : Type 0 where
  pub as_long : length new ≡ length old
  pub less : (q : ℕ) → slice_index new q ≤ slice_index old q
  pub early : (q : ℕ) → q + 1 < after → slice_index new q ≡ slice_index old q
  pub none : (q : ℕ) → after ≤ q → q < end → slice_index new q ≡ 0
  pub late : (q : ℕ) → end ≤ q → slice_index new q ≡ slice_index old q
  pub sum : 1 ≤ after → idle_before new end + units ≡ idle_before old end

-- so many units are idle from this place up to `end`
pub record IsIdleFrom (idle : List ℕ) (end units place : ℕ) : Type 0 where
  pub order : place ≤ end
  pub enough : idle_before idle place + units ≤ idle_before idle end

-- With one job more, whose deadline has the place `end`, an interval from this time on that holds its window leaves all that is idle after its deadline.
abbrev pub Fits : ℕ → List ℕ → List Job → Job → ℕ → List ℕ → ℕ → Type 0
Fits top times jobs row end idle from = (b : ℕ) → end ≤ b → b < length times →
    work_within jobs from (slice_index times b) + row.work + idle_before idle b ≤ top * (slice_index times b - from) + idle_before idle end
