-- The laws of the curve of least excess. Each is the contract of a public function of this crate.
use Rattle.std.specs.Prelude.{◌≡◌, ℕ, ◌+◌, ◌-◌, ◌*◌, ◌≤◌, ◌⊎◌, List}
use Rattle.std.specs.List.{All}
use Rattle.yds_model.specs.Job.{Job}
use Rattle.yds_model.specs.Scale.{Fraction, Quotient, numerator, of_whole}
use Rattle.yds_model.specs.Slot.{WrittenSlot}
use Rattle.yds_model.specs.Level.{Level}
use Rattle.yds_model.specs.Plan.{IsPlan}
use Rattle.yds_model.specs.Curve.{IsLeastExcess, least_above, breaks_of}

-- What a plan's levels do above a speed is the least excess above it: each feasible schedule has at least that, and one has just that.
abbrev pub LevelsTellLeastExcess : Type 0
LevelsTellLeastExcess = (jobs : List Job) (slots : List WrittenSlot) (levels : List Level) (p q : ℕ) → IsPlan jobs slots levels → 1 ≤ q →
    IsLeastExcess jobs p q (least_above p q levels)

-- the fraction is at most the speed, or at least it
abbrev pub IsNotAbove : Quotient → Fraction → Type 0
IsNotAbove speed x = numerator x * speed.den ≤ speed.num * x.den

abbrev pub IsNotBelow : Quotient → Fraction → Type 0
IsNotBelow speed x = speed.num * x.den ≤ numerator x * speed.den

-- Two speeds and one between them, with no break of the levels' curve between the two: so stand two neighbouring breaks and a speed
-- from the one to the other.
pub record IsBetween (levels : List Level) (slow speed fast : Quotient) : Type 0 where
  pub slow_has_parts : 1 ≤ slow.den
  pub has_parts : 1 ≤ speed.den
  pub fast_has_parts : 1 ≤ fast.den
  pub from : slow.num * speed.den ≤ speed.num * slow.den
  pub to : speed.num * fast.den ≤ fast.num * speed.den
  pub no_break : All (λ bend. IsNotAbove slow bend.speed ⊎ IsNotBelow fast bend.speed) (breaks_of levels)

-- what levels do above a speed
abbrev pub excess_of : List Level → Quotient → Fraction
excess_of levels speed = least_above speed.num speed.den levels

-- how far it is from a speed to a greater one, times both denominators
abbrev pub way : Quotient → Quotient → ℕ
way slow fast = fast.num * slow.den - slow.num * fast.den

-- x, at the speed, is on the line from `first`, at the slower one, to `last`, at the faster one: x over the whole way is `first` over the
-- way to the faster one and `last` over the way from the slower one. Both sides are times all six denominators.
abbrev pub IsOnLine : Quotient → Quotient → Quotient → Fraction → Fraction → Fraction → Type 0
IsOnLine slow speed fast first x last =
    numerator x * speed.den * way slow fast * (first.den * last.den)
    ≡ (numerator first * slow.den * way speed fast * last.den + numerator last * fast.den * way slow speed * first.den) * x.den

-- Between two neighbouring breaks the curve of a plan's levels goes in a straight line, and above the last it is 0.
pub record CurveIsStraight : Type 0 where
  pub between : (jobs : List Job) (slots : List WrittenSlot) (levels : List Level) (slow speed fast : Quotient) → IsPlan jobs slots levels →
      IsBetween levels slow speed fast → IsOnLine slow speed fast (excess_of levels slow) (excess_of levels speed) (excess_of levels fast)
  pub above : (jobs : List Job) (slots : List WrittenSlot) (levels : List Level) (speed : Quotient) → IsPlan jobs slots levels → 1 ≤ speed.den →
      All (λ bend. IsNotAbove speed bend.speed) (breaks_of levels) → excess_of levels speed ≡ of_whole 0
