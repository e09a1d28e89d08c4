-- Operating points that lie on a power of speed, and what it means that one cost is at most so many times another, and so much more.
-- Power as speed to an exponent: Yao, Demers and Shenker (FOCS 1995). Operating points: Ishihara and Yasuura (ISLPED 1998).
use Rattle.std.specs.Prelude.{◌≡◌, ℕ, ◌+◌, ◌-◌, ◌*◌, ◌^◌, ◌<◌, ◌≤◌, List, [], ◌∷◌, map}
use Rattle.yds_model.specs.Scale.{Fraction, numerator, Quotient}
use Rattle.yds_model.specs.Slot.{WholeSlot}
use Rattle.yds_model.specs.Table.{Point}
use Rattle.yds_ratios.specs.SpendingByPower.{spending}

-- the point of a speed: its power is the speed to the exponent
abbrev pub power_point : ℕ → ℕ → Point
power_point exponent speed = record { speed = speed; power = speed ^ exponent }

-- the table of 0 0 and of the points of these speeds
abbrev pub power_points : ℕ → List ℕ → List Point
power_points exponent speeds = record { speed = 0; power = 0 } ∷ map (power_point exponent) speeds

-- each speed is above the one before it, and at most p/q times as fast
abbrev pub RiseWithin : ℕ → ℕ → List ℕ → Type 0
RiseWithin p q [] = Unit {0}
RiseWithin p q (speed ∷ []) = Unit {0}
RiseWithin p q (speed ∷ next ∷ speeds) = (speed < next) × (q * next ≤ p * speed) × RiseWithin p q (next ∷ speeds)

-- Points on a power: 0 0, the slowest speed and faster ones, with neighbours above 0 within the ratio p/q, which is at least 1.
pub record ArePowerPoints (exponent p q slowest : ℕ) (points : List Point) : Type 0 where
  pub faster : List ℕ
  pub points_are : points ≡ power_points exponent (slowest ∷ faster)
  pub not_idle : 1 ≤ slowest
  pub within : RiseWithin p q (slowest ∷ faster)
  pub some : 1 ≤ q
  pub ratio : q ≤ p

-- The one is at most `factor` times the other, and so much `more`; by cross products, and each is over something.
pub record IsAtMostTimesAnd (factor : Quotient) (more : ℕ) (x y : Quotient) : Type 0 where
  pub some : 1 ≤ x.den
  pub other_some : 1 ≤ y.den
  pub factor_some : 1 ≤ factor.den
  pub at_most : x.num * (factor.den * y.den) ≤ (factor.num * y.num + more * (factor.den * y.den)) * x.den

-- a fraction as one quotient
abbrev pub quotient_of : Fraction → Quotient
quotient_of x = record { num = numerator x; den = x.den }

-- what slots of a scale spend by the power, in whole units and not in parts of the scale
abbrev pub power_spent : ℕ → ℕ → List WholeSlot → Quotient
power_spent exponent scale slots = record { num = (spending exponent slots).num; den = (spending exponent slots).den * scale }

-- On the points slots of a scale cost at least what they spend by the power, and at least slowest ^ (exponent - 1) for each unit of work; and at
-- most (p/q) ^ (exponent - 1) times what they spend by the power, and slowest ^ (exponent - 1) for each unit of work.
pub record CostsByPower (exponent p q slowest work : ℕ) (energy : Fraction) (scale : ℕ) (slots : List WholeSlot) : Type 0 where
  pub at_least : IsAtMostTimesAnd (record { num = 1; den = 1 }) 0 (power_spent exponent scale slots) (quotient_of energy)
  pub each_unit : slowest ^ (exponent - 1) * work * energy.den ≤ numerator energy
  pub at_most : IsAtMostTimesAnd (record { num = p ^ (exponent - 1); den = q ^ (exponent - 1) }) (slowest ^ (exponent - 1) * work)
      (quotient_of energy) (power_spent exponent scale slots)
