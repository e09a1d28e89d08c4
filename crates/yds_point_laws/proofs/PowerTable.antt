-- Points of a power: they are a table, they are its lower hull, and what is so of neighbours among them.
use Rattle.yds_model.proofs.Common.{◌≡◌, ℕ, zero, suc, ◌+◌, ◌-◌, ◌*◌, ◌^◌, ◌<◌, ◌≤◌, ◌⊎◌, List, [], ◌∷◌, length, map, refl, sym, ap, subst, arith, inl, inr, Point, point_at, AreRising, IsTable, IsConvex, GoesOn, hull_of, Rise}
use Rattle.std.proofs.Math.Nat.{pow-suc}
use Rattle.model_lemmas.proofs.HullOf.{hull_is_computed}
use Rattle.yds_point_laws.specs.PowerPoints.{power_point, power_points, RiseWithin}
use Rattle.yds_point_laws.proofs.Chord.{chord}

-- 0 to an exponent of at least 1 is 0
no_power : (n : ℕ) → 0 ^ suc n ≡ 0
no_power n = omega (arith, pow-suc 0 n)

-- the points of speeds
abbrev pub powers : ℕ → List ℕ → List Point
powers exponent speeds = map (power_point exponent) speeds

-- 0 0 is the point of the speed 0
pub with_idle : (n : ℕ) (speeds : List ℕ) → power_points (suc n) speeds ≡ powers (suc n) (0 ∷ speeds)
with_idle n speeds = ap (λ (m : ℕ). record { speed = 0; power = m } ∷ powers (suc n) speeds) (sym (no_power n))

-- speeds within a ratio rise
within_rise : (p q : ℕ) (speeds : List ℕ) → RiseWithin p q speeds → Rise speeds
within_rise p q [] within = tt
within_rise p q (speed ∷ []) within = tt
within_rise p q (speed ∷ next ∷ speeds) within = (within.0, within_rise p q (next ∷ speeds) within.2)

-- so do their points,
points_rise : (n : ℕ) (speeds : List ℕ) → Rise speeds → AreRising (powers n speeds)
points_rise n [] rise = tt
points_rise n (speed ∷ []) rise = tt
points_rise n (speed ∷ next ∷ speeds) rise = (rise.0, points_rise n (next ∷ speeds) rise.1)

-- of three the one between lies on or below the line,
on_line : (n low mid high : ℕ) → low < mid → mid < high → mid ^ n * (high - low) ≤ low ^ n * (high - mid) + high ^ n * (mid - low)
on_line n low mid high first second =
    let up_to : low + (mid - low) ≡ mid = omega (arith, first) in
    let all : mid + (high - mid) ≡ high = omega (arith, second) in
    let both : (mid - low) + (high - mid) ≡ high - low = omega (arith, first, second) in
    rw (up_to, all, both) at (chord n low (mid - low) (high - mid))

-- and they are convex
points_convex : (n : ℕ) (speeds : List ℕ) → Rise speeds → IsConvex (powers n speeds)
points_convex n [] rise = tt
points_convex n (speed ∷ []) rise = tt
points_convex n (speed ∷ next ∷ []) rise = tt
points_convex n (speed ∷ next ∷ later ∷ speeds) rise = (on_line n speed next later rise.0 rise.1.0, points_convex n (next ∷ later ∷ speeds) rise.1)

-- points go on to all of themselves
goes_on : (low : Point) (points : List Point) → GoesOn low points points
goes_on low [] = tt
goes_on low (point ∷ points) = inl (refl, goes_on point points)

module _ (n p q slowest : ℕ) (faster : List ℕ) (not_idle : 1 ≤ slowest) (within : RiseWithin p q (slowest ∷ faster)) where
  -- the points
  abbrev all : List Point
  all = power_points (suc n) (slowest ∷ faster)

  -- with the idle one they rise
  all_rise : Rise (0 ∷ slowest ∷ faster)
  all_rise = (omega (arith, not_idle), within_rise p q (slowest ∷ faster) within)

  -- they are a table
  pub is_table : IsTable all
  is_table = record {
    some = omega arith;
    idle = refl;
    rising = subst AreRising (sym (with_idle n (slowest ∷ faster))) (points_rise (suc n) (0 ∷ slowest ∷ faster) all_rise);
  }

  -- and their own lower hull
  pub hull_is : hull_of all ≡ all
  hull_is =
      let convex : IsConvex all = subst IsConvex (sym (with_idle n (slowest ∷ faster))) (points_convex (suc n) (0 ∷ slowest ∷ faster) all_rise) in
      sym (hull_is_computed all all is_table.rising (record { part = (refl, goes_on (record { speed = 0; power = 0 }) (powers (suc n) (slowest ∷ faster))); convex = convex }))

-- # Neighbours

-- two neighbours: their powers, and that they are 0 and the slowest, or no slower and within the ratio
pub record IsPair (n p q slowest : ℕ) (low high : Point) : Type 0 where
  pub low_power : low.power ≡ low.speed ^ suc n
  pub high_power : high.power ≡ high.speed ^ suc n
  pub rises : low.speed < high.speed
  pub place : ((low.speed ≡ 0) × (high.speed ≡ slowest)) ⊎ ((slowest ≤ low.speed) × (q * high.speed ≤ p * low.speed))

-- two above 0
pair_above : (n p q slowest first : ℕ) (speeds : List ℕ) (k : ℕ) → slowest ≤ first → RiseWithin p q (first ∷ speeds) → suc k < length (powers (suc n) (first ∷ speeds)) →
    IsPair n p q slowest (point_at (powers (suc n) (first ∷ speeds)) k) (point_at (powers (suc n) (first ∷ speeds)) (suc k))
pair_above n p q slowest first [] k some within here = absurd (omega (arith, here))
pair_above n p q slowest first (next ∷ speeds) zero some within here = record {
  low_power = refl;
  high_power = refl;
  rises = within.0;
  place = inr (some, within.1);
}
pair_above n p q slowest first (next ∷ speeds) (suc k) some within here =
    pair_above n p q slowest next speeds k (omega (arith, some, within.0)) within.2 (omega (arith, here))

-- and all
pub pair_at : (n p q slowest : ℕ) (faster : List ℕ) (k : ℕ) → 1 ≤ slowest → RiseWithin p q (slowest ∷ faster) → suc k < length (power_points (suc n) (slowest ∷ faster)) →
    IsPair n p q slowest (point_at (power_points (suc n) (slowest ∷ faster)) k) (point_at (power_points (suc n) (slowest ∷ faster)) (suc k))
pair_at n p q slowest faster zero some within here = record {
  low_power = sym (no_power n);
  high_power = refl;
  rises = omega (arith, some);
  place = inl (refl, refl);
}
pair_at n p q slowest faster (suc k) some within here = pair_above n p q slowest slowest faster k (omega arith) within (omega (arith, here))
