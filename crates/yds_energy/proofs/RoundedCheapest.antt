-- The energy of the rounded slots of a plan is the least of all feasible schedules on the table's points.
use Rattle.yds_model.proofs.Common.{◌≡◌, ℕ, zero, suc, ◌-◌, ◌*◌, ◌<◌, ◌≤◌, List, [], ◌∷◌, ◌++◌, map, ap, arith, refl, ℤ, pos, ◌≤ℤ◌, All-append, mul-pos, mul-le-mul_right, le_of_mul-le-mul_left, le_of_mul-le-mul_right, Job, Fraction, numerator, WrittenSlot, WholeSlot, IsSolid, slots_at, IsFeasibleAt, Level, IsPlan, Point, AreRising, IsTable, hull_of, gaps_of, product, IsEnergyOnPoints, IsRounding}
use Rattle.model_lemmas.proofs.HullExists.{hull_exists}
use Rattle.model_lemmas.proofs.Scale.{scale_exists, finer, feasible_finer}
use Rattle.yds_energy.specs.RoundingLaws.{RoundedIsCheapest}
use Rattle.yds_laws.proofs.Bound.{scale_left, scale_right}
use Rattle.yds_energy.proofs.Hinges.{product-cons}
use Rattle.yds_energy.proofs.HullEnergy.{hull_rising}
use Rattle.yds_energy.proofs.RoundingScale.{energy_both}
use Rattle.yds_energy.proofs.PlansEnergy.{plans_cost_least_on_points}
use Rattle.yds_energy.proofs.PlanParts.{scale_times}
use Rattle.yds_energy.proofs.RoundedEnergy.{rounded_attains_the_hull}

-- the product of the gaps of rising points is at least 1
pub gaps_positive : (points : List Point) → AreRising points → 1 ≤ product (gaps_of points)
gaps_positive [] rising = omega arith
gaps_positive (point ∷ []) rising = omega arith
gaps_positive (low ∷ high ∷ points) rising =
    let gap : 0 < high.speed - low.speed = omega (arith, rising.0) in
    omega (arith, product-cons (high.speed - low.speed) (gaps_of (high ∷ points)), mul-pos gap (gaps_positive (high ∷ points) rising.1))

-- what is at most another by the hull is so without its gaps
without_gaps : (all mine others : ℕ) (energy : ℤ) → 1 ≤ all → energy ≡ pos (all * mine) → energy ≤ℤ pos (all * others) → mine ≤ others
without_gaps all mine others energy some is most = grind arith

-- from a common scale to the other schedule's
from_common : (num den mine spent fine scale : ℕ) → 1 ≤ fine → mine * den ≡ num * (fine * scale) → mine ≤ fine * spent → num * scale ≤ spent * den
from_common num den mine spent fine scale some is most =
    let less : fine * (num * scale) ≤ fine * (spent * den) = omega (arith, is, mul-le-mul_right den most) in
    le_of_mul-le-mul_left {k = fine} less some

-- the same of two fractions, at a scale
at_most_written : (num den other other_den amount scale : ℕ) → 1 ≤ scale → num * scale ≤ amount * den → amount * other_den ≡ other * scale → num * other_den ≤ other * den
at_most_written num den other other_den amount scale some most is =
    let less : num * other_den * scale ≤ other * den * scale = omega (arith, mul-le-mul_right other_den most, ap (λ n. n * den) is) in
    le_of_mul-le-mul_right {k = scale} less some

-- no feasible schedule of whole numbers at a scale spends less
cheapest_at : (jobs : List Job) (points : List Point) (planned : List WrittenSlot) (levels : List Level) (written : List WrittenSlot) (energy : Fraction)
    (scale spent : ℕ) (others : List WholeSlot) → IsPlan jobs planned levels → IsTable points → IsRounding jobs points planned levels written energy →
    IsFeasibleAt jobs scale others → IsEnergyOnPoints jobs points scale others spent → numerator energy * scale ≤ spent * energy.den
cheapest_at jobs points planned levels written energy zero spent others plan table rounding feasible spends = omega arith
cheapest_at jobs points planned levels written energy (suc n) spent others plan table rounding feasible spends =
    let scale : ℕ = suc n in
    let hull : List Point = hull_of points in
    let is_hull = hull_exists points table.rising in
    let some = scale_exists (planned ++ written) (All-append IsSolid planned written plan.proper.feasible.solid rounding.energy_of.at_scales.solid) in
    let common = scale_times some.0 scale (planned ++ written) (omega arith) some.1 in
    let mine = rounding.energy_of.at_scales.holds (some.0 * scale) (scale_right (some.0 * scale) planned written common) in
    let most = plans_cost_least_on_points jobs planned levels points hull (some.0 * scale) (some.0 * spent) (map (finer some.0) others) plan table is_hull
    (scale_left (some.0 * scale) planned written common) (feasible_finer jobs some.0 scale others some.1.positive feasible)
    ((energy_both some.0 some.1.positive jobs points scale (some.0 * spent) others).1 (spent, refl, spends)) in
    from_common (numerator energy) energy.den mine.0 spent some.0 scale some.1.positive mine.2
    (without_gaps (product (gaps_of hull)) mine.0 (some.0 * spent) _ (gaps_positive hull (hull_rising points hull table.rising is_hull))
    (rounded_attains_the_hull jobs points planned levels written energy (some.0 * scale) mine.0 plan table rounding common mine.1) most)

-- the law: and none that is written
pub rounded_is_cheapest : RoundedIsCheapest
rounded_is_cheapest jobs points planned levels written energy plan table rounding = record {
  at_scales = λ scale spent others feasible spends. cheapest_at jobs points planned levels written energy scale spent others plan table rounding feasible spends;
  of_written = λ others spent feasible is.
      let scale = scale_exists others feasible.solid in
      let other = is.at_scales.holds scale.0 scale.1 in
      at_most_written (numerator energy) energy.den (numerator spent) spent.den other.0 scale.0 scale.1.positive
      (cheapest_at jobs points planned levels written energy scale.0 other.0 (slots_at scale.0 others) plan table rounding (feasible.holds scale.0 scale.1) other.1)
      other.2;
}
