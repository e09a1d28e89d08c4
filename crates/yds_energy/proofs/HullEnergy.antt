-- The energy of schedules on a table's points, against that by the table's lower hull.
use Rattle.yds_model.proofs.Common.{◌≡◌, ℕ, suc, ◌+◌, ◌-◌, ◌*◌, ◌<◌, ◌≤◌, List, [], ◌∷◌, length, refl, sym, subst, arith, ap, add-one, ℤ, pos, ◌*ℤ◌, ◌≤ℤ◌, map, Contains, mul-le-mul_left, int_max, ints, clamps, All-contains, All-cons, All-nil, WholeSlot, Point, point_at, AreRising, IsHullOf, gaps_of, idle, product, on_lines, greatest, total, interpolated_power, SpendsAtPoints}
use Rattle.model_lemmas.proofs.Hull.{RisesFrom, rises_from, rising_again, hull_rises, hull_under}
use Rattle.yds_model.specs.Energy.{on_line}
use Rattle.yds_energy.specs.EnergyLaws.{PointsCostAtLeastTheHull}
use Rattle.yds_energy.proofs.Differences.{difference_times, difference_at_most, greatest-cons, total-cons}
use Rattle.yds_energy.proofs.Hinges.{gains, losses, line_is, product-cons}
use Rattle.model_lemmas.proofs.Hull.{IsOver}

-- # The hull is a table

-- the hull rises
pub hull_rising : (points hull : List Point) → AreRising points → IsHullOf points hull → AreRising hull
hull_rising points [] rising is_hull = tt
hull_rising [] (low ∷ hull) rising is_hull = absurd is_hull.part
hull_rising (point ∷ points) (low ∷ hull) rising is_hull =
    let P : Point → Type 0 = λ x. RisesFrom x.speed points in
    rising_again low hull (hull_rises low points hull low.speed (subst P is_hull.part.0 (rises_from point points rising)) is_hull.part.1)

-- and begins where the table does
pub hull_first : (points hull : List Point) → IsHullOf points hull → point_at points 0 ≡ point_at hull 0
hull_first [] [] is_hull = refl
hull_first [] (low ∷ hull) is_hull = absurd is_hull.part
hull_first (point ∷ points) [] is_hull = absurd is_hull.part
hull_first (point ∷ points) (low ∷ hull) is_hull = is_hull.part.0

-- # One slot at a point's speed

-- a line gives it at most the point's power, where the point is over the line
under_point : (front low high low_power high_power speed power time : ℕ) → low < high →
    low_power * high + high_power * speed + power * low ≤ power * high + low_power * speed + high_power * low →
    front * (low_power * (high * time) + high_power * (speed * time))
    ≤ front * (high - low) * (power * time) + front * (low_power * (speed * time) + high_power * (low * time))
under_point front low high low_power high_power speed power time rises over =
    let gap : low + (high - low) ≡ high = omega (arith, rises) in
    omega (arith, mul-le-mul_left (front * time) over, ap (λ n. front * power * time * n) gap)

-- the same as a signed number
line_under : (front : ℕ) (low high point : Point) (time : ℕ) → low.speed < high.speed → IsOver low high point →
    (pos front *ℤ on_line low high time (point.speed * time)) ≤ℤ pos (front * (high.speed - low.speed) * (point.power * time))
line_under front low high point time rises over =
    difference_at_most (front * gains low high time (point.speed * time)) (front * losses low high time (point.speed * time))
    (front * (high.speed - low.speed) * (point.power * time)) 0 _ _
    (difference_times front (gains low high time (point.speed * time)) (losses low high time (point.speed * time)) _ (line_is low high time (point.speed * time)))
    refl
    (omega (arith, under_point front low.speed high.speed low.power high.power point.speed point.power time rises over))

-- the point is over each line of the hull
abbrev IsOverAll : Point → List Point → Type 0
IsOverAll point hull = (k : ℕ) → k + 1 < length hull → IsOver (point_at hull k) (point_at hull (k + 1)) point

-- so it is over each line of the hull's rest
over_rest : (point low high : Point) (hull : List Point) → IsOverAll point (low ∷ high ∷ hull) → IsOverAll point (high ∷ hull)
over_rest point low high hull over k within = rw add-one (rw add-one at (over (suc k) (omega arith)))

-- the greater of two numbers below a third is below it
both_under : (x y z : ℤ) → x ≤ℤ z → y ≤ℤ z → int_max x y ≤ℤ z
both_under x y z first second = omega (arith, ints, clamps, first, second)

-- a bound may be replaced by one that is equal
at_most_same : (a b : ℕ) (z : ℤ) → a ≡ b → z ≤ℤ pos a → z ≤ℤ pos b
at_most_same a b z same under = omega (arith, ints, same, under)

-- so do all lines of the hull
lines_under : (before : ℕ) (low high : Point) (hull : List Point) (point : Point) (time : ℕ) → AreRising (low ∷ high ∷ hull) →
    IsOverAll point (low ∷ high ∷ hull) →
    greatest (pos (before * product (gaps_of (high ∷ hull))) *ℤ on_line low high time (point.speed * time))
    (on_lines (before * (high.speed - low.speed)) (high ∷ hull) time (point.speed * time))
    ≤ℤ pos (before * product (gaps_of (low ∷ high ∷ hull)) * (point.power * time))
lines_under before low high [] point time rising over =
    let line : (pos (before * 1) *ℤ on_line low high time (point.speed * time)) ≤ℤ pos (before * 1 * (high.speed - low.speed) * (point.power * time)) =
    line_under (before * 1) low high point time rising.0 (over 0 (omega arith)) in
    subst (λ n. (pos (before * 1) *ℤ on_line low high time (point.speed * time)) ≤ℤ pos (n * (point.power * time)))
    (regrouped before 1 (high.speed - low.speed)) line
  where
    -- of three factors the product is the same from either side
    regrouped : (x y z : ℕ) → x * y * z ≡ x * (y * z)
    regrouped x y z = omega arith
lines_under before low high (next ∷ hull) point time rising over =
    let gap : ℕ = high.speed - low.speed in
    let step : ℕ = next.speed - high.speed in
    let rest : ℕ = product (gaps_of (high ∷ next ∷ hull)) in
    let cost : ℕ = point.power * time in
    let whole : product (gaps_of (low ∷ high ∷ next ∷ hull)) ≡ gap * rest = product-cons gap (gaps_of (high ∷ next ∷ hull)) in
    let bound : before * rest * gap * cost ≡ before * product (gaps_of (low ∷ high ∷ next ∷ hull)) * cost = omega (arith, ap (λ n. before * n * cost) whole) in
    let other : before * gap * rest * cost ≡ before * product (gaps_of (low ∷ high ∷ next ∷ hull)) * cost = omega (arith, ap (λ n. before * n * cost) whole) in
    let first = line_under (before * rest) low high point time rising.0 (over 0 (omega arith)) in
    let later = lines_under (before * gap) high next hull point time rising.1 (over_rest point low high (next ∷ hull) over) in
    rw (greatest-cons (pos (before * rest) *ℤ on_line low high time (point.speed * time))
    (pos (before * gap * product (gaps_of (next ∷ hull))) *ℤ on_line high next time (point.speed * time))
    (on_lines (before * gap * step) (next ∷ hull) time (point.speed * time)))
    (both_under _ _ _ (at_most_same _ _ _ bound first) (at_most_same _ _ _ other later))

-- a slot at a point's speed costs by the hull at most the point's power
pub slot_under : (points hull : List Point) (point : Point) (time : ℕ) → AreRising points → IsHullOf points hull → Contains points point →
    interpolated_power hull time (point.speed * time) ≤ℤ pos (product (gaps_of hull) * (point.power * time))
slot_under [] hull point time rising is_hull on = absurd (omega (arith, on.1))
slot_under (first ∷ points) [] point time rising is_hull on = absurd is_hull.part
slot_under (first ∷ []) (low ∷ []) point time rising is_hull on =
    let same : low.power ≡ point.power =
    All-contains (λ x. low.power ≡ x.power) (first ∷ []) point
    (All-cons (λ x. low.power ≡ x.power) first [] (ap (λ (x : Point). x.power) (sym is_hull.part.0)) (All-nil (λ x. low.power ≡ x.power))) on in
    omega (arith, ints, ap (λ n. n * time) same)
slot_under (first ∷ other ∷ points) (low ∷ []) point time rising is_hull on = absurd is_hull.part.1
slot_under (first ∷ points) (low ∷ high ∷ hull) point time rising is_hull on =
    let all : ℕ = product (gaps_of (low ∷ high ∷ hull)) in
    at_most_same (1 * all * (point.power * time)) (all * (point.power * time)) _ (omega arith)
    (lines_under 1 low high hull point time (hull_rising (first ∷ points) (low ∷ high ∷ hull) rising is_hull)
    (λ k within. All-contains (IsOver (point_at (low ∷ high ∷ hull) k) (point_at (low ∷ high ∷ hull) (k + 1))) (first ∷ points) point
    (hull_under (first ∷ points) (low ∷ high ∷ hull) k rising is_hull within) on))

-- # All slots

-- so the slots' energy by the hull is at most what they spend at the points
slots_under : (points hull : List Point) (slots : List WholeSlot) (spent : ℕ) → AreRising points → IsHullOf points hull →
    SpendsAtPoints points slots spent →
    total (map (λ slot. interpolated_power hull (slot.to - slot.from) slot.work) slots) ≤ℤ pos (product (gaps_of hull) * spent)
slots_under points hull [] spent rising is_hull spends = omega (arith, ints)
slots_under points hull (slot ∷ slots) spent rising is_hull (point, rest, on, at, spends, is) =
    let power : WholeSlot → ℤ = λ slot. interpolated_power hull (slot.to - slot.from) slot.work in
    let time : ℕ = slot.to - slot.from in
    let first : power slot ≤ℤ pos (product (gaps_of hull) * (point.power * time)) =
    rw at (slot_under points hull point time rising is_hull on) in
    rw (total-cons (power slot) (map power slots))
    (omega (arith, ints, first, slots_under points hull slots rest rising is_hull spends, ap (λ n. product (gaps_of hull) * n) is))

-- the law: a schedule on the points costs at least what the hull gives it
pub points_cost_at_least_the_hull : PointsCostAtLeastTheHull
points_cost_at_least_the_hull jobs points hull scale energy slots rising is_hull (spent, spends, is) =
    omega (
      arith,
      ints,
      slots_under points hull slots spent rising is_hull spends,
      ap (λ n. product (gaps_of hull) * n) is,
      ap (λ (x : Point). product (gaps_of hull) * (x.power * idle jobs scale slots)) (hull_first points hull is_hull),
    )
