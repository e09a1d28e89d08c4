-- What slots cost at the points of a table and between two neighbours is at most the energy that is interpolated.
use Rattle.yds_model.proofs.Common.{◌≡◌, ℕ, zero, suc, ◌+◌, ◌-◌, ◌*◌, ◌<◌, ◌≤◌, List, [], ◌∷◌, length, map, refl, ap, subst, arith, inl, inr, ℤ, ◌+ℤ◌, All, Contains, cases_lt, ints, All-nil, All-cons, All-weaker, All-contains, sum_by-cons, le_of_mul-le-mul_left, WholeSlot, Point, point_at, AreRising, GoesOn, IsHullOf, gaps_of, busy, product, interpolated_power, total}
use borrow.Author.Differences.{up, down}
use Rattle.yds_model.specs.Energy.{on_line}
use Rattle.yds_energy.proofs.Differences.{difference_times, total-cons}
use Rattle.yds_energy.proofs.Hinges.{gains, losses, line_is}
use Rattle.yds_energy.proofs.LineEnergy.{lines_are_at_most_energy}
use Rattle.yds_energy.proofs.OneEnergy.{places_rise}
use Rattle.yds_energy.proofs.RoundedRuns.{all_work}

-- # The hull's points are of the table

-- what a list has, it has with one more before it
contains_more : (first : Point) (points : List Point) (point : Point) → Contains points point → Contains (first ∷ points) point
contains_more first points point (place, within, is) = (suc place, omega (arith, within), is)

-- from a point of the hull on
goes_in : (low : Point) (points hull : List Point) → GoesOn low points hull → All (Contains points) hull
goes_in low [] [] goes = All-nil (Contains [])
goes_in low (point ∷ points) [] goes = absurd goes
goes_in low [] (high ∷ hull) goes = absurd goes
goes_in low (point ∷ points) (high ∷ hull) (inl (reached, goes)) =
    All-cons (Contains (point ∷ points)) high hull (0, omega arith, reached)
    (All-weaker (Contains points) (Contains (point ∷ points)) (λ one has. contains_more point points one has) hull (goes_in high points hull goes))
goes_in low (point ∷ points) (high ∷ hull) (inr (above, goes)) =
    All-weaker (Contains points) (Contains (point ∷ points)) (λ one has. contains_more point points one has) (high ∷ hull) (goes_in low points (high ∷ hull) goes)

-- so each is
pub hull_in : (points hull : List Point) (point : Point) → IsHullOf points hull → Contains hull point → Contains points point
hull_in [] [] point is_hull has = has
hull_in [] (low ∷ hull) point is_hull has = absurd is_hull.part
hull_in (first ∷ points) [] point is_hull has = absurd is_hull.part
hull_in (first ∷ points) (low ∷ hull) point is_hull has =
    All-contains (Contains (first ∷ points)) (low ∷ hull) point
    (All-cons (Contains (first ∷ points)) low hull (0, omega arith, is_hull.part.0)
    (All-weaker (Contains points) (Contains (first ∷ points)) (λ one there. contains_more first points one there) hull (goes_in low points hull is_hull.part.1))) has

-- # Lower bounds of an energy

-- k times the energy is at least a - b
abbrev pub IsAtLeast : ℕ → ℕ → ℕ → ℤ → Type 0
IsAtLeast a b k z = a + k * down z ≤ k * up z + b

-- bounds of two energies are one of their sum
pub at_least_plus : (a b c d k : ℕ) (x y : ℤ) → IsAtLeast a b k x → IsAtLeast c d k y → IsAtLeast (a + c) (b + d) k (x +ℤ y)
at_least_plus a b c d k x y one other =
    let sum : up (x +ℤ y) + (down x + down y) ≡ up x + up y + down (x +ℤ y) = omega (arith, ints) in
    omega (arith, one, other, ap (λ n. k * n) sum)

-- a line is one, times its gap
line_at_least : (points : List Point) (k time work : ℕ) → k + 1 < length points →
    IsAtLeast (product (gaps_of points) * gains (point_at points k) (point_at points (k + 1)) time work)
    (product (gaps_of points) * losses (point_at points k) (point_at points (k + 1)) time work)
    ((point_at points (k + 1)).speed - (point_at points k).speed) (interpolated_power points time work)
line_at_least points k time work within =
    let low = point_at points k in
    let high = point_at points (k + 1) in
    let power = interpolated_power points time work in
    omega (
      arith,
      ints,
      lines_are_at_most_energy points k time work within,
      difference_times (product (gaps_of points)) (gains low high time work) (losses low high time work) (on_line low high time work) (line_is low high time work),
      difference_times (high.speed - low.speed) (up power) (down power) power refl,
    )

-- the energy of slots by a table, one after another
abbrev pub power_of : List Point → WholeSlot → ℤ
power_of points slot = interpolated_power points (slot.to - slot.from) slot.work

-- the line's number is linear in time and work
pub gains_more : (low high : Point) (slot : WholeSlot) (slots : List WholeSlot) →
    gains low high (busy (slot ∷ slots)) (all_work (slot ∷ slots)) ≡ gains low high (slot.to - slot.from) slot.work + gains low high (busy slots) (all_work slots)
gains_more low high slot slots = simp sum_by-cons (omega arith)

-- and so is what is taken off
pub losses_more : (low high : Point) (slot : WholeSlot) (slots : List WholeSlot) →
    losses low high (busy (slot ∷ slots)) (all_work (slot ∷ slots)) ≡ losses low high (slot.to - slot.from) slot.work + losses low high (busy slots) (all_work slots)
losses_more low high slot slots = simp sum_by-cons (omega arith)

-- so all slots together are bounded by a line
pub lines_at_least : (points : List Point) (k : ℕ) (slots : List WholeSlot) → k + 1 < length points →
    IsAtLeast (product (gaps_of points) * gains (point_at points k) (point_at points (k + 1)) (busy slots) (all_work slots))
    (product (gaps_of points) * losses (point_at points k) (point_at points (k + 1)) (busy slots) (all_work slots))
    ((point_at points (k + 1)).speed - (point_at points k).speed) (total (map (power_of points) slots))
lines_at_least points k [] within = omega arith
lines_at_least points k (slot ∷ slots) within =
    let low = point_at points k in
    let high = point_at points (k + 1) in
    let all = product (gaps_of points) in
    let time = slot.to - slot.from in
    rw (total-cons (power_of points slot) (map (power_of points) slots), gains_more low high slot slots, losses_more low high slot slots)
    (omega (
      arith,
      at_least_plus (all * gains low high time slot.work) (all * losses low high time slot.work) (all * gains low high (busy slots) (all_work slots))
          (all * losses low high (busy slots) (all_work slots)) (high.speed - low.speed) (power_of points slot) (total (map (power_of points) slots))
          (line_at_least points k time slot.work within) (lines_at_least points k slots within),
    ))

-- # At a point's speed

-- a bound that is times a gap
pub cancel_gap : (gap a b cost : ℕ) (z : ℤ) → 0 < gap → IsAtLeast a b gap z → a ≡ b + gap * cost → IsAtLeast cost 0 1 z
cancel_gap gap a b cost z some least is = grind (arith, le_of_mul-le-mul_left)

-- at the lower end of a line
low_end : (all p r low high time : ℕ) → low < high →
    all * (p * (high * time) + r * (low * time)) ≡ all * (p * (low * time) + r * (low * time)) + (high - low) * (all * (p * time))
low_end all p r low high time rises =
    let gap : low + (high - low) ≡ high = omega (arith, rises) in
    omega (arith, ap (λ n. all * p * time * n) gap)

-- and at the upper end
high_end : (all p r low high time : ℕ) → low < high →
    all * (p * (high * time) + r * (high * time)) ≡ all * (p * (high * time) + r * (low * time)) + (high - low) * (all * (r * time))
high_end all p r low high time rises =
    let gap : low + (high - low) ≡ high = omega (arith, rises) in
    omega (arith, ap (λ n. all * r * time * n) gap)

-- so a line gives an end of it the end's power
end_at_least : (points : List Point) (k time : ℕ) (end : Point) → AreRising points → k + 1 < length points →
    product (gaps_of points) * gains (point_at points k) (point_at points (k + 1)) time (end.speed * time)
    ≡ product (gaps_of points) * losses (point_at points k) (point_at points (k + 1)) time (end.speed * time)
    + ((point_at points (k + 1)).speed - (point_at points k).speed) * (product (gaps_of points) * (end.power * time)) →
    IsAtLeast (product (gaps_of points) * (end.power * time)) 0 1 (interpolated_power points time (end.speed * time))
end_at_least points k time end rising within is =
    cancel_gap _ _ _ (product (gaps_of points) * (end.power * time)) (interpolated_power points time (end.speed * time))
    (omega (arith, places_rise points k (k + 1) rising (omega arith) within)) (line_at_least points k time (end.speed * time) within) is

-- so at each point's speed the energy is at least the point's
pub point_at_least : (points : List Point) (k time : ℕ) → AreRising points → k < length points →
    IsAtLeast (product (gaps_of points) * ((point_at points k).power * time)) 0 1 (interpolated_power points time ((point_at points k).speed * time))
point_at_least [] k time rising within = absurd (omega (arith, within))
point_at_least (point ∷ []) zero time rising within = omega (arith, ints)
point_at_least (point ∷ []) (suc k) time rising within = absurd (omega (arith, within))
point_at_least (point ∷ next ∷ points) k time rising within = elim (cases_lt (k + 1) (length (point ∷ next ∷ points))) [
  | inl before ↦
      let low = point_at (point ∷ next ∷ points) k in
      let high = point_at (point ∷ next ∷ points) (k + 1) in
      end_at_least (point ∷ next ∷ points) k time low rising before
      (low_end _ low.power high.power low.speed high.speed time (places_rise (point ∷ next ∷ points) k (k + 1) rising (omega arith) before))
  | inr last ↦
      let all : List Point = point ∷ next ∷ points in
      let place : (k - 1) + 1 ≡ k = omega (arith, last) in
      let before : (k - 1) + 1 < length all = omega (arith, place, within) in
      let low = point_at all (k - 1) in
      let high = point_at all ((k - 1) + 1) in
      subst (λ (n : ℕ). IsAtLeast (product (gaps_of all) * ((point_at all n).power * time)) 0 1 (interpolated_power all time ((point_at all n).speed * time))) place
      (end_at_least all (k - 1) time high rising before
      (high_end _ low.power high.power low.speed high.speed time (places_rise all (k - 1) ((k - 1) + 1) rising (omega arith) before)))
]
