-- The energy of both parts, and of the time between them.
use Rattle.yds_model.proofs.Common.{◌≡◌, ℕ, ◌+◌, ◌-◌, ◌*◌, List, [], ◌∷◌, ◌++◌, length, map, refl, ap, ◌∙◌, arith, ℤ, pos, ◌+ℤ◌, ints, WholeSlot, Point, point_at, gaps_of, product, interpolated_power, total, idle, SpendsAtPoints}
use Rattle.yds_energy.proofs.RoundedEnergy.{total_joined, spends_joined}
use Rattle.yds_parts.specs.Parts.{moved}
use Rattle.yds_parts.specs.EnergyOfParts.{cost_between, EnergyOfParts, EnergyOnPointsOfParts}
use Rattle.yds_parts.proofs.Horizons.{idle_of_both}

-- # On points

-- the same slots of jobs some places later spend the same
spends_moved : (n : ℕ) (points : List Point) (slots : List WholeSlot) (spent : ℕ) → SpendsAtPoints points slots spent → SpendsAtPoints points (map (moved n) slots) spent
spends_moved n points [] spent is = is
spends_moved n points (slot ∷ slots) spent (point, rest, known, at, others, sum) = (point, rest, known, at, spends_moved n points slots rest others, sum)

pub energy_on_points_of_parts : EnergyOnPointsOfParts
energy_on_points_of_parts time scale one other first second points slots others are (spent, spends, is) (later, later_spends, later_is) = (
  spent + later,
  spends_joined points slots (map (moved (length first)) others) spent later spends (spends_moved (length first) points others later later_spends),
  omega (
    arith,
    is,
    later_is,
    ap (λ n. (point_at points 0).power * n)
        (idle_of_both time first second are.parted are.first_windows are.second_windows are.some are.some_later scale slots others are.feasible are.later_feasible),
  ),
)

-- # By interpolation

abbrev powers : List Point → List WholeSlot → List ℤ
powers points slots = map (λ slot. interpolated_power points (slot.to - slot.from) slot.work) slots

powers_moved : (n : ℕ) (points : List Point) (slots : List WholeSlot) → powers points (map (moved n) slots) ≡ powers points slots
powers_moved n points [] = refl
powers_moved n points (slot ∷ slots) = ap (λ (rest : List ℤ). interpolated_power points (slot.to - slot.from) slot.work ∷ rest) (powers_moved n points slots)

-- the sum with all idle time is the sum of both with theirs
sums : (a b : ℤ) (all first later between : ℕ) → all ≡ first + later + between →
    (a +ℤ b) +ℤ pos all ≡ ((a +ℤ pos first) +ℤ (b +ℤ pos later)) +ℤ pos between
sums a b all first later between is = omega (arith, ints, is)

pub energy_of_parts : EnergyOfParts
energy_of_parts time scale first second points slots others are =
    let power = (point_at points 0).power in
    let parts = product (gaps_of points) in
    let later = map (moved (length first)) others in
    let of_slot : WholeSlot → ℤ = λ slot. interpolated_power points (slot.to - slot.from) slot.work in
    let totals : total (map of_slot (slots ++ later)) ≡ total (map of_slot slots) +ℤ total (map of_slot others) =
    total_joined of_slot slots later ∙ ap (λ (numbers : List ℤ). total (map of_slot slots) +ℤ total numbers) (powers_moved (length first) points others) in
    let idles = idle_of_both time first second are.parted are.first_windows are.second_windows are.some are.some_later scale slots others are.feasible are.later_feasible in
    ap (λ sum. sum +ℤ pos (parts * (power * idle (first ++ second) scale (slots ++ later)))) totals
    ∙ sums (total (map of_slot slots)) (total (map of_slot others)) (parts * (power * idle (first ++ second) scale (slots ++ later)))
    (parts * (power * idle first scale slots)) (parts * (power * idle second scale others)) (parts * cost_between points scale first second)
    (ap (λ n. parts * (power * n)) idles ∙ omega arith)
