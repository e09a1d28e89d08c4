-- The energy of a plan that is rounded fits.
use Rattle.yds_model.proofs.Common.{◌≡◌, ℕ, ◌+◌, ◌-◌, ◌*◌, ◌≤◌, List, [], ◌∷◌, ap, arith, All, All-contains, All-weaker, sum_by-cons, mul-le-mul_right, mul-pos, le_of_mul-le-mul_right, Job, Fraction, WrittenSlot, WholeSlot, IsSolid, IsFeasible, slots_at, Point, no_point, point_at, busy, horizon, idle, SpendsAtPoints, IsEnergyOf, IsSlot, IsTable, IsJob, IsFraction, IsPlan, IsRounding, Level}
use Rattle.model_lemmas.proofs.Horizon.{busy_and_idle, last_within}
use Rattle.model_lemmas.proofs.Scale.{scale_exists}
use Rattle.base.specs.declared.limits.TheConstants.{MAX_ENERGY, MAX_POINT_POWER, MAX_WHOLE}
use Rattle.yds_fraction.proofs.WithinLimits.{some_parts, IsFraction-within}
use Rattle.yds_energy.proofs.RoundedOnPoints.{rounded_is_feasible}
use Rattle.yds_table.specs.Table.{IsPointTable}

pub slots_solid : (slots : List WrittenSlot) → All IsSlot slots → All IsSolid slots
slots_solid slots each = grind (arith, All-weaker, some_parts)

-- slots at points of at most so much power spend at most that in each unit of their time
spends_at_most : (most : ℕ) (points : List Point) (slots : List WholeSlot) (spent : ℕ) → All (λ point. point.power ≤ most) points → SpendsAtPoints points slots spent →
    spent ≤ most * busy slots
spends_at_most most points [] spent each is = omega (arith, is)
spends_at_most most points (slot ∷ slots) spent each (point, rest, has, at, later, sum) =
    simp sum_by-cons (omega (
      arith,
      sum,
      mul-le-mul_right (slot.to - slot.from) (All-contains (λ (p : Point). p.power ≤ most) points point each has),
      spends_at_most most points slots rest each later,
    ))

-- in plain numbers: so much power in all the horizon is at most so much energy
whole_within : (most long busy_time idle_time scale spent idle_power energy whole num den : ℕ) → 1 ≤ scale → 1 ≤ den → busy_time + idle_time ≡ scale * long → spent ≤ most * busy_time →
    idle_power ≤ most → energy ≡ spent + idle_power * idle_time → energy * den ≡ (whole * den + num) * scale → whole ≤ most * long
whole_within most long busy_time idle_time scale spent idle_power energy whole num den some parts time at_most idle_at_most is same =
    let all : energy ≤ most * (scale * long) = omega (arith, is, at_most, mul-le-mul_right idle_time idle_at_most, ap (λ n. most * n) time) in
    le_of_mul-le-mul_right {k = den * scale} (omega (arith, same, mul-le-mul_right den all)) (mul-pos parts some)

-- a feasible schedule's energy on points is at most the greatest power over the horizon
energy_within : (most : ℕ) (jobs : List Job) (points : List Point) (slots : List WrittenSlot) (energy : Fraction) → All (λ point. point.power ≤ most) points → IsTable points →
    IsFeasible jobs slots → IsEnergyOf jobs points slots energy → energy.whole ≤ most * horizon jobs
energy_within most jobs points slots energy each table feasible is =
    let scale = scale_exists slots feasible.solid in
    let at = is.at_scales.holds scale.0 scale.1 in
    whole_within most (horizon jobs) (busy (slots_at scale.0 slots)) (idle jobs scale.0 (slots_at scale.0 slots)) scale.0 at.1.0 (point_at points 0).power at.0 energy.whole energy.num
    energy.den scale.1.positive is.has_parts (busy_and_idle jobs scale.0 (slots_at scale.0 slots) (feasible.holds scale.0 scale.1))
    (spends_at_most most points (slots_at scale.0 slots) at.1.0 each at.1.1) (each 0 no_point table.some) at.1.2 at.2

-- so the energy of a rounding fits
pub rounding_within : (jobs : List Job) (points : List Point) (planned : List WrittenSlot) (levels : List Level) (written : List WrittenSlot) (energy : Fraction) →
    All IsJob jobs → IsPlan jobs planned levels → IsPointTable points → IsRounding jobs points planned levels written energy → IsFraction MAX_WHOLE energy →
    IsFraction MAX_ENERGY energy
rounding_within jobs points planned levels written energy fit plan are rounding kept =
    let on_points = rounded_is_feasible jobs points planned levels written energy plan are.table rounding in
    let within = energy_within MAX_POINT_POWER jobs points written energy (λ i d inside. (are.within.fit i d inside).power_in_range) are.table on_points.feasible rounding.energy_of in
    IsFraction-within MAX_WHOLE MAX_ENERGY energy kept (omega (arith, within, last_within jobs fit))
