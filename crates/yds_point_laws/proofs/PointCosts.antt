-- The laws of plans and runs on points of a power: both have one speed in each stretch; and between them stands the ratio of the policy.
use Rattle.yds_model.proofs.Common.{◌≡◌, ℕ, zero, suc, ◌+◌, ◌-◌, ◌*◌, ◌^◌, ◌≤◌, List, [], ◌∷◌, ◌++◌, get_or, subst, arith, inl, inr, All, All-contains, Contains, Contains-get_or, contains_filter, mul-pos, mul-le-mul_left, le_of_mul-le-mul_left, Job, numerator, WrittenSlot, WholeSlot, AtEachScale, slots_at, Level, IsPlan, Point, IsRunAt, Piece, Spent, IsSpent, HoldsAll, IsTooFast, IsWithinTop, LiesIn, stretch_at, slots_in, work_in, top_of, average_rate, IsAverageRateRun, optimal_available, IsOptimalAvailableRun}
use Rattle.model_lemmas.proofs.Scale.{scale_exists}
use Rattle.yds_events.specs.Stretch.{no_stretch}
use Rattle.yds_events.proofs.Neighbours.{stretch_forward}
use Rattle.yds_laws.proofs.ExactRates.{stretch_of_slot}
use Rattle.yds_laws.proofs.Bound.{scale_left, scale_right}
use Rattle.yds_energy.proofs.EvenStretches.{run_even, plan_even, plan_holds, held_at}
use Rattle.yds_energy.proofs.SpentEnergy.{IsEven}
use Rattle.yds_energy.proofs.StretchSlots.{lies, lies_passes}
use Rattle.yds_energy.proofs.TooSlow.{too_slow_is_exact}
use Rattle.yds_ratios.specs.SpendingByPower.{spending, SpendsAtMost}
use Rattle.yds_ratios.proofs.OptimalAvailableSpends.{optimal_available_spends}
use Rattle.yds_ratios.proofs.AverageRateSpends.{average_rate_spends}
use Rattle.yds_point_laws.specs.PowerPoints.{power_points, ArePowerPoints, IsAtMostTimesAnd, quotient_of, CostsByPower}
use Rattle.yds_point_laws.specs.PointLaws.{whole_work, PointsCostByPower, RunsCostAtMost, RunsCostTimes, available_factor, rate_factor, PoliciesCostAtMost}
use Rattle.yds_point_laws.proofs.AllCosts.{costs}

-- # Plans and runs

module _ (n p q slowest : ℕ) (jobs : List Job) (points : List Point) (on_power : ArePowerPoints (suc n) p q slowest points) (slots : List WrittenSlot) (spent : Spent)
    (holds : HoldsAll jobs points slots spent) where
  -- the points are these
  held : HoldsAll jobs (power_points (suc n) (slowest ∷ on_power.faster)) slots spent
  held = subst (λ (all : List Point). HoldsAll jobs all slots spent) on_power.points_are holds

  -- a plan's cost
  pub plan_costs : (levels : List Level) → IsPlan jobs slots levels → AtEachScale slots (CostsByPower (suc n) p q slowest (whole_work jobs) spent.energy)
  plan_costs levels plan = record {
    solid = plan.proper.feasible.solid;
    holds = λ scale is.
        costs n p q slowest on_power.faster on_power.not_idle on_power.within on_power.some jobs scale (slots_at scale slots) spent.energy is.positive
        (plan.proper.feasible.holds scale is) (plan.served scale is).uncut (plan_even jobs slots levels scale plan is) (held.holds.holds scale is)
        (held.is_spent.holds scale is).energy;
  }

  -- and a run's
  pub run_costs : (grid : ℕ) (capacity : ℕ → List WholeSlot → Piece → ℕ) → AtEachScale slots (λ scale whole. IsRunAt jobs grid scale (capacity scale whole) whole) →
      AtEachScale slots (CostsByPower (suc n) p q slowest (whole_work jobs) spent.energy)
  run_costs grid capacity run = record {
    solid = run.solid;
    holds = λ scale is.
        let at = run.holds scale is in
        costs n p q slowest on_power.faster on_power.not_idle on_power.within on_power.some jobs scale (slots_at scale slots) spent.energy is.positive
        at.feasible at.served.uncut (run_even jobs grid scale (capacity scale (slots_at scale slots)) (slots_at scale slots) is.positive at) (held.holds.holds scale is)
        (held.is_spent.holds scale is).energy;
  }

-- the law of both
pub points_cost_by_power : PointsCostByPower
points_cost_by_power = record {
  plan = λ exponent. of_plan exponent;
  run = λ exponent. of_run exponent;
}
  where
    -- of a plan
    of_plan : (exponent p q slowest : ℕ) (jobs : List Job) (points : List Point) (slots : List WrittenSlot) (levels : List Level) (spent : Spent) →
        1 ≤ exponent → ArePowerPoints exponent p q slowest points → IsPlan jobs slots levels → HoldsAll jobs points slots spent →
        AtEachScale slots (CostsByPower exponent p q slowest (whole_work jobs) spent.energy)
    of_plan zero p q slowest jobs points slots levels spent some on_power plan holds = absurd (omega (arith, some))
    of_plan (suc n) p q slowest jobs points slots levels spent some on_power plan holds = plan_costs n p q slowest jobs points on_power slots spent holds levels plan

    -- of a run
    of_run : (exponent p q slowest : ℕ) (jobs : List Job) (points : List Point) (grid : ℕ) (capacity : ℕ → List WholeSlot → Piece → ℕ) (slots : List WrittenSlot)
        (spent : Spent) → 1 ≤ exponent → ArePowerPoints exponent p q slowest points → AtEachScale slots (λ scale whole. IsRunAt jobs grid scale (capacity scale whole) whole) →
        HoldsAll jobs points slots spent → AtEachScale slots (CostsByPower exponent p q slowest (whole_work jobs) spent.energy)
    of_run zero p q slowest jobs points grid capacity slots spent some on_power run holds = absurd (omega (arith, some))
    of_run (suc n) p q slowest jobs points grid capacity slots spent some on_power run holds = run_costs n p q slowest jobs points on_power slots spent holds grid capacity run

-- # Policies

-- nothing stands in an empty list
none_there : (slot : WholeSlot) → Contains [] slot → ⊥
none_there slot (k, inside, is) = omega (arith, inside)

-- a slot of an even stretch that holds is within the top speed
slot_within : (top scale : ℕ) (stretch : Piece) (slots : List WholeSlot) (slot : WholeSlot) → 1 ≤ (stretch.to - stretch.from) * scale → IsEven scale slots stretch →
    Contains slots slot → LiesIn scale slot stretch → work_in scale stretch slots ≤ top * ((stretch.to - stretch.from) * scale) → IsWithinTop top slot
slot_within top scale stretch slots slot some even has lie holds =
    let there : Contains (slots_in scale stretch slots) slot = contains_filter (lies scale stretch) slots slot (lies_passes scale stretch slot lie) has in
    elim even [
      | inl none ↦ absurd (none_there slot (subst (λ (here : List WholeSlot). Contains here slot) none there))
      | inr full ↦ held_at top slot.work (slot.to - slot.from) (work_in scale stretch slots) ((stretch.to - stretch.from) * scale) some holds
          (All-contains (λ one. one.work * ((stretch.to - stretch.from) * scale) ≡ work_in scale stretch slots * (one.to - one.from)) (slots_in scale stretch slots) slot full.speeds there)
    ]

-- so where the top point is fast enough for a run, it is so for a plan
pub plan_within : (jobs : List Job) (points : List Point) (planned : List WrittenSlot) (levels : List Level) (grid : ℕ) (capacity : ℕ → List WholeSlot → Piece → ℕ)
    (slots : List WrittenSlot) (spent : Spent) → IsPlan jobs planned levels → AtEachScale slots (λ scale whole. IsRunAt jobs grid scale (capacity scale whole) whole) →
    HoldsAll jobs points slots spent → All (λ level. IsTooFast points level → ⊥) levels
plan_within jobs points planned levels grid capacity slots spent plan run holds =
    let some = scale_exists slots run.solid in
    let scale = some.0 in
    let whole : List WholeSlot = slots_at scale slots in
    let at = run.holds scale some.1 in
    let even = run_even jobs grid scale (capacity scale whole) whole some.1.positive at in
    (too_slow_is_exact.none jobs points planned levels plan).1 (record {
      scale = scale;
      positive = some.1.positive;
      slots = whole;
      feasible = at.feasible;
      within_top = λ i d inside.
          let (k, here, lie) = stretch_of_slot jobs scale (get_or whole i d) (at.served.uncut i d inside) in
          let long : 1 ≤ (stretch_at jobs k).to - (stretch_at jobs k).from = let ahead = stretch_forward jobs k here in omega (arith, ahead) in
          slot_within (top_of points) scale (stretch_at jobs k) whole (get_or whole i d) (mul-pos long some.1.positive) (even k no_stretch here) (Contains-get_or whole i d inside) lie
          (holds.holds.holds scale some.1 k no_stretch here);
    })

-- in plain numbers: what a run costs, by what it spends, what a plan spends, and what that costs
in_turn : (factor ratio_num ratio_den more scale run_num run_den plan_num plan_den cost_num cost_den least_num least_den : ℕ) → 1 ≤ scale → 1 ≤ run_den → 1 ≤ plan_den →
    cost_num * (ratio_den * (run_den * scale)) ≤ (ratio_num * run_num + more * (ratio_den * (run_den * scale))) * cost_den →
    run_num * plan_den ≤ factor * plan_num * run_den → plan_num * (1 * least_den) ≤ (1 * least_num + 0 * (1 * least_den)) * (plan_den * scale) →
    cost_num * (ratio_den * least_den) ≤ (factor * ratio_num * least_num + more * (ratio_den * least_den)) * cost_den
in_turn factor ratio_num ratio_den more scale run_num run_den plan_num plan_den cost_num cost_den least_num least_den positive run_some plan_some costs spends least =
    le_of_mul-le-mul_left {k = run_den * scale * plan_den} (omega (
      arith,
      mul-le-mul_left (plan_den * least_den) costs,
      mul-le-mul_left (ratio_num * least_den * cost_den) spends,
      mul-le-mul_left (factor * ratio_num * run_den * cost_den) least,
    )) (mul-pos (mul-pos run_some positive) plan_some)

-- in plain numbers: where what is more is at most what the plan costs
absorbed : (factor ratio_den more cost_num cost_den least_num least_den : ℕ) → cost_num * (ratio_den * least_den) ≤ (factor * least_num + more * (ratio_den * least_den)) * cost_den →
    more * least_den ≤ least_num → cost_num * (ratio_den * least_den) ≤ ((factor + ratio_den) * least_num + 0 * (ratio_den * least_den)) * cost_den
absorbed factor ratio_den more cost_num cost_den least_num least_den most least = omega (arith, most, mul-le-mul_left (ratio_den * cost_den) least)

-- so a plan's cost, where the top point is fast enough for a run
pub planned_costs : (n p q slowest : ℕ) (jobs : List Job) (points : List Point) (grid : ℕ) (capacity : ℕ → List WholeSlot → Piece → ℕ) (slots planned : List WrittenSlot)
    (levels : List Level) (spent planned_spent : Spent) → ArePowerPoints (suc n) p q slowest points →
    AtEachScale slots (λ scale whole. IsRunAt jobs grid scale (capacity scale whole) whole) → HoldsAll jobs points slots spent → IsPlan jobs planned levels →
    IsSpent jobs points planned planned_spent → AtEachScale planned (CostsByPower (suc n) p q slowest (whole_work jobs) planned_spent.energy)
planned_costs n p q slowest jobs points grid capacity slots planned levels spent planned_spent on_power run holds plan plan_spent =
    let slow = plan_within jobs points planned levels grid capacity slots spent plan run holds in
    plan_costs n p q slowest jobs points on_power planned planned_spent
    (record {
      holds = record { solid = plan.proper.feasible.solid; holds = λ scale is. plan_holds jobs planned levels points scale plan is slow };
      is_spent = plan_spent;
    }) levels plan

-- So it is with a run that spends at most so many times what a plan does.
module _ (n factor p q slowest : ℕ) (jobs : List Job) (points : List Point) (grid : ℕ) (capacity : ℕ → List WholeSlot → Piece → ℕ) (slots planned : List WrittenSlot)
    (levels : List Level) (spent planned_spent : Spent) (on_power : ArePowerPoints (suc n) p q slowest points)
    (run : AtEachScale slots (λ scale whole. IsRunAt jobs grid scale (capacity scale whole) whole)) (holds : HoldsAll jobs points slots spent)
    (plan : IsPlan jobs planned levels) (plan_spent : IsSpent jobs points planned planned_spent) (spends : SpendsAtMost (suc n) factor slots planned) where
  -- the plan's cost
  the_plan_costs : AtEachScale planned (CostsByPower (suc n) p q slowest (whole_work jobs) planned_spent.energy)
  the_plan_costs = planned_costs n p q slowest jobs points grid capacity slots planned levels spent planned_spent on_power run holds plan plan_spent

  -- the run's is at most so many times that, and so much more
  run_costs_at_most : IsAtMostTimesAnd (record { num = factor * p ^ (suc n - 1); den = q ^ (suc n - 1) }) (slowest ^ (suc n - 1) * whole_work jobs)
      (quotient_of spent.energy) (quotient_of planned_spent.energy)
  run_costs_at_most =
      let some = scale_exists (slots ++ planned) spends.solid in
      let scale = some.0 in
      let mine = (run_costs n p q slowest jobs points on_power slots spent holds grid capacity run).holds scale (scale_left scale slots planned some.1) in
      let theirs = the_plan_costs.holds scale (scale_right scale slots planned some.1) in
      let most = spends.at_most scale some.1 in
      record {
        some = mine.at_most.some;
        other_some = theirs.at_least.other_some;
        factor_some = mine.at_most.factor_some;
        at_most = in_turn factor (p ^ (suc n - 1)) (q ^ (suc n - 1)) (slowest ^ (suc n - 1) * whole_work jobs) scale (spending (suc n) (slots_at scale slots)).num
            (spending (suc n) (slots_at scale slots)).den (spending (suc n) (slots_at scale planned)).num (spending (suc n) (slots_at scale planned)).den (numerator spent.energy)
            spent.energy.den (numerator planned_spent.energy) planned_spent.energy.den some.1.positive most.some most.other_some mine.at_most.at_most most.at_most theirs.at_least.at_most;
      }

  -- or that many times and once more
  run_costs_times : IsAtMostTimesAnd (record { num = factor * p ^ (suc n - 1) + q ^ (suc n - 1); den = q ^ (suc n - 1) }) 0 (quotient_of spent.energy) (quotient_of planned_spent.energy)
  run_costs_times =
      let some = scale_exists planned plan.proper.feasible.solid in
      let most = run_costs_at_most in
      record {
        some = most.some;
        other_some = most.other_some;
        factor_some = most.factor_some;
        at_most = absorbed (factor * p ^ (suc n - 1)) (q ^ (suc n - 1)) (slowest ^ (suc n - 1) * whole_work jobs) (numerator spent.energy) spent.energy.den
            (numerator planned_spent.energy) planned_spent.energy.den most.at_most (the_plan_costs.holds some.0 some.1).each_unit;
      }

-- the law of so many times and so much more: of Optimal Available
available_costs : RunsCostAtMost IsOptimalAvailableRun available_factor
available_costs zero p q slowest jobs points grid slots planned levels spent planned_spent some some_grid on_power run holds plan plan_spent = absurd (omega (arith, some))
available_costs (suc n) p q slowest jobs points grid slots planned levels spent planned_spent some some_grid on_power run holds plan plan_spent =
    run_costs_at_most n (suc n ^ suc n) p q slowest jobs points grid (optimal_available jobs grid) slots planned levels spent planned_spent on_power run.run holds plan plan_spent
    (optimal_available_spends (suc n) jobs grid slots planned some some_grid run plan.proper.feasible)

-- of Average Rate
rate_costs : RunsCostAtMost IsAverageRateRun rate_factor
rate_costs zero p q slowest jobs points grid slots planned levels spent planned_spent some some_grid on_power run holds plan plan_spent = absurd (omega (arith, some))
rate_costs (suc n) p q slowest jobs points grid slots planned levels spent planned_spent some some_grid on_power run holds plan plan_spent =
    run_costs_at_most n (2 ^ (suc n - 1) * suc n ^ suc n) p q slowest jobs points grid (average_rate jobs grid) slots planned levels spent planned_spent on_power run.run holds plan plan_spent
    (average_rate_spends (suc n) jobs grid slots planned some some_grid run plan.proper.feasible)

-- of both
pub policies_cost_at_most : PoliciesCostAtMost
policies_cost_at_most = record { optimal_available = available_costs; average_rate = rate_costs }

-- Average Rate costs at most so many times what a plan does, and once more
pub rate_times : RunsCostTimes IsAverageRateRun (λ exponent p q. rate_factor exponent * p ^ (exponent - 1) + q ^ (exponent - 1))
rate_times zero p q slowest jobs points grid slots planned levels spent planned_spent some some_grid on_power run holds plan plan_spent = absurd (omega (arith, some))
rate_times (suc n) p q slowest jobs points grid slots planned levels spent planned_spent some some_grid on_power run holds plan plan_spent =
    run_costs_times n (2 ^ (suc n - 1) * suc n ^ suc n) p q slowest jobs points grid (average_rate jobs grid) slots planned levels spent planned_spent on_power run.run holds plan plan_spent
    (average_rate_spends (suc n) jobs grid slots planned some some_grid run plan.proper.feasible)
