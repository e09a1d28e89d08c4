-- What a run of Average Rate that rounds costs on operating points of a power.
use Rattle.yds_model.proofs.Common.{ℕ, zero, suc, ◌+◌, ◌-◌, ◌*◌, ◌^◌, ◌≤◌, ◌++◌, arith, All-append, mul-pos, mul-le-mul_left, le_of_mul-le-mul_left, numerator, IsSolid, slots_at, average_rate}
use Rattle.model_lemmas.proofs.Scale.{scale_exists}
use Rattle.yds_laws.proofs.Bound.{scale_left, scale_right}
use Rattle.yds_point_laws.specs.PowerPoints.{power_spent}
use Rattle.yds_point_laws.specs.PolicyRate.{rounded_spends}
use Rattle.yds_point_laws.specs.PointLaws.{whole_work, rate_factor}
use Rattle.yds_point_laws.specs.RateLaws.{RoundedRunsCostAtMost}
use Rattle.yds_point_laws.proofs.NearRate.{rounded_some}
use Rattle.yds_point_laws.proofs.PointCosts.{run_costs, planned_costs}
use Rattle.yds_point_laws.proofs.PolicySpends.{runs_spend_at_most}

-- in plain numbers
rounded_in_turn : (times factor ratio_num ratio_den more run_num run_den plan_num plan_den rounded_num rounded_den cost_num cost_den least_num least_den : ℕ) → 1 ≤ run_den → 1 ≤ plan_den →
    cost_num * (ratio_den * run_den) ≤ (ratio_num * run_num + more * (ratio_den * run_den)) * cost_den →
    run_num * (plan_den * rounded_den) ≤ times * (factor * plan_num * rounded_den + rounded_num * plan_den) * run_den →
    plan_num * (1 * least_den) ≤ (1 * least_num + 0 * (1 * least_den)) * plan_den →
    cost_num * (ratio_den * (least_den * rounded_den))
    ≤ (times * ratio_num * (factor * least_num * rounded_den + rounded_num * least_den) + more * (ratio_den * (least_den * rounded_den))) * cost_den
rounded_in_turn times factor ratio_num ratio_den more run_num run_den plan_num plan_den rounded_num rounded_den cost_num cost_den least_num least_den some plan_some costs spends least =
    le_of_mul-le-mul_left {k = run_den * plan_den} (omega (
      arith,
      mul-le-mul_left (plan_den * least_den * rounded_den) costs,
      mul-le-mul_left (ratio_num * least_den * cost_den) spends,
      mul-le-mul_left (times * ratio_num * factor * run_den * rounded_den * cost_den) least,
    )) (mul-pos some plan_some)

-- the law
pub rounded_runs_cost_at_most : RoundedRunsCostAtMost
rounded_runs_cost_at_most zero p q slowest jobs points grid rounded slots planned levels spent planned_spent one some on_power run holds plan plan_spent = absurd (omega (arith, one))
rounded_runs_cost_at_most (suc n) p q slowest jobs points grid rounded slots planned levels spent planned_spent one some on_power run holds plan plan_spent =
    let common = scale_exists (slots ++ planned) (All-append IsSolid slots planned run.run.solid plan.proper.feasible.solid) in
    let scale = common.0 in
    let mine = (run_costs n p q slowest jobs points on_power slots spent holds grid (average_rate jobs grid) run.run).holds scale (scale_left scale slots planned common.1) in
    let theirs = (planned_costs n p q slowest jobs points grid (average_rate jobs grid) slots planned levels spent planned_spent on_power run.run holds plan plan_spent).holds scale
    (scale_right scale slots planned common.1) in
    let spends = runs_spend_at_most (suc n) jobs grid rounded slots planned scale one some run plan.proper.feasible common.1 in
    let own = power_spent (suc n) scale (slots_at scale slots) in
    let least = power_spent (suc n) scale (slots_at scale planned) in
    let rounds = rounded_spends (suc n) jobs grid in
    record {
      some = mine.at_most.some;
      other_some = mul-pos theirs.at_least.other_some (rounded_some (suc n) jobs grid some);
      factor_some = mine.at_most.factor_some;
      at_most = rounded_in_turn (2 ^ (suc n - 1)) (rate_factor (suc n)) (p ^ (suc n - 1)) (q ^ (suc n - 1)) (slowest ^ (suc n - 1) * whole_work jobs) own.num own.den least.num least.den
          rounds.num rounds.den (numerator spent.energy) spent.energy.den (numerator planned_spent.energy) planned_spent.energy.den spends.some theirs.at_least.some mine.at_most.at_most
          spends.at_most theirs.at_least.at_most;
    }
