use Rattle.yds_model.proofs.Common.{WrittenSlot, IsPlan, IsSpent, ◌≡◌, ◌≤◌, ◌∙◌, List, length, ap, sym, subst, arith, sum_by, All, slots_at, Point, AreRising, horizon, hull_of, stretches, top_of}
use Rattle.model_lemmas.proofs.Horizon.{last_within}
use Rattle.std.proofs.lemmas.Result.{IfOk-weaker}
use Rattle.yds_events.specs.Stretch.{length_of}
use Rattle.yds_energy.proofs.LevelTimes.{levels_fit_the_horizon}
use Rattle.yds_spending.specs.declared.load.Load.{Load}
use Rattle.yds_spending.specs.Load.{level_loads, IsHeldAt}
use Rattle.yds_spending.specs.Spent.{IsSpentOn}
use Rattle.yds_spending.proofs.Agreeing.{spent_at}
use Rattle.yds_spending.proofs.Lengths.{time_is}
use Rattle.yds_spending.proofs.Planned.{plan_as_long, levels_held, level_times}
use Rattle.yds_spending.proofs.plan.plan_spent.Goals as goal

pub loads_of_levels-requires : goal.loads_of_levels-requires
loads_of_levels-requires c =
    omega (arith, c.from.ensures, c.horizon.ensures, levels_fit_the_horizon c.args.rows.now c.requires.plan.0 c.args.levels.now c.requires.plan.1)

pub spend-requires-clause-time_in_range : goal.spend-requires-clause-time_in_range
spend-requires-clause-time_in_range c =
    let fits : sum_by (λ level. level.length) c.args.levels.now ≤ c.from.result =
    omega (arith, c.from.ensures, c.horizon.ensures, levels_fit_the_horizon c.args.rows.now c.requires.plan.0 c.args.levels.now c.requires.plan.1) in
    omega (
      arith,
      ap (sum_by (λ (load : Load). load.time)) (c.deref.ensures.value ∙ c.in_ok-loads.ensures),
      level_times c.args.levels.now c.from.result fits,
      c.from.ensures,
      c.horizon.ensures,
      last_within c.args.rows.now c.requires.jobs,
    )

pub spend-requires-clause-fast_enough : goal.spend-requires-clause-fast_enough
spend-requires-clause-fast_enough c =
    subst (λ (loads : List Load). All (IsHeldAt (top_of c.args.table.now)) loads) (sym (c.deref.ensures.value ∙ c.in_ok-loads.ensures))
    (levels_held c.args.table.now c.args.levels.now c.from.result c.requires.fast_enough)

pub returns : goal.returns
returns c =
    let rising : AreRising (hull_of c.args.table.now) = subst (λ (h : List Point). AreRising h) c.hull-hull.ensures.value c.hull-hull.ensures.rising in
    let some : 1 ≤ length (hull_of c.args.table.now) = subst (λ (h : List Point). 1 ≤ length h) c.hull-hull.ensures.value c.hull-hull.ensures.some in
    let time = sum_by length_of (stretches c.args.rows.now) in
    let is : c.deref.result.now ≡ level_loads c.args.levels.now time =
    c.deref.ensures.value ∙ c.in_ok-loads.ensures ∙ ap (level_loads c.args.levels.now) (time_is c.args.rows.now c.requires.jobs c.from.ensures c.horizon.ensures) in
    IfOk-weaker c.spend.result (IsSpentOn c.args.table.now 1 c.deref.result.now)
    (λ spent. (slots : List WrittenSlot) → IsPlan c.args.rows.now slots c.args.levels.now → IsSpent c.args.rows.now c.args.table.now slots spent)
    (λ spent made slots plan. record {
      solid = plan.proper.feasible.solid;
      holds = λ scale at. spent_at c.args.rows.now c.args.table.now 1 (level_loads c.args.levels.now time) scale (slots_at scale slots) spent at.positive (omega arith)
          (λ speed. plan_as_long c.args.rows.now c.requires.jobs slots c.args.levels.now c.args.table.now plan rising some scale at speed)
          (subst (λ (loads : List Load). IsSpentOn c.args.table.now 1 loads spent) is made);
    })
    c.spend.ensures
