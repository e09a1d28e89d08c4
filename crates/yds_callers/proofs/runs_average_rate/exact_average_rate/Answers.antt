use Rattle.yds_model.proofs.Common.{◌≡◌, ℕ, subst, arith}
use Rattle.yds_model.specs.AverageRate.{IsAverageRateRun}
use Rattle.yds_callers.proofs.runs_average_rate.exact_average_rate.Goals as goal

pub returns-clause-exact : goal.returns-clause-exact
returns-clause-exact c =
    let none : c.in_ok-run.run'.rounded ≡ 0 = omega (arith, c.if-run-gt0.false) in
    c.average_rate_is_exact.ensures c.args.rows.now c.args.grid c.in_ok-run.run'.schedule.slots c.requires.some_grid
    (subst (λ (rounded : ℕ). IsAverageRateRun c.args.rows.now c.args.grid rounded c.in_ok-run.run'.schedule.slots) none c.in_ok-run.ensures.run)
