use Rattle.yds_model.proofs.Common.{List, subst, sym, All, Level, IsTooFast}
use Rattle.yds_round.specs.Fault.{HasFastLevel}
use Rattle.yds_round.proofs.Faults.{all_slow}
use Rattle.yds_compare.proofs.comparison.compare.Goals as goal

pub plan_spent-requires-clause-fast_enough : goal.plan_spent-requires-clause-fast_enough
plan_spent-requires-clause-fast_enough c =
    subst (λ (levels : List Level). All (λ level. IsTooFast c.args.table.now level → ⊥) levels) (sym c.levels-levels.ensures.value)
    (all_slow c.args.rows.now c.requires.plan.0 c.args.certificate.now c.args.table.now c.requires.plan.1
    (subst (λ (levels : List Level). HasFastLevel levels c.args.table.now → ⊥) c.levels-levels.ensures.value c.in_default.ensures))
