use Rattle.yds_model.proofs.Common.{◌-◌, sym, arith}
use Rattle.yds_contract.proofs.RemovedStretches.{nothing_before, before_begun, removed_forward, few_removed}
use Rattle.yds_contract.proofs.removed.time_before.Goals as goal

pub returns-then-begun-eq0 : goal.returns-then-begun-eq0
returns-then-begun-eq0 c =
    sym (nothing_before c.args.removed.now c.args.time c.requires (λ some. c.begun_before-begun.ensures.after 0 (omega arith) some))

pub overflow_sub-result : goal.overflow_sub-result
overflow_sub-result c =
    let k = c.begun_before-begun.result - 1 in
    let begun = c.begun_before-begun.ensures.before k (omega arith) in
    omega (arith, c.min.ensures, begun, removed_forward c.args.removed.now k c.requires (omega (arith, c.begun_before-begun.ensures.within)))

pub overflow_add-result : goal.overflow_add-result
overflow_add-result c =
    omega (arith, c.min.ensures, before_begun c.args.removed.now c.args.time c.begun_before-begun.result c.requires c.begun_before-begun.ensures (omega arith), few_removed c.args.removed.now c.args.time c.requires)

pub returns : goal.returns
returns c =
    omega (arith, c.min.ensures, before_begun c.args.removed.now c.args.time c.begun_before-begun.result c.requires c.begun_before-begun.ensures (omega arith))
