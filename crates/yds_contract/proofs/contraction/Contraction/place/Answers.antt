use Rattle.yds_model.proofs.Common.{subst, sym, arith}
use Rattle.yds_contract.specs.Removed.{IsContraction}
use Rattle.yds_contract.proofs.RemovedStretches.{few_removed}
use Rattle.yds_contract.proofs.contraction.Contraction.place.Goals as goal

pub overflow_sub-result : goal.overflow_sub-result
overflow_sub-result c =
    let kept : IsContraction c.deref.result.now = subst IsContraction (sym c.deref.ensures.value) c.self.invariant in
    omega (arith, c.time_before.ensures, few_removed c.deref.result.now c.args.time kept)
