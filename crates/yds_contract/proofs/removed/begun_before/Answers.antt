use Rattle.yds_model.proofs.Common.{arith, rules, nat_lt, always_returns_same, ltb-true, ltb-false, IsPartitionedBy-ltb}
use Rattle.yds_contract.specs.declared.removed.Removed.{Removed}
use Rattle.yds_contract.specs.Removed.{no_removed}
use Rattle.yds_contract.proofs.RemovedStretches.{begin_in_order}
use Rattle.yds_contract.proofs.removed.begun_before.Goals as goal

pub returns : goal.returns
returns c =
    let removed = c.args.removed.now in
    let found = c.partition_point.ensures.partitioned (λ (stretch : Removed). nat_lt stretch.from c.args.time)
    (always_returns_same _ _ _ (λ a r f' k. (search rules, search rules)))
    (IsPartitionedBy-ltb (λ (stretch : Removed). stretch.from) removed c.args.time (begin_in_order removed c.requires)) in
    record {
      within = c.partition_point.ensures.bound;
      before = λ i less. ltb-true _ _ (found.0 i no_removed (omega (arith, c.partition_point.ensures.bound)) less);
      after = λ i from within. ltb-false _ _ (found.1 i no_removed from within);
    }
