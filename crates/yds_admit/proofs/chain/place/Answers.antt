use Rattle.yds_model.proofs.Common.{ℕ, arith, rules, nat_lt, always_returns_same, ltb-true, ltb-false, IsPartitionedBy-ltb}
use Rattle.yds_admit.proofs.chain.place.Goals as goal

pub returns : goal.returns
returns c =
    let found = c.partition_point.ensures.partitioned (λ other. nat_lt other c.args.time)
    (always_returns_same _ _ _ (λ a r f' k. (search rules, search rules)))
    (IsPartitionedBy-ltb (λ (other : ℕ). other) c.args.times.now c.args.time c.requires) in
    record {
      within = c.partition_point.ensures.bound;
      is = record {
        before = λ q less. ltb-true _ _ (found.0 q 0 (omega (arith, c.partition_point.ensures.bound)) less);
        after = λ q behind within. ltb-false _ _ (found.1 q 0 behind within);
      };
    }
