use Rattle.yds_model.proofs.Common.{ℕ, arith, rules, nat_le, always_returns_same, leb-true, leb-false}
use Rattle.yds_contract.proofs.Cutting.{parted_upto}
use Rattle.yds_contract.proofs.spreading.count_upto.Goals as goal

pub returns : goal.returns
returns c =
    let events = c.args.events.now in
    let found = c.partition_point.ensures.partitioned (λ (event : ℕ). nat_le event c.args.time)
    (always_returns_same _ _ _ (λ a r f' k. (search rules, search rules)))
    (parted_upto events c.args.time c.requires) in
    record {
      within = c.partition_point.ensures.bound;
      before = λ i less. leb-true _ _ (found.0 i 0 (omega (arith, c.partition_point.ensures.bound)) less);
      after = λ i from within. leb-false _ _ (found.1 i 0 from within);
    }
