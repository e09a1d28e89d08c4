use Rattle.yds_model.proofs.Common.{arith, rules, ap, length, nat_le, always_returns_same, All-tail, IsPermutation-insert}
use Rattle.yds_avr.specs.declared.rate.Rate.{Rate}
use Rattle.yds_avr.specs.Rate.{IsRate}
use Rattle.yds_avr.proofs.Standing.{falls_behind, goes_in}
use Rattle.yds_avr.proofs.roster.put_in.Goals as goal

pub returns-clause-same : goal.returns-clause-same
returns-clause-same c =
    rw (rw (c.is_err.ensures.negation, c.if-is_err.false) at c.insert.ensures.items) (IsPermutation-insert c.args.live.now.items c.partition_point-place.result c.args.rate)

pub returns-clause-falling : goal.returns-clause-falling
returns-clause-falling c =
    rw (rw (c.is_err.ensures.negation, c.if-is_err.false) at c.insert.ensures.items)
    (goes_in c.args.live.now.items c.args.rate c.partition_point-place.result c.requires.falling (omega (arith, c.partition_point-place.ensures.bound, ap length c.deref.ensures.value))
    (rw c.deref.ensures.value at (c.partition_point-place.ensures.partitioned (λ (other : Rate). nat_le c.args.rate.deadline other.deadline) (always_returns_same _ _ _ (λ a r f' k. (search rules, search rules)))
    (rw c.deref.ensures.value (falls_behind c.args.live.now.items c.args.rate.deadline (All-tail IsRate c.args.rate c.args.live.now.items c.requires.rates) c.requires.falling)))))
