use Rattle.yds_model.proofs.Common.{length, arith, length-range_with_len, get_or-range_with_len}
use Rattle.yds_edf.proofs.queue.Queue.new.Goals as goal

pub new-requires-clause-all_tied : goal.new-requires-clause-all_tied
new-requires-clause-all_tied c = rw c.in_ok-numbers.ensures (length-range_with_len 0 (length c.args.rows.now))

pub new-requires-clause-told_apart : goal.new-requires-clause-told_apart
new-requires-clause-told_apart c = rw c.in_ok-numbers.ensures (λ i j first second same. omega (
  arith,
  same,
  get_or-range_with_len 0 (length c.args.rows.now) i 0 (omega (arith, first, length-range_with_len 0 (length c.args.rows.now))),
  get_or-range_with_len 0 (length c.args.rows.now) j 0 (omega (arith, second, length-range_with_len 0 (length c.args.rows.now))),
))

pub invariant_of-result : goal.invariant_of-result
invariant_of-result c = rw (c.in_ok-engine.ensures.made, c.in_ok-numbers.ensures)
    (λ number within. omega (arith, get_or-range_with_len 0 (length c.args.rows.now) number 0 within))
