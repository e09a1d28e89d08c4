use Rattle.yds_slots.proofs.Receipts.{no_receipts}
use Rattle.yds_slots.proofs.schedule.Schedule.with_capacity.Goals as goal

pub invariant_of-result : goal.invariant_of-result
invariant_of-result c = rw (c.in_ok-with_capacity.ensures.items, c.new.ensures.items) (no_receipts c.args.jobs)
