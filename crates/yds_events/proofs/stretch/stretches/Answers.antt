use Rattle.yds_events.proofs.Times.{times_rise, events_in_range}
use Rattle.yds_events.proofs.stretch.stretches.Goals as goal

pub between-requires-clause-rising : goal.between-requires-clause-rising
between-requires-clause-rising c = rw (c.deref.ensures.value, c.in_ok-times.ensures.times) (times_rise c.args.rows.now)

pub between-requires-clause-in_range : goal.between-requires-clause-in_range
between-requires-clause-in_range c =
    rw (c.deref.ensures.value, c.in_ok-times.ensures.times) (events_in_range c.args.rows.now c.in_ok-times.ensures.jobs)
