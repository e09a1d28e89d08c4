use Rattle.yds_trace_parts.specs.Telling.{cuts_of}
use Rattle.yds_trace_parts.proofs.Loops.{latest_first, latest_at, latest_end, latest_last, latest_behind}
use Rattle.yds_trace_parts.proofs.processors.latest_of.Goals as goal

pub loop-one-init : goal.loop-one-init
loop-one-init c = latest_first c.args.processors.now c.args.unseen c.unwrap_or-latest.result c.unwrap_or-latest.ensures

pub loop-one-preserved : goal.loop-one-preserved
loop-one-preserved c =
    latest_at (cuts_of c.args.processors.now c.args.unseen) c.args.processors.now c.loop-one.one-index _ c.loop-one.latest c.later-latest.result c.loop-one-test.true
    c.later-latest.ensures c.loop-one.invariant

pub returns-clause-latest : goal.returns-clause-latest
returns-clause-latest c =
    latest_last (cuts_of c.args.processors.now c.args.unseen) c.loop-one.latest
    (latest_end (cuts_of c.args.processors.now c.args.unseen) c.args.processors.now c.loop-one.one-index c.loop-one.latest c.loop-one-test.false c.loop-one.invariant)

pub returns-clause-last : goal.returns-clause-last
returns-clause-last c time none some =
    latest_behind (cuts_of c.args.processors.now c.args.unseen) c.loop-one.latest time
    (latest_end (cuts_of c.args.processors.now c.args.unseen) c.args.processors.now c.loop-one.one-index c.loop-one.latest c.loop-one-test.false c.loop-one.invariant) none some
