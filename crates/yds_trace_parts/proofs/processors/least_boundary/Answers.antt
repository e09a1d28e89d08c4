use Rattle.yds_trace_parts.specs.Telling.{cuts_of}
use Rattle.yds_trace_parts.proofs.Loops.{least_first, least_at, least_end, least_last}
use Rattle.yds_trace_parts.proofs.processors.least_boundary.Goals as goal

pub loop-one-init : goal.loop-one-init
loop-one-init c = least_first c.args.processors.now c.args.unseen c.args.latest c.boundary_before-least.result c.boundary_before-least.ensures

pub loop-one-preserved : goal.loop-one-preserved
loop-one-preserved c =
    least_at (cuts_of c.args.processors.now c.args.unseen) c.args.processors.now c.loop-one.one-index _ c.args.latest c.loop-one.least c.min-least.result c.loop-one-test.true
    c.min-least.ensures c.loop-one.invariant

pub returns-clause-least : goal.returns-clause-least
returns-clause-least c =
    least_last (cuts_of c.args.processors.now c.args.unseen) c.args.latest c.loop-one.least
    (least_end (cuts_of c.args.processors.now c.args.unseen) c.args.processors.now c.loop-one.one-index c.args.latest c.loop-one.least c.loop-one-test.false c.loop-one.invariant)

pub returns-clause-first : goal.returns-clause-first
returns-clause-first c time none within = (c.loop-one.invariant.first time none within).0
