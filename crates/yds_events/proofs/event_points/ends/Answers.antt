-- The releases and deadlines of all rows, each of which was read.
use Rattle.yds_model.proofs.Common.{◌∙◌, ap, arith, common_steps, take_all, get_or_read, All-more, IsJob, no_job}
use Rattle.yds_events.specs.Keys.{ends_of}
use Rattle.yds_events.proofs.event_points.ends.Goals as goal

pub returns-clause-ends : goal.returns-clause-ends
returns-clause-ends c = c.loop-row.invariant.ends ∙ ap ends_of (take_all c.loop-row.row-index c.args.rows.now c.loop-row-test.false)

pub loop-row-preserved : goal.loop-row-preserved
loop-row-preserved c = record {
  ends = grind (arith, common_steps, c.loop-row.invariant.ends);
  jobs = All-more IsJob c.args.rows.now c.loop-row.row-index no_job c.loop-row-test.true c.loop-row.invariant.jobs
      (rw (← get_or_read c.args.rows.now c.loop-row.row-index c.row-item.result c.loop-row-test.true c.row-item.is no_job, ← c.row.view_is)
      c.row.invariant);
}
