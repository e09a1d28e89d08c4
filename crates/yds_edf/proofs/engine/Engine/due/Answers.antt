use Rattle.yds_model.proofs.Common.{◌<◌, ◌∙◌, length, arith, ap, sym, Job}
use Rattle.yds_edf.specs.Queue.{JobQueue}
use Rattle.yds_edf.proofs.DueBy.{due_fits, pending_read, due_read, not_due_read, sum_more, sum_no_more}
use Rattle.yds_edf.proofs.engine.Engine.due.Goals as goal
use Rattle.yds_edf.proofs.engine.Engine.due.Goals.{then-row-time, else-row-time}

pub overflow_add-units : goal.overflow_add-units
overflow_add-units c =
    let queue : JobQueue = record {
      jobs = c.self.inside.rows.items;
      grain = c.self.inside.grain;
      time = c.self.inside.time;
      served = c.self.inside.served.items;
    } in
    let rows = c.deref-row-items.ensures.value in
    let there : c.loop-job.job < length c.self.inside.rows.items = rw rows at c.loop-job-test.true in
    let fits = due_fits _ c.args.time c.loop-job.job c.self.invariant.kept there in
    let pending = pending_read _ c.loop-job.job c.row-item.result c.index.result.now c.units_pending-units.result there
    (omega (arith, there, c.self.invariant.kept.served)) (rw rows at c.row-item.is) c.index.ensures
    c.units_pending-units.ensures in
    let counts = due_read queue c.args.time c.loop-job.job c.row-item.result c.row.inside.deadline there (rw rows at c.row-item.is)
    (ap (λ (job : Job). job.deadline) c.row.view_is) c.if-row-time.true in
    let same = c.loop-job.invariant in
    omega (arith, fits, pending, counts, same)

pub loop-job-preserved : goal.loop-job-preserved
loop-job-preserved c =
    let rows = c.deref-row-items.ensures.value in
    let there : c.loop-job.job < length c.self.inside.rows.items = rw rows at c.loop-job-test.true in
    elim c.if-row-time.branch [
      | then-row-time w ↦ rw w.units-is (sum_more c.loop-job.job _ c.loop-job.units w.units_pending-units.result
          c.loop-job.invariant (pending_read _ c.loop-job.job c.row-item.result w.index.result.now w.units_pending-units.result there
          (omega (arith, there, c.self.invariant.kept.served)) (rw rows at c.row-item.is) w.index.ensures
          w.units_pending-units.ensures
          ∙ sym (due_read _ c.args.time c.loop-job.job c.row-item.result c.row.inside.deadline there (rw rows at c.row-item.is)
          (ap (λ (job : Job). job.deadline) c.row.view_is) w.if-row-time.true)))
      | else-row-time w ↦ rw w.units-is (sum_no_more c.loop-job.job _ c.loop-job.units c.loop-job.invariant
          (not_due_read _ c.args.time c.loop-job.job c.row-item.result c.row.inside.deadline there (rw rows at c.row-item.is)
          (ap (λ (job : Job). job.deadline) c.row.view_is) w.if-row-time.false))
    ]
