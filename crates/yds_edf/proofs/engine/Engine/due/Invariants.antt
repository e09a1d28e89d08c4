use Rattle.yds_model.proofs.Common.{◌≡◌}
use Rattle.base.specs.Numbers.{sum_below}
use Rattle.yds_edf.proofs.DueBy.{due_of}
use Rattle.yds_edf.proofs.engine.Engine.due.Given as goal

abbrev pub invariant-loop-job : goal.invariant-loop-job
invariant-loop-job l = l.units ≡ sum_below l.job (due_of (record {
  jobs = l.self-inside.rows.items;
  grain = l.self-inside.grain;
  time = l.self-inside.time;
  served = l.self-inside.served.items;
}) l.time)
