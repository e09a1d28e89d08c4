use Rattle.yds_model.proofs.Common.{arith, refl}
use Rattle.yds_edf.proofs.Capped.{capped_run}
use Rattle.yds_admit.specs.Serving.{top_units}
use Rattle.yds_admit.proofs.Demand.{within_capacity}
use Rattle.yds_admit.proofs.serving.serve.Goals as goal

pub returns-clause-run : goal.returns-clause-run
returns-clause-run c = record {
  run = capped_run c.args.jobs.now 1 _ _ _ c.in_ok-run.run'.schedule.slots (top_units c.args.top) c.in_ok-run.ensures.rows (omega arith)
      c.in_ok-run.ensures.limits (λ pending stretch. refl) (within_capacity c.args.top c.args.jobs.now c.in_ok-run.ensures.rows c.requires.room) c.in_ok-run.ensures.run;
  denominators = c.in_ok-run.ensures.run.laid.denominators;
}
