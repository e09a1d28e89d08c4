use Rattle.yds_model.proofs.Common.{List, ap, subst, refl, All, Job, canonical_text, IsDocument, HasRunDenominators, IsAverageRateRun}
use Rattle.yds_answer_plans.proofs.policies.average_rate_document.Goals as goal

pub returns : goal.returns
returns c =
    let run = c.in_ok-run.run' in
    record {
      slots = run.schedule.slots;
      rounded = run.rounded;
      run = subst (λ (jobs : List Job). IsAverageRateRun jobs c.args.grid run.rounded run.schedule.slots) c.rows.ensures.jobs c.in_ok-run.ensures.run;
      denominators = subst (λ (jobs : List Job). All (HasRunDenominators jobs c.args.grid) run.schedule.slots) c.rows.ensures.jobs c.in_ok-run.ensures.denominators;
      said = record {
        possible = subst IsDocument c.with_run.ensures.shown c.with_run.ensures.possible;
        written = ap canonical_text c.with_run.ensures.shown;
      };
      ended = refl;
    }
