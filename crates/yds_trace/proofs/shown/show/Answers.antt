use Rattle.base.proofs.Common.{◌∙◌, List, map, reverse, refl, ap}
use Rattle.yds_trace.specs.Jobs.{Job}
use Rattle.yds_trace.specs.Passing.{closed_at, standing_on}
use Rattle.yds_trace.specs.Views.{job_read}
use Rattle.yds_trace.proofs.shown.show.Goals as goal

pub returns : goal.returns
returns c = λ start counting is. record {
  jobs = c.in_ok-close.ensures start counting is
      ∙ ap (λ (jobs : List Job). closed_at c.args.until start counting (standing_on c.args.followed.now.known.on (reverse jobs)))
      (c.in_ok-jobs.ensures ∙ ap (map job_read) c.deref.ensures.value);
  forgotten = refl;
  before = c.first_before.ensures;
}
