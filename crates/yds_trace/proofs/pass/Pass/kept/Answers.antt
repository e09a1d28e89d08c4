use Rattle.base.proofs.Common.{◌∙◌, List, sum_by, arith, ap}
use Rattle.yds_kernel.specs.Parts.{capped}
use Rattle.yds_trace.specs.declared.followed.Followed.{Followed}
use Rattle.yds_trace.specs.Asked.{on}
use Rattle.yds_trace.specs.Past.{up_to}
use Rattle.yds_trace.specs.Following.{jobs_in, stretches_of}
use Rattle.yds_trace.specs.Kept.{IsCounted}
use Rattle.yds_trace.proofs.Enough.{enough}
use Rattle.yds_trace.proofs.OnProcessor.{counted_on}
use Rattle.yds_trace.proofs.pass.Pass.kept.Goals as goal

pub returns : goal.returns
returns c = λ asked past boundary processor at.
    let counted : IsCounted (on processor asked) (up_to asked.to past) c.args.self.now.counted =
    counted_on asked processor (up_to asked.to past) c.args.self.now.counted at.counted in
    enough (on processor asked) past c.args.self.now.counted.boundary boundary at.within c.args.self.now.counted.tasks.items c.args.self.now.counted.others _
    (omega (arith, counted.as_many, c.args.self.now.counted.tasks.ok.0)) counted.tasks counted.others c.count.ensures
    (c.count_jobs.ensures ∙ ap (λ (kept : List Followed). capped (sum_by jobs_in kept)) c.deref.ensures.value)
    (c.count_all_stretches.ensures ∙ ap (λ (kept : List Followed). capped (sum_by stretches_of kept)) c.deref-2.ensures.value)
