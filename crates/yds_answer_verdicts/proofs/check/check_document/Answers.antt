use Rattle.yds_model.proofs.Common.{subst, IsJudgement}
use Rattle.yds_checker.specs.Judgement.{judgement_view}
use Rattle.yds_answer_verdicts.proofs.check.check_document.Goals as goal

pub told-requires : goal.told-requires
told-requires c =
    subst (λ jobs. IsJudgement jobs c.args.document.now.schedule.slots c.args.document.now.certificate (judgement_view c.in-Ok.judgement))
    c.rows-rows.ensures.jobs c.in-Ok.ensures.exact
