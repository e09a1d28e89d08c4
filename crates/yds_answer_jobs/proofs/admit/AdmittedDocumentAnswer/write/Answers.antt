use Rattle.yds_model.proofs.Common.{refl}
use Rattle.yds_port.proofs.Putting.{puts_whole, puts_failed, puts_front, puts_after}
use Rattle.yds_answer_jobs.proofs.admit.AdmittedDocumentAnswer.write.Goals as goal

pub returns-in_err-print : goal.returns-in_err-print
returns-in_err-print g c = puts_front _ _ c.from_residual.ensures.0 (puts_failed _ c.from_residual.ensures.0 refl c.in_err-print.ensures.puts)

pub returns : goal.returns
returns g c = puts_after _ (puts_whole refl c.in_ok-print.ensures.puts) c.write_comments.ensures
