use Rattle.yds_model.proofs.Common.{sym, subst, arith, JobEntry}
use Rattle.document_reader.specs.Job.{job_of}
use Rattle.document_reader.specs.Plain.{SaysFour}
use Rattle.document_reader.proofs.PlainLine.{says_job}
use Rattle.document_reader.proofs.job.plain_job.Goals as goal

pub returns-clause-says : goal.returns-clause-says
returns-clause-says c = λ names new.
    subst (λ row. SaysFour (job_of names) c.args.fields.fields (JobEntry c.in_ok-name.name.now row)) (sym c.new.ensures)
    (says_job names _ _ _ _ _ c.in_ok-name.name.now _ _ _ c.in_ok-name.ensures.says c.in_ok-from.ensures.says c.in_ok-to.ensures.says c.in_ok-work.ensures.says
    (c.at_end.ensures.0 c.if-not-at_end.false) c.in_ok-name.ensures.named new (omega arith))
