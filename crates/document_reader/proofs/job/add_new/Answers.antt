use Rattle.yds_model.proofs.Common.{ap}
use Rattle.document_reader.proofs.Held.{holds_job}
use Rattle.document_reader.proofs.job.add_new.Goals as goal

pub returns-in-Ok-clause-takes : goal.returns-in-Ok-clause-takes
returns-in-Ok-clause-takes c = λ added. holds_job c.args.draft.now _ _ _ _ c.in-Ok.ensures.last (ap (λ s. s.slots) c.widen.ensures)
