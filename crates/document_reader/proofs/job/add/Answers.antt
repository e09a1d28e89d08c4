use Rattle.yds_model.proofs.Common.{ap}
use Rattle.document_reader.proofs.Held.{holds_job}
use Rattle.document_reader.proofs.job.add.Goals as goal

pub returns-clause-takes : goal.returns-clause-takes
returns-clause-takes c = holds_job c.args.draft.now _ _ _ _ c.in_ok-add_new.ensures.last (ap (λ s. s.slots) c.widen.ensures)
