use Rattle.document_reader.proofs.Held.{holds_slot}
use Rattle.yds_model.proofs.Common.{ap}
use Rattle.document_reader.proofs.slot.add.Goals as goal

pub returns-clause-takes : goal.returns-clause-takes
returns-clause-takes c = holds_slot c.args.draft.now _ c.args.slot (ap (λ s. s.slots) c.in_ok-push.ensures.ok)
