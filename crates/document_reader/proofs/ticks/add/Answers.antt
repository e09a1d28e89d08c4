use Rattle.document_reader.proofs.Held.{holds_ticks}
use Rattle.document_reader.proofs.ticks.add.Goals as goal

pub returns-clause-takes : goal.returns-clause-takes
returns-clause-takes c = holds_ticks c.args.draft.now c.args.ticks c.requires.first
