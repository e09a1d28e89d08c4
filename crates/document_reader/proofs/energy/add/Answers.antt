use Rattle.document_reader.proofs.Held.{holds_energy}
use Rattle.document_reader.proofs.energy.add.Goals as goal

pub returns-clause-takes : goal.returns-clause-takes
returns-clause-takes c = holds_energy c.args.draft.now c.args.energy c.requires.first
