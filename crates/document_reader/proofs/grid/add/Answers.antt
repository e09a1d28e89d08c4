use Rattle.document_reader.proofs.Held.{holds_grid}
use Rattle.document_reader.proofs.grid.add.Goals as goal

pub returns-clause-takes : goal.returns-clause-takes
returns-clause-takes c = holds_grid c.args.draft.now c.args.grid c.requires.first
