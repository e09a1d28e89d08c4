use Rattle.document_reader.proofs.Held.{holds_level}
use Rattle.document_reader.proofs.level.add.Goals as goal

pub returns-clause-takes : goal.returns-clause-takes
returns-clause-takes c = holds_level c.args.draft.now _ _ _ (cc (c.in_ok-push.ensures.ok, c.new.ensures.items, c.new-2.ensures.items))
