use Rattle.yds_model.proofs.Common.{subst, SlotEntry}
use Rattle.yds_text.specs.Left.{FieldsLeft}
use Rattle.yds_text.specs.Read.{field_read}
use Rattle.document_reader.specs.Plain.{SaysFour}
use Rattle.document_reader.specs.Run.{run_of}
use Rattle.document_reader.proofs.PlainLine.{holds_run_line}
use Rattle.document_reader.proofs.run.read.Goals as goal

pub returns-in-Some-clause-reads : goal.returns-in-Some-clause-reads
returns-in-Some-clause-reads c = λ earlier holds.
    holds_run_line c.args.draft.now _ earlier c.unwrap_or-ticks.result (field_read c.args.kind) c.args.fields.fields (SlotEntry c.in-Some.slot)
    (subst (λ (left : FieldsLeft). SaysFour (run_of c.args.draft.now.instance.names c.args.draft.now.schedule.slots c.unwrap_or-ticks.result) left.fields (SlotEntry c.in-Some.slot)) c.again.ensures c.in-Some.ensures.says)
    holds c.unwrap_or-ticks.ensures c.in_ok-add.ensures.takes
