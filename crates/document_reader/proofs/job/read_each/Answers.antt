use Rattle.yds_model.proofs.Common.{sym, subst, ◌∙◌, ◌∷◌, JobLine}
use Rattle.yds_text.specs.Read.{field_read}
use Rattle.document_reader.specs.Draft.{count_and_read}
use Rattle.document_reader.specs.Fields.{Fails}
use Rattle.document_reader.specs.declared.line_fault.LineFault.{LineFault}
use Rattle.document_reader.proofs.Told.{fields_refused, job_same}
use Rattle.document_reader.proofs.job.read_each.Goals as goal

pub returns-in-Err-clause-reads : goal.returns-in-Err-clause-reads
returns-in-Err-clause-reads c = λ earlier holds.
    let f = c.in_ok-name in
    subst (λ (fault : LineFault). Fails fault (count_and_read JobLine earlier (field_read c.args.kind ∷ c.args.fields.fields))) (sym c.from.ensures)
    (fields_refused JobLine earlier _ _ _ f.ensures
    (sym (job_same c.args.draft.now earlier (field_read c.args.kind) (field_read f.name) (field_read f.release) (field_read f.deadline) (field_read f.work) holds) ∙ c.in-Err.ensures.gives))
