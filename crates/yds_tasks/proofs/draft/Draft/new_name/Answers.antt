use Rattle.yds_model.proofs.Common.{◌∙◌, sym}
use Rattle.yds_model.specs.declared.task_reason.TaskReason.TheVariants as reasons
use Rattle.yds_text.specs.Read.{field_read}
use Rattle.yds_tasks.specs.Fields.{task_name_of}
use Rattle.yds_tasks.proofs.Told.{name_taken, name_fresh, refused_at}
use Rattle.yds_tasks.proofs.draft.Draft.new_name.Goals as goal

pub returns-then-contains-clause-gives : goal.returns-then-contains-clause-gives
returns-then-contains-clause-gives c =
    let d = c.args.self.now in
    let taken = sym (c.requires.kept c.in-Some.name.now) ∙ sym c.contains.ensures ∙ c.if-contains.true in
    refused_at _ (task_name_of d.set (field_read c.args.field)) c.args.field.column reasons.DuplicateName c.at-then-contains.ensures
    (name_taken d.set (field_read c.args.field) c.in-Some.name.now c.in-Some.ensures.same c.in-Some.ensures.some taken)

pub returns-else-contains-clause-new : goal.returns-else-contains-clause-new
returns-else-contains-clause-new c =
    let d = c.args.self.now in
    sym (c.requires.kept c.in-Some.name.now) ∙ sym c.contains.ensures ∙ c.if-contains.false

pub returns-else-contains-clause-gives : goal.returns-else-contains-clause-gives
returns-else-contains-clause-gives c =
    name_fresh c.args.self.now.set (field_read c.args.field) c.in-Some.name.now c.in-Some.ensures.same c.in-Some.ensures.some (returns-else-contains-clause-new c)
