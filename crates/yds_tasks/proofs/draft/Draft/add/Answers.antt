use Rattle.yds_model.proofs.Common.{◌∙◌, ap, sym, refl, RandomState, TaskSet}
use Rattle.yds_tasks.specs.Fields.{has_name}
use Rattle.yds_tasks.specs.Read.{task_read}
use Rattle.yds_tasks.proofs.Names.{names_pushed}
use Rattle.yds_laws.proofs.TasksSaid.{task_more}
use Rattle.yds_tasks.proofs.draft.Draft.add.Goals as goal

pub returns-clause-kept : goal.returns-clause-kept
returns-clause-kept c = λ name.
    names_pushed {S = RandomState} c.args.self.now.names c.insert.new.self c.args.task.name c.args.self.now.set (task_read c.args.task) refl c.in_ok-insert.ensures.updates c.requires.kept name
    ∙ ap (λ (s : TaskSet). has_name s name) (sym c.in_ok-add.ensures)

pub returns-clause-takes : goal.returns-clause-takes
returns-clause-takes c = λ earlier holds. task_more earlier c.args.self.now.set (task_read c.args.task) holds ∙ sym c.in_ok-add.ensures
