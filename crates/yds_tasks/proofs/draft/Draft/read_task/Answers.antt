use Rattle.yds_model.proofs.Common.{◌≡◌, ◌∙◌, ◌∷◌, ◌<◌, true, length, ap, sym, arith, List, is_some, length-map, err_from_is_err_and, Task}
use Rattle.base.specs.declared.limits.TheConstants.{MAX_TASKS}
use Rattle.yds_text.specs.Read.{field_read}
use Rattle.yds_tasks.specs.Read.{task_read}
use Rattle.yds_tasks.proofs.Told.{passed_on, task_refused, task_added}
use Rattle.yds_tasks.proofs.draft.Draft.read_task.Goals as goal

pub returns-in_err-task-clause-reads : goal.returns-in_err-task-clause-reads
returns-in_err-task-clause-reads c = λ earlier holds.
    let set = c.args.self.now.set in
    let some : is_some set.horizon ≡ true = sym c.has_horizon.ensures ∙ c.if-not-has_horizon.false in
    let few : length set.tasks < MAX_TASKS = omega (arith, ap (λ (tasks : List Task). length tasks) c.tasks.ensures.tasks, length-map c.tasks.result.now task_read, c.if-tasks-ge-MAX_TASKS.false) in
    passed_on _ c.in_err-task.field-0.0 _ _ _ (err_from_is_err_and _ c.from_residual-in_err-task.ensures.1)
    (task_refused earlier (field_read c.args.first ∷ c.args.rest.fields) set _ _ _ _ _ _ _ holds some few c.in_ok-fields.ensures c.in_err-task.ensures.gives)

pub returns-clause-reads : goal.returns-clause-reads
returns-clause-reads c = λ earlier holds.
    let set = c.args.self.now.set in
    let some : is_some set.horizon ≡ true = sym c.has_horizon.ensures ∙ c.if-not-has_horizon.false in
    let few : length set.tasks < MAX_TASKS = omega (arith, ap (λ (tasks : List Task). length tasks) c.tasks.ensures.tasks, length-map c.tasks.result.now task_read, c.if-tasks-ge-MAX_TASKS.false) in
    task_added _ earlier (field_read c.args.first ∷ c.args.rest.fields) c.args.self.now c.add.new.self _ _ _ _ _ _ (task_read c.in_ok-task.task) holds some few c.in_ok-fields.ensures c.in_ok-task.ensures.gives
    c.add.ensures.takes c.add.ensures.memory
