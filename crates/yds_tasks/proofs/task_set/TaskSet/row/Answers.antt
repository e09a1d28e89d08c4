use Rattle.yds_model.proofs.Common.{◌≡◌, ◌<◌, ◌≤◌, ◌∙◌, ap, sym, subst, arith, length, List, get_or, get_or-map, length-map, Task, TaskSet, horizon_of, nth_job}
use Rattle.yds_tasks.specs.KeptTasks.{IsTaskSet, task_at, no_task}
use Rattle.yds_tasks.specs.Read.{task_read}
use Rattle.yds_tasks.proofs.Counts.{due_fits, horizon_within}
use Rattle.yds_tasks.proofs.task_set.TaskSet.row.Goals as goal

pub row-requires : goal.row-requires
row-requires c =
    let set = c.args.self.now in
    let tasks = ap (λ (s : TaskSet). s.tasks) c.self.view_is in
    let within : c.args.task < length c.self.inside.tasks.items =
    omega (arith, c.requires.task, ap (λ (ts : List Task). length ts) tasks, length-map c.self.inside.tasks.items task_read) in
    let same : task_at set.tasks c.args.task ≡ task_read c.index.result.now =
    ap (λ (ts : List Task). get_or ts c.args.task no_task) (sym tasks) ∙ get_or-map task_read c.self.inside.tasks.items c.args.task c.index.result.now no_task within ∙ ap task_read (sym c.index.ensures) in
    due_fits (horizon_of set) (task_read c.index.result.now) c.args.k c.index.result.now.kept (horizon_within set (subst IsTaskSet c.self.view_is c.self.invariant.kept))
    (subst (λ task. (nth_job task c.args.k).deadline ≤ horizon_of set) same c.requires.due)
