use Rattle.yds_model.proofs.Common.{ap, ◌∙◌, ◌∷◌, [], map, arith, map-append, TaskSet}
use Rattle.yds_tasks.specs.Read.{task_read}
use Rattle.yds_tasks.proofs.Counts.{keeps_pushed, work_within}
use Rattle.yds_tasks.proofs.task_set.TaskSet.add.Goals as goal

pub overflow_add-self-2 : goal.overflow_add-self-2
overflow_add-self-2 c =
    let before : TaskSet = record { horizon = c.self.inside.horizon; tasks = map task_read c.self.inside.tasks.items } in
    omega (
      arith,
      work_within _ _ _ (keeps_pushed before c.args.self.now (task_read c.args.task) (map task_read c.push.new.self.items) _ _ _ _ _ _ c.self.view_is c.self.invariant
          c.args.task.kept c.requires.horizon c.requires.few c.requires.room (ap (map task_read) c.in_ok-push.ensures.items ∙ map-append task_read c.self.inside.tasks.items (c.args.task ∷ []))
          c.jobs_until-count.ensures c.horizon.ensures.value c.from.ensures c.from-2.ensures),
    )

pub invariant_of-self-2 : goal.invariant_of-self-2
invariant_of-self-2 c =
    let before : TaskSet = record { horizon = c.self.inside.horizon; tasks = map task_read c.self.inside.tasks.items } in
    keeps_pushed before c.args.self.now (task_read c.args.task) (map task_read c.push.new.self.items) _ _ _ _ _ _ c.self.view_is c.self.invariant
    c.args.task.kept c.requires.horizon c.requires.few c.requires.room (ap (map task_read) c.in_ok-push.ensures.items ∙ map-append task_read c.self.inside.tasks.items (c.args.task ∷ []))
    c.jobs_until-count.ensures c.horizon.ensures.value c.from.ensures c.from-2.ensures
