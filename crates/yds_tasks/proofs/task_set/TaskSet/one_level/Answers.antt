use Rattle.yds_model.proofs.Common.{◌∙◌, sym, ap, refl, TaskSet, jobs_of_tasks, sum_by}
use Rattle.yds_tasks.proofs.Level.{all_filled, work_had, level_told, no_level_told}
use Rattle.yds_tasks.proofs.task_set.TaskSet.one_level.Goals as goal
use Rattle.yds_tasks.proofs.task_set.TaskSet.one_level.Goals.{else-filled-via-then-filled+else-have_work, else-filled-via-else-filled}

pub returns-then-have_work : goal.returns-then-have_work
returns-then-have_work c =
    let set = c.args.self.now in
    let tasks = ap (λ (s : TaskSet). s.tasks) c.self.view_is in
    level_told set c.in_ok-horizon.horizon _ _ (sym (ap (λ (s : TaskSet). s.horizon) c.self.view_is) ∙ c.in_ok-horizon.was) c.from.ensures
    (all_filled _ _ set c.in_ok-horizon.horizon _ tasks c.deref.ensures.value c.all_fill-filled.ensures ∙ c.if-filled.true)
    (work_had _ _ set _ tasks c.deref-then-filled.ensures.value c.have_work.ensures ∙ c.if-have_work.true)
    (c.self.invariant.summed ∙ ap (λ s. sum_by (λ job. job.work) (jobs_of_tasks s)) c.self.view_is)

pub returns-else-filled : goal.returns-else-filled
returns-else-filled c =
    let set = c.args.self.now in
    let tasks = ap (λ (s : TaskSet). s.tasks) c.self.view_is in
    let filled = all_filled _ _ set c.in_ok-horizon.horizon _ tasks c.deref.ensures.value c.all_fill-filled.ensures in
    no_level_told set c.in_ok-horizon.horizon (sym (ap (λ (s : TaskSet). s.horizon) c.self.view_is) ∙ c.in_ok-horizon.was)
    (elim c.else-filled.branch [
      | else-filled-via-then-filled+else-have_work w ↦ rw (filled, w.if-filled.true, work_had _ _ set _ tasks w.deref-then-filled.ensures.value w.have_work.ensures, w.if-have_work.false) refl
      | else-filled-via-else-filled w ↦ rw (filled, w.if-filled.false) refl
    ])
