use Rattle.yds_model.proofs.Common.{◌∙◌, ap, sym, count_of_all}
use Rattle.yds_laws.proofs.TaskWork.{jobs_counted}
use Rattle.yds_tasks.proofs.task_set.TaskSet.jobs.Goals as goal

pub returns-clause-count : goal.returns-clause-count
returns-clause-count c = c.self.invariant.counted ∙ ap count_of_all c.self.view_is ∙ sym (jobs_counted c.args.self.now)
