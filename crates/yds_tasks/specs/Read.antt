-- A task of the code, as the definitions have it.
use Rattle.yds_model.specs.Tasks as model
use Rattle.yds_tasks.specs.declared.task.Task.{Task}

abbrev pub task_read : Task → model.Task
task_read task = record { name = task.name.now; offset = task.offset; period = task.period; deadline = task.deadline; work = task.work }
