-- The text of the jobs of the tasks, task by task.
use Rattle.std.specs.Prelude.{ℕ, List}
use Rattle.std.specs.List.{flat_map}
use Rattle.yds_model.specs.Tasks.{Task, nth_job, nth_name, numbers_of_jobs}
use Rattle.yds_model.specs.Text.{job_line}

-- the line of the job that comes k periods after the task's first
abbrev pub nth_line : Task → ℕ → List ℕ
nth_line task k = job_line (nth_name task k) (nth_job task k)

-- the lines of a task's jobs
abbrev pub task_lines : ℕ → Task → List ℕ
task_lines horizon task = flat_map (nth_line task) (numbers_of_jobs horizon task)
