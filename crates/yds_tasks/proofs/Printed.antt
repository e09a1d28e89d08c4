-- The lines of a task's jobs one after another, and those of all tasks.
use Rattle.yds_model.proofs.Common.{◌≡◌, ℕ, refl, ◌<◌, ◌≤◌, List, [], ◌∷◌, ◌++◌, get_or, length, map, ◌∙◌, ap, sym, append_assoc, arith, flat_map, flat_map-map, length-range_with_len, get_or-range_with_len, Job, Task, TaskSet, nth_job, nth_name, count_of_jobs, numbers_of_jobs, horizon_of, jobs_of_tasks, names_of_tasks, job_lines}
use Rattle.yds_tasks.specs.declared.task.Task.{Task as TaskRow}
use Rattle.yds_tasks.specs.Printed.{nth_line, task_lines}
use Rattle.yds_tasks.specs.Read.{task_read}

-- # The numbers of a task's jobs

pub number_within : (horizon : ℕ) (task : Task) (k : ℕ) → k < count_of_jobs horizon task → k < length (numbers_of_jobs horizon task)
number_within horizon task k below = omega (arith, length-range_with_len 0 (count_of_jobs horizon task))

pub number_at : (horizon : ℕ) (task : Task) (k d : ℕ) → k < count_of_jobs horizon task → get_or (numbers_of_jobs horizon task) k d ≡ k
number_at horizon task k d below = omega (arith, get_or-range_with_len 0 (count_of_jobs horizon task) k d below)

pub numbers_end : (horizon : ℕ) (task : Task) (k : ℕ) → count_of_jobs horizon task ≤ k → length (numbers_of_jobs horizon task) ≤ k
numbers_end horizon task k all = omega (arith, length-range_with_len 0 (count_of_jobs horizon task))

-- # The text of the jobs

-- the lines of a task's jobs, before those of others
lines_before : (task : Task) (numbers : List ℕ) (names : List (List ℕ)) (jobs : List Job) →
    job_lines (map (nth_name task) numbers ++ names) (map (nth_job task) numbers ++ jobs) ≡ flat_map (nth_line task) numbers ++ job_lines names jobs
lines_before task [] names jobs = refl
lines_before task (k ∷ numbers) names jobs =
    ap (λ l. nth_line task k ++ l) (lines_before task numbers names jobs) ∙ sym (append_assoc (nth_line task k) (flat_map (nth_line task) numbers) (job_lines names jobs))

lines_until : (horizon : ℕ) (tasks : List Task) →
    flat_map (task_lines horizon) tasks
    ≡ job_lines (flat_map (λ task. map (nth_name task) (numbers_of_jobs horizon task)) tasks) (flat_map (λ task. map (nth_job task) (numbers_of_jobs horizon task)) tasks)
lines_until horizon [] = refl
lines_until horizon (task ∷ tasks) =
    ap (λ l. task_lines horizon task ++ l) (lines_until horizon tasks)
    ∙ sym (lines_before task (numbers_of_jobs horizon task) (flat_map (λ task. map (nth_name task) (numbers_of_jobs horizon task)) tasks)
    (flat_map (λ task. map (nth_job task) (numbers_of_jobs horizon task)) tasks))

-- task by task it is the text of all jobs
pub lines_of_jobs : (set : TaskSet) → flat_map (task_lines (horizon_of set)) set.tasks ≡ job_lines (names_of_tasks set) (jobs_of_tasks set)
lines_of_jobs set = lines_until (horizon_of set) set.tasks

-- the same by the tasks of the code and its horizon
pub lines_told : (set : TaskSet) (tasks : List TaskRow) (horizon : ℕ) → map task_read tasks ≡ set.tasks → horizon ≡ horizon_of set →
    flat_map (λ task. task_lines horizon (task_read task)) tasks ≡ job_lines (names_of_tasks set) (jobs_of_tasks set)
lines_told set tasks horizon same is =
    sym (flat_map-map (task_lines horizon) task_read tasks) ∙ ap (flat_map (task_lines horizon)) same ∙ ap (λ time. flat_map (task_lines time) set.tasks) is ∙ lines_of_jobs set
