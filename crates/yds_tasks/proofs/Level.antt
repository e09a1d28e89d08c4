-- The one level, by what the code tries the tasks for.
use Rattle.yds_model.proofs.Common.{arith, ◌≡◌, ℕ, Bool, true, false, ◌&&◌, List, map, Option, Some, None, refl, sym, ap, ◌∙◌, list_all, list_any, sum_by, list_all-map, TaskSet, fills_horizon, has_work, jobs_of_tasks, level_until}
use Rattle.yds_model.specs.Tasks.{one_level}
use Rattle.yds_tasks.specs.declared.task.Task.{Task}
use Rattle.yds_tasks.specs.Read.{task_read}
use Rattle.yds_tasks.proofs.Names.{list_any-map}

-- each task fills the horizon where each of the code's does
pub all_filled : (tasks seen : List Task) (set : TaskSet) (horizon : ℕ) (b : Bool) → map task_read tasks ≡ set.tasks → seen ≡ tasks →
    b ≡ list_all (λ task. fills_horizon horizon (task_read task)) seen → list_all (fills_horizon horizon) set.tasks ≡ b
all_filled tasks seen set horizon b same lent is = grind (arith, list_all-map)

-- some task has work where one of the code's has
pub work_had : (tasks seen : List Task) (set : TaskSet) (b : Bool) → map task_read tasks ≡ set.tasks → seen ≡ tasks → b ≡ list_any (λ task. has_work (task_read task)) seen →
    list_any has_work set.tasks ≡ b
work_had tasks seen set b same lent is =
    ap (list_any has_work) (sym same) ∙ list_any-map has_work task_read tasks ∙ ap (list_any (λ task. has_work (task_read task))) (sym lent) ∙ sym is

level_at_horizon : (set : TaskSet) (horizon : ℕ) → set.horizon ≡ Some horizon → one_level set ≡ level_until horizon set
level_at_horizon set horizon said = ap (λ (time : Option ℕ). elim time [ None ↦ None | Some horizon ↦ level_until horizon set ]) said

pub level_told : (set : TaskSet) (horizon time work : ℕ) → set.horizon ≡ Some horizon → time ≡ horizon → list_all (fills_horizon horizon) set.tasks ≡ true → list_any has_work set.tasks ≡ true →
    work ≡ sum_by (λ job. job.work) (jobs_of_tasks set) → Some (work, time) ≡ one_level set
level_told set horizon time work said is_time filled worked is =
    ap (λ n. Some (n, time)) is ∙ ap (λ n. Some (sum_by (λ job. job.work) (jobs_of_tasks set), n)) is_time ∙ sym (level_at_horizon set horizon said ∙ rw (filled, worked) refl)

pub no_level_told : (set : TaskSet) (horizon : ℕ) → set.horizon ≡ Some horizon → (list_all (fills_horizon horizon) set.tasks && list_any has_work set.tasks) ≡ false → None ≡ one_level set
no_level_told set horizon said neither = sym (level_at_horizon set horizon said ∙ rw neither refl)
