use Rattle.yds_model.proofs.Common.{◌∙◌, ◌<◌, arith, numbers_of_jobs, count_of_jobs}
use Rattle.yds_port.proofs.Putting.{item_put, item_failed, all_put}
use Rattle.yds_tasks.specs.Printed.{nth_line}
use Rattle.yds_tasks.specs.Read.{task_read}
use Rattle.yds_tasks.proofs.Printed.{number_within, number_at, numbers_end}
use Rattle.yds_tasks.proofs.printing.print_task.Goals as goal

pub returns-in_err-write_all : goal.returns-in_err-write_all
returns-in_err-write_all g c =
    let task = task_read c.args.task.now in
    let below : c.loop-k.k < count_of_jobs c.args.horizon task = omega (arith, c.loop-k-test.true, c.jobs_until-k-end.ensures) in
    item_failed (nth_line task) (numbers_of_jobs c.args.horizon task) 0 _ c.from_residual.ensures.0 (number_within c.args.horizon task c.loop-k.k below)
    (number_at c.args.horizon task c.loop-k.k 0 below) (c.as_bytes.ensures.value ∙ c.as_str.ensures.value ∙ c.put_job.ensures) c.loop-k.invariant c.in_err-write_all.ensures.puts

pub loop-k-preserved : goal.loop-k-preserved
loop-k-preserved g c =
    let task = task_read c.args.task.now in
    let below : c.loop-k.k < count_of_jobs c.args.horizon task = omega (arith, c.loop-k-test.true, c.jobs_until-k-end.ensures) in
    item_put (nth_line task) (numbers_of_jobs c.args.horizon task) 0 (number_within c.args.horizon task c.loop-k.k below)
    (number_at c.args.horizon task c.loop-k.k 0 below) (c.as_bytes.ensures.value ∙ c.as_str.ensures.value ∙ c.put_job.ensures) c.loop-k.invariant c.in_ok-write_all.ensures.puts

pub returns : goal.returns
returns g c =
    let task = task_read c.args.task.now in
    all_put (nth_line task) (numbers_of_jobs c.args.horizon task) (numbers_end c.args.horizon task c.loop-k.k (omega (arith, c.loop-k-test.false, c.jobs_until-k-end.ensures))) c.loop-k.invariant
