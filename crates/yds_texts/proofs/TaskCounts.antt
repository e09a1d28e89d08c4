-- How many jobs a periodic task has.
use Rattle.yds_model.proofs.Common.{◌-◌, arith, le-div_iff_mul-le, cases_lt, lt-ltb, le-ltb}
use Rattle.yds_texts.specs.TaskLaws.{TaskJobsEndInTime}

-- the law: by the quotient of the time that is left after the first job's deadline
pub task_jobs_end_in_time : TaskJobsEndInTime
task_jobs_end_in_time horizon task k some = grind (arith, cases_lt, le-div_iff_mul-le, le-ltb, lt-ltb)
