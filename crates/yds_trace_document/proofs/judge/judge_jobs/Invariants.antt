use Rattle.base.proofs.Common.{◌≡◌, take, map, enumerate_from}
use Rattle.yds_trace.specs.Views.{job_read, task_read}
use Rattle.yds_trace_document.specs.Kept.{judged_at}
use Rattle.yds_trace_document.specs.Views.{judged_list, within_read}
use Rattle.yds_trace_document.proofs.judge.judge_jobs.Given as goal

abbrev pub invariant-loop-place : goal.invariant-loop-place
invariant-loop-place l =
    judged_list l.judged.items
    ≡ map (judged_at (within_read l.within) l.number (task_read l.task) l.before) (enumerate_from l.first (map job_read (take l.place l.jobs)))
