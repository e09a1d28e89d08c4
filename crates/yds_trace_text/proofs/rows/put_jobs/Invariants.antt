use Rattle.base.proofs.Common.{◌≡◌, ◌++◌, take, flat_map}
use Rattle.yds_trace_document.specs.Views.{written_list}
use Rattle.yds_trace_text.specs.Text.{job_text}
use Rattle.yds_trace_text.proofs.rows.put_jobs.Given as goal

abbrev pub invariant-loop-job : goal.invariant-loop-job
invariant-loop-job l = l.text.items ≡ l.initial.text.items ++ flat_map job_text (written_list (take l.job-index l.jobs))
