use Rattle.yds_model.proofs.Common.{◌≡◌, ◌+◌, ◌*◌, ◌≤◌, ◌++◌, length}
use Rattle.text_line.specs.declared.line_buffer.TheConstants.{LINE_BYTES}
use Rattle.document_text.specs.Job.{job_lines_from}
use Rattle.document_text.proofs.job.put_all.Given as goal

-- the lines of the jobs from this place on
abbrev pub invariant-loop-job : goal.invariant-loop-job
invariant-loop-job l = (l.text ++ job_lines_from l.to l.instance ≡ job_lines_from l.job l.instance)
    × (length l.text + LINE_BYTES * l.job ≤ LINE_BYTES * l.to) × (l.from ≤ l.job)
