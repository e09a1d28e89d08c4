use Rattle.yds_model.proofs.Common.{◌-◌, job_lines}
use Rattle.document_text.specs.Job.{job_lines_from}
use Rattle.document_text.proofs.Batches.{PutsUpTo}
use Rattle.document_text.proofs.job.print.Given as goal

-- the lines before this place were put
abbrev pub invariant-loop-from : goal.invariant-loop-from
invariant-loop-from g l = PutsUpTo g.K.Sink.written g.K.Sink.flushed g.K.Sink.flushes g.K.Sink.faults (job_lines_from l.from l.instance) (job_lines l.instance.names l.instance.jobs) l.fn.sink l.sink

abbrev pub decreases-loop-from : goal.decreases-loop-from
decreases-loop-from g l = l.count - l.from
