use Rattle.yds_model.proofs.Common.{take, flat_map}
use Rattle.yds_port.proofs.Putting.{PutsWhole}
use Rattle.yds_answer_jobs.specs.Admit.{comment_text}
use Rattle.yds_answer_jobs.proofs.admit.write_comments.Given as goal

-- the comments before this one were put
abbrev pub invariant-loop-refusal : goal.invariant-loop-refusal
invariant-loop-refusal g l =
    PutsWhole g.K.Sink.written g.K.Sink.flushed g.K.Sink.flushes g.K.Sink.faults (flat_map (comment_text l.admitted.instance.names l.admitted.top) (take l.refusal-index l.refusal-items)) l.fn.sink l.sink
