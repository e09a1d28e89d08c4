use Rattle.yds_model.proofs.Common.{◌<◌, length, flat_map, All, level_lines}
use Rattle.document_text.proofs.Batches.{PutsUpTo}
use Rattle.document_text.proofs.level.print.Given as goal

-- the lines before the rest were put
abbrev pub invariant-loop-rest : goal.invariant-loop-rest
invariant-loop-rest g l =
    (PutsUpTo g.K.Sink.written g.K.Sink.flushed g.K.Sink.flushes g.K.Sink.faults (flat_map (level_lines l.instance.names) l.rest) (flat_map (level_lines l.instance.names) l.levels) l.fn.sink l.sink)
    × All (λ level. All (λ job. job < length l.instance.jobs) level.members) l.rest

abbrev pub decreases-loop-rest : goal.decreases-loop-rest
decreases-loop-rest g l = length l.rest
