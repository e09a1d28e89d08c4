use Rattle.yds_model.proofs.Common.{◌<◌, length, flat_map, All, slot_line}
use Rattle.document_text.proofs.Batches.{PutsUpTo}
use Rattle.document_text.proofs.slot.print.Given as goal

-- the lines before the rest were put
abbrev pub invariant-loop-rest : goal.invariant-loop-rest
invariant-loop-rest g l =
    (PutsUpTo g.K.Sink.written g.K.Sink.flushed g.K.Sink.flushes g.K.Sink.faults (flat_map (slot_line l.instance.names) l.rest) (flat_map (slot_line l.instance.names) l.slots) l.fn.sink l.sink)
    × All (λ slot. slot.job < length l.instance.jobs) l.rest

abbrev pub decreases-loop-rest : goal.decreases-loop-rest
decreases-loop-rest g l = length l.rest
