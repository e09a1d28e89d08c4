use Rattle.yds_model.proofs.Common.{length, flat_map, piece_line}
use Rattle.document_text.proofs.Batches.{PutsUpTo}
use Rattle.document_text.proofs.piece.print.Given as goal

-- the lines before the rest were put
abbrev pub invariant-loop-rest : goal.invariant-loop-rest
invariant-loop-rest g l =
    PutsUpTo g.K.Sink.written g.K.Sink.flushed g.K.Sink.flushes g.K.Sink.faults (flat_map piece_line l.rest) (flat_map piece_line l.pieces) l.fn.sink l.sink

abbrev pub decreases-loop-rest : goal.decreases-loop-rest
decreases-loop-rest g l = length l.rest
