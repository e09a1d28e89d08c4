use Rattle.yds_model.proofs.Common.{◌∙◌, piece_line}
use Rattle.document_text.proofs.Batches.{part_put, part_failed, lines_of_both, before_none}
use Rattle.document_text.proofs.piece.print.Goals as goal

pub returns-in_err-write_all : goal.returns-in_err-write_all
returns-in_err-write_all g c =
    part_failed _ (lines_of_both piece_line c.loop-rest.rest.now c.min.result (c.as_bytes.ensures ∙ before_none c.put_all.ensures.bytes c.clear.ensures) c.split_at.ensures.front c.split_at.ensures.back) _ c.from_residual.ensures.0
    c.loop-rest.invariant c.in_err-write_all.ensures.puts

pub loop-rest-preserved : goal.loop-rest-preserved
loop-rest-preserved g c =
    part_put _ (lines_of_both piece_line c.loop-rest.rest.now c.min.result (c.as_bytes.ensures ∙ before_none c.put_all.ensures.bytes c.clear.ensures) c.split_at.ensures.front c.split_at.ensures.back) c.loop-rest.invariant c.in_ok-write_all.ensures.puts
