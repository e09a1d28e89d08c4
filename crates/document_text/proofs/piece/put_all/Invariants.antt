use Rattle.yds_model.proofs.Common.{◌≡◌, ◌+◌, ◌*◌, ◌≤◌, ◌++◌, drop, length, flat_map, piece_line}
use Rattle.text_line.specs.declared.line_buffer.TheConstants.{LINE_BYTES}
use Rattle.document_text.proofs.piece.put_all.Given as goal

-- the lines of the pieces from this place on
abbrev pub invariant-loop-place : goal.invariant-loop-place
invariant-loop-place l = (l.text ≡ flat_map piece_line (drop l.place l.pieces) ++ l.fn.text) × (length l.text + LINE_BYTES * l.place ≤ LINE_BYTES * length l.pieces + length l.fn.text)
