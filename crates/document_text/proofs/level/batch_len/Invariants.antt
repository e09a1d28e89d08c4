use Rattle.yds_model.proofs.Common.{◌≡◌, ◌+◌, take}
use Rattle.document_text.specs.declared.tail_buffer.TheConstants.{BATCH_LINES}
use Rattle.document_text.specs.Level.{line_total}
use Rattle.document_text.proofs.level.batch_len.Given as goal

-- the room that the levels before this one leave
abbrev pub invariant-loop-place : goal.invariant-loop-place
invariant-loop-place l = l.room + line_total (take l.place l.levels) ≡ BATCH_LINES
