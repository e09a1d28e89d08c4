use Rattle.yds_model.proofs.Common.{◌≡◌, ◌*◌, ◌≤◌, drop, length, flat_map, level_lines}
use Rattle.text_line.specs.declared.line_buffer.TheConstants.{LINE_BYTES}
use Rattle.document_text.specs.Level.{line_total}
use Rattle.document_text.proofs.level.put_all.Given as goal

-- the lines of the levels from this place on
abbrev pub invariant-loop-place : goal.invariant-loop-place
invariant-loop-place l = (l.text ≡ flat_map (level_lines l.instance.names) (drop l.place l.levels)) × (length l.text ≤ LINE_BYTES * line_total (drop l.place l.levels))
