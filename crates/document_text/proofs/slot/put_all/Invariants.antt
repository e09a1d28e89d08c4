use Rattle.yds_model.proofs.Common.{◌≡◌, ◌+◌, ◌*◌, ◌≤◌, drop, length, flat_map, slot_line}
use Rattle.text_line.specs.declared.line_buffer.TheConstants.{LINE_BYTES}
use Rattle.document_text.proofs.slot.put_all.Given as goal

-- the lines of the slots from this place on
abbrev pub invariant-loop-place : goal.invariant-loop-place
invariant-loop-place l = (l.text ≡ flat_map (slot_line l.instance.names) (drop l.place l.slots)) × (length l.text + LINE_BYTES * l.place ≤ LINE_BYTES * length l.slots)
