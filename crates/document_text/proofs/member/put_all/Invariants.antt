use Rattle.yds_model.proofs.Common.{◌≡◌, ◌+◌, ◌*◌, ◌≤◌, ◌++◌, drop, length, flat_map, member_line}
use Rattle.text_line.specs.declared.line_buffer.TheConstants.{LINE_BYTES}
use Rattle.document_text.proofs.member.put_all.Given as goal

-- the lines of the members from this place on
abbrev pub invariant-loop-place : goal.invariant-loop-place
invariant-loop-place l =
    (l.text ≡ flat_map (member_line l.instance.names) (drop l.place l.members) ++ l.fn.text) × (length l.text + LINE_BYTES * l.place ≤ LINE_BYTES * length l.members + length l.fn.text)
