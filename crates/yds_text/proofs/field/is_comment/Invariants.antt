use Rattle.yds_model.proofs.Common.{◌≡◌, ◌+◌, drop, fields_from, fields_of, begins_comment}
use Rattle.yds_text.proofs.field.is_comment.Given as goal

-- the bytes so far are blank, so the rest says what the whole does
abbrev pub invariant-loop-byte : goal.invariant-loop-byte
invariant-loop-byte l = begins_comment (fields_of l.bytes) ≡ begins_comment (fields_from (1 + l.byte-index) (drop l.byte-index l.bytes))
