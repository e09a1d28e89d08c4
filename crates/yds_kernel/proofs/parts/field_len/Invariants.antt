use Rattle.base.proofs.Common.{◌≡◌, ◌+◌, drop, position_or_len, is_blank}
use Rattle.yds_kernel.proofs.parts.field_len.Given as goal

abbrev pub invariant-loop-index : goal.invariant-loop-index
invariant-loop-index l = l.index + position_or_len is_blank (drop l.index l.bytes) ≡ position_or_len is_blank l.bytes
