use Rattle.base.proofs.Common.{◌≡◌, ◌+◌, drop, prefix_len, is_blank}
use Rattle.yds_kernel.proofs.parts.blank_len.Given as goal

abbrev pub invariant-loop-index : goal.invariant-loop-index
invariant-loop-index l = l.index + prefix_len is_blank (drop l.index l.bytes) ≡ prefix_len is_blank l.bytes
