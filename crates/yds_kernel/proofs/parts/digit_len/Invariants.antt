use Rattle.base.proofs.Common.{◌≡◌, ◌+◌, drop, prefix_len, is_digit}
use Rattle.yds_kernel.proofs.parts.digit_len.Given as goal

abbrev pub invariant-loop-index : goal.invariant-loop-index
invariant-loop-index l = l.index + prefix_len is_digit (drop l.index l.bytes) ≡ prefix_len is_digit l.bytes
