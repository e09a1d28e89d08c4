use Rattle.base.proofs.Common.{◌≡◌, ◌+◌, drop, prefix_len}
use Rattle.yds_kernel.specs.Line.{is_hash}
use Rattle.yds_kernel.proofs.read.hash_len.Given as goal

abbrev pub invariant-loop-index : goal.invariant-loop-index
invariant-loop-index l = l.index + prefix_len is_hash (drop l.index l.bytes) ≡ prefix_len is_hash l.bytes
