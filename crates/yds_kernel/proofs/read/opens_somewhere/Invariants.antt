use Rattle.base.proofs.Common.{◌≡◌, drop}
use Rattle.yds_kernel.specs.Line.{opens_somewhere}
use Rattle.yds_kernel.proofs.read.opens_somewhere.Given as goal

abbrev pub invariant-loop-place : goal.invariant-loop-place
invariant-loop-place l = opens_somewhere (drop l.place l.bytes) ≡ opens_somewhere l.bytes
