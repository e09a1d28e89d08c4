use Rattle.base.proofs.Common.{◌≡◌, take, sum_by}
use Rattle.yds_kernel.specs.Parts.{capped}
use Rattle.yds_trace_text.specs.Text.{length_of}
use Rattle.yds_trace_text.proofs.short.total.Given as goal

abbrev pub invariant-loop-stretch : goal.invariant-loop-stretch
invariant-loop-stretch l = l.total ≡ capped (sum_by length_of (take l.stretch-index l.stretches))
