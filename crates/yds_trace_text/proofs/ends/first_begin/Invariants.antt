use Rattle.base.proofs.Common.{◌≡◌, drop}
use Rattle.yds_trace_text.specs.Text.{first_begin}
use Rattle.yds_trace_text.proofs.ends.first_begin.Given as goal

abbrev pub invariant-loop-stretch : goal.invariant-loop-stretch
invariant-loop-stretch l = first_begin (drop l.stretch-index l.stretches) ≡ first_begin l.stretches
