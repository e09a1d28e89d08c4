use Rattle.base.proofs.Common.{◌≡◌, take}
use Rattle.yds_kernel.specs.Parts.{capped}
use Rattle.yds_trace.specs.Parts.{stretches_of}
use Rattle.yds_trace_document.specs.Views.{judged_list}
use Rattle.yds_trace_parts.proofs.place.stretches_of.Given as goal

abbrev pub invariant-loop-judged : goal.invariant-loop-judged
invariant-loop-judged l = l.all ≡ capped (stretches_of (judged_list (take l.judged-index l.waiting)))
