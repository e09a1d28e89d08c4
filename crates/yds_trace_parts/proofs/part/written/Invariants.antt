use Rattle.base.proofs.Common.{◌≡◌, count_by, take}
use Rattle.yds_kernel.specs.Parts.{capped}
use Rattle.yds_trace.specs.Parts.{is_written}
use Rattle.yds_trace_document.specs.Views.{judged_list}
use Rattle.yds_trace_parts.proofs.part.written.Given as goal

abbrev pub invariant-loop-judged : goal.invariant-loop-judged
invariant-loop-judged l = l.count ≡ capped (count_by is_written (judged_list (take l.judged-index l.part)))
