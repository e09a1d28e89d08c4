use Rattle.base.proofs.Common.{◌≡◌, take, sum_by}
use Rattle.yds_kernel.specs.Parts.{capped}
use Rattle.yds_trace_document.specs.Views.{judged_list}
use Rattle.yds_trace_text.specs.Text.{wake_ups_of}
use Rattle.yds_trace_text.proofs.woken.all_wake_ups.Given as goal

abbrev pub invariant-loop-one : goal.invariant-loop-one
invariant-loop-one l = l.all ≡ capped (sum_by wake_ups_of (judged_list (take l.one-index l.judged)))
