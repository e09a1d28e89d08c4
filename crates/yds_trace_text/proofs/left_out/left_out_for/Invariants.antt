use Rattle.base.proofs.Common.{◌≡◌, take, filter}
use Rattle.yds_trace_document.specs.Views.{judged_list}
use Rattle.yds_trace_text.specs.Text.{is_left_out_for}
use Rattle.yds_trace_text.proofs.left_out.left_out_for.Given as goal

abbrev pub invariant-loop-one : goal.invariant-loop-one
invariant-loop-one l = judged_list l.jobs.items ≡ filter (is_left_out_for l.reason) (judged_list (take l.one-index l.judged))
