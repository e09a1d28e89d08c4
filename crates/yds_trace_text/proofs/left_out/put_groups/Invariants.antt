use Rattle.base.proofs.Common.{◌≡◌, ◌++◌, take, map, filter}
use Rattle.yds_trace_document.specs.Views.{judged_list}
use Rattle.yds_trace_text.specs.Text.{group_for, has_jobs}
use Rattle.yds_trace_text.specs.Views.{groups_read}
use Rattle.yds_trace_text.proofs.left_out.put_groups.Given as goal

abbrev pub invariant-loop-reason : goal.invariant-loop-reason
invariant-loop-reason l =
    groups_read l.groups.items
    ≡ groups_read l.initial.groups.items ++ filter has_jobs (map (group_for l.label (judged_list l.judged)) (take l.reason-index l.reasons))
