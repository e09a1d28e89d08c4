use Rattle.base.proofs.Common.{◌≡◌, ◌++◌, take, flat_map}
use Rattle.yds_trace_text.specs.Text.{group_comment}
use Rattle.yds_trace_text.specs.Views.{groups_read}
use Rattle.yds_trace_text.proofs.left_out.put_each_group.Given as goal

abbrev pub invariant-loop-group : goal.invariant-loop-group
invariant-loop-group l = l.text.items ≡ l.initial.text.items ++ flat_map group_comment (groups_read (take l.group-index l.groups))
