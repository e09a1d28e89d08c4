use Rattle.base.proofs.Common.{◌≡◌, take, flat_map}
use Rattle.yds_trace_text.specs.Text.{groups_of}
use Rattle.yds_trace_text.specs.Views.{groups_read}
use Rattle.yds_trace_text.proofs.Read.{paired}
use Rattle.yds_trace_text.proofs.left_out.all_groups.Given as goal

abbrev pub invariant-loop-number : goal.invariant-loop-number
invariant-loop-number l = groups_read l.groups.items ≡ flat_map groups_of (take l.number (paired l.tasks l.by_task))
