use Rattle.base.proofs.Common.{◌≡◌, ◌++◌, take, flat_map}
use Rattle.yds_trace_text.specs.Text.{task_unit_comments}
use Rattle.yds_trace_text.proofs.Read.{paired}
use Rattle.yds_trace_text.proofs.wrong_unit.put_all_wrong_units.Given as goal

abbrev pub invariant-loop-number : goal.invariant-loop-number
invariant-loop-number l =
    l.text.items ≡ l.initial.text.items ++ flat_map task_unit_comments (take l.number (paired l.tasks l.by_task))
