use Rattle.base.proofs.Common.{◌≡◌, ◌++◌, take, map, flat_map}
use Rattle.yds_trace_document.specs.Views.{units_read, other_read}
use Rattle.yds_trace_text.specs.Text.{other_comment}
use Rattle.yds_trace_text.proofs.others.put_all_others.Given as goal

abbrev pub invariant-loop-other : goal.invariant-loop-other
invariant-loop-other l =
    l.text.items ≡ l.initial.text.items ++ flat_map (other_comment (units_read l.units)) (map other_read (take l.other-index l.others))
