use Rattle.base.proofs.Common.{◌≡◌, drop}
use Rattle.yds_trace_document.specs.LeftOut.{first_frequent}
use Rattle.yds_trace_document.specs.Views.{judged_list, count_in}
use Rattle.yds_trace_document.proofs.left_out.first_frequent.Given as goal

abbrev pub invariant-loop-one : goal.invariant-loop-one
invariant-loop-one l =
    first_frequent (count_in l.counts) (judged_list (drop l.one-index l.judged)) ≡ first_frequent (count_in l.counts) (judged_list l.judged)
