use Rattle.base.proofs.Common.{◌<◌, length, arith}
use Rattle.yds_trace.specs.Others.{span_within}
use Rattle.yds_trace_document.specs.Views.{other_read}
use Rattle.yds_trace_document.proofs.Steps.{made_step}
use Rattle.yds_trace_document.proofs.other.all_within.Goals as goal

pub loop-other-preserved : goal.loop-other-preserved
loop-other-preserved c =
    let inside : c.loop-other.other-index < length c.args.others.now = omega arith in
    made_step other_read (span_within c.args.from c.args.until) other_read c.args.others.now c.loop-other.other-index _
    c.loop-other.some.items c.put.new.others.items c.one_within.result inside c.loop-other.invariant c.one_within.ensures c.in_ok-put.ensures
