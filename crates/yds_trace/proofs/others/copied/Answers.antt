use Rattle.base.proofs.Common.{arith}
use Rattle.yds_trace.specs.Views.{span_read}
use Rattle.yds_trace.proofs.Copying.{copied_more}
use Rattle.yds_trace.proofs.others.copied.Goals as goal

pub loop-span-preserved : goal.loop-span-preserved
loop-span-preserved c =
    copied_more span_read c.args.spans.now c.loop-span.all.items _ _ c.span-item.result c.loop-span.span-index (omega arith) c.in_ok-push.ensures.items c.span-item.is
    c.in_ok-copied.ensures c.loop-span.invariant
