use Rattle.base.proofs.Common.{◌≤◌, All-more, arith, subst}
use Rattle.yds_trace.specs.declared.others.Span.{Span}
use Rattle.yds_trace.proofs.others.early.Goals as goal

pub loop-index-preserved : goal.loop-index-preserved
loop-index-preserved c =
    All-more (λ (span : Span). span.to ≤ c.args.boundary) c.args.spans.now c.loop-index.index c.index-spans-index.result (omega arith) c.loop-index.invariant
    (let P = λ (span : Span). span.to ≤ c.args.boundary in subst P c.index-spans-index.is c.if-span-boundary.false)
