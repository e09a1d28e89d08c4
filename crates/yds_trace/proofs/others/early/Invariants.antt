use Rattle.base.proofs.Common.{◌≤◌, take, All}
use Rattle.yds_trace.specs.declared.others.Span.{Span}
use Rattle.yds_trace.proofs.others.early.Given as goal

abbrev pub invariant-loop-index : goal.invariant-loop-index
invariant-loop-index l = All (λ (span : Span). span.to ≤ l.boundary) (take l.index l.spans)
