use Rattle.base.proofs.Common.{◌≡◌, ◌-◌, ◌^◌}
use Rattle.yds_kernel_text.specs.Advancing.{Counts}
use Rattle.yds_kernel_text.proofs.Passing.{Passing}
use Rattle.yds_kernel_text.proofs.reader.TraceReader.take_long.Given as goal

-- what was passed over so far has no line feed, and the reader gives the front of it
abbrev pub invariant-loop-self : goal.invariant-loop-self
invariant-loop-self g l = record {
  passing : Passing l.fn.self l.self (g.S.Source.left l.fn.source) (g.S.Source.left l.source);
  counts : Counts (g.S.Source.left l.fn.source) (g.S.Source.left l.source) l.fn.self.taken l.self.taken;
  no_fault : g.S.Source.faults l.source ≡ g.S.Source.faults l.fn.source;
}

abbrev pub decreases-loop-self : goal.decreases-loop-self
decreases-loop-self g l = 2 ^ 64 - l.self.taken
