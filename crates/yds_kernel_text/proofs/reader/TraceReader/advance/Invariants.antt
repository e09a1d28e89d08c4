use Rattle.base.proofs.Common.{◌≡◌, ◌-◌, length}
use Rattle.std.specs.Io.KnownBytes.{Keeps}
use Rattle.yds_kernel_text.specs.declared.limits.TheConstants.{ROOM}
use Rattle.yds_kernel_text.specs.Reading.{unread}
use Rattle.yds_kernel_text.specs.Advancing.{Counts}
use Rattle.yds_kernel_text.proofs.reader.TraceReader.advance.Given as goal

-- no line was given, and what was unread still is
abbrev pub invariant-loop-self : goal.invariant-loop-self
invariant-loop-self g l = record {
  kept : Keeps (unread l.fn.self (g.S.Source.left l.fn.source)) (unread l.self (g.S.Source.left l.source));
  number : l.self.number ≡ l.fn.self.number;
  counts : Counts (g.S.Source.left l.fn.source) (g.S.Source.left l.source) l.fn.self.taken l.self.taken;
  no_fault : g.S.Source.faults l.source ≡ g.S.Source.faults l.fn.source;
}

abbrev pub decreases-loop-self : goal.decreases-loop-self
decreases-loop-self g l = ROOM - length l.self.left
