use Rattle.yds_kernel_text.specs.Advancing.{Counts}
use Rattle.yds_kernel_order.specs.Taking.{lines_left}
use Rattle.yds_kernel_order.proofs.Steps.{Reads}
use Rattle.yds_kernel_order.proofs.reader.OrderedReader.read_on.Given as goal

-- lines of the text were put into their places
abbrev pub invariant-loop-self : goal.invariant-loop-self
invariant-loop-self g l = record {
  reads : Reads l.fn.self l.self (g.S.Source.left l.fn.source) (g.S.Source.left l.source) (g.S.Source.faults l.fn.source) (g.S.Source.faults l.source);
  counts : Counts (g.S.Source.left l.fn.source) (g.S.Source.left l.source) l.fn.self.reader.taken l.self.reader.taken;
}

abbrev pub decreases-loop-self : goal.decreases-loop-self
decreases-loop-self g l = lines_left l.self
