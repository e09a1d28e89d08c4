use Rattle.yds_kernel_text.proofs.Given.{counts_on}
use Rattle.yds_kernel_order.proofs.Steps.{reads_more}
use Rattle.yds_kernel_order.proofs.reader.OrderedReader.read_on.Goals as goal

pub loop-self-preserved : goal.loop-self-preserved
loop-self-preserved g c = record {
  reads = reads_more c.args.self.now c.loop-self.self c.take.new.self (g.S.Source.left c.args.source.now) (g.S.Source.left c.loop-self.source) (g.S.Source.left c.take.new.source)
      (g.S.Source.faults c.args.source.now) (g.S.Source.faults c.loop-self.source) (g.S.Source.faults c.take.new.source) c.loop-self.invariant.reads c.in_ok-take.ensures.takes;
  counts = counts_on (g.S.Source.left c.args.source.now) (g.S.Source.left c.loop-self.source) (g.S.Source.left c.take.new.source)
      c.args.self.now.reader.taken c.loop-self.self.reader.taken c.take.new.self.reader.taken c.loop-self.invariant.counts c.in_ok-take.ensures.counts;
}
