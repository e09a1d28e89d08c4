use Rattle.yds_kernel_order.proofs.Steps.{advances_given, advances_stopped}
use Rattle.yds_kernel_order.proofs.reader.OrderedReader.advance.Goals as goal

pub returns-in-Ok-clause-advances : goal.returns-in-Ok-clause-advances
returns-in-Ok-clause-advances g c =
    advances_given c.give.result c.args.self.now c.read_on.new.self c.give.new.self (g.S.Source.left c.args.source.now) (g.S.Source.left c.read_on.new.source)
    (g.S.Source.faults c.args.source.now) (g.S.Source.faults c.read_on.new.source) c.in-Ok.ensures.reads c.give.ensures

pub returns-in-Err-clause-advances : goal.returns-in-Err-clause-advances
returns-in-Err-clause-advances g c = advances_stopped _ _ _ _ _ _ _ c.in-Err.ensures.reads
