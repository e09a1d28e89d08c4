use Rattle.yds_model.proofs.Common.{◌*◌, arith, div-le_of_le-mul}
use Rattle.yds_round.proofs.cut.Cut.work.Goals as goal

pub returns-clause-in_range : goal.returns-clause-in_range
returns-clause-in_range c =
    let split = c.args.self.now.split in
    omega (arith, c.of_parts.ensures.whole, div-le_of_le-mul (split.den * split.gap) c.requires.in_range)
