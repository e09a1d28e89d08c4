use Rattle.yds_model.proofs.Common.{arith, take_all, get_or_read, All-more, no_level, IsLevel}
use Rattle.yds_certificate.proofs.certificate.read_levels.Goals as goal

pub loop-level-preserved : goal.loop-level-preserved
loop-level-preserved c = All-more IsLevel c.args.levels.now c.loop-level.level-index no_level c.loop-level-test.true c.loop-level.invariant
    (rw (← get_or_read c.args.levels.now c.loop-level.level-index c.level-item.result c.loop-level-test.true c.level-item.is no_level, ← c.level.view_is)
    c.level.invariant)

pub returns : goal.returns
returns c = rw (take_all c.loop-level.level-index c.args.levels.now (omega (arith, c.loop-level-test.false))) at c.loop-level.invariant
