use Rattle.yds_model.proofs.Common.{length, arith}
use Rattle.yds_checker.proofs.Nodes.{leaf_pushed}
use Rattle.yds_checker.proofs.heights.leaves.Goals as goal

pub loop-i-preserved : goal.loop-i-preserved
loop-i-preserved c = (
  omega (arith, c.in_ok-push.ensures.len, c.loop-i.invariant.0),
  rw c.in_ok-push.ensures.items
      (leaf_pushed c.args.placed.now c.loop-i.nodes.items (length c.args.placed.now) c.loop-i.i c.height.result c.loop-i.invariant.0 c.height.ensures
      c.loop-i.invariant.1),
)

pub returns-clause-leaf : goal.returns-clause-leaf
returns-clause-leaf c = λ j within. c.loop-i.invariant.1 j (omega (arith, within, c.loop-i-test.false))
