use Rattle.yds_model.proofs.Common.{◌≢◌, ◌-◌, arith, get_or-set_other}
use Rattle.yds_checker.proofs.Nodes.{raised_more}
use Rattle.yds_checker.proofs.heights.raise.Goals as goal

pub loop-k-preserved : goal.loop-k-preserved
loop-k-preserved c =
    let k = c.loop-k.k - 1 in
    let high = c.max.result in (
      λ j past.
          let other : j ≢ k = omega (arith, past, c.loop-k.auto.k, c.loop-k-test.true) in
          rw (get_or-set_other c.loop-k.nodes k j high 0 other) (c.loop-k.invariant.0 j past),
      raised_more c.loop-k.nodes c.args.leaves k high (omega (arith, c.loop-k.auto.nodes, c.requires)) (omega (arith, c.loop-k-test.true))
          (omega (arith, c.loop-k.auto.k, c.loop-k-test.true)) c.max.ensures
          (λ j from. c.loop-k.invariant.1 j (omega (arith, from, c.loop-k-test.true))),
    )
