use Rattle.yds_model.proofs.Common.{◌≡◌, ◌+◌, ◌-◌, ◌/◌, ◌∙◌, arith, refl, false≢true}
use Rattle.yds_checker.proofs.Nodes.{within_below, within_above, half_up}
use Rattle.yds_checker.proofs.heights.are_within.Goals as goal
use Rattle.yds_checker.proofs.heights.are_within.Goals.{then-bound-nodes-via-then-bound-nodes, then-bound-nodes-via-else-bound-nodes+then-bound-nodes-2}

pub returns-then-bound-nodes : goal.returns-then-bound-nodes
returns-then-bound-nodes c = λ leaves raised. (
  λ no. absurd (false≢true no),
  λ all.
      let inside = (c.loop-left.invariant.2 leaves raised).1 all in
      absurd (elim c.then-bound-nodes.branch [
        | then-bound-nodes-via-then-bound-nodes w ↦ omega (arith, w.if-bound-nodes.true, inside c.loop-left.left (omega arith) c.loop-left-test.true)
        | then-bound-nodes-via-else-bound-nodes+then-bound-nodes-2 w ↦
            omega (arith, w.if-bound-nodes-2.true, inside (c.loop-left.right - 1) (omega (arith, c.loop-left-test.true)) (omega (arith, c.loop-left-test.true)))
      ]),
)

pub loop-left-preserved : goal.loop-left-preserved
loop-left-preserved c =
    let half : c.div_ceil-left.result ≡ (c.loop-left.left + 1) / 2 = c.div_ceil-left.ensures ∙ half_up c.loop-left.left in
    let nodes = c.args.nodes.now in
    let left = c.loop-left.left in
    let right = c.loop-left.right in
    rw half (
      omega (arith, c.loop-left.invariant.0),
      omega (arith, c.loop-left.invariant.1),
      λ leaves raised.
          let before = c.loop-left.invariant.2 leaves raised in (
            λ above. before.0 (within_below nodes leaves left right c.args.bound raised c.loop-left.invariant.0 c.loop-left-test.true c.loop-left.invariant.1
                c.if-bound-nodes.false c.if-bound-nodes-2.false above),
            λ all. within_above nodes leaves left right c.args.bound raised c.loop-left.invariant.0 c.loop-left-test.true c.loop-left.invariant.1 (before.1 all),
          ),
    )

pub returns : goal.returns
returns c = λ leaves raised. (
  λ so. (c.loop-left.invariant.2 leaves raised).0 (λ k after before. absurd (omega (arith, after, before, c.loop-left-test.false))),
  λ all. refl,
)
