use Rattle.yds_model.proofs.Common.{◌≡◌, ◌∙◌, ◌+◌, ◌++◌, take, drop, length, arith, take_at}
use Rattle.yds_checker.proofs.heights.heights.Goals as goal

pub returns : goal.returns
returns c =
    let placed = c.args.placed.now in
    let raised = c.raise.new.nodes in
    let back : take c.in_ok-nodes.nodes.len (raised ++ drop (length raised) c.in_ok-nodes.nodes.items) ≡ raised =
    take_at _ _ _ (c.raise.auto.nodes ∙ c.deref_mut.ensures.len) in
    rw back (record {
      raised = c.raise.ensures.raised;
      leaf = λ i within.
          let kept = rw c.deref_mut.ensures.value at (c.raise.ensures.kept (length placed + i) (omega arith)) in
          rw kept (c.in_ok-nodes.ensures.leaf i within);
    })
