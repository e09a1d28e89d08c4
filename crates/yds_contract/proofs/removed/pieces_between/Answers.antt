use Rattle.yds_model.proofs.Common.{List, ◌++◌, ap, sym, arith, refl, Piece}
use Rattle.base.specs.declared.limits.TheConstants.{MAX_TIME}
use Rattle.yds_contract.specs.Removed.{removed_at, stretch_of, removed_stretches}
use Rattle.yds_contract.specs.Clipped.{pieces_after}
use Rattle.yds_contract.proofs.RemovedStretches.{count, stretch_at, removed_forward, end_fits, next_fits, walked_more, walked_all}
use Rattle.yds_contract.proofs.removed.pieces_between.Goals as goal

pub loop-stretch-init : goal.loop-stretch-init
loop-stretch-init c = record {
  are = ap (λ (ps : List Piece). ps ++ pieces_after c.args.start c.args.end 0 0 (removed_stretches c.args.removed.now)) c.new-pieces.ensures.items;
  sums = refl;
  fits = omega (arith, end_fits c.args.removed.now c.args.end c.requires.removed (omega (arith, c.requires.forward)) c.requires.within);
}

pub overflow_sub-before : goal.overflow_sub-before
overflow_sub-before c = omega (arith, removed_forward c.args.removed.now c.loop-stretch.stretch-index c.requires.removed c.loop-stretch-test.true)

pub overflow_add-before : goal.overflow_add-before
overflow_add-before c =
    let removed = c.args.removed.now in
    let i = c.loop-stretch.stretch-index in
    omega (
      arith,
      next_fits (removed_stretches removed) i c.loop-stretch.before (stretch_of (removed_at removed i)) (omega (arith, count removed)) (sym (stretch_at removed i c.loop-stretch-test.true)) c.loop-stretch.invariant.sums,
      end_fits removed c.args.end c.requires.removed (omega (arith, c.requires.forward)) c.requires.within,
    )

pub loop-stretch-preserved : goal.loop-stretch-preserved
loop-stretch-preserved c =
    let removed = c.args.removed.now in
    let i = c.loop-stretch.stretch-index in
    walked_more MAX_TIME c.args.start c.args.end (removed_stretches removed) i c.loop-stretch.from c.loop-stretch.before c.loop-stretch.pieces.items c.add.new.pieces.items
    (stretch_of (removed_at removed i)) (omega (arith, count removed)) (sym (stretch_at removed i c.loop-stretch-test.true))
    (rw (← c.max.ensures, ← c.min.ensures) c.in_ok-add.ensures)
    (end_fits removed c.args.end c.requires.removed (omega (arith, c.requires.forward)) c.requires.within)
    c.loop-stretch.invariant

pub returns : goal.returns
returns c =
    let removed = c.args.removed.now in
    walked_all MAX_TIME c.args.start c.args.end (removed_stretches removed) c.loop-stretch.stretch-index c.loop-stretch.from c.loop-stretch.before c.loop-stretch.pieces.items
    c.add-2.new.pieces.items (omega (arith, count removed, c.loop-stretch-test.false)) c.requires.removed.apart
    (rw (← c.max-2.ensures) c.in_ok-add-2.ensures)
    c.loop-stretch.invariant
