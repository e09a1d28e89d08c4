use Rattle.yds_model.proofs.Common.{◌*◌, ◌≤◌, List, map, ◌++◌, ap, sym, arith, refl, mul-le-mul, mul-le-mul_right, Piece}
use Rattle.base.specs.declared.limits.TheConstants.{MAX_TIME}
use Rattle.yds_contract.specs.Removed.{removed_at, stretch_of, removed_stretches}
use Rattle.yds_contract.specs.Clipped.{pieces_after}
use Rattle.yds_contract.specs.Spread.{piece_in_parts}
use Rattle.yds_contract.proofs.Cells.{no_piece}
use Rattle.yds_contract.proofs.RemovedStretches.{count, stretch_at, removed_forward, ends_fit, next_fits, walked_more, walked_pieces}
use Rattle.yds_contract.proofs.Scaled.{parts_at, parts_count, parts_fit}
use Rattle.yds_contract.proofs.spreading.spans_between.Goals as goal

pub loop-stretch-init : goal.loop-stretch-init
loop-stretch-init c = record {
  are = ap (λ (ps : List Piece). ps ++ pieces_after c.args.start c.args.end 0 0 (map (piece_in_parts c.args.parts) (removed_stretches c.args.removed.now))) c.new-spans.ensures.items;
  sums = refl;
  fits = omega (arith, parts_fit c.args.removed.now c.args.parts c.args.end c.requires.removed c.requires.within);
}

pub overflow_mul-ends : goal.overflow_mul-ends
overflow_mul-ends c =
    let removed = c.args.removed.now in
    let i = c.loop-stretch.stretch-index in
    let ends : c.from-in-loop-stretch.result ≤ MAX_TIME = omega (
      arith,
      c.from-in-loop-stretch.ensures,
      ends_fit removed c.requires.removed i no_piece (omega (arith, count removed)),
      ap (λ (p : Piece). p.to) (stretch_at removed i c.loop-stretch-test.true),
    ) in
    omega (arith, mul-le-mul ends c.requires.few)

pub overflow_sub-before : goal.overflow_sub-before
overflow_sub-before c =
    let forward : c.from.result ≤ c.from-in-loop-stretch.result =
    omega (arith, c.from.ensures, c.from-in-loop-stretch.ensures, removed_forward c.args.removed.now c.loop-stretch.stretch-index c.requires.removed c.loop-stretch-test.true) in
    mul-le-mul_right c.args.parts forward

pub overflow_add-before : goal.overflow_add-before
overflow_add-before c =
    let removed = c.args.removed.now in
    let i = c.loop-stretch.stretch-index in
    let next = next_fits (map (piece_in_parts c.args.parts) (removed_stretches removed)) i c.loop-stretch.before (piece_in_parts c.args.parts (stretch_of (removed_at removed i)))
    (omega (arith, parts_count c.args.parts removed)) (sym (parts_at c.args.parts removed i c.loop-stretch-test.true)) c.loop-stretch.invariant.sums in
    rw (c.from.ensures, c.from-in-loop-stretch.ensures)
    (omega (arith, next, parts_fit removed c.args.parts c.args.end c.requires.removed c.requires.within, c.requires.few))

pub loop-stretch-preserved : goal.loop-stretch-preserved
loop-stretch-preserved c =
    let removed = c.args.removed.now in
    let i = c.loop-stretch.stretch-index in
    let adds = rw (c.max.ensures, c.min.ensures, c.from.ensures) at c.in_ok-add.ensures in
    rw (c.from.ensures, c.from-in-loop-stretch.ensures)
    (walked_more (MAX_TIME * c.args.parts) c.args.start c.args.end (map (piece_in_parts c.args.parts) (removed_stretches removed)) i c.loop-stretch.from c.loop-stretch.before
    c.loop-stretch.spans.items c.add.new.spans.items (piece_in_parts c.args.parts (stretch_of (removed_at removed i)))
    (omega (arith, parts_count c.args.parts removed)) (sym (parts_at c.args.parts removed i c.loop-stretch-test.true))
    adds
    (parts_fit removed c.args.parts c.args.end c.requires.removed c.requires.within)
    c.loop-stretch.invariant)

pub returns : goal.returns
returns c =
    let removed = c.args.removed.now in
    let adds = rw (c.max-2.ensures) at c.in_ok-add-2.ensures in
    walked_pieces (MAX_TIME * c.args.parts) c.args.start c.args.end (map (piece_in_parts c.args.parts) (removed_stretches removed)) c.loop-stretch.stretch-index c.loop-stretch.from c.loop-stretch.before
    c.loop-stretch.spans.items c.add-2.new.spans.items (omega (arith, parts_count c.args.parts removed, c.loop-stretch-test.false)) adds c.loop-stretch.invariant
