use Rattle.yds_model.proofs.Common.{◌≡◌, ◌<◌, length, ap, sym, arith, Piece}
use Rattle.yds_contract.specs.Removed.{removed_at, stretch_of, removed_stretches}
use Rattle.yds_contract.proofs.RemovedStretches.{count, stretch_at, removed_forward, ends_fit}
use Rattle.yds_contract.proofs.Cells.{piece_at, no_piece}
use Rattle.yds_contract.proofs.Joining.{fits_of, changed_forward, changed_fits, end_reached, joining_before, joining_inside, joining_after, joining_all, joined_kept, joined_changes}
use Rattle.yds_contract.proofs.removing.with_removed.Goals as goal
use Rattle.yds_contract.proofs.removing.with_removed.Goals.{then-stretch-from+in_ok-append, else-stretch-from+then-stretch-to, else-stretch-from+else-stretch-to+in_ok-append-2}

pub overflow_sub-length : goal.overflow_sub-length
overflow_sub-length c = omega (arith, removed_forward c.args.removed.now c.loop-stretch.stretch-index c.requires.removed c.loop-stretch-test.true)

pub append-requires-clause-forward : goal.append-requires-clause-forward
append-requires-clause-forward c =
    changed_forward c.args.start c.args.end (removed_stretches c.args.removed.now) c.loop-stretch.stretch-index c.loop-stretch.from c.loop-stretch.to c.loop-stretch.changed.items
    (fits_of c.args.removed.now c.args.start c.args.end c.requires.removed c.requires.forward c.requires.within) c.loop-stretch.invariant

pub append-requires-clause-fits : goal.append-requires-clause-fits
append-requires-clause-fits c =
    changed_fits c.args.start c.args.end (removed_stretches c.args.removed.now) c.loop-stretch.stretch-index c.loop-stretch.from c.loop-stretch.to c.loop-stretch.changed.items
    (fits_of c.args.removed.now c.args.start c.args.end c.requires.removed c.requires.forward c.requires.within) c.loop-stretch.invariant

pub append-requires-else-stretch-to-clause-forward : goal.append-requires-else-stretch-to-clause-forward
append-requires-else-stretch-to-clause-forward c =
    changed_forward c.args.start c.args.end (removed_stretches c.args.removed.now) c.loop-stretch.stretch-index c.loop-stretch.from c.loop-stretch.to c.loop-stretch.changed.items
    (fits_of c.args.removed.now c.args.start c.args.end c.requires.removed c.requires.forward c.requires.within) c.loop-stretch.invariant

pub append-requires-else-stretch-to-clause-fits : goal.append-requires-else-stretch-to-clause-fits
append-requires-else-stretch-to-clause-fits c =
    changed_fits c.args.start c.args.end (removed_stretches c.args.removed.now) c.loop-stretch.stretch-index c.loop-stretch.from c.loop-stretch.to c.loop-stretch.changed.items
    (fits_of c.args.removed.now c.args.start c.args.end c.requires.removed c.requires.forward c.requires.within) c.loop-stretch.invariant

pub append-requires-2-clause-forward : goal.append-requires-2-clause-forward
append-requires-2-clause-forward c =
    changed_forward c.args.start c.args.end (removed_stretches c.args.removed.now) c.loop-stretch.stretch-index c.loop-stretch.from c.loop-stretch.to c.loop-stretch.changed.items
    (fits_of c.args.removed.now c.args.start c.args.end c.requires.removed c.requires.forward c.requires.within) c.loop-stretch.invariant

pub append-requires-2-clause-fits : goal.append-requires-2-clause-fits
append-requires-2-clause-fits c =
    changed_fits c.args.start c.args.end (removed_stretches c.args.removed.now) c.loop-stretch.stretch-index c.loop-stretch.from c.loop-stretch.to c.loop-stretch.changed.items
    (fits_of c.args.removed.now c.args.start c.args.end c.requires.removed c.requires.forward c.requires.within) c.loop-stretch.invariant

pub overflow_add-to : goal.overflow_add-to
overflow_add-to c =
    let removed = c.args.removed.now in
    let i = c.loop-stretch.stretch-index in
    omega (
      arith,
      end_reached c.args.start c.args.end (removed_stretches removed) i c.loop-stretch.from c.loop-stretch.to c.loop-stretch.changed.items
          (fits_of removed c.args.start c.args.end c.requires.removed c.requires.forward c.requires.within) c.loop-stretch.invariant,
      ends_fit removed c.requires.removed i no_piece (omega (arith, count removed)),
      ap (λ (p : Piece). p.to) (stretch_at removed i c.loop-stretch-test.true),
      c.loop-stretch.invariant.forward,
    )

pub overflow_add-to-then-stretch-to : goal.overflow_add-to-then-stretch-to
overflow_add-to-then-stretch-to c =
    let removed = c.args.removed.now in
    let i = c.loop-stretch.stretch-index in
    omega (
      arith,
      end_reached c.args.start c.args.end (removed_stretches removed) i c.loop-stretch.from c.loop-stretch.to c.loop-stretch.changed.items
          (fits_of removed c.args.start c.args.end c.requires.removed c.requires.forward c.requires.within) c.loop-stretch.invariant,
      ends_fit removed c.requires.removed i no_piece (omega (arith, count removed)),
      ap (λ (p : Piece). p.to) (stretch_at removed i c.loop-stretch-test.true),
      c.loop-stretch.invariant.forward,
    )

pub overflow_add-from : goal.overflow_add-from
overflow_add-from c =
    let removed = c.args.removed.now in
    let i = c.loop-stretch.stretch-index in
    omega (
      arith,
      end_reached c.args.start c.args.end (removed_stretches removed) i c.loop-stretch.from c.loop-stretch.to c.loop-stretch.changed.items
          (fits_of removed c.args.start c.args.end c.requires.removed c.requires.forward c.requires.within) c.loop-stretch.invariant,
      ends_fit removed c.requires.removed i no_piece (omega (arith, count removed)),
      ap (λ (p : Piece). p.to) (stretch_at removed i c.loop-stretch-test.true),
      c.loop-stretch.invariant.forward,
    )

pub loop-stretch-preserved : goal.loop-stretch-preserved
loop-stretch-preserved c =
    let removed = c.args.removed.now in
    let i = c.loop-stretch.stretch-index in
    let within : i < length (removed_stretches removed) = omega (arith, count removed) in
    let here : stretch_of (removed_at removed i) ≡ piece_at (removed_stretches removed) i = sym (stretch_at removed i c.loop-stretch-test.true) in
    elim c.if-stretch-from.branch [
      | then-stretch-from+in_ok-append w ↦ rw (w.changed-is, w.from-is, w.to-is)
          (joining_before c.args.start c.args.end (removed_stretches removed) i c.loop-stretch.from c.loop-stretch.to c.loop-stretch.changed.items _ (stretch_of (removed_at removed i)) within here
          w.if-stretch-from.true w.in_ok-append.ensures c.loop-stretch.invariant)
      | else-stretch-from+then-stretch-to w ↦ rw (w.changed-is, w.from-is, w.to-is)
          (joining_inside c.args.start c.args.end (removed_stretches removed) i c.loop-stretch.from c.loop-stretch.to c.loop-stretch.changed.items (stretch_of (removed_at removed i)) within here
          w.if-stretch-from.false w.if-stretch-to.true c.loop-stretch.invariant)
      | else-stretch-from+else-stretch-to+in_ok-append-2 w ↦ rw (w.changed-is, w.from-is, w.to-is)
          (joining_after c.args.start c.args.end (removed_stretches removed) i c.loop-stretch.from c.loop-stretch.to c.loop-stretch.changed.items _ (stretch_of (removed_at removed i)) within here
          (removed_forward removed i c.requires.removed c.loop-stretch-test.true) w.if-stretch-from.false w.if-stretch-to.false w.in_ok-append-2.ensures c.loop-stretch.invariant)
    ]

pub returns-clause-removes : goal.returns-clause-removes
returns-clause-removes c =
    joined_changes c.args.start c.args.end (removed_stretches c.args.removed.now) c.append-2.new.removed.items
    (fits_of c.args.removed.now c.args.start c.args.end c.requires.removed c.requires.forward c.requires.within)
    (joining_all c.args.start c.args.end (removed_stretches c.args.removed.now) c.loop-stretch.stretch-index c.loop-stretch.from c.loop-stretch.to c.loop-stretch.changed.items
    c.append-2.new.removed.items (omega (arith, count c.args.removed.now, c.loop-stretch-test.false)) c.in_ok-append-3.ensures c.loop-stretch.invariant)

pub returns-clause-kept : goal.returns-clause-kept
returns-clause-kept c =
    joined_kept c.args.start c.args.end (removed_stretches c.args.removed.now) c.append-2.new.removed.items
    (fits_of c.args.removed.now c.args.start c.args.end c.requires.removed c.requires.forward c.requires.within)
    c.in_ok-append-3.ensures.summed
    (joining_all c.args.start c.args.end (removed_stretches c.args.removed.now) c.loop-stretch.stretch-index c.loop-stretch.from c.loop-stretch.to c.loop-stretch.changed.items
    c.append-2.new.removed.items (omega (arith, count c.args.removed.now, c.loop-stretch-test.false)) c.in_ok-append-3.ensures c.loop-stretch.invariant)
