use Rattle.base.proofs.Common.{ℕ, ◌+◌, ◌-◌, sym, ◌∙◌, arith}
use Rattle.yds_kernel_order.proofs.Passing.{slot_read, passes_here, passes_too_many, passes_too_far, passes_on}
use Rattle.yds_kernel_order.proofs.ring.passed.Goals as goal
use Rattle.yds_kernel_order.proofs.ring.passed.Goals.{then-count-eq-MAX_PASSED-via-then-count-eq-MAX_PASSED, then-count-eq-MAX_PASSED-via-else-count-eq-MAX_PASSED+then-is_far_behind}

pub returns-then-stands_before : goal.returns-then-stands_before
returns-then-stands_before c =
    let slots = c.args.slots.now in
    let count : ℕ = c.loop-count.count in
    let line = c.index-slots-wrapped.result in
    let here = slot_read slots c.wrapped.result (c.args.first + (c.args.held - 1 - count)) line c.index-slots-wrapped.is c.wrapped.ensures
    (omega (arith, c.requires.first, c.requires.held)) c.requires.slots in
    sym (passes_here slots c.args.first c.args.held c.args.time count line c.loop-count-test.true here (sym c.stands_before.ensures ∙ c.if-stands_before.true) c.loop-count.invariant.1)

pub returns-then-count-eq-MAX_PASSED : goal.returns-then-count-eq-MAX_PASSED
returns-then-count-eq-MAX_PASSED c =
    let slots = c.args.slots.now in
    let count : ℕ = c.loop-count.count in
    let line = c.index-slots-wrapped.result in
    let here = slot_read slots c.wrapped.result (c.args.first + (c.args.held - 1 - count)) line c.index-slots-wrapped.is c.wrapped.ensures
    (omega (arith, c.requires.first, c.requires.held)) c.requires.slots in
    let stands = sym c.stands_before.ensures ∙ c.if-stands_before.false in
    elim c.then-count-eq-MAX_PASSED.branch [
      | then-count-eq-MAX_PASSED-via-then-count-eq-MAX_PASSED w ↦
          sym (passes_too_many slots c.args.first c.args.held c.args.time count line c.loop-count-test.true here stands w.if-count-eq-MAX_PASSED.true c.loop-count.invariant.1)
      | then-count-eq-MAX_PASSED-via-else-count-eq-MAX_PASSED+then-is_far_behind w ↦
          sym (passes_too_far slots c.args.first c.args.held c.args.time count line c.loop-count-test.true here stands (sym w.is_far_behind.ensures ∙ w.if-is_far_behind.true)
          c.loop-count.invariant.1)
    ]

pub loop-count-preserved : goal.loop-count-preserved
loop-count-preserved c =
    let slots = c.args.slots.now in
    let count : ℕ = c.loop-count.count in
    let line = c.index-slots-wrapped.result in
    let here = slot_read slots c.wrapped.result (c.args.first + (c.args.held - 1 - count)) line c.index-slots-wrapped.is c.wrapped.ensures
    (omega (arith, c.requires.first, c.requires.held)) c.requires.slots in (
      omega (arith, c.if-count-eq-MAX_PASSED.false, c.loop-count.invariant.0),
      passes_on slots c.args.first c.args.held c.args.time count line c.loop-count-test.true here (sym c.stands_before.ensures ∙ c.if-stands_before.false)
          (sym c.is_far_behind.ensures ∙ c.if-is_far_behind.false) (omega (arith, c.if-count-eq-MAX_PASSED.false, c.loop-count.invariant.0)) c.loop-count.invariant.1,
    )
