use Rattle.base.proofs.Common.{ℕ, ◌≡◌, ◌+◌, ◌-◌, ap, ◌∙◌, arith}
use Rattle.std.specs.List.{swap}
use Rattle.yds_kernel_order.specs.Ring.{wrapped}
use Rattle.yds_kernel_order.proofs.Moving.{moves_one}
use Rattle.yds_kernel_order.proofs.ring.move_down.Goals as goal

pub loop-moved-preserved : goal.loop-moved-preserved
loop-moved-preserved c =
    let slots = c.loop-moved.slots in
    let place : ℕ = c.args.first + c.args.held - c.loop-moved.moved in
    let swapped : c.swap.new.self ≡ swap slots (wrapped (place - 1)) (wrapped place) =
    c.swap.ensures.after ∙ ap (λ (n : ℕ). swap slots n c.wrapped-in-loop-moved.result) c.wrapped.ensures
    ∙ ap (swap slots (wrapped (place - 1))) c.wrapped-in-loop-moved.ensures in (
      c.swap.ensures.len ∙ c.loop-moved.invariant.0,
      moves_one c.args.slots.now slots c.swap.new.self c.args.first c.args.held c.loop-moved.moved place c.requires.first c.requires.held
          (omega (arith, c.requires.count, c.loop-moved-test.true)) (omega (arith, c.requires.count, c.loop-moved-test.true)) c.loop-moved.invariant.0 swapped c.loop-moved.invariant.1,
    )
