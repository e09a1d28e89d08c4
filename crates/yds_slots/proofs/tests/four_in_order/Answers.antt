use Rattle.yds_model.proofs.Common.{◌≡◌, ℕ, ◌*◌, ◌/◌, List, [], ◌∷◌, refl, arith, div-mul_cancel, WrittenSlot, no_written_slot, of_whole, of_parts}
use Rattle.yds_slots.specs.Between.{RunInOrder}
use Rattle.yds_slots.proofs.tests.four_in_order.Goals as goal

-- a slot whose ends are told in halves
abbrev slot_in_halves : ℕ → ℕ → ℕ → WrittenSlot
slot_in_halves job from to = record { job = job; from = of_parts from 2; to = of_parts to 2; work = of_whole 1 }

abbrev four : List WrittenSlot
four = slot_in_halves 0 1 2 ∷ slot_in_halves 1 2 3 ∷ slot_in_halves 2 3 6 ∷ slot_in_halves 3 6 7 ∷ []

-- a scale is positive and even, so its half is neither nothing nor all of it
run_in_order : RunInOrder four
run_in_order scale is =
    let positive = is.positive in
    let even : scale / 2 * 2 ≡ scale = div-mul_cancel 2 (is.divided 0 no_written_slot (omega arith)).from in
    (omega arith, omega arith, (omega arith, omega arith, (omega arith, omega arith, (omega arith, omega arith, tt))))

pub returns : goal.returns
returns c =
    let is : c.push-4.new.self.slots ≡ four =
    rw (
      c.in_ok-push-4.ensures.ok,
      c.in_halves-4.ensures,
      c.in_ok-push-3.ensures.ok,
      c.in_halves-3.ensures,
      c.in_ok-push-2.ensures.ok,
      c.in_halves-2.ensures,
      c.in_ok-push.ensures.ok,
      c.in_halves.ensures,
      c.in_ok-schedule.ensures,
    ) refl in
    rw is run_in_order
