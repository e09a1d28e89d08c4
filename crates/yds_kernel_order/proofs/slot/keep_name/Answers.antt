use Rattle.base.proofs.Common.{◌≤◌, length, arith}
use Rattle.yds_kernel_order.proofs.Names.{front_kept}
use Rattle.yds_kernel_order.proofs.slot.keep_name.Goals as goal
use Rattle.yds_kernel_order.proofs.slot.keep_name.Goals.{then-len-name+in_ok-grow, else-len-name}

pub returns-clause-kept : goal.returns-clause-kept
returns-clause-kept c =
    let within : length c.args.name.now ≤ c.if-len-name.room.len = elim c.if-len-name.branch [
      | then-len-name+in_ok-grow w ↦ rw w.room-is w.in_ok-grow.ensures.grown
      | else-len-name w ↦ rw w.room-is (omega (arith, w.if-len-name.false, c.len.ensures))
    ] in
    front_kept c.if-len-name.room.len c.args.name.now c.copy_front.new.room _ c.copy_front.ensures.front
    (omega (arith, within, c.copy_front.ensures.len, c.deref_mut.ensures.len)) within
