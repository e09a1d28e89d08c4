use Rattle.yds_model.proofs.Common.{arith, sym}
use Rattle.yds_admit.proofs.Between.{none_released}
use Rattle.yds_admit.proofs.interval.released_before.Goals as goal

pub loop-number-init : goal.loop-number-init
loop-number-init c = record {
  sum = sym (none_released c.args.by_deadline.now c.args.from c.min-number.result (omega (arith, c.min-number.ensures, c.requires.within)) c.requires.are
      (λ k less. c.due_before.ensures.before k (omega (arith, less, c.min-number.ensures))));
  few = omega arith;
}
