use Rattle.yds_model.proofs.Common.{length, ap, arith}
use Rattle.yds_edf.proofs.PlacedSums.{total_fits, block_fits, group_fits, set_read}
use Rattle.yds_edf.proofs.blocks.PlacedUnits.set.Goals as goal

pub overflow_sub-index : goal.overflow_sub-index
overflow_sub-index c = omega (arith, group_fits c.self.invariant c.args.place (omega (arith, c.requires.known, ap length c.self.view_is)) c.index-old.ensures c.index.ensures)

pub overflow_add-index : goal.overflow_add-index
overflow_add-index c = omega (arith, group_fits c.self.invariant c.args.place (omega (arith, c.requires.known, ap length c.self.view_is)) c.index-old.ensures c.index.ensures, c.requires.in_range)

pub overflow_sub-index-2 : goal.overflow_sub-index-2
overflow_sub-index-2 c = omega (arith, block_fits c.self.invariant c.args.place (omega (arith, c.requires.known, ap length c.self.view_is)) c.index-old.ensures c.index-2.ensures)

pub overflow_add-index-2 : goal.overflow_add-index-2
overflow_add-index-2 c = omega (arith, block_fits c.self.invariant c.args.place (omega (arith, c.requires.known, ap length c.self.view_is)) c.index-old.ensures c.index-2.ensures, c.requires.in_range)

pub overflow_sub-self : goal.overflow_sub-self
overflow_sub-self c = omega (arith, total_fits c.self.invariant c.args.place (omega (arith, c.requires.known, ap length c.self.view_is)) c.index-old.ensures)

pub overflow_add-self : goal.overflow_add-self
overflow_add-self c = omega (arith, total_fits c.self.invariant c.args.place (omega (arith, c.requires.known, ap length c.self.view_is)) c.index-old.ensures, c.requires.in_range)

pub invariant_of-self : goal.invariant_of-self
invariant_of-self c =
    set_read c.self.invariant c.args.place (omega (arith, c.requires.known, ap length c.self.view_is)) c.index-old.ensures c.index-2.ensures c.index.ensures
    c.args.units c.min-self-inside.result (omega (arith, c.requires.in_range)) c.min-self-inside.ensures
