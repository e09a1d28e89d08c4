use Rattle.base.specs.declared.limits.TheConstants.{MAX_SLOT_WORK}
use Rattle.yds_round.proofs.Pieces.{least_fits, piece_kept}
use Rattle.yds_round.proofs.cut.Cut.fast_slot.Goals as goal

pub work-requires-clause-in_range : goal.work-requires-clause-in_range
work-requires-clause-in_range c =
    let split = c.args.self.now.split in
    rw (c.min-after.ensures, c.min-before.ensures, c.parts.ensures.value, c.parts-2.ensures.value, c.turn.ensures.value, c.turn-2.ensures.value)
    (least_fits c.args.from.now.units c.args.to.now.units split.gap split.den MAX_SLOT_WORK _ c.requires.order c.requires.few)

pub invariant_of-result : goal.invariant_of-result
invariant_of-result c = piece_kept c.args.job _ _ c.work.result c.args.self.now.stretch _ _ _ c.requires.from.is_fast c.requires.to.is_fast
    c.requires.from.fast_in_range c.requires.to.fast_in_range c.work.ensures.kept c.work.ensures.in_range
