use Rattle.base.specs.declared.limits.TheConstants.{MAX_SLOT_WORK}
use Rattle.yds_round.proofs.Pieces.{greatest_fits, piece_kept}
use Rattle.yds_round.proofs.cut.Cut.slow_slot.Goals as goal

pub work-requires-clause-in_range : goal.work-requires-clause-in_range
work-requires-clause-in_range c =
    let split = c.args.self.now.split in
    rw (c.max-after.ensures, c.max-before.ensures, c.parts.ensures.value, c.parts-2.ensures.value, c.turn.ensures.value, c.turn-2.ensures.value)
    (greatest_fits c.args.from.now.units c.args.to.now.units split.gap split.den MAX_SLOT_WORK _ c.requires.order c.requires.few)

pub invariant_of-result : goal.invariant_of-result
invariant_of-result c = piece_kept c.args.job _ _ c.work.result c.args.self.now.stretch _ _ _ c.requires.from.is_slow c.requires.to.is_slow
    c.requires.from.slow_in_range c.requires.to.slow_in_range c.work.ensures.kept c.work.ensures.in_range
