use Rattle.yds_model.proofs.Common.{arith}
use Rattle.base.specs.declared.limits.TheConstants.{MAX_TIME, MAX_SLOT_WORK, MAX_WHOLE}
use Rattle.yds_fraction.proofs.WithinLimits.{IsFraction-within}
use Rattle.document_reader.proofs.RunParts.{parts_alike, tick_within}
use Rattle.document_reader.proofs.run.slot_of_run.Goals as goal

pub invariant_of-result : goal.invariant_of-result
invariant_of-result c = record {
  from = IsFraction-within MAX_WHOLE MAX_TIME _ c.of_parts.ensures.kept.fraction (tick_within _ _ _ c.of_parts.ensures.whole (grind (arith, c.requires.begins)));
  to = IsFraction-within MAX_WHOLE MAX_TIME _ c.of_parts-2.ensures.kept.fraction (tick_within _ _ _ c.of_parts-2.ensures.whole (grind (arith, c.requires.ends)));
  work = IsFraction-within MAX_WHOLE MAX_SLOT_WORK _ c.of_parts-work.ensures.kept.fraction (grind (arith, c.of_parts-work.ensures.whole, c.if-parts-from.false));
  ends_alike = parts_alike _ _ _ _ _ c.of_parts.ensures.value c.of_parts-2.ensures.value;
}
