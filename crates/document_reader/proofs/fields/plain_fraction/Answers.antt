use Rattle.base.specs.declared.limits.TheConstants.{MAX_WHOLE}
use Rattle.yds_fraction.proofs.WithinLimits.{IsFraction-within}
use Rattle.document_reader.proofs.FractionField.{fraction_within}
use Rattle.document_reader.proofs.fields.plain_fraction.Goals as goal

pub returns-clause-within : goal.returns-clause-within
returns-clause-within c =
    IsFraction-within MAX_WHOLE c.args.most _ c.den-den.ensures.kept.fraction (fraction_within c.args.most c.in_ok-value.ensures.field.text _ c.in_ok-value.ensures.says)
