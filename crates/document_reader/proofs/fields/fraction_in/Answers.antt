use Rattle.yds_model.proofs.Common.{sym}
use Rattle.base.specs.declared.limits.TheConstants.{MAX_WHOLE}
use Rattle.yds_fraction.proofs.WithinLimits.{IsFraction-within}
use Rattle.document_reader.proofs.FractionField.{fraction_within}
use Rattle.document_reader.proofs.fields.fraction_in.Goals as goal

pub returns-in-Ok-clause-within : goal.returns-in-Ok-clause-within
returns-in-Ok-clause-within c =
    IsFraction-within MAX_WHOLE c.args.most _ c.den-den.ensures.kept.fraction (fraction_within c.args.most c.args.field.text.now _ (sym c.in-Ok.ensures))
