use Rattle.yds_model.proofs.Common.{sym, ◌∙◌}
use Rattle.yds_text.proofs.PlainField.{plain_number}
use Rattle.yds_text.proofs.plain.first_number.Goals as goal

pub returns-then-ends_field-clause-says : goal.returns-then-ends_field-clause-says
returns-then-ends_field-clause-says c =
    plain_number c.args.most c.in_ok-number.number _ c.in_ok-after_byte.field-0.now _ c.in_ok-after_byte.ensures c.in_ok-number.ensures.says (sym c.ends_field.ensures ∙ c.if-ends_field.true)
