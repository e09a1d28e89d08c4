use Rattle.yds_model.proofs.Common.{sym, ◌∙◌, arith}
use Rattle.yds_text.proofs.PlainField.{plain_whole, plain_mixed}
use Rattle.yds_text.proofs.plain.first_fraction.Goals as goal

pub returns-then-ends_field-clause-says : goal.returns-then-ends_field-clause-says
returns-then-ends_field-clause-says c =
    plain_whole c.args.most c.in_ok-whole.whole _ c.in_ok-after_byte.field-0.now _ c.in_ok-after_byte.ensures c.in_ok-whole.ensures.says (sym c.ends_field.ensures ∙ c.if-ends_field.true)

pub returns-then-ends_field-2-clause-says : goal.returns-then-ends_field-2-clause-says
returns-then-ends_field-2-clause-says c =
    plain_mixed c.args.most c.in_ok-whole.whole c.in_ok-num.num c.in_ok-den.den _ c.in_ok-after_byte.field-0.now _ c.in_ok-after_byte-2.field-0.now _ c.in_ok-after_byte-3.field-0.now _
    c.in_ok-after_byte.ensures c.in_ok-whole.ensures.says c.in_ok-after_byte-2.ensures c.in_ok-num.ensures.says c.in_ok-after_byte-3.ensures c.in_ok-den.ensures.says
    (omega arith) (sym c.ends_field-2.ensures ∙ c.if-ends_field-2.true)
