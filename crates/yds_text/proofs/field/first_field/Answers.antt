use Rattle.yds_model.proofs.Common.{◌∙◌, [], ap, drop, arith, drop_all}
use Rattle.yds_text.proofs.FirstField.{fields_from-parts, rest-none, fields_from-none}
use Rattle.yds_text.proofs.field.first_field.Goals as goal

pub returns-clause-first : goal.returns-clause-first
returns-clause-first c some column =
    fields_from-parts column _ c.args.bytes.now c.split_at.result.1.now c.split_at-2.result.0.now c.split_at-2.result.1.now
    (c.split_at.ensures.front_len ∙ c.blank_len.ensures.value) (cc) (cc) (cc) (cc) some

pub returns-clause-none : goal.returns-clause-none
returns-clause-none c none column =
    fields_from-none column c.args.bytes.now c.split_at.result.1.now (cc) (cc)

pub returns-clause-end : goal.returns-clause-end
returns-clause-end c none =
    c.split_at-2.ensures.back ∙ ap (drop c.field_len.result) (rest-none c.args.bytes.now c.split_at.result.1.now (cc) (cc)) ∙ drop_all c.field_len.result [] (omega arith)
