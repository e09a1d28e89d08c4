use Rattle.yds_model.proofs.Common.{◌≡◌, ◌+◌, ◌∙◌, Err, take, get_or, sym, ap, subst, arith, ne_eqb, take_all, err_from_is_err_and, number_at}
use Rattle.yds_text.specs.FractionParts.{fraction_after}
use Rattle.yds_text.proofs.Fractions.{whole_rest, plus_fraction, other_fraction, whole_fault}
use Rattle.yds_text.proofs.fraction.mixed.Goals as goal

pub returns-in_err-whole : goal.returns-in_err-whole
returns-in_err-whole c =
    let p = err_from_is_err_and c.from_residual.result c.from_residual.ensures.1 in
    let all : take c.leading_number-whole.result.1 c.args.field.text.now ≡ c.args.field.text.now = take_all c.leading_number-whole.result.1 c.args.field.text.now (omega arith) in
    let says : number_at 0 c.args.most (take c.leading_number-whole.result.1 c.args.field.text.now) ≡ Err c.in_err-whole.field-0.0 = sym c.leading_number-whole.ensures.value ∙ c.in_err-whole.was in
    rw (p.1, p.2)
    (sym (whole_fault c.args.most c.args.field.text.now c.leading_number-whole.result.1 c.in_err-whole.field-0.0 c.leading_number-whole.ensures.count (omega arith)
    (subst (λ part. number_at 0 c.args.most part ≡ Err c.in_err-whole.field-0.0) all says)))

pub returns-then-text-len-ne43 : goal.returns-then-text-len-ne43
returns-then-text-len-ne43 c =
    sym (other_fraction c.args.most c.args.field.text.now c.leading_number-whole.result.1 (omega arith) c.leading_number-whole.ensures.count
    (ne_eqb (get_or c.args.field.text.now c.leading_number-whole.result.1 0) 43 c.if-text-len-ne43.true))

pub returns : goal.returns
returns c =
    c.fraction_after.ensures c.args.most (take c.leading_number-whole.result.1 c.args.field.text.now) c.leading_number-whole.ensures.value
    ∙ ap (fraction_after c.args.most (take c.leading_number-whole.result.1 c.args.field.text.now)) (whole_rest c.args.field.text.now (c.leading_number-whole.result.1 + 1))
    ∙ sym (plus_fraction c.args.most c.args.field.text.now c.leading_number-whole.result.1 (omega arith) c.leading_number-whole.ensures.count c.if-text-len-ne43.false)
