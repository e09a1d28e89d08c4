use Rattle.yds_model.proofs.Common.{◌∙◌, ap, arith, list_all, is_digit}
use Rattle.yds_text.proofs.Digits.{front_digits}
use Rattle.yds_text.proofs.plain.number_front.Goals as goal

pub may_be_number-requires : goal.may_be_number-requires
may_be_number-requires c =
    ap (list_all is_digit) c.split_at.ensures.front
    ∙ front_digits c.args.bytes.now c.min.result c.few_digits-number.result.1 (omega (arith, c.min.ensures)) c.few_digits-number.ensures.within c.few_digits-number.ensures.count
