use Rattle.yds_model.proofs.Common.{is_digit}
use Rattle.yds_text.proofs.Digits.{front_all}
use Rattle.yds_text.proofs.spelling.leading_number.Goals as goal

pub may_be_number-requires : goal.may_be_number-requires
may_be_number-requires c = front_all is_digit c.args.text.now c.leading_digits-value.result.1 c.leading_digits-value.ensures.within c.leading_digits-value.ensures.count
