use Rattle.yds_model.proofs.Common.{◌≡◌, false, refl, arith, is_number}
use Rattle.yds_text.proofs.Digits.{number_ends}
use Rattle.yds_text.proofs.spelling.number_of.Goals as goal

pub returns-then-len-text-clause-value : goal.returns-then-len-text-clause-value
returns-then-len-text-clause-value c =
    let other : is_number c.args.text.now ≡ false = number_ends c.args.text.now c.leading_number-value.result.1 c.leading_number-value.ensures.count (omega arith) in
    rw other refl
