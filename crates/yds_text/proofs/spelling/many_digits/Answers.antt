use Rattle.yds_model.proofs.Common.{◌≡◌, ◌+◌, ◌*◌, drop, take, get_or, true, arith, rules, digit_value, prefix_len, digits_value, common_steps, digits_value_more, prefix_len-drop_yes, is_digit}
use Rattle.yds_text.proofs.Spelled.{front_above}
use Rattle.yds_text.proofs.spelling.many_digits.Goals as goal

pub returns-in-None-clause-value : goal.returns-in-None-clause-value
returns-in-None-clause-value c =
    let digit : is_digit (get_or c.args.text.now c.loop-index.index 0) ≡ true = first_of (search rules, grind (arith, common_steps)) in
    let counted : prefix_len is_digit (drop c.loop-index.index c.args.text.now) ≡ 1 + prefix_len is_digit (drop (c.loop-index.index + 1) c.args.text.now) =
    prefix_len-drop_yes is_digit c.args.text.now c.loop-index.index 0 (omega arith) digit in
    let more : digits_value 10 (take (c.loop-index.index + 1) c.args.text.now) ≡ digits_value 10 (take c.loop-index.index c.args.text.now) * 10 + digit_value (get_or c.args.text.now c.loop-index.index 0) =
    digits_value_more 10 c.args.text.now c.loop-index.index (omega arith) in
    omega (arith, c.in-None.ensures, front_above c.args.text.now (c.loop-index.index + 1) c.digit_len.result (omega (arith, c.digit_len.ensures.value)) c.digit_len.ensures.within)

pub loop-index-preserved : goal.loop-index-preserved
loop-index-preserved c =
    let digit : is_digit (get_or c.args.text.now c.loop-index.index 0) ≡ true = first_of (search rules, grind (arith, common_steps)) in
    let counted : prefix_len is_digit (drop c.loop-index.index c.args.text.now) ≡ 1 + prefix_len is_digit (drop (c.loop-index.index + 1) c.args.text.now) =
    prefix_len-drop_yes is_digit c.args.text.now c.loop-index.index 0 (omega arith) digit in
    let more : digits_value 10 (take (c.loop-index.index + 1) c.args.text.now) ≡ digits_value 10 (take c.loop-index.index c.args.text.now) * 10 + digit_value (get_or c.args.text.now c.loop-index.index 0) =
    digits_value_more 10 c.args.text.now c.loop-index.index (omega arith) in
    record { count = omega arith; value = omega (arith, c.in-Some.ensures) }
