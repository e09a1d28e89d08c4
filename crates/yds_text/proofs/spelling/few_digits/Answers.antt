use Rattle.yds_model.proofs.Common.{◌≡◌, ◌+◌, ◌*◌, ◌-◌, ◌^◌, ◌≤◌, ℕ, drop, take, get_or, true, arith, rules, digit_value, prefix_len, digits_value, pow-le-pow_right, common_steps, digits_value_more, prefix_len-drop_yes, is_digit, digit_range}
use Rattle.std.proofs.lemmas.Grind.{pow_more}
use Rattle.yds_text.proofs.spelling.few_digits.Goals as goal

digit_says : (byte : ℕ) → 48 ≤ byte → byte ≤ 57 → digit_value byte ≡ byte - 48
digit_says byte low high = grind (arith, common_steps)

pub overflow_mul-value : goal.overflow_mul-value
overflow_mul-value c =
    let few : 10 ^ c.loop-index.index ≤ 10 ^ 18 = pow-le-pow_right {n = 10} (omega arith) {i = c.loop-index.index} {j = 18} (omega arith) in
    omega (arith, c.loop-index.invariant.below)

pub overflow_add-value : goal.overflow_add-value
overflow_add-value c =
    let few : 10 ^ c.loop-index.index ≤ 10 ^ 18 = pow-le-pow_right {n = 10} (omega arith) {i = c.loop-index.index} {j = 18} (omega arith) in
    omega (arith, c.loop-index.invariant.below)

pub loop-index-preserved : goal.loop-index-preserved
loop-index-preserved c =
    let digit : is_digit (get_or c.args.text.now c.loop-index.index 0) ≡ true = first_of (search rules, grind (arith, common_steps)) in
    let range = digit_range (get_or c.args.text.now c.loop-index.index 0) digit in
    let counted : prefix_len is_digit (drop c.loop-index.index c.args.text.now) ≡ 1 + prefix_len is_digit (drop (c.loop-index.index + 1) c.args.text.now) =
    prefix_len-drop_yes is_digit c.args.text.now c.loop-index.index 0 (omega arith) digit in
    let more : digits_value 10 (take (c.loop-index.index + 1) c.args.text.now) ≡ digits_value 10 (take c.loop-index.index c.args.text.now) * 10 + digit_value (get_or c.args.text.now c.loop-index.index 0) =
    digits_value_more 10 c.args.text.now c.loop-index.index (omega arith) in
    let says : digit_value (get_or c.args.text.now c.loop-index.index 0) ≡ get_or c.args.text.now c.loop-index.index 0 - 48 = digit_says (get_or c.args.text.now c.loop-index.index 0) range.0 range.1 in
    record {
      count = omega arith;
      value = omega (arith, c.from.ensures);
      below = omega (arith, c.from.ensures, c.loop-index.invariant.below, pow_more 10 c.loop-index.index);
    }
