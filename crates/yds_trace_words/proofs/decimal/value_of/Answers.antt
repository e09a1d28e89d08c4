use Rattle.base.proofs.Common.{◌≡◌, ◌+◌, ◌*◌, ◌-◌, ◌^◌, ◌≤◌, ℕ, take, get_or, true, arith, rules, digit_value, digits_value, pow-le-pow_right, common_steps, digits_value_more, is_digit, digit_range}
use Rattle.std.proofs.lemmas.Grind.{pow_more}
use Rattle.yds_trace_words.proofs.decimal.value_of.Goals as goal

digit_says : (byte : ℕ) → 48 ≤ byte → byte ≤ 57 → digit_value byte ≡ byte - 48
digit_says byte low high = grind (arith, common_steps)

pub overflow_mul-value : goal.overflow_mul-value
overflow_mul-value c =
    let few : 10 ^ c.loop-byte.byte-index ≤ 10 ^ 8 = pow-le-pow_right {n = 10} (omega arith) {i = c.loop-byte.byte-index} {j = 8} (omega arith) in
    omega (arith, c.loop-byte.invariant.below)

pub overflow_add-value : goal.overflow_add-value
overflow_add-value c =
    let few : 10 ^ c.loop-byte.byte-index ≤ 10 ^ 8 = pow-le-pow_right {n = 10} (omega arith) {i = c.loop-byte.byte-index} {j = 8} (omega arith) in
    omega (arith, c.loop-byte.invariant.below)

pub loop-byte-preserved : goal.loop-byte-preserved
loop-byte-preserved c =
    let digit : is_digit (get_or c.args.digits.now c.loop-byte.byte-index 0) ≡ true = first_of (search rules, grind (arith, common_steps)) in
    let range = digit_range (get_or c.args.digits.now c.loop-byte.byte-index 0) digit in
    let more : digits_value 10 (take (c.loop-byte.byte-index + 1) c.args.digits.now) ≡ digits_value 10 (take c.loop-byte.byte-index c.args.digits.now) * 10 + digit_value (get_or c.args.digits.now c.loop-byte.byte-index 0) =
    digits_value_more 10 c.args.digits.now c.loop-byte.byte-index (omega arith) in
    let says : digit_value (get_or c.args.digits.now c.loop-byte.byte-index 0) ≡ get_or c.args.digits.now c.loop-byte.byte-index 0 - 48 =
    digit_says (get_or c.args.digits.now c.loop-byte.byte-index 0) range.0 range.1 in
    record {
      value = omega (arith, c.from.ensures, more, says, c.loop-byte.invariant.value);
      below = omega (arith, c.from.ensures, c.loop-byte.invariant.below, pow_more 10 c.loop-byte.byte-index);
    }
