use Rattle.base.proofs.Common.{◌≡◌, ◌+◌, ◌*◌, ◌-◌, take, get_or, true, arith, rules, digit_value, digits_value, common_steps, digits_value_more, is_digit, digit_range}
use Rattle.std.proofs.lemmas.Grind.{pow_more}
use Rattle.yds_kernel.proofs.Digits.{digit_says}
use Rattle.yds_kernel.proofs.parts.short_number.Goals as goal

pub loop-index-preserved : goal.loop-index-preserved
loop-index-preserved c =
    let digit : is_digit (get_or c.args.bytes.now c.loop-index.index 0) ≡ true = first_of (search rules, grind (arith, common_steps)) in
    let range = digit_range (get_or c.args.bytes.now c.loop-index.index 0) digit in
    let says : digit_value (get_or c.args.bytes.now c.loop-index.index 0) ≡ get_or c.args.bytes.now c.loop-index.index 0 - 48 =
    digit_says (get_or c.args.bytes.now c.loop-index.index 0) range.0 range.1 in
    let more : digits_value 10 (take (c.loop-index.index + 1) c.args.bytes.now) ≡ digits_value 10 (take c.loop-index.index c.args.bytes.now) * 10 + digit_value (get_or c.args.bytes.now c.loop-index.index 0) =
    digits_value_more 10 c.args.bytes.now c.loop-index.index (omega arith) in
    let added : c.from.result ≡ get_or c.args.bytes.now c.loop-index.index 0 - 48 = first_of (search rules, grind (arith, common_steps)) in
    let value : c.loop-index.value * 10 + c.from.result ≡ digits_value 10 (take (c.loop-index.index + 1) c.args.bytes.now) =
    omega (arith, more, says, added, c.loop-index.invariant.value) in
    record {
      value = value;
      below = omega (arith, added, range.0, range.1, c.loop-index.invariant.below, pow_more 10 c.loop-index.index);
      len = first_of (search rules, grind (arith, common_steps));
    }
