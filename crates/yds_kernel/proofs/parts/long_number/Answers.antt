use Rattle.base.proofs.Common.{◌≡◌, ◌+◌, ◌*◌, ◌-◌, ℕ, take, get_or, true, sym, ap, ◌∙◌, arith, rules, digit_value, digits_value, common_steps, digits_value_more, is_digit, digit_range}
use Rattle.std.proofs.lemmas.Grind.{pow_more}
use Rattle.yds_kernel.specs.Parts.{capped}
use Rattle.yds_kernel.proofs.Digits.{capped_more, digit_says}
use Rattle.yds_kernel.proofs.parts.long_number.Goals as goal

pub loop-index-preserved : goal.loop-index-preserved
loop-index-preserved c =
    let digit : is_digit (get_or c.args.bytes.now c.loop-index.index 0) ≡ true = first_of (search rules, grind (arith, common_steps)) in
    let range = digit_range (get_or c.args.bytes.now c.loop-index.index 0) digit in
    let says : digit_value (get_or c.args.bytes.now c.loop-index.index 0) ≡ get_or c.args.bytes.now c.loop-index.index 0 - 48 =
    digit_says (get_or c.args.bytes.now c.loop-index.index 0) range.0 range.1 in
    let more : digits_value 10 (take (c.loop-index.index + 1) c.args.bytes.now) ≡ digits_value 10 (take c.loop-index.index c.args.bytes.now) * 10 + digit_value (get_or c.args.bytes.now c.loop-index.index 0) =
    digits_value_more 10 c.args.bytes.now c.loop-index.index (omega arith) in
    record {
      value =
          c.with_digit-value.ensures
          ∙ ap (λ (number : ℕ). capped (number * 10 + digit_value (get_or c.args.bytes.now c.loop-index.index 0))) c.loop-index.invariant.value
          ∙ capped_more (digits_value 10 (take c.loop-index.index c.args.bytes.now)) (digit_value (get_or c.args.bytes.now c.loop-index.index 0))
          ∙ sym (ap capped more);
      below = omega (arith, more, says, c.loop-index.invariant.below, pow_more 10 c.loop-index.index);
      len = first_of (search rules, grind (arith, common_steps));
    }
