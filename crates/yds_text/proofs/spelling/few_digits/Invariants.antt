use Rattle.yds_model.proofs.Common.{◌≡◌, ◌+◌, ◌<◌, ◌^◌, drop, take, prefix_len, digits_value, is_digit}
use Rattle.yds_text.proofs.spelling.few_digits.Given as goal

abbrev pub invariant-loop-index : goal.invariant-loop-index
invariant-loop-index l = record {
  count : l.index + prefix_len is_digit (drop l.index l.text) ≡ prefix_len is_digit l.text;
  value : l.value ≡ digits_value 10 (take l.index l.text);
  below : l.value < 10 ^ l.index;
}
