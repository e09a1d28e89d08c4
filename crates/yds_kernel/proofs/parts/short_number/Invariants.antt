use Rattle.base.proofs.Common.{◌≡◌, ◌+◌, ◌<◌, ◌^◌, take, drop, prefix_len, digits_value, is_digit}
use Rattle.yds_kernel.proofs.parts.short_number.Given as goal

abbrev pub invariant-loop-index : goal.invariant-loop-index
invariant-loop-index l = record {
  value : l.value ≡ digits_value 10 (take l.index l.bytes);
  below : l.value < 10 ^ l.index;
  len : l.index + prefix_len is_digit (drop l.index l.bytes) ≡ prefix_len is_digit l.bytes;
}
