use Rattle.base.proofs.Common.{◌≡◌, ◌+◌, ◌<◌, ◌^◌, take, drop, prefix_len, digits_value, is_digit}
use Rattle.yds_kernel.specs.Parts.{capped}
use Rattle.yds_kernel.proofs.parts.long_number.Given as goal

abbrev pub invariant-loop-index : goal.invariant-loop-index
invariant-loop-index l = record {
  value : l.value ≡ capped (digits_value 10 (take l.index l.bytes));
  below : digits_value 10 (take l.index l.bytes) < 10 ^ l.index;
  len : l.index + prefix_len is_digit (drop l.index l.bytes) ≡ prefix_len is_digit l.bytes;
}
