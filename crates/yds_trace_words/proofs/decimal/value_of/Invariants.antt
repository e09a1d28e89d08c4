use Rattle.base.proofs.Common.{◌≡◌, ◌<◌, ◌^◌, take, digits_value}
use Rattle.yds_trace_words.proofs.decimal.value_of.Given as goal

abbrev pub invariant-loop-byte : goal.invariant-loop-byte
invariant-loop-byte l = record {
  value : l.value ≡ digits_value 10 (take l.byte-index l.digits);
  below : l.value < 10 ^ l.byte-index;
}
