use Rattle.base.proofs.Common.{◌≡◌, ◌+◌, ◌==◌, drop, false}
use Rattle.std.specs.List.{list_any, position_or_len}
use Rattle.base.proofs.Common.{take}
use Rattle.yds_trace_words.proofs.setting.split_at_byte.Given as goal

abbrev pub invariant-loop-index : goal.invariant-loop-index
invariant-loop-index l = record {
  place : l.index + position_or_len (λ other. other == l.byte) (drop l.index l.text) ≡ position_or_len (λ other. other == l.byte) l.text;
  none : list_any (λ other. other == l.byte) (take l.index l.text) ≡ false;
}
