use Rattle.base.proofs.Common.{◌≡◌, ◌+◌, drop, take, false}
use Rattle.std.specs.List.{list_any, position_or_len}
use Rattle.yds_trace_words.specs.Letters.{is_at}
use Rattle.yds_trace_words.proofs.letter.split_at.Given as goal

abbrev pub invariant-loop-index : goal.invariant-loop-index
invariant-loop-index l = record {
  place : l.index + position_or_len (is_at l.sign) (drop l.index l.letters) ≡ position_or_len (is_at l.sign) l.letters;
  none : list_any (is_at l.sign) (take l.index l.letters) ≡ false;
}
