use Rattle.base.proofs.Common.{◌≡◌, ◌++◌, take, map}
use Rattle.yds_trace_words.specs.Texts.{shown}
use Rattle.yds_trace_words.proofs.texts.push_shown.Given as goal

abbrev pub invariant-loop-byte : goal.invariant-loop-byte
invariant-loop-byte l = l.line.bytes ≡ l.fn.line.bytes ++ map shown (take l.byte-index l.front)
