use Rattle.yds_model.proofs.Common.{◌≡◌, ◌++◌, replicate}
use Rattle.text_line.proofs.line_buffer.LineBuffer.push_spaces.Given as goal

-- so many spaces were put
abbrev pub invariant-loop : goal.invariant-loop
invariant-loop l = l.self-inside.text.bytes ≡ l.fn.self ++ replicate l.counter 32
