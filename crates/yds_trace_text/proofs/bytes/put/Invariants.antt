use Rattle.base.proofs.Common.{◌≡◌, ◌++◌, take}
use Rattle.yds_trace_text.specs.Text.{told}
use Rattle.yds_trace_text.specs.Views.{pieces}
use Rattle.yds_trace_text.proofs.bytes.put.Given as goal

abbrev pub invariant-loop-piece : goal.invariant-loop-piece
invariant-loop-piece l = l.text.items ≡ l.initial.text.items ++ told (pieces (take l.piece-index l.texts))
