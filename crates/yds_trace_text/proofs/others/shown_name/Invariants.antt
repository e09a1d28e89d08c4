use Rattle.base.proofs.Common.{◌≡◌, take, map}
use Rattle.yds_trace_text.specs.Text.{shown_byte}
use Rattle.yds_trace_text.proofs.others.shown_name.Given as goal

abbrev pub invariant-loop-byte : goal.invariant-loop-byte
invariant-loop-byte l = l.shown.items ≡ map shown_byte (take l.byte-index l.name)
