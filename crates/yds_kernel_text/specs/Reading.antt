-- What a reader of a trace holds.
use Rattle.std.specs.Prelude.{ℕ, List, Bool, if◌then◌else◌, Option, Result}
use Rattle.std.specs.Io.KnownBytes.{prepend_known}
use Rattle.base.specs.Fields.{Spot}
use Rattle.yds_kernel.specs.declared.fault.Reason.{Reason}
use Rattle.yds_kernel.specs.Event.{Said}
use Rattle.yds_kernel.specs.Line.{line_of, last_line_of}

-- the bytes that were taken and that no line has that was given; the line that was given last, whether a line feed ended it, and
-- its number, 0 before the first; how many bytes were taken
pub record Reading : Type 0 where
  pub left : List ℕ
  pub text : List ℕ
  pub ended : Bool
  pub number : ℕ
  pub taken : ℕ

-- what the line says that was given last
abbrev pub said_by : Reading → Result Said (Spot Reason)
said_by reading = if reading.ended then line_of reading.text else last_line_of reading.text

-- the bytes of the trace that no line has that was given, where the source tells what it has left
abbrev pub unread : Reading → Option (List ℕ) → Option (List ℕ)
unread reading left = prepend_known reading.left left
