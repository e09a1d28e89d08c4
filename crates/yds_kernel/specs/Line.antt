-- What a line of a trace says, or why it is refused.
use Rattle.std.specs.Prelude.{ℕ, ◌+◌, ◌-◌, List, [], ◌∷◌, length, codes, take, drop, Bool, true, false, ◌==◌, ◌&&◌, ◌||◌, nat_le, if◌then◌else◌, Option, Some, None, Result, Ok, Err}
use Rattle.std.specs.List.{prefix_len}
use Rattle.std.specs.Str.{bytes_eq}
use Rattle.base.specs.Spelling.{is_digit}
use Rattle.base.specs.Fields.{Spot, refuse}
use Rattle.yds_kernel.specs.declared.limits.TheConstants.{MAX_NUMBER, MAX_LINE}
use Rattle.yds_kernel.specs.declared.kind.Kind.{Kind}
use Rattle.yds_kernel.specs.declared.kind.Kind.TheVariants as kinds
use Rattle.yds_kernel.specs.declared.loss.Since.{Since}
use Rattle.yds_kernel.specs.declared.loss.Since.TheVariants as since
use Rattle.yds_kernel.specs.declared.fault.Reason.{Reason}
use Rattle.yds_kernel.specs.declared.fault.Reason.TheVariants as reasons
use Rattle.yds_kernel.specs.Parts.{◌>>=◌, or_else, after, digits, skip_blanks, number}
use Rattle.yds_kernel.specs.Stamp.{Stamp, first_stamp, time_of}
use Rattle.yds_kernel.specs.Event.{Happening, Loss, Marker, Other, Said, Stamped, Lost, Nothing}
use Rattle.yds_kernel.specs.Form.{kind_of, switch_in, wake_up_in, speed_in}

-- what was read, or the reason for which the text is refused
abbrev pub known : Reason → Option Happening → Result Happening Reason
known reason (Some happening) = Ok happening
known reason None = Err reason

abbrev pub happening_of : Kind → List ℕ → Result Happening Reason
happening_of kinds.Switch text = known reasons.UnknownSwitch (switch_in text)
happening_of kinds.Waking text = known reasons.UnknownWakeUp (wake_up_in true text)
happening_of kinds.Woken text = known reasons.UnknownWakeUp (wake_up_in false text)
happening_of kinds.Speed text = known reasons.UnknownSpeed (speed_in text)
happening_of kinds.Loss text = Ok Loss
happening_of kinds.Marker text = Ok Marker
happening_of kinds.Other text = Ok Other

-- the column at which so many bytes are left of a line of `whole` bytes
abbrev pub column_at : ℕ → ℕ → ℕ
column_at whole left = (whole + 1) - left

abbrev pub event_at : ℕ → ℕ → ℕ → Result Happening Reason → Result Said (Spot Reason)
event_at processor time column (Ok happening) = Ok (Stamped (record { processor = processor; time = time; happening = happening }))
event_at processor time column (Err reason) = refuse column reason

abbrev pub event_in_time : ℕ → Stamp → Option ℕ → Result Said (Spot Reason)
event_in_time whole stamp None = refuse (column_at whole stamp.left) reasons.Time
event_in_time whole stamp (Some time) =
    event_at stamp.processor time (column_at whole (length (skip_blanks stamp.text))) (happening_of (kind_of stamp.word) (skip_blanks stamp.text))

-- the event of a line of `whole` bytes with this stamp
unfoldable pub event_of : ℕ → Stamp → Result Said (Spot Reason)
event_of whole stamp =
    if nat_le stamp.processor MAX_NUMBER then event_in_time whole stamp (time_of stamp)
    else refuse (column_at whole stamp.left) reasons.Processor

-- # Lost events, on a line without a stamp

-- `[LOST 12 EVENTS]` of the kernel, `[12 EVENTS DROPPED]` of trace-cmd, each with the number or without it
unfoldable pub after_number : List ℕ → List ℕ
after_number bytes = elim (digits bytes) [
  | Some found ↦ elim (after (codes " ") found.1) [ Some rest ↦ rest | None ↦ found.1 ]
  | None ↦ bytes
]

unfoldable pub after_lost : List ℕ → List ℕ
after_lost bytes = elim (after (codes "LOST ") bytes) [ Some rest ↦ rest | None ↦ bytes ]

unfoldable pub tells_loss : List ℕ → Option (List ℕ)
tells_loss bytes = do
  rest ← after (codes "EVENTS") (after_number (after_lost bytes))
  or_else (after (codes "]") rest) (after (codes " DROPPED]") rest)

unfoldable pub dropped : List ℕ → Option ℕ
dropped line = do
  a ← after (codes "CPU:") (skip_blanks line)
  processor ← number a
  b ← after (codes " [") processor.1
  told ← tells_loss b
  Some processor.0

abbrev pub is_hash : ℕ → Bool
is_hash byte = byte == 35

abbrev pub skip_hashes : List ℕ → List ℕ
skip_hashes bytes = drop (prefix_len is_hash bytes) bytes

-- `##### CPU 2 buffer started ####` of the kernel
unfoldable pub started : List ℕ → Option ℕ
started line = do
  more ← after (codes "#") line
  a ← after (codes " CPU ") (skip_hashes more)
  processor ← number a
  b ← after (codes " buffer started #") processor.1
  Some processor.0

abbrev pub lost_on : ℕ → Since → Result Said (Spot Reason)
lost_on processor from = if nat_le processor MAX_NUMBER then Ok (Lost processor from) else refuse 1 reasons.Processor

unfoldable pub loss_of : List ℕ → Result Said (Spot Reason)
loss_of line = elim (dropped line) [
  | Some processor ↦ lost_on processor since.ItsLastLine
  | None ↦ elim (started line) [ Some processor ↦ lost_on processor since.TheBegin | None ↦ Ok Nothing ]
]

-- # Lines

unfoldable pub short_line : List ℕ → Result Said (Spot Reason)
short_line line = elim (first_stamp line) [
  | Some stamp ↦ event_of (length line) stamp
  | None ↦ loss_of line
]

-- whether the name is one of those that are read
abbrev pub matters : Kind → Bool
matters kinds.Switch = true
matters kinds.Waking = true
matters kinds.Woken = true
matters kinds.Speed = true
matters kinds.Loss = true
matters kinds.Marker = false
matters kinds.Other = false

-- A line that is too long is no event. Where it begins as one, it is refused.
unfoldable pub long_line : List ℕ → Result Said (Spot Reason)
long_line line = elim (first_stamp (take MAX_LINE line)) [
  | Some stamp ↦ if matters (kind_of stamp.word) then refuse (MAX_LINE + 1) reasons.Long else Ok Nothing
  | None ↦ Ok Nothing
]

-- what a line says that a line feed ends
unfoldable pub line_of : List ℕ → Result Said (Spot Reason)
line_of line = if nat_le (length line) MAX_LINE then short_line line else long_line line

abbrev pub closes : List ℕ → Bool
closes [] = true
closes (byte ∷ rest) = byte == 93

-- `[` and digits, with a bracket or nothing behind them
unfoldable pub opens : List ℕ → Bool
opens bytes = elim (after (codes "[") bytes) [
  | Some inside ↦ closes (drop (prefix_len is_digit inside) inside)
  | None ↦ false
]

abbrev pub opens_somewhere : List ℕ → Bool
opens_somewhere [] = false
opens_somewhere (byte ∷ bytes) = opens (byte ∷ bytes) || opens_somewhere bytes

-- perf's system without the event's name, as `sched:`, with nothing behind
abbrev pub is_half_name : Stamp → Bool
is_half_name stamp = (length stamp.text == 0) && (bytes_eq stamp.word (codes "sched:") || bytes_eq stamp.word (codes "power:"))

-- the line ends within its stamp: a processor stands in it, and no whole stamp with an event's name
unfoldable pub ends_in_stamp : List ℕ → Bool
ends_in_stamp line = elim (first_stamp line) [ Some stamp ↦ is_half_name stamp | None ↦ opens_somewhere line ]

abbrev pub is_cut : List ℕ → Bool
is_cut line = nat_le (length line) MAX_LINE && ends_in_stamp line

-- what a last line says that no line feed ends
unfoldable pub last_line_of : List ℕ → Result Said (Spot Reason)
last_line_of line = if is_cut line then refuse (length line + 1) reasons.Cut else line_of line
