-- What a trace is told as in parts: the texts of those that were whole, one behind the other, and where that ended before the trace did. A line is
-- told by its place in the trace, and of bytes by its number in the text.
use Rattle.std.specs.Prelude.{ℕ, ◌+◌, List, [], ◌∷◌, ◌++◌, length, Bool, not, ◌&&◌, ◌||◌, nat_lt, if◌then◌else◌, Option, Some, None, option_map}
use Rattle.std.specs.List.{find, list_any}
use Rattle.base.specs.declared.limits.TheConstants.{MAX_INPUT}
use Rattle.base.specs.Fields.{Fault}
use Rattle.yds_kernel.specs.declared.fault.Reason.{Reason}
use Rattle.yds_kernel.specs.Event.{Said}
use Rattle.yds_kernel.specs.Parts.{or_else, capped}
use Rattle.yds_kernel.specs.Text.{Trace}
use Rattle.yds_kernel_order.specs.Order.{order_of, line_at}
use Rattle.yds_trace.specs.declared.fault.Cause.{Cause}
use Rattle.yds_trace.specs.Asked.{Asked, on}
use Rattle.yds_trace.specs.Others.{others_from}
use Rattle.yds_trace.specs.Document.{Judged}
use Rattle.yds_trace.specs.Faults.{said_fault, whole_fault}
use Rattle.yds_trace.specs.declared.cut.Cut.{Cut}
use Rattle.yds_trace.specs.Parts.{cut_after, part_until, parts_fault, processors_of, waiting, place_of, is_settled, is_due, is_too_much}
use Rattle.yds_trace_document.specs.declared.fault.DocumentFault.TheVariants as faults
use Rattle.yds_trace_document.specs.Part.{part_of}
use Rattle.yds_trace_text.specs.Limit.{Limit, Beyond, part_limit}
use Rattle.yds_trace_text.specs.PartText.{part_text}
use Rattle.yds_trace_reading.specs.LineFault.{past_of}

-- why a trace isn't told further
pub data Halt : Type 0 where
  -- the form of a line is refused
  InForm : (fault : Fault Reason) → Halt
  -- the line at this place, or of this number in the text, can't stand behind those before it
  AtLine : (number : ℕ) (cause : Cause) → Halt
  -- The part of this number passes a limit of documents; it is one of this processor, where each has documents of its own.
  OfDocument : (processor : Option ℕ) (part : ℕ) (limit : Limit) → Halt
  -- its text is longer than a document may be
  OfText : (processor : Option ℕ) (part : ℕ) → Halt
  -- More wait than may, and there is no place to cut. This job has been open longest, or is the first that waits: its name, its begin, and by
  -- how much it is known to be late.
  NoPlace : (name : List ℕ) (begin : ℕ) (late : Option ℕ) → Halt

pub record Told : Type 0 where
  -- the texts of the parts that are whole
  pub text : List ℕ
  pub halt : Option Halt

-- # A line

abbrev pub at_line : ℕ → Option Cause → Option Halt
at_line number None = None
at_line number (Some cause) = Some (AtLine number cause)

-- why this line isn't taken, behind these
abbrev pub line_halt : Asked → List Said → Said → Option Halt
line_halt asked past said =
    at_line (length past + 1) (or_else (said_fault asked past said) (parts_fault asked past said))

-- # A part

-- the number of the part behind these
abbrev pub next_number : Cut → ℕ
next_number cut = capped (cut.parts + 1)

-- the processor whose part it is, where each has documents of its own
abbrev pub part_processor : Asked → Option ℕ
part_processor asked = if asked.everywhere then Some asked.processor else None

abbrev pub of_document : Option ℕ → ℕ → Option Limit → Option Halt
of_document processor part None = None
of_document processor part (Some limit) = Some (OfDocument processor part limit)

abbrev pub of_text : Option ℕ → ℕ → List ℕ → Option Halt
of_text processor part text = if nat_lt MAX_INPUT (length text) then Some (OfText processor part) else None

-- why the part that ends at this time, or the last one, isn't written
abbrev pub part_halt : Asked → Bool → List Said → Cut → Option ℕ → Option Halt
part_halt asked strict past cut until =
    or_else (of_document (part_processor asked) (next_number cut) (part_limit asked strict cut (part_of asked past cut until)))
    (of_text (part_processor asked) (next_number cut) (part_text asked past cut until))

-- # Pieces of the text

-- What is behind some lines: a piece of the text, or why there is none.
abbrev pub no_piece : Told
no_piece = record { text = []; halt = None }

abbrev pub halted : Halt → Told
halted halt = record { text = []; halt = Some halt }

-- one behind the other, or the first reason
abbrev pub both : Told → Told → Told
both first second = elim first.halt [
  | Some halt ↦ halted halt
  | None ↦ elim second.halt [ Some halt ↦ halted halt | None ↦ record { text = first.text ++ second.text; halt = None } ]
]

-- this text, or why it isn't written
abbrev pub piece_unless : Option Halt → List ℕ → Told
piece_unless (Some halt) text = halted halt
piece_unless None text = record { text = text; halt = None }

-- the part that ends at this time, or the last one
abbrev pub part_piece : Asked → Bool → List Said → Cut → Option ℕ → Told
part_piece asked strict past cut until = piece_unless (part_halt asked strict past cut until) (part_text asked past cut until)

-- # Too much waits

abbrev pub no_place : Option Judged → Option Halt
no_place None = None
no_place (Some judged) = Some (NoPlace judged.name judged.job.begin judged.late)

abbrev pub first_of : List Judged → Option Judged
first_of [] = None
first_of (judged ∷ jobs) = Some judged

-- the first that isn't settled, or else the first
abbrev pub open_longest : Asked → List Said → List Judged → Option Judged
open_longest asked past waiting = or_else (find (λ judged. not (is_settled asked past judged)) waiting) (first_of waiting)

abbrev pub waiting_halt : Asked → List Said → Cut → Option Halt
waiting_halt asked past cut =
    if is_due past && is_too_much (waiting asked past cut) (others_from asked past cut.boundary)
    then no_place (open_longest asked past (waiting asked past cut)) else None

-- # Behind a line

-- A part without a job isn't written.
abbrev pub piece_with : Asked → Bool → List Said → Cut → ℕ → List Judged → Told
piece_with asked strict past cut time [] = no_piece
piece_with asked strict past cut time (judged ∷ part) = part_piece asked strict past cut (Some time)

-- what is written of one processor behind these lines, where a part ends at this time
abbrev pub piece_at : Asked → Bool → List Said → Cut → Option ℕ → Told
piece_at asked strict past cut (Some time) = piece_with asked strict past cut time (part_until asked past cut (Some time))
piece_at asked strict past cut None = record { text = []; halt = waiting_halt asked past cut }

abbrev pub piece_of : Asked → Bool → List Said → Cut → Told
piece_of asked strict past cut = piece_at asked strict past cut (place_of asked past cut)

-- what is written behind this line of these processors, one after another
abbrev pub pieces : Asked → Bool → List Said → Said → List ℕ → Told
pieces asked strict past said [] = no_piece
pieces asked strict past said (processor ∷ more) =
    both (piece_of (on processor asked) strict (said ∷ past) (cut_after (on processor asked) past)) (pieces asked strict past said more)

-- # Lines

-- with this piece behind, or with the reason why there is none
abbrev pub with_piece : List ℕ → Told → Told
with_piece text piece = record { text = text ++ piece.text; halt = piece.halt }

abbrev pub told_with : Asked → Bool → List Said → Said → List ℕ → Option Halt → Told
told_with asked strict past said text (Some halt) = record { text = text; halt = Some halt }
told_with asked strict past said text None = with_piece text (pieces asked strict past said (processors_of asked (said ∷ past)))

-- A line more. Where it ended before, it has ended.
abbrev pub told_next : Asked → Bool → List Said → Said → Told → Told
told_next asked strict past said told = elim told.halt [
  | Some halt ↦ told
  | None ↦ told_with asked strict past said told.text (line_halt asked past said)
]

-- what is told behind these lines, of which the last one stands first
abbrev pub told_after : Asked → Bool → List Said → Told
told_after asked strict [] = record { text = []; halt = None }
told_after asked strict (said ∷ past) = told_next asked strict past said (told_after asked strict past)

-- # The whole trace

-- the last parts of these processors, one after another
abbrev pub last_pieces : Asked → Bool → List Said → List ℕ → Told
last_pieces asked strict past [] = no_piece
last_pieces asked strict past (processor ∷ more) =
    both (part_piece (on processor asked) strict past (cut_after (on processor asked) past) None) (last_pieces asked strict past more)

-- A document of this processor has a job.
abbrev pub has_written : Asked → List Said → Cut → Bool
has_written asked past cut = nat_lt 0 cut.jobs || nat_lt 0 (length (part_of asked past cut None).document.jobs)

-- Where each processor has documents of its own, one of them has to have a job.
abbrev pub no_job_halt : Asked → List Said → List ℕ → Option Halt
no_job_halt asked past processors =
    if asked.everywhere && not (list_any (λ processor. has_written (on processor asked) past (cut_after (on processor asked) past)) processors)
    then Some (OfDocument None 1 (Beyond faults.NoJobAnywhere)) else None

abbrev pub in_form : Option (Fault Reason) → Option Halt
in_form None = None
in_form (Some fault) = Some (InForm fault)

-- why no last part is written behind lines that were all taken: a line behind them whose form is refused, or what the whole trace is refused for
abbrev pub end_halt : Asked → List Said → Option (Fault Reason) → Option Halt
end_halt asked past form = or_else (in_form form) (at_line (length past) (whole_fault asked past))

-- the last parts, or why there is none
abbrev pub last_piece : Asked → Bool → List Said → List ℕ → Told
last_piece asked strict past processors = both (last_pieces asked strict past processors) (piece_unless (no_job_halt asked past processors) [])

abbrev pub told_last : Asked → Bool → List Said → List ℕ → Option Halt → Told
told_last asked strict past text (Some halt) = record { text = text; halt = Some halt }
told_last asked strict past text None = with_piece text (last_piece asked strict past (processors_of asked past))

abbrev pub told_at_end : Asked → Bool → List Said → Option (Fault Reason) → Told → Told
told_at_end asked strict past form told = elim told.halt [
  | Some halt ↦ told
  | None ↦ told_last asked strict past told.text (end_halt asked past form)
]

-- what a trace is told as: all of its parts, or those before the first halt
abbrev pub told_of : Asked → Bool → Trace → Told
told_of asked strict trace = told_at_end asked strict (past_of trace) trace.fault (told_after asked strict (past_of trace))

-- # Bytes

-- the same reason, by the numbers of lines that stand at places
abbrev pub by_number : (ℕ → ℕ) → Halt → Halt
by_number number_of (AtLine place cause) = AtLine (number_of place) cause
by_number number_of halt = halt

-- What these bytes are told as: their lines in order of time. A line for which it isn't told further has its number in the text.
abbrev pub told_in_text : Asked → Bool → List ℕ → Told
told_in_text asked strict bytes = record {
  text = (told_of asked strict (order_of bytes)).text;
  halt = option_map (by_number (line_at bytes)) (told_of asked strict (order_of bytes)).halt;
}
