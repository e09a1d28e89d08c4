-- What is kept while a trace is told in parts, and what a line makes of it.
use Rattle.std.specs.Prelude.{◌≡◌, ℕ, ◌+◌, ◌≤◌, ◌⊎◌, ⊤, List, [], ◌∷◌, ◌++◌, map, min, Bool, true, false, Option, Some, None, option_map}
use Rattle.std.specs.List.{list_any}
use Rattle.yds_kernel.specs.Event.{Said}
use Rattle.yds_trace.specs.declared.cut.Cut.{Cut}
use Rattle.yds_trace.specs.Asked.{Asked, on}
use Rattle.yds_trace.specs.Others.{others_from}
use Rattle.yds_trace.specs.Past.{processor_count}
use Rattle.yds_trace.specs.Kept.{IsAtBehind, told_to_forget}
use Rattle.yds_trace.specs.Parts.{cut_at, cut_after, place_of, waiting, waiting_from, with_part, is_due, is_much, changes_parts, processors_of, first_numbers}
use Rattle.yds_trace.specs.declared.pass.Pass.{Pass}
use Rattle.yds_trace_text.specs.declared.fault.NoText.{NoText}
use Rattle.yds_trace_text.specs.declared.fault.NoText.TheVariants as texts
use Rattle.yds_trace_text.specs.Limit.{Beyond, NotKnown}
use Rattle.yds_trace_text.specs.PartText.{part_text}
use Rattle.yds_trace_reading.specs.declared.first.NoBegin.{NoBegin}
use Rattle.yds_trace_reading.specs.declared.first.NoBegin.TheVariants as begins
use Rattle.yds_trace_parts.specs.declared.halt.Halt.{Halt as HaltKept}
use Rattle.yds_trace_parts.specs.declared.halt.Halt.TheVariants as kept
use Rattle.yds_trace_parts.specs.declared.part.Piece.{Piece}
use Rattle.yds_trace_parts.specs.declared.part.Last.{Last}
use Rattle.yds_trace_parts.specs.declared.processors.Processor.{Processor}
use Rattle.yds_trace_parts.specs.declared.processors.Pieces.{Pieces}
use Rattle.yds_trace_parts.specs.declared.telling.Telling.{Telling}
use Rattle.yds_trace_parts.specs.Told.{Halt, InForm, AtLine, OfDocument, OfText, NoPlace, Told, no_piece, both, part_halt, part_piece, piece_at, piece_of, has_written, last_piece, line_halt, told_after, by_number}

-- # Reasons

abbrev pub halt_of_text : Option ℕ → ℕ → NoText → HaltKept
halt_of_text processor part (texts.Limit fault) = kept.Limit processor part fault
halt_of_text processor part (texts.NotKnown place name reason) = kept.NotKnown processor part place name reason
halt_of_text processor part texts.TooLong = kept.TooLong processor part
halt_of_text processor part texts.Memory = kept.Memory

-- why a trace isn't told that isn't begun
abbrev pub halt_of_begin : NoBegin → HaltKept
halt_of_begin begins.Lost = kept.NoFirst
halt_of_begin begins.TooLong = kept.Endless
halt_of_begin begins.ReadFault = kept.ReadFault
halt_of_begin begins.Memory = kept.Memory

-- the reason as the definition has it; it has none for what isn't of the trace
abbrev pub halt_read : HaltKept → Option Halt
halt_read (kept.InForm number fault) = Some (InForm (record { line = number; column = fault.column; reason = fault.reason }))
halt_read (kept.AtLine number cause) = Some (AtLine number cause)
halt_read (kept.Limit processor part fault) = Some (OfDocument processor part (Beyond fault))
halt_read (kept.NotKnown processor part place name reason) = Some (OfDocument processor part (NotKnown place name.items reason))
halt_read (kept.TooLong processor part) = Some (OfText processor part)
halt_read (kept.NoPlace name begin late) = Some (NoPlace name.items begin late)
halt_read kept.NoFirst = None
halt_read kept.Endless = None
halt_read kept.ReadFault = None
halt_read kept.WriteFault = None
halt_read kept.Memory = None

-- the same, with this number of the line in the text in the stead of its place
abbrev pub with_number : ℕ → HaltKept → HaltKept
with_number number (kept.AtLine place cause) = kept.AtLine number cause
with_number number halt = halt

abbrev pub at_number : ℕ → Option Halt → Option Halt
at_number number found = option_map (by_number (λ _. number)) found

-- It is the reason that was found. Memory may be wanting at any time.
abbrev pub IsHaltFor : Option Halt → HaltKept → Type 0
IsHaltFor found kept.Memory = ⊤
IsHaltFor found kept.NoFirst = ⊥
IsHaltFor found kept.Endless = ⊥
IsHaltFor found kept.ReadFault = ⊥
IsHaltFor found kept.WriteFault = ⊥
IsHaltFor found halt = found ≡ halt_read halt

-- # A part

-- It is looked for a place behind these lines, and so much waits.
pub record Looks (asked : Asked) (past : List Said) (cut : Cut) : Type 0 where
  pub due : is_due past ≡ true
  pub much : is_much (waiting asked past cut) (others_from asked past cut.boundary) ≡ true

-- the text of the part that ends at this time, or of the last one
pub record IsText (asked : Asked) (strict : Bool) (past : List Said) (cut : Cut) (until : Option ℕ) (text : List ℕ) : Type 0 where
  pub fits : part_halt asked strict past cut until ≡ None
  pub says : text ≡ part_text asked past cut until

-- this text, and no halt
abbrev pub text_alone : List ℕ → Told
text_alone text = record { text = text; halt = None }

-- what is written where a part ends at this time, and what was written then
pub record IsPieceAt (asked : Asked) (strict : Bool) (past : List Said) (cut : Cut) (until : Option ℕ) (piece : Piece) : Type 0 where
  pub written : piece_at asked strict past cut until ≡ text_alone piece.text.items
  pub cut_is : piece.cut ≡ cut_at asked past cut until

-- what is written of the processor behind these lines, and what was written then
abbrev pub IsPiece : Asked → Bool → List Said → Cut → Piece → Type 0
IsPiece asked strict past cut piece = IsPieceAt asked strict past cut (place_of asked past cut) piece

abbrev pub HaltsBehind : Asked → Bool → List Said → Cut → HaltKept → Type 0
HaltsBehind asked strict past cut halt = IsHaltFor (piece_of asked strict past cut).halt halt

-- what was written of a processor that has no job
abbrev pub without_job_at : List Said → Cut → Option ℕ → Cut
without_job_at past cut None = cut
without_job_at past cut (Some time) = with_part past time [] cut

abbrev pub unseen_at : Asked → List Said → Option Cut → Option Cut
unseen_at asked past None = None
unseen_at asked past (Some cut) = Some (without_job_at past cut (place_of asked past cut))

-- the text of the last part of the processor, and whether it has a job in any
pub record IsLast (asked : Asked) (strict : Bool) (past : List Said) (cut : Cut) (last : Last) : Type 0 where
  pub written : part_piece asked strict past cut None ≡ text_alone last.text.items
  pub some : last.has_job ≡ has_written asked past cut

-- # All processors

-- one piece behind the other, or the first reason why there is none
abbrev pub joined : List Told → Told
joined [] = no_piece
joined (piece ∷ more) = both piece (joined more)

-- what is written of these processors behind these lines
abbrev pub told_behind : Asked → Bool → List Said → Processor → Told
told_behind asked strict past one = piece_of (on one.number asked) strict past one.cut

abbrev pub pieces_at : Asked → Bool → List Said → List Processor → Told
pieces_at asked strict past processors = joined (map (told_behind asked strict past) processors)

-- what was written then
abbrev pub with_piece_at : Asked → List Said → Processor → Processor
with_piece_at asked past one =
    record { number = one.number; cut = cut_at (on one.number asked) past one.cut (place_of (on one.number asked) past one.cut) }

pub record ArePieces (asked : Asked) (strict : Bool) (past : List Said) (processors : List Processor) (pieces : Pieces) : Type 0 where
  pub written : pieces_at asked strict past processors ≡ text_alone pieces.text.items
  pub processors_are : pieces.processors.items ≡ map (with_piece_at asked past) processors

-- the last parts of these processors
abbrev pub told_at_last : Asked → Bool → List Said → Processor → Told
told_at_last asked strict past one = part_piece (on one.number asked) strict past one.cut None

abbrev pub last_at : Asked → Bool → List Said → List Processor → Told
last_at asked strict past processors = joined (map (told_at_last asked strict past) processors)

-- One of them has a job.
abbrev pub one_has_written : Asked → List Said → List Processor → Bool
one_has_written asked past processors = list_any (λ one. has_written (on one.number asked) past one.cut) processors

pub record AreLast (asked : Asked) (strict : Bool) (past : List Said) (processors : List Processor) (last : Last) : Type 0 where
  pub written : last_at asked strict past processors ≡ text_alone last.text.items
  pub some : last.has_job ≡ one_has_written asked past processors

-- It stands for these lines, with a processor that may be another.
pub record IsTurned (asked : Asked) (past : List Said) (boundary : ℕ) (pass : Pass) : Type 0 where
  pub processor : ℕ
  pub stands : IsAtBehind (on processor asked) past boundary pass

-- # What is kept

-- the number behind this one
abbrev pub next_of : Option ℕ → ℕ
next_of None = 0
next_of (Some number) = number + 1

-- the first processors, so many, with what was written of each
abbrev pub each_of : (ℕ → Cut) → ℕ → List Processor
each_of cuts count = map (λ number. record { number = number; cut = cuts number }) (first_numbers count)

abbrev pub cut_on : Asked → List Said → ℕ → Cut
cut_on asked past processor = cut_after (on processor asked) past

abbrev pub told_on : Asked → List Said → ℕ → Processor
told_on asked past processor = record { number = processor; cut = cut_on asked past processor }

-- what was written of each processor of which no line tells, where each has documents of its own
abbrev pub IsUnseen : Asked → List Said → Option Cut → Type 0
IsUnseen asked past None = asked.everywhere ≡ false
IsUnseen asked past (Some cut) = (asked.everywhere ≡ true) × ((processor : ℕ) → processor_count past ≤ processor → cut_on asked past processor ≡ cut)

abbrev pub cuts_of : List Processor → Option Cut → List Cut
cuts_of processors None = map (λ one. one.cut) processors
cuts_of processors (Some cut) = cut ∷ map (λ one. one.cut) processors

-- A line changes a part of one of these just where it changes one of this.
abbrev pub IsLatest : List Cut → Cut → Type 0
IsLatest cuts latest = (asked : Asked) (past : List Said) (said : Said) → changes_parts asked past latest said ≡ list_any (λ cut. changes_parts asked past cut said) cuts

abbrev pub boundary_before : Option Cut → ℕ → ℕ
boundary_before None latest = latest
boundary_before (Some cut) latest = min cut.boundary latest

-- None of these ends before this time.
abbrev pub NoneEndsBefore : ℕ → List Cut → Type 0
NoneEndsBefore time [] = ⊤
NoneEndsBefore time (cut ∷ cuts) = (time ≤ cut.boundary) × NoneEndsBefore time cuts

-- What was written of all processors up to these lines, and the last of all of it; they are those of `seen`. No part still to come has a job
-- that begins before `time`.
pub record IsWritten (asked : Asked) (past seen : List Said) (time : ℕ) (processors : List Processor) (unseen : Option Cut) (latest : Cut) : Type 0 where
  pub processors_are : processors ≡ map (told_on asked past) (processors_of asked seen)
  pub unseen_is : IsUnseen asked past unseen
  pub latest_is : IsLatest (cuts_of processors unseen) latest
  pub later : NoneEndsBefore time (latest ∷ cuts_of processors unseen)

-- What is kept stands for these lines, and nothing was refused.
pub record IsTelling (asked : Asked) (strict : Bool) (past : List Said) (telling : Telling) : Type 0 where
  pub stands : IsAtBehind asked past (told_to_forget telling.pass) telling.pass
  pub is_written : IsWritten asked past past (told_to_forget telling.pass) telling.processors.items telling.unseen telling.latest
  pub same_strict : telling.strict ≡ strict
  pub goes_on : (told_after asked strict past).halt ≡ None

-- This line was taken too, and nothing is written behind it yet.
pub record IsTaken (asked : Asked) (strict : Bool) (past : List Said) (said : Said) (telling : Telling) : Type 0 where
  pub stands : IsAtBehind asked (said ∷ past) (told_to_forget telling.pass) telling.pass
  pub is_written : IsWritten asked past (said ∷ past) (told_to_forget telling.pass) telling.processors.items telling.unseen telling.latest
  pub same_strict : telling.strict ≡ strict
  pub goes_on : (told_after asked strict past).halt ≡ None
  pub sound : line_halt asked past said ≡ None

-- Behind parts that end at this time so little waits, whatever processor is asked for, that none is to be written.
abbrev pub IsLittle : Asked → List Said → ℕ → Type 0
IsLittle asked past boundary =
    (processor : ℕ) → is_much (waiting_from (on processor asked) past boundary) (others_from (on processor asked) past boundary) ≡ false

-- It isn't looked for parts behind these lines; or so little waits behind each part that ends at this time or later.
abbrev pub IsStill : Asked → List Said → ℕ → Type 0
IsStill asked past time = (is_due past ≡ false) ⊎ ((boundary : ℕ) → time ≤ boundary → IsLittle asked past boundary)

-- With a line more the text has this piece more.
abbrev pub Adds : Asked → Bool → List Said → List Said → List ℕ → Type 0
Adds asked strict before now piece = (told_after asked strict now).text ≡ (told_after asked strict before).text ++ piece

-- the text behind the last line
abbrev pub IsEnd : Asked → Bool → List Said → List ℕ → Type 0
IsEnd asked strict past text = last_piece asked strict past (processors_of asked past) ≡ text_alone text
