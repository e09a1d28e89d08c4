-- What answers the words over the bytes of an input: a text, and the status of a run that wrote it.
use Rattle.std.specs.Prelude.{◌≡◌, ℕ, ◌⊎◌, List, [], ◌++◌, Bool, true, false, Option, Some, None, Result, Ok, Err}
use Rattle.base.specs.declared.status.Status.{Status}
use Rattle.base.specs.declared.status.Status.TheVariants as statuses
use Rattle.yds_kernel.specs.Event.{Said}
use Rattle.yds_kernel_order.specs.Order.{order_of}
use Rattle.yds_trace.specs.Asked.{Asked}
use Rattle.yds_trace_bounds.specs.declared.bounds.Bounds.{Bounds}
use Rattle.yds_trace_bounds.specs.Bounds.{asked_in}
use Rattle.yds_trace_text.specs.Text.{text_of}
use Rattle.yds_trace_reading.specs.LineFault.{LineFault, past_of, line_fault_of}
use Rattle.yds_trace_reading.specs.Reading.{IsTooLong}
use Rattle.yds_trace_parts.specs.Told.{Halt, told_after, told_in_text}
use Rattle.yds_trace_parts.specs.Driving.{IsEndless}
use Rattle.yds_trace_words.specs.Words.{WordFault}
use Rattle.yds_trace_words.specs.Request.{Request, ShowHelp, ShowVersion, ReadTrace, ListThreads}
use Rattle.yds_trace_words.specs.Texts as texts
use Rattle.yds_trace_threads.specs.Faults.{line_fault_of as threads_fault}
use Rattle.yds_trace_threads.specs.Telling.{IsSound, threads_text}
use Rattle.yds_trace_run.specs.Fault.{TraceFault, OfLine, document_fault, fault_of}
use Rattle.yds_trace_run.specs.FaultText.{fault_text, halt_text, no_first_text, too_long_text}

-- The trace, its lines in order of time, has no fault, its document passes no limit, and the text is that of the definition.
pub record IsDocument (asked : Asked) (strict : Bool) (input text : List ℕ) : Type 0 where
  pub sound : line_fault_of asked input ≡ None
  pub fits : document_fault asked strict (past_of (order_of input)) ≡ None
  pub says : text ≡ text_of asked (past_of (order_of input))

-- This is the first cause for which the trace isn't told, and the text is just its comment and the line `failed`.
pub record IsRefusal (asked : Asked) (strict : Bool) (input text : List ℕ) : Type 0 where
  pub fault : TraceFault
  pub first : fault_of asked strict input ≡ Some fault
  pub says : text ≡ fault_text fault

-- # In parts

-- The trace is told to its end, and the text is that of all its parts, one behind the other.
pub record AreParts (asked : Asked) (strict : Bool) (input text : List ℕ) : Type 0 where
  pub sound : (told_in_text asked strict input).halt ≡ None
  pub says : text ≡ (told_in_text asked strict input).text

-- This is the first cause for which it isn't told further. The text is that of the parts that were whole before, its comment and the line `failed`.
pub record IsHalted (asked : Asked) (strict : Bool) (input text : List ℕ) : Type 0 where
  pub halt : Halt
  pub first : (told_in_text asked strict input).halt ≡ Some halt
  pub says : text ≡ (told_in_text asked strict input).text ++ halt_text halt

-- the text of the parts that were whole with some of the trace's lines, from the first on in order of time
pub record ArePartsOfSome (asked : Asked) (strict : Bool) (input text : List ℕ) : Type 0 where
  pub past : List Said
  pub behind : List Said
  pub front : past_of (order_of input) ≡ behind ++ past
  pub goes_on : (told_after asked strict past).halt ≡ None
  pub says : text ≡ (told_after asked strict past).text

-- # Ends that aren't of the trace

-- What was written before such an end: nothing, or in parts those of some lines.
abbrev pub WasWritten : Bool → Asked → Bool → List ℕ → List ℕ → Type 0
WasWritten false asked strict input before = before ≡ []
WasWritten true asked strict input before = ArePartsOfSome asked strict input before

-- the same by what is asked within bounds; nothing, where they count from a first event that was lost
abbrev pub WasWrittenIn : Option Asked → Bool → List ℕ → List ℕ → Type 0
WasWrittenIn (Some asked) strict input before = WasWritten asked.in_parts asked strict input before
WasWrittenIn None strict input before = before ≡ []

abbrev pub StandsBefore : Result Request WordFault → List ℕ → List ℕ → Type 0
StandsBefore (Ok (ReadTrace asked bounds strict)) input before = WasWrittenIn (asked_in bounds asked (order_of input)) strict input before
StandsBefore _ input before = before ≡ []

-- this comment with the line `failed`, behind what was written before
pub record EndsWith (request : Result Request WordFault) (input text comment : List ℕ) : Type 0 where
  pub before : List ℕ
  pub stands : StandsBefore request input before
  pub says : text ≡ before ++ comment

-- An input of as many bytes or lines as are counted, which are fewer lines where it is told in parts.
abbrev pub IsUncounted : Bool → List ℕ → Type 0
IsUncounted false input = IsTooLong input
IsUncounted true input = IsEndless input

pub record IsTooMuch (asked : Asked) (bounds : Bounds) (strict : Bool) (input text : List ℕ) (status : Status) : Type 0 where
  pub long : IsUncounted asked.in_parts input
  pub refused : status ≡ statuses.Refused
  pub ends : EndsWith (Ok (ReadTrace asked bounds strict)) input text too_long_text

-- # The list of threads

-- None of its lines is refused, and the text is the table of its threads.
pub record IsTable (input text : List ℕ) : Type 0 where
  pub sound : IsSound input
  pub says : text ≡ threads_text input

-- This is the first line in order of time that is refused, and the text is just its comment and the line `failed`.
pub record IsNoTable (input text : List ℕ) : Type 0 where
  pub fault : LineFault
  pub first : threads_fault input ≡ Some fault
  pub says : text ≡ fault_text (OfLine fault)

abbrev pub AreThreads : List ℕ → List ℕ → Status → Type 0
AreThreads input text statuses.Done = IsTable input text
AreThreads input text statuses.Refused = IsNoTable input text ⊎ (IsTooLong input × (text ≡ too_long_text))
AreThreads input text _ = ⊥

-- # Answers

-- the trace is told, in one document or in parts, or refused
abbrev pub IsTold : Bool → Asked → Bool → List ℕ → List ℕ → Status → Type 0
IsTold false asked strict input text statuses.Done = IsDocument asked strict input text
IsTold false asked strict input text statuses.Refused = IsRefusal asked strict input text
IsTold true asked strict input text statuses.Done = AreParts asked strict input text
IsTold true asked strict input text statuses.Refused = IsHalted asked strict input text
IsTold in_parts asked strict input text _ = ⊥

-- The same by what is asked within bounds. Where they count from a first event that was lost, the trace is refused, and the text is just that.
abbrev pub IsToldIn : Option Asked → Bool → List ℕ → List ℕ → Status → Type 0
IsToldIn (Some asked) strict input text status = IsTold asked.in_parts asked strict input text status
IsToldIn None strict input text status = (status ≡ statuses.Refused) × (text ≡ no_first_text)

abbrev pub Answers : Result Request WordFault → List ℕ → List ℕ → Status → Type 0
Answers (Err fault) input text status = (status ≡ statuses.Usage) × (text ≡ texts.fault_text fault)
Answers (Ok ShowHelp) input text status = (status ≡ statuses.Done) × (text ≡ texts.help_text)
Answers (Ok ShowVersion) input text status = (status ≡ statuses.Done) × (text ≡ texts.version_line)
Answers (Ok (ReadTrace asked bounds strict)) input text status =
    IsToldIn (asked_in bounds asked (order_of input)) strict input text status ⊎ IsTooMuch asked bounds strict input text status
Answers (Ok ListThreads) input text status = AreThreads input text status

-- a trace is asked for
abbrev pub ReadsInput : Result Request WordFault → Type 0
ReadsInput (Ok (ReadTrace asked bounds strict)) = Unit {0}
ReadsInput (Ok ListThreads) = Unit {0}
ReadsInput _ = ⊥

-- a trace is to be told in parts
abbrev pub TellsParts : Result Request WordFault → Type 0
TellsParts (Ok (ReadTrace asked bounds strict)) = asked.in_parts ≡ true
TellsParts _ = ⊥
