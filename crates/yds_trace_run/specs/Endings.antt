-- What a run writes, by its status.
use Rattle.std.specs.Prelude.{◌≡◌, ◌≢◌, ℕ, ◌<◌, ◌≤◌, ◌⊎◌, List, [], Bool, Option, None, Some, Result}
use Rattle.std.specs.Io.KnownBytes.{Appends}
use Rattle.base.specs.declared.status.Status.{Status}
use Rattle.base.specs.declared.status.Status.TheVariants as statuses
use Rattle.yds_port.specs.Count.{Rose, next_count}
use Rattle.yds_port.specs.Sink.{AppendsFront, IsFlushed}
use Rattle.yds_trace_words.specs.Words.{WordFault}
use Rattle.yds_trace_words.specs.Request.{Request}
use Rattle.yds_trace_run.specs.Answer.{EndsWith, Answers}
use Rattle.yds_kernel.specs.Event.{Said}
use Rattle.yds_trace.specs.declared.ended.Ended.{Ended}
use Rattle.yds_trace.specs.Asked.{Asked}
use Rattle.yds_trace.specs.Ended.{IsEnded as KnowsEnd}
use Rattle.yds_trace_text.specs.Limit.{Beyond, NotKnown}
use Rattle.yds_trace_text.specs.Text.{text_of}
use Rattle.yds_trace_reading.specs.declared.stopped.Stopped.{Stopped}
use Rattle.yds_trace_reading.specs.declared.stopped.Stopped.TheVariants as stops
use Rattle.yds_trace_reading.specs.LineFault.{InForm, AtLine}
use Rattle.yds_trace_reading.specs.Reading.{IsReadOut}
use Rattle.yds_trace_run.specs.Fault.{TraceFault, document_fault}
use Rattle.yds_trace_parts.specs.declared.halt.Halt.{Halt}
use Rattle.yds_trace_parts.specs.declared.halt.Halt.TheVariants as halts
use Rattle.yds_trace_parts.specs.Told as told
use Rattle.yds_trace_threads.specs.declared.halt.Halt.{Halt as ThreadsHalt}
use Rattle.yds_trace_threads.specs.declared.halt.Halt.TheVariants as threads
use Rattle.yds_trace_run.specs.FaultText.{failed, line_text, fault_text, halt_text, no_first_text, too_long_text, memory_text}
use Rattle.yds_trace_files.specs.Unread.{Unread, read_fault_text}

-- the text with which a run ends so: an answer, or why there is none, after a read that failed of this
abbrev pub IsText : Unread → Result Request WordFault → List ℕ → List ℕ → Status → Type 0
IsText unread request input text statuses.Memory = EndsWith request input text memory_text
IsText unread request input text statuses.ReadFault = EndsWith request input text (read_fault_text unread)
IsText unread request input text statuses.WriteFault = ⊥
IsText unread request input text statuses.No = ⊥
IsText unread request input text status = Answers request input text status

-- the text was written whole and flushed, and the run ended with the text's status
pub record WritesWhole (ended : Status) (text : List ℕ) (status : Status) (old new : Option (List ℕ)) (flushed : Option ℕ) : Type 0 where
  pub said : ended ≡ status
  pub whole : Appends old new text
  pub all_flushed : IsFlushed new flushed

-- What a run that ended so wrote of a text with this status: all of it, or after a fault of the sink a front.
abbrev pub Outcome : Status → List ℕ → Status → Option (List ℕ) → Option (List ℕ) → Option ℕ → Type 0
Outcome statuses.WriteFault text status old new flushed = AppendsFront text old new
Outcome ended text status old new flushed = WritesWhole ended text status old new flushed

-- what was written is one of the texts for the words and this input, of which a read that failed was so
pub record Writes (unread : Unread) (request : Result Request WordFault) (input : List ℕ) (ended : Status) (old new : Option (List ℕ)) (flushed : Option ℕ) : Type 0 where
  pub text : List ℕ
  pub status : Status
  pub is_text : IsText unread request input text status
  pub outcome : Outcome ended text status old new flushed

-- A text with this status was delivered to the sink, whose members stand first: whole and flushed, or up to a counted fault.
pub record IsDelivered {K : Type 0} (written : K → Option (List ℕ)) (flushed : K → Option ℕ) (flushes faults : K → ℕ) (text : List ℕ) (status ended : Status) (old new : K) : Type 0 where
  pub said : (ended ≡ status) ⊎ (ended ≡ statuses.WriteFault)
  pub outcome : Outcome ended text status (written old) (written new) (flushed new)
  pub later : faults old ≤ faults new
  pub counted : ended ≡ statuses.WriteFault → Rose (faults old) (faults new)
  pub told : faults old < faults new → ended ≡ statuses.WriteFault
  pub flushed_once : ended ≢ statuses.WriteFault → flushes new ≡ next_count (flushes old)

-- what each run does to the sink: what it wrote is flushed behind it, and in parts also before
pub record IsEnded {K : Type 0} (written : K → Option (List ℕ)) (flushed : K → Option ℕ) (flushes faults : K → ℕ) (ended : Status) (old new : K) : Type 0 where
  pub later : faults old ≤ faults new
  pub counted : ended ≡ statuses.WriteFault → Rose (faults old) (faults new)
  pub told : faults old < faults new → ended ≡ statuses.WriteFault
  pub at_least_once : ended ≢ statuses.WriteFault → next_count (flushes old) ≤ flushes new

-- What a run over a trace that ended so leaves of this input: nothing, or where the trace was refused, what was left at a failed read or of
-- as many bytes as 64 bits count.
abbrev pub Leaves : Status → List ℕ → Option (List ℕ) → ℕ → ℕ → Type 0
Leaves statuses.Done input left faults_before faults_now = left ≡ Some []
Leaves statuses.Refused input left faults_before faults_now = IsReadOut input left faults_before faults_now
Leaves _ input left faults_before faults_now = Unit {0}

-- # Why a trace wasn't read

abbrev pub stopped_text : Unread → Stopped → List ℕ
stopped_text unread (stops.InForm number fault) = failed (line_text (InForm (record { line = number; column = fault.column; reason = fault.reason })))
stopped_text unread (stops.AtLine number cause) = failed (line_text (AtLine number cause))
stopped_text unread stops.NoFirst = no_first_text
stopped_text unread stops.TooLong = too_long_text
stopped_text unread stops.ReadFault = read_fault_text unread
stopped_text unread stops.Memory = memory_text

abbrev pub stopped_status : Stopped → Status
stopped_status (stops.InForm number fault) = statuses.Refused
stopped_status (stops.AtLine number cause) = statuses.Refused
stopped_status stops.NoFirst = statuses.Refused
stopped_status stops.TooLong = statuses.Refused
stopped_status stops.ReadFault = statuses.ReadFault
stopped_status stops.Memory = statuses.Memory

-- # Why a trace wasn't told further

-- the comment for it; none where a write failed
abbrev pub halted_text : Unread → Halt → List ℕ
halted_text unread (halts.InForm number fault) = halt_text (told.InForm (record { line = number; column = fault.column; reason = fault.reason }))
halted_text unread (halts.AtLine number cause) = halt_text (told.AtLine number cause)
halted_text unread (halts.Limit processor part fault) = halt_text (told.OfDocument processor part (Beyond fault))
halted_text unread (halts.NotKnown processor part place name reason) = halt_text (told.OfDocument processor part (NotKnown place name.items reason))
halted_text unread (halts.TooLong processor part) = halt_text (told.OfText processor part)
halted_text unread (halts.NoPlace name begin late) = halt_text (told.NoPlace name.items begin late)
halted_text unread halts.NoFirst = no_first_text
halted_text unread halts.Endless = too_long_text
halted_text unread halts.ReadFault = read_fault_text unread
halted_text unread halts.Memory = memory_text
halted_text unread halts.WriteFault = []

abbrev pub halted_status : Halt → Status
halted_status halts.ReadFault = statuses.ReadFault
halted_status halts.Memory = statuses.Memory
halted_status halts.WriteFault = statuses.WriteFault
halted_status _ = statuses.Refused

-- The comment was delivered to the sink, whose members stand first. Where a write had failed before, nothing more was done to it.
abbrev pub TellsHalt : {K : Type 0} → (K → Option (List ℕ)) → (K → Option ℕ) → (K → ℕ) → (K → ℕ) → Unread → Halt → Status → K → K → Type 0
TellsHalt written flushed flushes faults unread halts.WriteFault ended old new = (ended ≡ statuses.WriteFault) × (new ≡ old)
TellsHalt written flushed flushes faults unread halt ended old new = IsDelivered written flushed flushes faults (halted_text unread halt) (halted_status halt) ended old new

-- # Why a trace's threads weren't told

-- the same end of a trace that is read; a failed write ends none
abbrev pub stopped_of : ThreadsHalt → Option Stopped
stopped_of (threads.InForm number fault) = Some (stops.InForm number fault)
stopped_of (threads.AtLine number cause) = Some (stops.AtLine number cause)
stopped_of threads.Endless = Some stops.TooLong
stopped_of threads.ReadFault = Some stops.ReadFault
stopped_of threads.WriteFault = None
stopped_of threads.Memory = Some stops.Memory

-- The comment was delivered to the sink, whose members stand first. Where a write had failed before, nothing more was done to it.
abbrev pub TellsStop : {K : Type 0} → (K → Option (List ℕ)) → (K → Option ℕ) → (K → ℕ) → (K → ℕ) → Unread → Option Stopped → Status → K → K → Type 0
TellsStop written flushed flushes faults unread None ended old new = (ended ≡ statuses.WriteFault) × (new ≡ old)
TellsStop written flushed flushes faults unread (Some stopped) ended old new =
    IsDelivered written flushed flushes faults (stopped_text unread stopped) (stopped_status stopped) ended old new

-- # What is known at a trace's end

-- the text with this status for these lines
abbrev pub IsTextOfLines : Asked → Bool → List Said → List ℕ → Status → Type 0
IsTextOfLines asked strict past text statuses.Done = (document_fault asked strict past ≡ None) × (text ≡ text_of asked past)
IsTextOfLines asked strict past text statuses.Refused = (fault : TraceFault) × (document_fault asked strict past ≡ Some fault) × (text ≡ fault_text fault)
IsTextOfLines asked strict past text statuses.Memory = text ≡ memory_text
IsTextOfLines asked strict past text _ = ⊥

-- of all lines that end so, the text was delivered
pub record Tells {K : Type 0} (written : K → Option (List ℕ)) (flushed : K → Option ℕ) (flushes faults : K → ℕ) (known : Ended) (strict : Bool) (ended : Status) (old new : K) : Type 0 where
  pub text : List ℕ
  pub status : Status
  pub delivered : IsDelivered written flushed flushes faults text status ended old new
  pub says : (asked : Asked) (past : List Said) → KnowsEnd asked past known → IsTextOfLines asked strict past text status
