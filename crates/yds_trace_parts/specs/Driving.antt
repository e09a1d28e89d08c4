-- What becomes of the bytes of a source that is told in parts.
use Rattle.std.specs.Prelude.{◌≡◌, ◌≢◌, ℕ, ◌+◌, ◌^◌, ◌<◌, ◌≤◌, ◌⊎◌, List, [], ◌++◌, length, Bool, Option, Some, None, Result, Ok, Err, IfSome, OnOk, IfErr}
use Rattle.std.specs.Io.KnownBytes.{Appends}
use Rattle.yds_port.specs.Count.{Rose}
use Rattle.yds_port.specs.Sink.{AppendsFront}
use Rattle.yds_kernel.specs.Event.{Said}
use Rattle.yds_kernel_order.specs.Order.{order_of}
use Rattle.yds_kernel_text.specs.declared.limits.TheConstants.{ROOM}
use Rattle.yds_trace.specs.Asked.{Asked}
use Rattle.yds_trace_bounds.specs.declared.bounds.Bounds.{Bounds}
use Rattle.yds_trace_bounds.specs.Bounds.{asked_in}
use Rattle.yds_trace_reading.specs.LineFault.{past_of}
use Rattle.yds_trace_reading.specs.Reading.{IsRest}
use Rattle.yds_trace_parts.specs.declared.halt.Halt.{Halt as HaltKept}
use Rattle.yds_trace_parts.specs.declared.halt.Halt.TheVariants as kept
use Rattle.yds_trace_parts.specs.declared.limits.TheConstants.{MOST_LINES}
use Rattle.yds_trace_parts.specs.Told.{told_after, told_in_text}
use Rattle.yds_trace_parts.specs.Telling.{halt_read}
use Rattle.yds_trace_parts.specs.Flushing.{count_on, times_told, IsFlushedSince}

-- Its bytes are as many as 64 bits count, but for one buffer; or its lines are as many as are told.
abbrev pub IsEndless : List ℕ → Type 0
IsEndless input = (2 ^ 64 ≤ length input + ROOM) ⊎ (MOST_LINES ≤ length (order_of input).said)

-- Some of the trace's lines, from the first on in order of time, were taken, and their parts were written.
pub record WritesSome (asked : Asked) (strict : Bool) (input : List ℕ) (old new : Option (List ℕ)) : Type 0 where
  pub past : List Said
  pub behind : List Said
  pub front : past_of (order_of input) ≡ behind ++ past
  pub goes_on : (told_after asked strict past).halt ≡ None
  pub appended : Appends old new (told_after asked strict past).text

-- all that is told of the trace, for which it halts here
pub record WritesTold (asked : Asked) (strict : Bool) (input : List ℕ) (halt : Option HaltKept) (old new : Option (List ℕ)) : Type 0 where
  pub told : (told_in_text asked strict input).halt ≡ (elim halt [ None ↦ None | Some reason ↦ halt_read reason ])
  pub appended : Appends old new (told_in_text asked strict input).text

abbrev pub Writes : Asked → Bool → List ℕ → Result (Unit {0}) HaltKept → Option (List ℕ) → Option (List ℕ) → Type 0
Writes asked strict input (Ok done) old new = WritesTold asked strict input None old new
Writes asked strict input (Err kept.NoFirst) old new = ⊥
Writes asked strict input (Err kept.Memory) old new = WritesSome asked strict input old new
Writes asked strict input (Err kept.ReadFault) old new = WritesSome asked strict input old new
Writes asked strict input (Err kept.Endless) old new = IsEndless input × WritesSome asked strict input old new
Writes asked strict input (Err kept.WriteFault) old new = AppendsFront (told_in_text asked strict input).text old new
Writes asked strict input (Err halt) old new = WritesTold asked strict input (Some halt) old new

-- What is written by what is asked within the bounds. Where they count from a first event that was lost, it is nothing.
abbrev pub WritesIn : Option Asked → Bool → List ℕ → Result (Unit {0}) HaltKept → Option (List ℕ) → Option (List ℕ) → Type 0
WritesIn (Some asked) strict input result old new = Writes asked strict input result old new
WritesIn None strict input (Err kept.NoFirst) old new = Appends old new []
WritesIn None strict input (Err kept.Memory) old new = Appends old new []
WritesIn None strict input (Err kept.ReadFault) old new = Appends old new []
WritesIn None strict input (Err kept.Endless) old new = IsEndless input × Appends old new []
WritesIn None strict input result old new = ⊥

-- A trace was told from a source to a sink, whose members stand first, by the answer: what became of both.
pub record Tells {S K : Type 0} (left : S → Option (List ℕ)) (read : S → ℕ) (written : K → Option (List ℕ)) (flushed : K → Option ℕ) (flushes wrote : K → ℕ)
    (bounds : Bounds) (asked : Asked) (strict : Bool) (result : Result (Unit {0}) HaltKept) (source from : S) (sink to : K) : Type 0 where
  pub source_later : read source ≤ read from
  pub sink_later : wrote sink ≤ wrote to
  pub no_fault : OnOk result (read from ≡ read source)
  pub read_fault : result ≡ Err kept.ReadFault → Rose (read source) (read from)
  pub write_fault : result ≡ Err kept.WriteFault → Rose (wrote sink) (wrote to)
  pub sink_rose : wrote sink < wrote to → result ≡ Err kept.WriteFault
  pub all_flushed : IfErr result (λ halt. halt ≢ kept.WriteFault → IsFlushedSince written flushed sink to)
  pub flushed_so_often : result ≢ Err kept.WriteFault → (times : ℕ) × (flushes to ≡ count_on times (flushes sink))
  pub flushed_behind_each : IfSome (left source) (λ input. IfSome (asked_in bounds asked (order_of input)) (λ within.
      OnOk result (flushes to ≡ count_on (times_told within strict (past_of (order_of input))) (flushes sink))))
  pub told : IfSome (left source) (λ input. WritesIn (asked_in bounds asked (order_of input)) strict input result (written sink) (written to))
  pub none_left : IfSome (left source) (λ input. OnOk result (left from ≡ Some []))
  pub rest : IsRest (left source) (left from)
