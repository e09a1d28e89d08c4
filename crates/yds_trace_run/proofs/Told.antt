-- From what was read of a trace to what was written of it.
use Rattle.yds_model.proofs.Common.{◌≡◌, ℕ, ◌⊎◌, inl, inr, List, [], append-nil, Bool, true, false, Option, Some, None, Result, Ok, Err, refl, sym, ap, subst, ◌∙◌}
use Rattle.std.specs.Prelude.{IfSome}
use Rattle.base.specs.declared.status.Status.{Status}
use Rattle.base.specs.declared.status.Status.TheVariants as statuses
use Rattle.yds_kernel.specs.declared.fault.LineFault.{LineFault as FormFault}
use Rattle.yds_kernel.specs.Parts.{or_else}
use Rattle.yds_kernel.specs.Text.{Trace}
use Rattle.yds_kernel_order.specs.Order.{order_of}
use Rattle.yds_trace.specs.declared.ended.Ended.{Ended}
use Rattle.yds_trace.specs.declared.fault.Cause.{Cause}
use Rattle.yds_trace.specs.Asked.{Asked}
use Rattle.yds_trace_bounds.specs.declared.bounds.Bounds.{Bounds}
use Rattle.yds_trace_bounds.specs.Bounds.{asked_in}
use Rattle.yds_trace.specs.Ended.{IsEnded as KnowsEnd}
use Rattle.yds_kernel.specs.Event.{Said}
use Rattle.yds_trace_reading.specs.declared.stopped.Stopped.{Stopped}
use Rattle.yds_trace_reading.specs.declared.stopped.Stopped.TheVariants as stops
use Rattle.yds_trace_reading.specs.LineFault.{LineFault, InForm, AtLine, past_of, line_fault_of, in_text}
use Rattle.yds_trace_reading.specs.Reading.{IsEndOfSome, IsTooLong, IsReadIn, IsStoppedIn}
use Rattle.yds_trace_words.specs.Words.{WordFault}
use Rattle.yds_trace_words.specs.Request.{Request, ShowHelp, ShowVersion, ReadTrace, ListThreads}
use Rattle.yds_trace_run.specs.Fault.{OfLine, of_line, document_fault, fault_of}
use Rattle.yds_trace_run.specs.FaultText.{fault_text, no_first_text, memory_text}
use Rattle.yds_trace_run.specs.Answer.{IsTold, IsToldIn, IsUncounted, WasWritten, WasWrittenIn, StandsBefore, EndsWith}
use Rattle.yds_trace_run.specs.Worth.{HoldsWithin}
use Rattle.yds_trace_files.specs.Unread.{Unread}
use Rattle.yds_trace_run.specs.Endings.{IsText, Writes, IsDelivered, Tells, IsTextOfLines, stopped_text, stopped_status}
use Rattle.yds_trace_run.proofs.Within.{same_parts, besides}

-- # Ends that aren't of the trace

-- In parts, no part is written with no line.
none_written : (in_parts : Bool) (asked : Asked) (strict : Bool) (input : List ℕ) → WasWritten in_parts asked strict input []
none_written false asked strict input = refl
none_written true asked strict input =
    record { past = []; behind = past_of (order_of input); front = sym (append-nil (past_of (order_of input))); goes_on = refl; says = refl }

none_written_in : (within : Option Asked) (strict : Bool) (input : List ℕ) → WasWrittenIn within strict input []
none_written_in None strict input = refl
none_written_in (Some asked) strict input = none_written asked.in_parts asked strict input

none_stands : (request : Result Request WordFault) (input : List ℕ) → StandsBefore request input []
none_stands (Err fault) input = refl
none_stands (Ok ShowHelp) input = refl
none_stands (Ok ShowVersion) input = refl
none_stands (Ok ListThreads) input = refl
none_stands (Ok (ReadTrace asked bounds strict)) input = none_written_in (asked_in bounds asked (order_of input)) strict input

-- a comment with nothing before it
pub ends_alone : (request : Result Request WordFault) (input comment : List ℕ) → EndsWith request input comment comment
ends_alone request input comment = record { before = []; stands = none_stands request input; says = refl }

-- # Why it wasn't read

stopped_fault : (asked : Asked) (strict : Bool) (bytes : List ℕ) (fault : LineFault) → line_fault_of asked bytes ≡ Some fault → fault_of asked strict bytes ≡ Some (OfLine fault)
stopped_fault asked strict bytes fault is =
    ap (λ (line : Option LineFault). or_else (of_line line) (document_fault asked strict (past_of (order_of bytes)))) is

-- what is told in one document
in_one : (asked : Asked) (strict : Bool) (input text : List ℕ) (status : Status) → asked.in_parts ≡ false → IsTold false asked strict input text status
    → IsTold asked.in_parts asked strict input text status
in_one asked strict input text status whole is = subst (λ (b : Bool). IsTold b asked strict input text status) (sym whole) is

line_told : (asked : Asked) (strict : Bool) (bytes : List ℕ) (fault : LineFault) → line_fault_of asked bytes ≡ Some fault
    → IsTold false asked strict bytes (fault_text (OfLine fault)) statuses.Refused
line_told asked strict bytes fault is = record { fault = OfLine fault; first = stopped_fault asked strict bytes fault is; says = refl }

-- what is told in one document, within bounds
abbrev InOne : Option Asked → Type 0
InOne within = IfSome within (λ one. one.in_parts ≡ false)

in_one_within : (bounds : Bounds) (asked : Asked) (trace : Trace) → asked.in_parts ≡ false → InOne (asked_in bounds asked trace)
in_one_within bounds asked trace whole = subst (λ (b : Bool). IfSome (asked_in bounds asked trace) (λ one. one.in_parts ≡ b)) whole (same_parts bounds asked trace)

form_in : (within : Option Asked) (strict : Bool) (bytes : List ℕ) (number : ℕ) (fault : FormFault) → InOne within → IsStoppedIn within bytes (stops.InForm number fault)
    → IsToldIn within strict bytes (fault_text (OfLine (InForm (record { line = number; column = fault.column; reason = fault.reason })))) statuses.Refused
form_in None strict bytes number fault whole is = absurd is
form_in (Some asked) strict bytes number fault whole is =
    let line : LineFault = InForm (record { line = number; column = fault.column; reason = fault.reason }) in
    in_one asked strict bytes (fault_text (OfLine line)) statuses.Refused whole (line_told asked strict bytes line is)

cause_in : (within : Option Asked) (strict : Bool) (bytes : List ℕ) (number : ℕ) (cause : Cause) → InOne within → IsStoppedIn within bytes (stops.AtLine number cause)
    → IsToldIn within strict bytes (fault_text (OfLine (AtLine number cause))) statuses.Refused
cause_in None strict bytes number cause whole is = absurd is
cause_in (Some asked) strict bytes number cause whole is =
    in_one asked strict bytes (fault_text (OfLine (AtLine number cause))) statuses.Refused whole (line_told asked strict bytes (AtLine number cause) is)

no_first_in : (within : Option Asked) (strict : Bool) (bytes : List ℕ) → IsStoppedIn within bytes stops.NoFirst → IsToldIn within strict bytes no_first_text statuses.Refused
no_first_in None strict bytes is = (refl, refl)
no_first_in (Some asked) strict bytes is = absurd is

too_long_in : (within : Option Asked) (bytes : List ℕ) → IsStoppedIn within bytes stops.TooLong → IsTooLong bytes
too_long_in None bytes is = is
too_long_in (Some asked) bytes is = is

stopped_is : (unread : Unread) (asked : Asked) (bounds : Bounds) (strict : Bool) (bytes : List ℕ) (stopped : Stopped) → asked.in_parts ≡ false
    → IsStoppedIn (asked_in bounds asked (order_of bytes)) bytes stopped → IsText unread (Ok (ReadTrace asked bounds strict)) bytes (stopped_text unread stopped) (stopped_status stopped)
stopped_is unread asked bounds strict bytes (stops.InForm number fault) whole is =
    inl (form_in (asked_in bounds asked (order_of bytes)) strict bytes number fault (in_one_within bounds asked (order_of bytes) whole) is)
stopped_is unread asked bounds strict bytes (stops.AtLine number cause) whole is =
    inl (cause_in (asked_in bounds asked (order_of bytes)) strict bytes number cause (in_one_within bounds asked (order_of bytes) whole) is)
stopped_is unread asked bounds strict bytes stops.NoFirst whole is = inl (no_first_in (asked_in bounds asked (order_of bytes)) strict bytes is)
stopped_is unread asked bounds strict bytes stops.TooLong whole is = inr (record {
  long = subst (λ (b : Bool). IsUncounted b bytes) (sym whole) (too_long_in (asked_in bounds asked (order_of bytes)) bytes is);
  refused = refl;
  ends = ends_alone (Ok (ReadTrace asked bounds strict)) bytes (stopped_text unread stops.TooLong);
})
stopped_is unread asked bounds strict bytes stops.ReadFault whole is = ends_alone (Ok (ReadTrace asked bounds strict)) bytes (stopped_text unread stops.ReadFault)
stopped_is unread asked bounds strict bytes stops.Memory whole is = ends_alone (Ok (ReadTrace asked bounds strict)) bytes (stopped_text unread stops.Memory)

pub stopped_writes : (unread : Unread) {K : Type 0} (written : K → Option (List ℕ)) (flushed : K → Option ℕ) (flushes faults : K → ℕ) (asked : Asked) (bounds : Bounds) (strict : Bool)
    (input : Option (List ℕ)) (stopped : Stopped) (ended : Status) (old new : K) → asked.in_parts ≡ false
    → IfSome input (λ bytes. IsStoppedIn (asked_in bounds asked (order_of bytes)) bytes stopped)
    → IsDelivered written flushed flushes faults (stopped_text unread stopped) (stopped_status stopped) ended old new
    → IfSome input (λ bytes. Writes unread (Ok (ReadTrace asked bounds strict)) bytes ended (written old) (written new) (flushed new))
stopped_writes unread written flushed flushes faults asked bounds strict None stopped ended old new whole is delivered = tt
stopped_writes unread written flushed flushes faults asked bounds strict (Some bytes) stopped ended old new whole is delivered = record {
  text = stopped_text unread stopped;
  status = stopped_status stopped;
  is_text = stopped_is unread asked bounds strict bytes stopped whole is;
  outcome = delivered.outcome;
}

-- # What was read

-- the text with this status for the lines of a trace that is read whole
abbrev IsOfLines : Bool → List ℕ → List ℕ → Status → Asked → Type 0
IsOfLines strict bytes text status asked = (line_fault_of asked bytes ≡ None) × IsTextOfLines asked strict (past_of (order_of bytes)) text status

of_lines : (within : Option Asked) (strict : Bool) (bytes text : List ℕ) (status : Status) (known : Ended) → IsReadIn within bytes known
    → ((asked : Asked) (past : List Said) → KnowsEnd asked past known → IsTextOfLines asked strict past text status) → HoldsWithin within (IsOfLines strict bytes text status)
of_lines None strict bytes text status known is says = absurd is
of_lines (Some asked) strict bytes text status known is says = (ap (in_text bytes) is.sound, says asked (past_of (order_of bytes)) is.known)

document_in : (within : Option Asked) (strict : Bool) (bytes text : List ℕ) → InOne within → HoldsWithin within (IsOfLines strict bytes text statuses.Done)
    → IsToldIn within strict bytes text statuses.Done
document_in None strict bytes text whole is = absurd is
document_in (Some asked) strict bytes text whole is = in_one asked strict bytes text statuses.Done whole (record { sound = is.0; fits = is.1.0; says = is.1.1 })

refusal_in : (within : Option Asked) (strict : Bool) (bytes text : List ℕ) → InOne within → HoldsWithin within (IsOfLines strict bytes text statuses.Refused)
    → IsToldIn within strict bytes text statuses.Refused
refusal_in None strict bytes text whole is = absurd is
refusal_in (Some asked) strict bytes text whole is = in_one asked strict bytes text statuses.Refused whole (record {
  fault = is.1.0;
  first = ap (λ (line : Option LineFault). or_else (of_line line) (document_fault asked strict (past_of (order_of bytes)))) is.0 ∙ is.1.1;
  says = is.1.2;
})

-- Of no lines it is a text with such a status.
never : (within : Option Asked) (strict : Bool) (bytes text : List ℕ) → HoldsWithin within (λ one. (line_fault_of one bytes ≡ None) × ⊥) → ⊥
never within strict bytes text is = besides ⊥ (λ one. line_fault_of one bytes ≡ None) within is

told_is : (unread : Unread) (asked : Asked) (bounds : Bounds) (strict : Bool) (bytes : List ℕ) (text : List ℕ) (status : Status) → asked.in_parts ≡ false
    → HoldsWithin (asked_in bounds asked (order_of bytes)) (IsOfLines strict bytes text status) → IsText unread (Ok (ReadTrace asked bounds strict)) bytes text status
told_is unread asked bounds strict bytes text statuses.Done whole is =
    inl (document_in (asked_in bounds asked (order_of bytes)) strict bytes text (in_one_within bounds asked (order_of bytes) whole) is)
told_is unread asked bounds strict bytes text statuses.Refused whole is =
    inl (refusal_in (asked_in bounds asked (order_of bytes)) strict bytes text (in_one_within bounds asked (order_of bytes) whole) is)
told_is unread asked bounds strict bytes text statuses.Memory whole is =
    let same = besides (text ≡ memory_text) (λ one. line_fault_of one bytes ≡ None) (asked_in bounds asked (order_of bytes)) is in
    subst (λ (one : List ℕ). EndsWith (Ok (ReadTrace asked bounds strict)) bytes one memory_text) (sym same) (ends_alone (Ok (ReadTrace asked bounds strict)) bytes memory_text)
told_is unread asked bounds strict bytes text statuses.No whole is = absurd (never (asked_in bounds asked (order_of bytes)) strict bytes text is)
told_is unread asked bounds strict bytes text statuses.Usage whole is = absurd (never (asked_in bounds asked (order_of bytes)) strict bytes text is)
told_is unread asked bounds strict bytes text statuses.ReadFault whole is = absurd (never (asked_in bounds asked (order_of bytes)) strict bytes text is)
told_is unread asked bounds strict bytes text statuses.WriteFault whole is = absurd (never (asked_in bounds asked (order_of bytes)) strict bytes text is)

pub told_writes : (unread : Unread) {K : Type 0} (written : K → Option (List ℕ)) (flushed : K → Option ℕ) (flushes faults : K → ℕ) (asked : Asked) (bounds : Bounds) (strict : Bool)
    (input : Option (List ℕ)) (known : Ended) (ended : Status) (old new : K) → asked.in_parts ≡ false
    → IfSome input (λ bytes. IsReadIn (asked_in bounds asked (order_of bytes)) bytes known) → Tells written flushed flushes faults known strict ended old new
    → IfSome input (λ bytes. Writes unread (Ok (ReadTrace asked bounds strict)) bytes ended (written old) (written new) (flushed new))
told_writes unread written flushed flushes faults asked bounds strict None known ended old new whole is tells = tt
told_writes unread written flushed flushes faults asked bounds strict (Some bytes) known ended old new whole is tells = record {
  text = tells.text;
  status = tells.status;
  is_text = told_is unread asked bounds strict bytes tells.text tells.status whole
      (of_lines (asked_in bounds asked (order_of bytes)) strict bytes tells.text tells.status known is tells.says);
  outcome = tells.delivered.outcome;
}

read_fault_none : (asked : Asked) (strict : Bool) (known : Ended) (text : List ℕ) (status ended : Status) → (ended ≡ status) ⊎ (ended ≡ statuses.WriteFault)
    → ((one : Asked) (past : List Said) → KnowsEnd one past known → IsTextOfLines one strict past text status) → IsEndOfSome asked known → ended ≡ statuses.ReadFault → ⊥
read_fault_none asked strict known text status ended (inl same) says some fault =
    let told : IsTextOfLines asked strict some.past text statuses.ReadFault = subst (λ (s : Status). IsTextOfLines asked strict some.past text s) (sym same ∙ fault) (says asked some.past some.known) in
    told
read_fault_none asked strict known text status ended (inr write) says some fault = let both : statuses.WriteFault ≡ statuses.ReadFault = sym write ∙ fault in absurd cc

pub no_read_fault : {K : Type 0} (written : K → Option (List ℕ)) (flushed : K → Option ℕ) (flushes faults : K → ℕ) (asked : Asked) (strict : Bool) (known : Ended)
    (ended : Status) (old new : K) → IsEndOfSome asked known → Tells written flushed flushes faults known strict ended old new → ended ≡ statuses.ReadFault → ⊥
no_read_fault written flushed flushes faults asked strict known ended old new some tells fault =
    read_fault_none asked strict known tells.text tells.status ended tells.delivered.said tells.says some fault
