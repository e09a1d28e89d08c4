-- From what was told in parts to what was written.
use Rattle.yds_model.proofs.Common.{◌≡◌, ◌≢◌, ℕ, zero, suc, ◌<◌, ◌≤◌, ◌⊎◌, inl, inr, List, [], ◌++◌, append_assoc, append-nil, Bool, true, Option, Some, None, Ok, Err, refl, sym, ap, subst, ◌∙◌, arith, cases_lt, le_refl}
use Rattle.std.specs.Prelude.{IfSome}
use Rattle.std.specs.Io.KnownBytes.{Appends}
use Rattle.std.proofs.KnownBytes.{Appends-trans}
use Rattle.base.specs.declared.status.Status.{Status}
use Rattle.base.specs.declared.status.Status.TheVariants as statuses
use Rattle.yds_port.specs.Count.{Rose, next_count}
use Rattle.yds_port.specs.Sink.{AppendsFront}
use Rattle.yds_kernel_order.specs.Order.{order_of}
use Rattle.yds_trace.specs.Asked.{Asked}
use Rattle.yds_trace_bounds.specs.declared.bounds.Bounds.{Bounds}
use Rattle.yds_trace_bounds.specs.Bounds.{asked_in}
use Rattle.yds_trace_reading.specs.LineFault.{past_of}
use Rattle.yds_trace_reading.specs.Reading.{IsReadOut}
use Rattle.yds_trace_parts.specs.declared.halt.Halt.{Halt as HaltKept}
use Rattle.yds_trace_parts.specs.declared.halt.Halt.TheVariants as halts
use Rattle.yds_trace_text.specs.Limit.{Beyond, NotKnown}
use Rattle.yds_trace_parts.specs.Told.{Halt, InForm, AtLine, OfDocument, OfText, NoPlace, told_after, told_in_text}
use Rattle.yds_trace_parts.specs.Flushing.{count_on, times_told}
use Rattle.yds_trace_parts.specs.Driving.{WritesSome, WritesIn, Writes as WritesParts}
use Rattle.yds_trace_words.specs.Request.{ReadTrace}
use Rattle.yds_trace_run.specs.FaultText.{halt_text, no_first_text, too_long_text, memory_text}
use Rattle.yds_trace_run.specs.Answer.{IsTold, IsToldIn, IsUncounted, WasWritten, WasWrittenIn, EndsWith}
use Rattle.yds_trace_run.specs.Worth.{HoldsWithin}
use Rattle.yds_trace_files.specs.Unread.{Unread, read_fault_text}
use Rattle.yds_trace_run.specs.Endings.{IsText, Outcome, Writes, IsDelivered, IsEnded, Leaves, TellsHalt, halted_text, halted_status}
use Rattle.yds_trace_run.proofs.Within.{same_parts}
use Rattle.yds_trace_run.proofs.Told.{ends_alone}
use Rattle.yds_trace_run.proofs.Left.{leaves_read_out, leaves_failed}

-- # One text behind another

-- what is appended behind a text that was appended whole
front_after : (front back : List ℕ) (a b c : Option (List ℕ)) → Appends a b front → AppendsFront back b c → AppendsFront (front ++ back) a c
front_after front back a b c first rest = record {
  front = front ++ rest.front;
  rest = rest.rest;
  is_front = ap (λ (text : List ℕ). front ++ text) rest.is_front ∙ sym (append_assoc front rest.front rest.rest);
  appended = Appends-trans a b c front rest.front first rest.appended;
}

-- a front of a text is one of a longer text
front_longer : (front back : List ℕ) (a b : Option (List ℕ)) → AppendsFront front a b → AppendsFront (front ++ back) a b
front_longer front back a b is = record {
  front = is.front;
  rest = is.rest ++ back;
  is_front = ap (λ (text : List ℕ). text ++ back) is.is_front ∙ append_assoc is.front is.rest back;
  appended = is.appended;
}

pub outcome_more : (ended : Status) (first text : List ℕ) (status : Status) (old mid new : Option (List ℕ)) (flushed : Option ℕ) → Appends old mid first → Outcome ended text status mid new flushed
    → Outcome ended (first ++ text) status old new flushed
outcome_more statuses.WriteFault first text status old mid new flushed before behind = front_after first text old mid new before behind
outcome_more statuses.Done first text status old mid new flushed before behind =
    record { said = behind.said; whole = Appends-trans old mid new first text before behind.whole; all_flushed = behind.all_flushed }
outcome_more statuses.No first text status old mid new flushed before behind =
    record { said = behind.said; whole = Appends-trans old mid new first text before behind.whole; all_flushed = behind.all_flushed }
outcome_more statuses.Usage first text status old mid new flushed before behind =
    record { said = behind.said; whole = Appends-trans old mid new first text before behind.whole; all_flushed = behind.all_flushed }
outcome_more statuses.Refused first text status old mid new flushed before behind =
    record { said = behind.said; whole = Appends-trans old mid new first text before behind.whole; all_flushed = behind.all_flushed }
outcome_more statuses.ReadFault first text status old mid new flushed before behind =
    record { said = behind.said; whole = Appends-trans old mid new first text before behind.whole; all_flushed = behind.all_flushed }
outcome_more statuses.Memory first text status old mid new flushed before behind =
    record { said = behind.said; whole = Appends-trans old mid new first text before behind.whole; all_flushed = behind.all_flushed }

-- # What was written

module _ (asked : Asked) (bounds : Bounds) (strict : Bool) (bytes : List ℕ) (told_in_parts : asked.in_parts ≡ true) (within : Asked) (is_within : asked_in bounds asked (order_of bytes) ≡ Some within) where
  parts_within : within.in_parts ≡ true
  parts_within = subst (λ (some : Option Asked). IfSome some (λ one. one.in_parts ≡ asked.in_parts)) is_within (same_parts bounds asked (order_of bytes)) ∙ told_in_parts

  told_so : (text : List ℕ) (status : Status) → IsTold true within strict bytes text status → IsToldIn (asked_in bounds asked (order_of bytes)) strict bytes text status
  told_so text status is =
      subst (λ (some : Option Asked). IsToldIn some strict bytes text status) (sym is_within) (subst (λ (b : Bool). IsTold b within strict bytes text status) (sym parts_within) is)

  -- behind the parts of some lines
  ends_so : (old mid : Option (List ℕ)) (comment : List ℕ) (some : WritesSome within strict bytes old mid)
      → EndsWith (Ok (ReadTrace asked bounds strict)) bytes ((told_after within strict some.past).text ++ comment) comment
  ends_so old mid comment some = record {
    before = (told_after within strict some.past).text;
    stands = subst (λ (one : Option Asked). WasWrittenIn one strict bytes (told_after within strict some.past).text) (sym is_within)
        (subst (λ (b : Bool). WasWritten b within strict bytes (told_after within strict some.past).text) (sym parts_within)
        (record { past = some.past; behind = some.behind; front = some.front; goes_on = some.goes_on; says = refl }));
    says = refl;
  }

  -- a text with this status, behind what was told
  refused_so : (unread : Unread) (halt : Halt) (ended : Status) (old mid new : Option (List ℕ)) (flushed : Option ℕ) → (told_in_text within strict bytes).halt ≡ Some halt
      → Appends old mid (told_in_text within strict bytes).text → Outcome ended (halt_text halt) statuses.Refused mid new flushed
      → Writes unread (Ok (ReadTrace asked bounds strict)) bytes ended old new flushed
  refused_so unread halt ended old mid new flushed first before behind = record {
    text = (told_in_text within strict bytes).text ++ halt_text halt;
    status = statuses.Refused;
    is_text = inl (told_so ((told_in_text within strict bytes).text ++ halt_text halt) statuses.Refused (record { halt = halt; first = first; says = refl }));
    outcome = outcome_more ended (told_in_text within strict bytes).text (halt_text halt) statuses.Refused old mid new flushed before behind;
  }

  -- A write failed: a front of all that is told.
  failed_so : (unread : Unread) (halt : Option Halt) (ended : Status) (old new : Option (List ℕ)) (flushed : Option ℕ) → (told_in_text within strict bytes).halt ≡ halt
      → ended ≡ statuses.WriteFault → AppendsFront (told_in_text within strict bytes).text old new → Writes unread (Ok (ReadTrace asked bounds strict)) bytes ended old new flushed
  failed_so unread None ended old new flushed is failed front = record {
    text = (told_in_text within strict bytes).text;
    status = statuses.Done;
    is_text = inl (told_so (told_in_text within strict bytes).text statuses.Done (record { sound = is; says = refl }));
    outcome = subst (λ (one : Status). Outcome one (told_in_text within strict bytes).text statuses.Done old new flushed) (sym failed) front;
  }
  failed_so unread (Some halt) ended old new flushed is failed front = record {
    text = (told_in_text within strict bytes).text ++ halt_text halt;
    status = statuses.Refused;
    is_text = inl (told_so ((told_in_text within strict bytes).text ++ halt_text halt) statuses.Refused (record { halt = halt; first = is; says = refl }));
    outcome = subst (λ (one : Status). Outcome one ((told_in_text within strict bytes).text ++ halt_text halt) statuses.Refused old new flushed) (sym failed)
        (front_longer (told_in_text within strict bytes).text (halt_text halt) old new front);
  }

  done_so : (unread : Unread) (ended : Status) (old mid new : Option (List ℕ)) (flushed : Option ℕ) → WritesParts within strict bytes (Ok tt) old mid
      → Outcome ended [] statuses.Done mid new flushed → Writes unread (Ok (ReadTrace asked bounds strict)) bytes ended old new flushed
  done_so unread ended old mid new flushed drives outcome = record {
    text = (told_in_text within strict bytes).text;
    status = statuses.Done;
    is_text = inl (told_so (told_in_text within strict bytes).text statuses.Done (record { sound = drives.told; says = refl }));
    outcome = subst (λ (text : List ℕ). Outcome ended text statuses.Done old new flushed) (append-nil (told_in_text within strict bytes).text)
        (outcome_more ended (told_in_text within strict bytes).text [] statuses.Done old mid new flushed drives.appended outcome);
  }

  module _ {K : Type 0} (written : K → Option (List ℕ)) (flushed : K → Option ℕ) (flushes faults : K → ℕ) where
    halted_so : (unread : Unread) (halt : HaltKept) (ended : Status) (old mid new : K) → WritesParts within strict bytes (Err halt) (written old) (written mid)
        → TellsHalt written flushed flushes faults unread halt ended mid new → Writes unread (Ok (ReadTrace asked bounds strict)) bytes ended (written old) (written new) (flushed new)
    halted_so unread (halts.InForm number fault) ended old mid new drives tells =
        refused_so unread (InForm (record { line = number; column = fault.column; reason = fault.reason })) ended (written old) (written mid) (written new) (flushed new) drives.told drives.appended tells.outcome
    halted_so unread (halts.AtLine number cause) ended old mid new drives tells =
        refused_so unread (AtLine number cause) ended (written old) (written mid) (written new) (flushed new) drives.told drives.appended tells.outcome
    halted_so unread (halts.Limit processor part fault) ended old mid new drives tells =
        refused_so unread (OfDocument processor part (Beyond fault)) ended (written old) (written mid) (written new) (flushed new) drives.told drives.appended tells.outcome
    halted_so unread (halts.NotKnown processor part place name reason) ended old mid new drives tells =
        refused_so unread (OfDocument processor part (NotKnown place name.items reason)) ended (written old) (written mid) (written new) (flushed new) drives.told drives.appended tells.outcome
    halted_so unread (halts.TooLong processor part) ended old mid new drives tells =
        refused_so unread (OfText processor part) ended (written old) (written mid) (written new) (flushed new) drives.told drives.appended tells.outcome
    halted_so unread (halts.NoPlace name begin late) ended old mid new drives tells =
        refused_so unread (NoPlace name.items begin late) ended (written old) (written mid) (written new) (flushed new) drives.told drives.appended tells.outcome
    halted_so unread halts.NoFirst ended old mid new drives tells = absurd drives
    halted_so unread halts.Endless ended old mid new drives tells = record {
      text = (told_after within strict drives.1.past).text ++ too_long_text;
      status = statuses.Refused;
      is_text = inr (record { long = subst (λ (b : Bool). IsUncounted b bytes) (sym told_in_parts) drives.0; refused = refl; ends = ends_so (written old) (written mid) too_long_text drives.1 });
      outcome = outcome_more ended (told_after within strict drives.1.past).text too_long_text statuses.Refused (written old) (written mid) (written new) (flushed new) drives.1.appended tells.outcome;
    }
    halted_so unread halts.ReadFault ended old mid new drives tells = record {
      text = (told_after within strict drives.past).text ++ (read_fault_text unread);
      status = statuses.ReadFault;
      is_text = ends_so (written old) (written mid) (read_fault_text unread) drives;
      outcome = outcome_more ended (told_after within strict drives.past).text (read_fault_text unread) statuses.ReadFault (written old) (written mid) (written new) (flushed new) drives.appended tells.outcome;
    }
    halted_so unread halts.Memory ended old mid new drives tells = record {
      text = (told_after within strict drives.past).text ++ memory_text;
      status = statuses.Memory;
      is_text = ends_so (written old) (written mid) memory_text drives;
      outcome = outcome_more ended (told_after within strict drives.past).text memory_text statuses.Memory (written old) (written mid) (written new) (flushed new) drives.appended tells.outcome;
    }
    halted_so unread halts.WriteFault ended old mid new drives tells =
        failed_so unread (told_in_text within strict bytes).halt ended (written old) (written new) (flushed new) refl tells.0
        (subst (λ (one : K). AppendsFront (told_in_text within strict bytes).text (written old) (written one)) (sym tells.1) drives)

-- # Where the bounds count from a first event that was lost

module _ (asked : Asked) (bounds : Bounds) (strict : Bool) (bytes : List ℕ) (told_in_parts : asked.in_parts ≡ true) (is_lost : asked_in bounds asked (order_of bytes) ≡ None) where
  alone : (text : List ℕ) (status ended : Status) (old mid new : Option (List ℕ)) (flushed : Option ℕ) (unread : Unread) → IsText unread (Ok (ReadTrace asked bounds strict)) bytes text status
      → Appends old mid [] → Outcome ended text status mid new flushed → Writes unread (Ok (ReadTrace asked bounds strict)) bytes ended old new flushed
  alone text status ended old mid new flushed unread is before behind =
      record { text = text; status = status; is_text = is; outcome = outcome_more ended [] text status old mid new flushed before behind }

  module _ {K : Type 0} (written : K → Option (List ℕ)) (flushed : K → Option ℕ) (flushes faults : K → ℕ) where
    lost_so : (unread : Unread) (halt : HaltKept) (ended : Status) (old mid new : K) → WritesIn None strict bytes (Err halt) (written old) (written mid)
        → TellsHalt written flushed flushes faults unread halt ended mid new → Writes unread (Ok (ReadTrace asked bounds strict)) bytes ended (written old) (written new) (flushed new)
    lost_so unread halts.NoFirst ended old mid new drives tells =
        alone no_first_text statuses.Refused ended (written old) (written mid) (written new) (flushed new) unread
        (inl (subst (λ (some : Option Asked). IsToldIn some strict bytes no_first_text statuses.Refused) (sym is_lost) (refl, refl))) drives tells.outcome
    lost_so unread halts.Endless ended old mid new drives tells =
        alone too_long_text statuses.Refused ended (written old) (written mid) (written new) (flushed new) unread
        (inr (record {
          long = subst (λ (b : Bool). IsUncounted b bytes) (sym told_in_parts) drives.0;
          refused = refl;
          ends = ends_alone (Ok (ReadTrace asked bounds strict)) bytes too_long_text;
        })) drives.1 tells.outcome
    lost_so unread halts.ReadFault ended old mid new drives tells =
        alone (read_fault_text unread) statuses.ReadFault ended (written old) (written mid) (written new) (flushed new) unread
        (ends_alone (Ok (ReadTrace asked bounds strict)) bytes (read_fault_text unread)) drives tells.outcome
    lost_so unread halts.Memory ended old mid new drives tells =
        alone memory_text statuses.Memory ended (written old) (written mid) (written new) (flushed new) unread
        (ends_alone (Ok (ReadTrace asked bounds strict)) bytes memory_text) drives tells.outcome
    lost_so unread (halts.InForm number fault) ended old mid new drives tells = absurd drives
    lost_so unread (halts.AtLine number cause) ended old mid new drives tells = absurd drives
    lost_so unread (halts.Limit processor part fault) ended old mid new drives tells = absurd drives
    lost_so unread (halts.NotKnown processor part place name reason) ended old mid new drives tells = absurd drives
    lost_so unread (halts.TooLong processor part) ended old mid new drives tells = absurd drives
    lost_so unread (halts.NoPlace name begin late) ended old mid new drives tells = absurd drives
    lost_so unread halts.WriteFault ended old mid new drives tells = absurd drives

-- # Flushes

grows : (count : ℕ) → next_count count ≤ next_count (next_count count)
grows count = grind arith

-- Behind whatever number of flushes one more is one more than before them, but at the last value.
once_more : (times count : ℕ) → next_count count ≤ next_count (count_on times count)
once_more zero count = le_refl (next_count count)
once_more (suc times) count = omega (arith, once_more times count, grows (count_on times count))

pub once_behind : (old mid new times : ℕ) → mid ≡ count_on times old → new ≡ next_count mid → new ≡ next_count (count_on times old)
once_behind old mid new times first last = last ∙ ap next_count first

flushed_in : (within : Option Asked) (strict : Bool) (bytes : List ℕ) (before now : Option (List ℕ)) (old mid new : ℕ) → WritesIn within strict bytes (Ok tt) before now
    → IfSome within (λ one. mid ≡ count_on (times_told one strict (past_of (order_of bytes))) old) → new ≡ next_count mid
    → HoldsWithin within (λ one. new ≡ next_count (count_on (times_told one strict (past_of (order_of bytes))) old))
flushed_in None strict bytes before now old mid new told each last = absurd told
flushed_in (Some one) strict bytes before now old mid new told each last = once_behind old mid new (times_told one strict (past_of (order_of bytes))) each last

-- behind all parts of a trace that was told to its end
pub flushed_last : (asked : Asked) (bounds : Bounds) (strict : Bool) (input before now : Option (List ℕ)) (ended : Status) (old mid new : ℕ)
    → IfSome input (λ bytes. WritesIn (asked_in bounds asked (order_of bytes)) strict bytes (Ok tt) before now)
    → IfSome input (λ bytes. IfSome (asked_in bounds asked (order_of bytes)) (λ within. mid ≡ count_on (times_told within strict (past_of (order_of bytes))) old))
    → (ended ≢ statuses.WriteFault → new ≡ next_count mid)
    → IfSome input (λ bytes. ended ≡ statuses.Done
    → HoldsWithin (asked_in bounds asked (order_of bytes)) (λ within. new ≡ next_count (count_on (times_told within strict (past_of (order_of bytes))) old)))
flushed_last asked bounds strict None before now ended old mid new told each last = tt
flushed_last asked bounds strict (Some bytes) before now ended old mid new told each last = λ done.
    flushed_in (asked_in bounds asked (order_of bytes)) strict bytes before now old mid new told each
    (last (λ failed. let both : statuses.Done ≡ statuses.WriteFault = sym done ∙ failed in absurd cc))

pub never_done : (asked : Asked) (bounds : Bounds) (strict : Bool) (input : Option (List ℕ)) (ended : Status) (old new : ℕ) → ended ≢ statuses.Done
    → IfSome input (λ bytes. ended ≡ statuses.Done
    → HoldsWithin (asked_in bounds asked (order_of bytes)) (λ within. new ≡ next_count (count_on (times_told within strict (past_of (order_of bytes))) old)))
never_done asked bounds strict None ended old new other = tt
never_done asked bounds strict (Some bytes) ended old new other = λ done. absurd (other done)

-- # Halts

write_failed : (halt : HaltKept) → (halt ≡ halts.WriteFault) ⊎ (halt ≢ halts.WriteFault)
write_failed halts.WriteFault = inl refl
write_failed (halts.InForm number fault) = inr (λ same. absurd cc)
write_failed (halts.AtLine number cause) = inr (λ same. absurd cc)
write_failed (halts.Limit processor part fault) = inr (λ same. absurd cc)
write_failed (halts.NotKnown processor part place name reason) = inr (λ same. absurd cc)
write_failed (halts.TooLong processor part) = inr (λ same. absurd cc)
write_failed (halts.NoPlace name begin late) = inr (λ same. absurd cc)
write_failed halts.NoFirst = inr (λ same. absurd cc)
write_failed halts.Endless = inr (λ same. absurd cc)
write_failed halts.ReadFault = inr (λ same. absurd cc)
write_failed halts.Memory = inr (λ same. absurd cc)

status_not_done : (halt : HaltKept) → halted_status halt ≢ statuses.Done
status_not_done (halts.InForm number fault) done = absurd cc
status_not_done (halts.AtLine number cause) done = absurd cc
status_not_done (halts.Limit processor part fault) done = absurd cc
status_not_done (halts.NotKnown processor part place name reason) done = absurd cc
status_not_done (halts.TooLong processor part) done = absurd cc
status_not_done (halts.NoPlace name begin late) done = absurd cc
status_not_done halts.NoFirst done = absurd cc
status_not_done halts.Endless done = absurd cc
status_not_done halts.ReadFault done = absurd cc
status_not_done halts.WriteFault done = absurd cc
status_not_done halts.Memory done = absurd cc

status_of_read : (halt : HaltKept) → halted_status halt ≡ statuses.ReadFault → halt ≡ halts.ReadFault
status_of_read (halts.InForm number fault) is = absurd cc
status_of_read (halts.AtLine number cause) is = absurd cc
status_of_read (halts.Limit processor part fault) is = absurd cc
status_of_read (halts.NotKnown processor part place name reason) is = absurd cc
status_of_read (halts.TooLong processor part) is = absurd cc
status_of_read (halts.NoPlace name begin late) is = absurd cc
status_of_read halts.NoFirst is = absurd cc
status_of_read halts.Endless is = absurd cc
status_of_read halts.ReadFault is = refl
status_of_read halts.WriteFault is = absurd cc
status_of_read halts.Memory is = absurd cc

module _ {K : Type 0} (written : K → Option (List ℕ)) (flushed : K → Option ℕ) (flushes faults : K → ℕ) where
  done_by : (unread : Unread) (asked : Asked) (bounds : Bounds) (strict : Bool) (bytes : List ℕ) (within : Option Asked) (ended : Status) (old mid new : K) → asked.in_parts ≡ true
      → asked_in bounds asked (order_of bytes) ≡ within → WritesIn within strict bytes (Ok tt) (written old) (written mid)
      → IsDelivered written flushed flushes faults [] statuses.Done ended mid new → Writes unread (Ok (ReadTrace asked bounds strict)) bytes ended (written old) (written new) (flushed new)
  done_by unread asked bounds strict bytes None ended old mid new in_parts is drives delivered = absurd drives
  done_by unread asked bounds strict bytes (Some within) ended old mid new in_parts is drives delivered =
      done_so asked bounds strict bytes in_parts within is unread ended (written old) (written mid) (written new) (flushed new) drives delivered.outcome

  pub done_writes : (unread : Unread) (asked : Asked) (bounds : Bounds) (strict : Bool) (input : Option (List ℕ)) (ended : Status) (old mid new : K) → asked.in_parts ≡ true
      → IfSome input (λ bytes. WritesIn (asked_in bounds asked (order_of bytes)) strict bytes (Ok tt) (written old) (written mid))
      → IsDelivered written flushed flushes faults [] statuses.Done ended mid new
      → IfSome input (λ bytes. Writes unread (Ok (ReadTrace asked bounds strict)) bytes ended (written old) (written new) (flushed new))
  done_writes unread asked bounds strict None ended old mid new in_parts drives delivered = tt
  done_writes unread asked bounds strict (Some bytes) ended old mid new in_parts drives delivered =
      done_by unread asked bounds strict bytes (asked_in bounds asked (order_of bytes)) ended old mid new in_parts refl drives delivered

  halted_by : (unread : Unread) (asked : Asked) (bounds : Bounds) (strict : Bool) (bytes : List ℕ) (within : Option Asked) (halt : HaltKept) (ended : Status) (old mid new : K)
      → asked.in_parts ≡ true → asked_in bounds asked (order_of bytes) ≡ within → WritesIn within strict bytes (Err halt) (written old) (written mid)
      → TellsHalt written flushed flushes faults unread halt ended mid new → Writes unread (Ok (ReadTrace asked bounds strict)) bytes ended (written old) (written new) (flushed new)
  halted_by unread asked bounds strict bytes None halt ended old mid new in_parts is drives tells =
      lost_so asked bounds strict bytes in_parts is written flushed flushes faults unread halt ended old mid new drives tells
  halted_by unread asked bounds strict bytes (Some within) halt ended old mid new in_parts is drives tells =
      halted_so asked bounds strict bytes in_parts within is written flushed flushes faults unread halt ended old mid new drives tells

  pub halted_writes : (unread : Unread) (asked : Asked) (bounds : Bounds) (strict : Bool) (input : Option (List ℕ)) (halt : HaltKept) (ended : Status) (old mid new : K) → asked.in_parts ≡ true
      → IfSome input (λ bytes. WritesIn (asked_in bounds asked (order_of bytes)) strict bytes (Err halt) (written old) (written mid))
      → TellsHalt written flushed flushes faults unread halt ended mid new
      → IfSome input (λ bytes. Writes unread (Ok (ReadTrace asked bounds strict)) bytes ended (written old) (written new) (flushed new))
  halted_writes unread asked bounds strict None halt ended old mid new in_parts drives tells = tt
  halted_writes unread asked bounds strict (Some bytes) halt ended old mid new in_parts drives tells =
      halted_by unread asked bounds strict bytes (asked_in bounds asked (order_of bytes)) halt ended old mid new in_parts refl drives tells

  -- # What becomes of the sink

  same_count : (before now : ℕ) → before ≤ now → (before < now → ⊥) → now ≡ before
  same_count before now later never = elim (cases_lt before now) [
    | inl less ↦ absurd (never less)
    | inr not_less ↦ omega (arith, later, not_less)
  ]

  -- what comes behind the parts, where none of their writes and flushes failed
  pub delivered_behind : (text : List ℕ) (status ended : Status) (times : ℕ) (old mid new : K) → faults old ≤ faults mid → (faults old < faults mid → ⊥)
      → flushes mid ≡ count_on times (flushes old) → IsDelivered written flushed flushes faults text status ended mid new → IsEnded written flushed flushes faults ended old new
  delivered_behind text status ended times old mid new later never counted delivered =
      let same : faults mid ≡ faults old = same_count (faults old) (faults mid) later never in
      record {
        later = subst (λ (count : ℕ). count ≤ faults new) same delivered.later;
        counted = λ failed. subst (λ (count : ℕ). Rose count (faults new)) same (delivered.counted failed);
        told = λ more. delivered.told (subst (λ (count : ℕ). count < faults new) (sym same) more);
        at_least_once = λ whole. subst (λ (count : ℕ). next_count (flushes old) ≤ count) (sym (once_behind (flushes old) (flushes mid) (flushes new) times counted (delivered.flushed_once whole)))
            (once_more times (flushes old));
      }

  other_halt : (unread : Unread) (halt : HaltKept) (ended : Status) (mid new : K) → halt ≢ halts.WriteFault → TellsHalt written flushed flushes faults unread halt ended mid new
      → IsDelivered written flushed flushes faults (halted_text unread halt) (halted_status halt) ended mid new
  other_halt unread halts.WriteFault ended mid new other tells = absurd (other refl)
  other_halt unread (halts.InForm number fault) ended mid new other tells = tells
  other_halt unread (halts.AtLine number cause) ended mid new other tells = tells
  other_halt unread (halts.Limit processor part fault) ended mid new other tells = tells
  other_halt unread (halts.NotKnown processor part place name reason) ended mid new other tells = tells
  other_halt unread (halts.TooLong processor part) ended mid new other tells = tells
  other_halt unread (halts.NoPlace name begin late) ended mid new other tells = tells
  other_halt unread halts.NoFirst ended mid new other tells = tells
  other_halt unread halts.Endless ended mid new other tells = tells
  other_halt unread halts.ReadFault ended mid new other tells = tells
  other_halt unread halts.Memory ended mid new other tells = tells

  pub halted_ended : (unread : Unread) (halt : HaltKept) (ended : Status) (old mid new : K) → faults old ≤ faults mid → (halt ≡ halts.WriteFault → Rose (faults old) (faults mid))
      → (faults old < faults mid → halt ≡ halts.WriteFault) → (halt ≢ halts.WriteFault → (times : ℕ) × (flushes mid ≡ count_on times (flushes old)))
      → TellsHalt written flushed flushes faults unread halt ended mid new → IsEnded written flushed flushes faults ended old new
  halted_ended unread halt ended old mid new later counted told often tells = elim (write_failed halt) [
    | inl failed ↦
        let nothing = subst (λ (one : HaltKept). TellsHalt written flushed flushes faults unread one ended mid new) failed tells in
        record {
          later = subst (λ (one : K). faults old ≤ faults one) (sym nothing.1) later;
          counted = λ _. subst (λ (one : K). Rose (faults old) (faults one)) (sym nothing.1) (counted failed);
          told = λ _. nothing.0;
          at_least_once = λ whole. absurd (whole nothing.0);
        }
    | inr other ↦
        delivered_behind (halted_text unread halt) (halted_status halt) ended (often other).0 old mid new later (λ more. other (told more)) (often other).1
        (other_halt unread halt ended mid new other tells)
  ]

  -- # How it ends

  said_so : (unread : Unread) (halt : HaltKept) (ended : Status) (mid new : K) → TellsHalt written flushed flushes faults unread halt ended mid new → (ended ≡ halted_status halt) ⊎ (ended ≡ statuses.WriteFault)
  said_so unread halt ended mid new tells = elim (write_failed halt) [
    | inl failed ↦ inr (subst (λ (one : HaltKept). TellsHalt written flushed flushes faults unread one ended mid new) failed tells).0
    | inr other ↦ (other_halt unread halt ended mid new other tells).said
  ]

  pub halted_not_done : (unread : Unread) (halt : HaltKept) (ended : Status) (mid new : K) → TellsHalt written flushed flushes faults unread halt ended mid new → ended ≢ statuses.Done
  halted_not_done unread halt ended mid new tells done = elim (said_so unread halt ended mid new tells) [
    | inl same ↦ status_not_done halt (sym same ∙ done)
    | inr failed ↦ let both : statuses.WriteFault ≡ statuses.Done = sym failed ∙ done in absurd cc
  ]

  pub halted_read_fault : (unread : Unread) (halt : HaltKept) (ended : Status) (mid new : K) → TellsHalt written flushed flushes faults unread halt ended mid new → ended ≡ statuses.ReadFault → halt ≡ halts.ReadFault
  halted_read_fault unread halt ended mid new tells fault = elim (said_so unread halt ended mid new tells) [
    | inl same ↦ status_of_read halt (sym same ∙ fault)
    | inr failed ↦ let both : statuses.WriteFault ≡ statuses.ReadFault = sym failed ∙ fault in absurd cc
  ]

  pub halted_leaves : (unread : Unread) (input left : Option (List ℕ)) (halt : HaltKept) (ended : Status) (mid new : K) (faults_before faults_now : ℕ)
      → (halt ≢ halts.WriteFault → IfSome input (λ bytes. IsReadOut bytes left faults_before faults_now)) → TellsHalt written flushed flushes faults unread halt ended mid new
      → IfSome input (λ bytes. Leaves ended bytes left faults_before faults_now)
  halted_leaves unread input left halt ended mid new faults_before faults_now out tells = elim (write_failed halt) [
    | inl failed ↦
        let nothing = subst (λ (one : HaltKept). TellsHalt written flushed flushes faults unread one ended mid new) failed tells in
        leaves_failed input left ended faults_before faults_now nothing.0
    | inr other ↦ leaves_read_out input left ended faults_before faults_now (halted_not_done unread halt ended mid new tells) (out other)
  ]
