-- From what was told of a trace's threads to what was written.
use Rattle.yds_model.proofs.Common.{◌≡◌, ◌≢◌, ℕ, ◌<◌, ◌≤◌, inl, inr, List, [], append-nil, Option, Some, None, Ok, Err, refl, sym, ap, subst, ◌∙◌}
use Rattle.std.specs.Prelude.{IfSome}
use Rattle.std.specs.Io.KnownBytes.{Appends, Keeps}
use Rattle.base.specs.declared.status.Status.{Status}
use Rattle.base.specs.declared.status.Status.TheVariants as statuses
use Rattle.yds_port.specs.Count.{Rose, next_count}
use Rattle.yds_trace_reading.specs.declared.stopped.Stopped.{Stopped}
use Rattle.yds_trace_reading.specs.LineFault.{LineFault, InForm, AtLine}
use Rattle.yds_trace_reading.specs.Reading.{IsReadOut}
use Rattle.yds_trace_threads.specs.declared.halt.Halt.{Halt}
use Rattle.yds_trace_threads.specs.declared.halt.Halt.TheVariants as halts
use Rattle.yds_trace_threads.specs.Faults.{line_fault_of as threads_fault}
use Rattle.yds_trace_threads.specs.Telling.{threads_text, Writes as WritesThreads}
use Rattle.yds_trace_words.specs.Request.{ListThreads}
use Rattle.yds_trace_run.specs.Fault.{OfLine}
use Rattle.yds_trace_run.specs.FaultText.{fault_text, too_long_text, memory_text}
use Rattle.yds_trace_files.specs.Unread.{Unread, read_fault_text}
use Rattle.yds_trace_run.specs.Endings.{Outcome, Writes, IsDelivered, IsEnded, Leaves, TellsStop, stopped_of, stopped_text, stopped_status}
use Rattle.yds_trace_run.proofs.Told.{ends_alone}
use Rattle.yds_trace_run.proofs.Left.{not_done, leaves_as_stopped, leaves_failed}
use Rattle.yds_trace_run.proofs.Parted.{outcome_more, delivered_behind, once_behind}

keeps_none : (old mid : Option (List ℕ)) → Keeps old mid → Appends old mid []
keeps_none None mid kept = tt
keeps_none (Some xs) None kept = absurd kept
keeps_none (Some xs) (Some ys) kept = kept ∙ sym (append-nil xs)

-- what comes behind nothing
behind_nothing : (ended : Status) (text : List ℕ) (status : Status) (old mid new : Option (List ℕ)) (flushed : Option ℕ) → Keeps old mid → Outcome ended text status mid new flushed
    → Outcome ended text status old new flushed
behind_nothing ended text status old mid new flushed kept outcome = outcome_more ended [] text status old mid new flushed (keeps_none old mid kept) outcome

-- # Halts

-- Only a failed write tells nothing more.
write_failed : (halt : Halt) → stopped_of halt ≡ None → halt ≡ halts.WriteFault
write_failed (halts.InForm number fault) none = cc
write_failed (halts.AtLine number cause) none = cc
write_failed halts.Endless none = cc
write_failed halts.ReadFault none = cc
write_failed halts.WriteFault none = refl
write_failed halts.Memory none = cc

status_of_read : (halt : Halt) (stopped : Stopped) → stopped_of halt ≡ Some stopped → stopped_status stopped ≡ statuses.ReadFault → halt ≡ halts.ReadFault
status_of_read (halts.InForm number fault) stopped same is = absurd cc
status_of_read (halts.AtLine number cause) stopped same is = absurd cc
status_of_read halts.Endless stopped same is = absurd cc
status_of_read halts.ReadFault stopped same is = refl
status_of_read halts.WriteFault stopped same is = absurd cc
status_of_read halts.Memory stopped same is = absurd cc

module _ {K : Type 0} (written : K → Option (List ℕ)) (flushed : K → Option ℕ) (flushes faults : K → ℕ) where
  -- # What was written

  done_so : (unread : Unread) (bytes : List ℕ) (ended : Status) (old mid new : K) → WritesThreads bytes (Ok tt) (written old) (written mid)
      → IsDelivered written flushed flushes faults [] statuses.Done ended mid new → Writes unread (Ok ListThreads) bytes ended (written old) (written new) (flushed new)
  done_so unread bytes ended old mid new told delivered = record {
    text = threads_text bytes;
    status = statuses.Done;
    is_text = record { sound = told.0; says = refl };
    outcome = subst (λ (text : List ℕ). Outcome ended text statuses.Done (written old) (written new) (flushed new)) (append-nil (threads_text bytes))
        (outcome_more ended (threads_text bytes) [] statuses.Done (written old) (written mid) (written new) (flushed new) told.1 delivered.outcome);
  }

  pub threads_write : (unread : Unread) (input : Option (List ℕ)) (ended : Status) (old mid new : K) → IfSome input (λ bytes. WritesThreads bytes (Ok tt) (written old) (written mid))
      → IsDelivered written flushed flushes faults [] statuses.Done ended mid new
      → IfSome input (λ bytes. Writes unread (Ok ListThreads) bytes ended (written old) (written new) (flushed new))
  threads_write unread None ended old mid new told delivered = tt
  threads_write unread (Some bytes) ended old mid new told delivered = done_so unread bytes ended old mid new told delivered

  line_so : (unread : Unread) (bytes : List ℕ) (line : LineFault) (ended : Status) (old mid new : K)
      → (threads_fault bytes ≡ Some line) × Keeps (written old) (written mid) → IsDelivered written flushed flushes faults (fault_text (OfLine line)) statuses.Refused ended mid new
      → Writes unread (Ok ListThreads) bytes ended (written old) (written new) (flushed new)
  line_so unread bytes line ended old mid new told tells = record {
    text = fault_text (OfLine line);
    status = statuses.Refused;
    is_text = inl (record { fault = line; first = told.0; says = refl });
    outcome = behind_nothing ended (fault_text (OfLine line)) statuses.Refused (written old) (written mid) (written new) (flushed new) told.1 tells.outcome;
  }

  stopped_so : (unread : Unread) (bytes : List ℕ) (halt : Halt) (ended : Status) (old mid new : K) → WritesThreads bytes (Err halt) (written old) (written mid)
      → TellsStop written flushed flushes faults unread (stopped_of halt) ended mid new → Writes unread (Ok ListThreads) bytes ended (written old) (written new) (flushed new)
  stopped_so unread bytes (halts.InForm number fault) ended old mid new told tells =
      line_so unread bytes (InForm (record { line = number; column = fault.column; reason = fault.reason })) ended old mid new told tells
  stopped_so unread bytes (halts.AtLine number cause) ended old mid new told tells = line_so unread bytes (AtLine number cause) ended old mid new told tells
  stopped_so unread bytes halts.Endless ended old mid new told tells = record {
    text = too_long_text;
    status = statuses.Refused;
    is_text = inr (told.0, refl);
    outcome = behind_nothing ended too_long_text statuses.Refused (written old) (written mid) (written new) (flushed new) told.1 tells.outcome;
  }
  stopped_so unread bytes halts.ReadFault ended old mid new told tells = record {
    text = (read_fault_text unread);
    status = statuses.ReadFault;
    is_text = ends_alone (Ok ListThreads) bytes (read_fault_text unread);
    outcome = behind_nothing ended (read_fault_text unread) statuses.ReadFault (written old) (written mid) (written new) (flushed new) told.1 tells.outcome;
  }
  stopped_so unread bytes halts.Memory ended old mid new told tells = record {
    text = memory_text;
    status = statuses.Memory;
    is_text = ends_alone (Ok ListThreads) bytes memory_text;
    outcome = behind_nothing ended memory_text statuses.Memory (written old) (written mid) (written new) (flushed new) told.1 tells.outcome;
  }
  stopped_so unread bytes halts.WriteFault ended old mid new told tells = record {
    text = threads_text bytes;
    status = statuses.Done;
    is_text = record { sound = told.0; says = refl };
    outcome = subst (λ (one : Status). Outcome one (threads_text bytes) statuses.Done (written old) (written new) (flushed new)) (sym tells.0)
        (subst (λ (one : K). Outcome statuses.WriteFault (threads_text bytes) statuses.Done (written old) (written one) (flushed one)) (sym tells.1) told.1);
  }

  pub no_threads_write : (unread : Unread) (input : Option (List ℕ)) (halt : Halt) (ended : Status) (old mid new : K) → IfSome input (λ bytes. WritesThreads bytes (Err halt) (written old) (written mid))
      → TellsStop written flushed flushes faults unread (stopped_of halt) ended mid new
      → IfSome input (λ bytes. Writes unread (Ok ListThreads) bytes ended (written old) (written new) (flushed new))
  no_threads_write unread None halt ended old mid new told tells = tt
  no_threads_write unread (Some bytes) halt ended old mid new told tells = stopped_so unread bytes halt ended old mid new told tells

  -- # What becomes of the sink, and how it ends

  stop_ended : (unread : Unread) (stopped : Option Stopped) (ended : Status) (old mid new : K) → faults old ≤ faults mid → (stopped ≡ None → Rose (faults old) (faults mid))
      → (faults old < faults mid → stopped ≡ None) → flushes mid ≡ flushes old → TellsStop written flushed flushes faults unread stopped ended mid new
      → IsEnded written flushed flushes faults ended old new
  stop_ended unread None ended old mid new later counted told stays tells = record {
    later = subst (λ (one : K). faults old ≤ faults one) (sym tells.1) later;
    counted = λ _. subst (λ (one : K). Rose (faults old) (faults one)) (sym tells.1) (counted refl);
    told = λ _. tells.0;
    at_least_once = λ whole. absurd (whole tells.0);
  }
  stop_ended unread (Some stopped) ended old mid new later counted told stays tells =
      delivered_behind written flushed flushes faults (stopped_text unread stopped) (stopped_status stopped) ended 0 old mid new later
      (λ more. let none : Some stopped ≡ None = told more in absurd cc) stays tells

  pub no_threads_ended : (unread : Unread) (halt : Halt) (ended : Status) (old mid new : K) → faults old ≤ faults mid → (halt ≡ halts.WriteFault → Rose (faults old) (faults mid))
      → (faults old < faults mid → halt ≡ halts.WriteFault) → flushes mid ≡ flushes old → TellsStop written flushed flushes faults unread (stopped_of halt) ended mid new
      → IsEnded written flushed flushes faults ended old new
  no_threads_ended unread halt ended old mid new later counted told stays tells =
      stop_ended unread (stopped_of halt) ended old mid new later (λ none. counted (write_failed halt none)) (λ more. ap stopped_of (told more)) stays tells

  stop_once : (unread : Unread) (stopped : Option Stopped) (ended : Status) (old mid new : K) → flushes mid ≡ flushes old
      → TellsStop written flushed flushes faults unread stopped ended mid new → ended ≢ statuses.WriteFault → flushes new ≡ next_count (flushes old)
  stop_once unread None ended old mid new stays tells whole = absurd (whole tells.0)
  stop_once unread (Some stopped) ended old mid new stays tells whole = once_behind (flushes old) (flushes mid) (flushes new) 0 stays (tells.flushed_once whole)

  pub no_threads_once : (unread : Unread) (halt : Halt) (ended : Status) (old mid new : K) → flushes mid ≡ flushes old
      → TellsStop written flushed flushes faults unread (stopped_of halt) ended mid new → ended ≢ statuses.WriteFault → flushes new ≡ next_count (flushes old)
  no_threads_once unread halt ended old mid new stays tells whole = stop_once unread (stopped_of halt) ended old mid new stays tells whole

  stop_not_done : (unread : Unread) (stopped : Option Stopped) (ended : Status) (mid new : K) → TellsStop written flushed flushes faults unread stopped ended mid new → ended ≢ statuses.Done
  stop_not_done unread None ended mid new tells done = let both : statuses.WriteFault ≡ statuses.Done = sym tells.0 ∙ done in absurd cc
  stop_not_done unread (Some stopped) ended mid new tells done = not_done stopped ended tells.said done

  pub no_threads_not_done : (unread : Unread) (halt : Halt) (ended : Status) (mid new : K) → TellsStop written flushed flushes faults unread (stopped_of halt) ended mid new → ended ≢ statuses.Done
  no_threads_not_done unread halt ended mid new tells = stop_not_done unread (stopped_of halt) ended mid new tells

  stop_read_fault : (unread : Unread) (halt : Halt) (stopped : Option Stopped) (ended : Status) (mid new : K) → stopped_of halt ≡ stopped → TellsStop written flushed flushes faults unread stopped ended mid new
      → ended ≡ statuses.ReadFault → halt ≡ halts.ReadFault
  stop_read_fault unread halt None ended mid new same tells fault = let both : statuses.WriteFault ≡ statuses.ReadFault = sym tells.0 ∙ fault in absurd cc
  stop_read_fault unread halt (Some stopped) ended mid new same tells fault = elim tells.said [
    | inl said ↦ status_of_read halt stopped same (sym said ∙ fault)
    | inr failed ↦ let both : statuses.WriteFault ≡ statuses.ReadFault = sym failed ∙ fault in absurd cc
  ]

  pub no_threads_read_fault : (unread : Unread) (halt : Halt) (ended : Status) (mid new : K) → TellsStop written flushed flushes faults unread (stopped_of halt) ended mid new → ended ≡ statuses.ReadFault
      → halt ≡ halts.ReadFault
  no_threads_read_fault unread halt ended mid new tells fault = stop_read_fault unread halt (stopped_of halt) ended mid new refl tells fault

  pub no_threads_leave : (unread : Unread) (input left : Option (List ℕ)) (stopped : Option Stopped) (ended : Status) (mid new : K) (faults_before faults_now : ℕ)
      → IfSome input (λ bytes. IsReadOut bytes left faults_before faults_now) → TellsStop written flushed flushes faults unread stopped ended mid new
      → IfSome input (λ bytes. Leaves ended bytes left faults_before faults_now)
  no_threads_leave unread input left None ended mid new faults_before faults_now out tells = leaves_failed input left ended faults_before faults_now tells.0
  no_threads_leave unread input left (Some stopped) ended mid new faults_before faults_now out tells =
      leaves_as_stopped input left stopped ended faults_before faults_now tells.said out
