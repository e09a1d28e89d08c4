-- What a pass over some lines shows of the whole trace.
use Rattle.base.proofs.Common.{◌≡◌, ℕ, ◌+◌, ◌≤◌, ◌^◌, inl, inr, List, [], ◌∷◌, ◌++◌, length, Option, Some, None, Result, Ok, Err, refl, sym, ap, ap₂, subst, ◌∙◌, arith}
use Rattle.std.specs.Prelude.{IfSome, IfOk, Vec}
use Rattle.std.specs.Result.{IfErr}
use Rattle.std.specs.declared.alloc.Global.{Global}
use Rattle.base.specs.Fields.{Fault}
use Rattle.yds_kernel.specs.declared.fault.Reason.{Reason}
use Rattle.yds_kernel.specs.declared.fault.LineFault.{LineFault as FaultRead}
use Rattle.yds_kernel.specs.Parts.{or_else}
use Rattle.yds_kernel.specs.Event.{Said}
use Rattle.yds_kernel.specs.Text.{trace_of}
use Rattle.yds_kernel_text.specs.declared.limits.TheConstants.{ROOM}
use Rattle.yds_kernel_text.specs.Advancing.{Counts}
use Rattle.yds_kernel_order.specs.Order.{Placed, said_in, order_of, number_at}
use Rattle.yds_kernel_order.specs.Ordering.{Ordering, whole_order, number_now, said_now}
use Rattle.yds_kernel_order.specs.Advancing.{GivesLine, IsOver, IsRefused}
use Rattle.yds_kernel_order.proofs.Given.{given_within, length-said_in}
use Rattle.yds_trace.specs.declared.fault.Cause.{Cause}
use Rattle.yds_trace.specs.Faults.{numbered}
use Rattle.yds_trace_reading.specs.LineFault.{InForm, AtLine, at_line, in_form, past_of, in_text}
use Rattle.yds_trace_reading.specs.Reading.{IsTooLong}
use Rattle.yds_trace_reading.proofs.Giving.{AreGiven, AreFirst, AreAll, before_all, counts_on, taken_bytes, none_given, one_given, number_given, said_given, first_given, past_behind, number_of_last, all_given, number_at_end, told_in_text}
use Rattle.yds_trace_threads.specs.declared.halt.Halt.{Halt}
use Rattle.yds_trace_threads.specs.declared.halt.Halt.TheVariants as halts
use Rattle.yds_trace_threads.specs.declared.tally.Tally.{Tally}
use Rattle.yds_trace_threads.specs.Faults.{said_fault, first_fault, whole_fault, line_fault, line_fault_of, line_fault_after}
use Rattle.yds_trace_threads.specs.Kept.{IsTally, IsTaken, IsNotTaken, IsTable, IsNoTable}
use Rattle.yds_trace_threads.specs.Table.{table_of}
use Rattle.yds_trace_threads.specs.Telling.{IsMade, IsHalted}

-- the first fault of the lines so far is that of all lines
fault_stays : (more past : List Said) (found : ℕ × Cause) → first_fault past ≡ Some found → first_fault (more ++ past) ≡ Some found
fault_stays [] past found is = is
fault_stays (said ∷ more) past found is =
    ap (λ (first : Option (ℕ × Cause)). or_else first (numbered (length (more ++ past) + 1) (said_fault (more ++ past) said))) (fault_stays more past found is)

-- # What a pass shows so far

pub record IsAhead (input : Option (List ℕ)) (tally : Tally) (ordering : Ordering) (left : Option (List ℕ)) (count : ℕ) : Type 0 where
  pub given : List Placed
  pub known : AreGiven input ordering left given
  pub many : length given ≡ count
  pub stands : IsTally (said_in given) tally
  pub sound : first_fault (said_in given) ≡ None

pub at_begin : (left : Option (List ℕ)) (tally : Tally) (ordering : Ordering)
    → ordering ≡ before_all → IsTally [] tally → IsAhead left tally ordering left 0
at_begin left tally ordering is stands = record { given = []; known = none_given left ordering is; many = refl; stands = stands; sound = refl }

-- with a line more
sound_on : (past : List Said) (line : Said) → first_fault past ≡ None → said_fault past line ≡ None → first_fault (line ∷ past) ≡ None
sound_on past line sound fine =
    ap (λ (first : Option (ℕ × Cause)). or_else first (numbered (length past + 1) (said_fault past line))) sound ∙ ap (numbered (length past + 1)) fine

pub one_more : (input : Option (List ℕ)) (tally now : Tally) (old new : Ordering) (before left : Option (List ℕ)) (count faults_before faults_now : ℕ)
    → (ahead : IsAhead input tally old before count) → GivesLine old new before left faults_before faults_now → Counts before left old.reader.taken new.reader.taken
    → IsTaken (said_in ahead.given) (said_now new) now → IsAhead input now new left (count + 1)
one_more input tally now old new before left count faults_before faults_now ahead gives counts taken =
    let says : said_now new ≡ gives.line.said = said_given new gives.line gives.is_last in
    record {
      given = gives.line ∷ ahead.given;
      known = one_given input old new before left ahead.given faults_before faults_now ahead.known gives counts;
      many = omega (arith, ahead.many);
      stands = subst (λ (said : Said). IsTally (said ∷ said_in ahead.given) now) says taken.stands;
      sound = sound_on (said_in ahead.given) gives.line.said ahead.sound
          (subst (λ (said : Said). said_fault (said_in ahead.given) said ≡ None) says taken.sound);
    }

-- # A line that is refused

said_fault_first : (bytes : List ℕ) (given : List Placed) (line : Placed) (cause : Cause) → AreFirst bytes (line ∷ given) → first_fault (said_in given) ≡ None
    → said_fault (said_in given) line.said ≡ Some cause → line_fault_of bytes ≡ Some (AtLine line.number cause)
said_fault_first bytes given line cause first sound wrong =
    let here : first_fault (said_in (line ∷ given)) ≡ Some (length given + 1, cause) =
    ap (λ (found : Option (ℕ × Cause)). or_else found (numbered (length (said_in given) + 1) (said_fault (said_in given) line.said))) sound
    ∙ ap (numbered (length (said_in given) + 1)) wrong ∙ ap (λ (n : ℕ). Some (n + 1, cause)) (length-said_in given) in
    let all : first_fault (past_of (order_of bytes)) ≡ Some (length given + 1, cause) =
    ap first_fault (past_behind bytes (line ∷ given) first) ∙ fault_stays (said_in first.behind) (said_in (line ∷ given)) (length given + 1, cause) here in
    told_in_text bytes (first_fault (past_of (order_of bytes)))
    (or_else (in_form (order_of bytes).fault) (at_line (numbered (length (past_of (order_of bytes))) (whole_fault (past_of (order_of bytes))))))
    (length given + 1) line.number cause all (number_of_last bytes line given first)

halted_by : (bytes : List ℕ) (given : List Placed) (line : Placed) (halt : Halt) → AreFirst bytes (line ∷ given) → first_fault (said_in given) ≡ None
    → IsNotTaken (said_in given) line.number line.said halt → IsHalted bytes halt
halted_by bytes given line (halts.InForm at fault) first sound why = absurd why
halted_by bytes given line halts.Endless first sound why = absurd why
halted_by bytes given line halts.ReadFault first sound why = absurd why
halted_by bytes given line halts.WriteFault first sound why = absurd why
halted_by bytes given line halts.Memory first sound why = tt
halted_by bytes given line (halts.AtLine at cause) first sound why =
    said_fault_first bytes given line cause first sound why.1 ∙ ap (λ (n : ℕ). Some (AtLine n cause)) (sym why.0)

pub not_taken : (input : Option (List ℕ)) (tally : Tally) (old new : Ordering) (before left : Option (List ℕ)) (count faults_before faults_now : ℕ) (halt : Halt)
    → (ahead : IsAhead input tally old before count) → GivesLine old new before left faults_before faults_now → Counts before left old.reader.taken new.reader.taken
    → IsNotTaken (said_in ahead.given) (number_now new) (said_now new) halt → IfSome input (λ bytes. IsHalted bytes halt)
not_taken None tally old new before left count faults_before faults_now halt ahead gives counts why = tt
not_taken (Some bytes) tally old new before left count faults_before faults_now halt ahead gives counts why =
    let known : AreGiven (Some bytes) new left (gives.line ∷ ahead.given) =
    one_given (Some bytes) old new before left ahead.given faults_before faults_now ahead.known gives counts in
    halted_by bytes ahead.given gives.line halt (first_given bytes new left (gives.line ∷ ahead.given) known) ahead.sound
    (subst (λ (said : Said). IsNotTaken (said_in ahead.given) gives.line.number said halt) (said_given new gives.line gives.is_last)
    (subst (λ (n : ℕ). IsNotTaken (said_in ahead.given) n (said_now new) halt) (number_given new gives.line gives.is_last) why))

-- a line whose form is refused
pub not_formed : (input : Option (List ℕ)) (tally : Tally) (at : ℕ) (fault : FaultRead) (old new : Ordering) (before left : Option (List ℕ)) (count faults_before faults_now : ℕ)
    → IsAhead input tally old before count → IsRefused at fault old new before left faults_before faults_now
    → IfSome input (λ bytes. IsHalted bytes (halts.InForm at fault))
not_formed None tally at fault old new before left count faults_before faults_now ahead refused = tt
not_formed (Some bytes) tally at fault old new before left count faults_before faults_now ahead refused =
    let form : Fault Reason = record { line = at; column = fault.column; reason = fault.reason } in
    let all : AreAll bytes ahead.given (Some form) =
    all_given bytes ahead.given new.lines (Some form) (refused.whole bytes ahead.given ahead.known.last ahead.known.in_order) in
    ap (in_text bytes) (ap₂ line_fault_after all.past all.form
    ∙ ap (λ (found : Option (ℕ × Cause)). or_else (at_line found) (Some (InForm form))) ahead.sound)

-- # The end

end_fault : (bytes : List ℕ) (given : List Placed) → AreAll bytes given None → first_fault (said_in given) ≡ None
    → line_fault (order_of bytes) ≡ at_line (numbered (length given) (whole_fault (said_in given)))
end_fault bytes given all sound =
    ap₂ line_fault_after all.past all.form
    ∙ ap (λ (found : Option (ℕ × Cause)). or_else (at_line found) (at_line (numbered (length (said_in given)) (whole_fault (said_in given))))) sound
    ∙ ap (λ (n : ℕ). at_line (numbered n (whole_fault (said_in given)))) (length-said_in given)

made_at_end : (bytes : List ℕ) (given : List Placed) (text : List ℕ) → AreAll bytes given None → first_fault (said_in given) ≡ None → IsTable (said_in given) text → IsMade bytes text
made_at_end bytes given text all sound table = record {
  sound = end_fault bytes given all sound ∙ ap (λ (whole : Option Cause). at_line (numbered (length given) whole)) table.sound;
  told = table.told ∙ ap table_of (sym all.past);
}

halted_at_end : (bytes : List ℕ) (given : List Placed) (lines number : ℕ) (halt : Halt) → whole_order (trace_of bytes) ≡ record { placed = given; lines = lines; fault = None }
    → first_fault (said_in given) ≡ None → number_at lines given (length given) ≡ number → IsNoTable (said_in given) number halt → IsHalted bytes halt
halted_at_end bytes given lines number (halts.InForm at fault) is sound same why = absurd why
halted_at_end bytes given lines number halts.Endless is sound same why = absurd why
halted_at_end bytes given lines number halts.ReadFault is sound same why = absurd why
halted_at_end bytes given lines number halts.WriteFault is sound same why = absurd why
halted_at_end bytes given lines number halts.Memory is sound same why = tt
halted_at_end bytes given lines number (halts.AtLine at cause) is sound same why =
    ap (in_text bytes) (end_fault bytes given (all_given bytes given lines None is) sound ∙ ap (λ (whole : Option Cause). at_line (numbered (length given) whole)) why.1)
    ∙ ap (λ (n : ℕ). Some (AtLine n cause)) (number_at_end bytes given lines None is ∙ same ∙ sym why.0)

pub made_whole : (input : Option (List ℕ)) (tally : Tally) (old new : Ordering) (before left : Option (List ℕ)) (count faults_before faults_now : ℕ) (result : Result (Vec ℕ Global) Halt)
    → (ahead : IsAhead input tally old before count) → IsOver old new before left faults_before faults_now → IfOk result (λ text. IsTable (said_in ahead.given) text.items)
    → IfSome input (λ bytes. IfOk result (λ text. IsMade bytes text.items))
made_whole None tally old new before left count faults_before faults_now result ahead over is = tt
made_whole (Some bytes) tally old new before left count faults_before faults_now (Err halt) ahead over is = tt
made_whole (Some bytes) tally old new before left count faults_before faults_now (Ok text) ahead over is =
    made_at_end bytes ahead.given text.items (all_given bytes ahead.given new.lines None (over.whole bytes ahead.given ahead.known.last ahead.known.in_order)) ahead.sound is

pub halted_whole : (input : Option (List ℕ)) (tally : Tally) (old new : Ordering) (before left : Option (List ℕ)) (count faults_before faults_now : ℕ) (result : Result (Vec ℕ Global) Halt)
    → (ahead : IsAhead input tally old before count) → IsOver old new before left faults_before faults_now → IfErr result (IsNoTable (said_in ahead.given) (number_now new))
    → IfSome input (λ bytes. IfErr result (IsHalted bytes))
halted_whole None tally old new before left count faults_before faults_now result ahead over is = tt
halted_whole (Some bytes) tally old new before left count faults_before faults_now (Ok text) ahead over is = tt
halted_whole (Some bytes) tally old new before left count faults_before faults_now (Err halt) ahead over is =
    halted_at_end bytes ahead.given new.lines (number_now new) halt (over.whole bytes ahead.given ahead.known.last ahead.known.in_order) ahead.sound
    (sym (over.number ahead.given ahead.known.last)) is

-- # As much as can be counted

pub too_many_bytes : (input : Option (List ℕ)) (tally : Tally) (old : Ordering) (before left : Option (List ℕ)) (count taken : ℕ)
    → IsAhead input tally old before count → Counts before left old.reader.taken taken → 2 ^ 64 ≤ taken + ROOM → IfSome input IsTooLong
too_many_bytes None tally old before left count taken ahead counts much = tt
too_many_bytes (Some bytes) tally old before left count taken ahead counts much =
    inl (omega (arith, much, taken_bytes bytes left taken (counts_on (Some bytes) before left old.reader.taken taken ahead.known.counts counts)))

pub too_many_lines : (input : Option (List ℕ)) (tally : Tally) (old : Ordering) (before : Option (List ℕ)) (count : ℕ)
    → IsAhead input tally old before count → 2 ^ 64 ≤ count + 1 → IfSome input IsTooLong
too_many_lines None tally old before count ahead much = tt
too_many_lines (Some bytes) tally old before count ahead much =
    inr (omega (arith, much, ahead.many, given_within bytes old ahead.given before ahead.known.last ahead.known.in_order))
