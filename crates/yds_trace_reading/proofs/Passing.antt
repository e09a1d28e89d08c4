-- What a pass over some lines shows of the whole trace.
use Rattle.base.proofs.Common.{◌≡◌, ℕ, ◌+◌, ◌≤◌, ◌^◌, inl, inr, List, [], ◌∷◌, ◌++◌, length, Option, Some, None, Result, Ok, Err, refl, sym, ap, ap₂, subst, ◌∙◌, arith}
use Rattle.std.specs.Prelude.{IfSome, IfOk}
use Rattle.std.specs.Result.{IfErr}
use Rattle.base.specs.Fields.{Fault}
use Rattle.yds_kernel.specs.declared.fault.Reason.{Reason}
use Rattle.yds_kernel.specs.declared.fault.LineFault.{LineFault as FaultRead}
use Rattle.yds_kernel.specs.Parts.{or_else}
use Rattle.yds_kernel.specs.Event.{Said}
use Rattle.yds_kernel.specs.Text.{trace_of}
use Rattle.yds_kernel_text.specs.declared.limits.TheConstants.{ROOM}
use Rattle.yds_kernel_text.specs.Advancing.{Counts}
use Rattle.yds_kernel_order.specs.Order.{Placed, said_in, order_of, number_at}
use Rattle.yds_kernel_order.specs.Ordering.{Ordering, whole_order, number_now, said_now}
use Rattle.yds_kernel_order.specs.Advancing.{GivesLine, IsOver, IsRefused}
use Rattle.yds_kernel_order.proofs.Given.{given_within, length-said_in}
use Rattle.yds_trace.specs.declared.fault.Cause.{Cause}
use Rattle.yds_trace.specs.declared.ended.Ended.{Ended}
use Rattle.yds_trace.specs.declared.pass.Pass.{Pass}
use Rattle.yds_trace.specs.Asked.{Asked}
use Rattle.yds_trace.specs.Ended.{IsEnded}
use Rattle.yds_trace.specs.Faults.{first_fault, numbered, said_fault, whole_fault}
use Rattle.yds_trace.specs.Kept.{IsAt}
use Rattle.yds_trace_reading.specs.declared.stopped.Stopped.{Stopped}
use Rattle.yds_trace_reading.specs.declared.stopped.Stopped.TheVariants as stops
use Rattle.yds_trace_reading.specs.LineFault.{InForm, AtLine, at_line, in_form, past_of, in_text, line_fault, line_fault_of, line_fault_after}
use Rattle.yds_trace_reading.specs.Taken.{IsTaken, IsNotTaken, IsKnown, IsNotKnown}
use Rattle.yds_trace_reading.specs.Reading.{IsEndOfSome, IsRead, IsTooLong, IsStopped}
use Rattle.yds_trace_reading.proofs.Giving.{AreGiven, AreFirst, AreAll, counts_on, taken_bytes, one_given, first_given, past_behind, number_of_last, all_given, number_at_end, told_in_text, number_given, said_given}

-- the first fault of the lines so far is that of all lines
fault_stays : (asked : Asked) (more past : List Said) (found : ℕ × Cause) → first_fault asked past ≡ Some found → first_fault asked (more ++ past) ≡ Some found
fault_stays asked [] past found is = is
fault_stays asked (said ∷ more) past found is =
    ap (λ (first : Option (ℕ × Cause)). or_else first (numbered (length (more ++ past) + 1) (said_fault asked (more ++ past) said))) (fault_stays asked more past found is)

-- # What a pass shows so far

pub record IsAhead (asked : Asked) (input : Option (List ℕ)) (pass : Pass) (ordering : Ordering) (left : Option (List ℕ)) (count : ℕ) : Type 0 where
  pub given : List Placed
  pub known : AreGiven input ordering left given
  pub many : length given ≡ count
  pub stands : IsAt asked (said_in given) pass
  pub sound : first_fault asked (said_in given) ≡ None

pub at_begin : (asked : Asked) (input left : Option (List ℕ)) (pass : Pass) (ordering : Ordering)
    → AreGiven input ordering left [] → IsAt asked [] pass → IsAhead asked input pass ordering left 0
at_begin asked input left pass ordering known stands = record { given = []; known = known; many = refl; stands = stands; sound = refl }

-- with a line more
sound_on : (asked : Asked) (past : List Said) (line : Said) → first_fault asked past ≡ None → said_fault asked past line ≡ None → first_fault asked (line ∷ past) ≡ None
sound_on asked past line sound fine =
    ap (λ (first : Option (ℕ × Cause)). or_else first (numbered (length past + 1) (said_fault asked past line))) sound ∙ ap (numbered (length past + 1)) fine

pub one_more : (asked : Asked) (input : Option (List ℕ)) (pass now : Pass) (old new : Ordering) (before left : Option (List ℕ)) (count faults_before faults_now : ℕ)
    → (ahead : IsAhead asked input pass old before count) → GivesLine old new before left faults_before faults_now → Counts before left old.reader.taken new.reader.taken
    → IsTaken asked (said_in ahead.given) (said_now new) now → IsAhead asked input now new left (count + 1)
one_more asked input pass now old new before left count faults_before faults_now ahead gives counts taken =
    let says : said_now new ≡ gives.line.said = said_given new gives.line gives.is_last in
    record {
      given = gives.line ∷ ahead.given;
      known = one_given input old new before left ahead.given faults_before faults_now ahead.known gives counts;
      many = omega (arith, ahead.many);
      stands = subst (λ (said : Said). IsAt asked (said ∷ said_in ahead.given) now) says taken.stands;
      sound = sound_on asked (said_in ahead.given) gives.line.said ahead.sound
          (subst (λ (said : Said). said_fault asked (said_in ahead.given) said ≡ None) says taken.sound);
    }

-- # A line that is refused

said_fault_first : (asked : Asked) (bytes : List ℕ) (given : List Placed) (line : Placed) (cause : Cause) → AreFirst bytes (line ∷ given) → first_fault asked (said_in given) ≡ None
    → said_fault asked (said_in given) line.said ≡ Some cause → line_fault_of asked bytes ≡ Some (AtLine line.number cause)
said_fault_first asked bytes given line cause first sound wrong =
    let here : first_fault asked (said_in (line ∷ given)) ≡ Some (length given + 1, cause) =
    ap (λ (found : Option (ℕ × Cause)). or_else found (numbered (length (said_in given) + 1) (said_fault asked (said_in given) line.said))) sound
    ∙ ap (numbered (length (said_in given) + 1)) wrong ∙ ap (λ (n : ℕ). Some (n + 1, cause)) (length-said_in given) in
    let all : first_fault asked (past_of (order_of bytes)) ≡ Some (length given + 1, cause) =
    ap (first_fault asked) (past_behind bytes (line ∷ given) first) ∙ fault_stays asked (said_in first.behind) (said_in (line ∷ given)) (length given + 1, cause) here in
    told_in_text bytes (first_fault asked (past_of (order_of bytes)))
    (or_else (in_form (order_of bytes).fault) (at_line (numbered (length (past_of (order_of bytes))) (whole_fault asked (past_of (order_of bytes))))))
    (length given + 1) line.number cause all (number_of_last bytes line given first)

stopped_by : (asked : Asked) (bytes : List ℕ) (given : List Placed) (line : Placed) (stopped : Stopped) → AreFirst bytes (line ∷ given) → first_fault asked (said_in given) ≡ None
    → IsNotTaken asked (said_in given) line.number line.said stopped → IsStopped asked bytes stopped
stopped_by asked bytes given line (stops.InForm at fault) first sound why = absurd why
stopped_by asked bytes given line stops.NoFirst first sound why = absurd why
stopped_by asked bytes given line stops.TooLong first sound why = absurd why
stopped_by asked bytes given line stops.ReadFault first sound why = absurd why
stopped_by asked bytes given line stops.Memory first sound why = tt
stopped_by asked bytes given line (stops.AtLine at cause) first sound why =
    said_fault_first asked bytes given line cause first sound why.1 ∙ ap (λ (n : ℕ). Some (AtLine n cause)) (sym why.0)

pub not_taken : (asked : Asked) (input : Option (List ℕ)) (pass : Pass) (old new : Ordering) (before left : Option (List ℕ)) (count faults_before faults_now : ℕ) (stopped : Stopped)
    → (ahead : IsAhead asked input pass old before count) → GivesLine old new before left faults_before faults_now → Counts before left old.reader.taken new.reader.taken
    → IsNotTaken asked (said_in ahead.given) (number_now new) (said_now new) stopped → IfSome input (λ bytes. IsStopped asked bytes stopped)
not_taken asked None pass old new before left count faults_before faults_now stopped ahead gives counts why = tt
not_taken asked (Some bytes) pass old new before left count faults_before faults_now stopped ahead gives counts why =
    let known : AreGiven (Some bytes) new left (gives.line ∷ ahead.given) =
    one_given (Some bytes) old new before left ahead.given faults_before faults_now ahead.known gives counts in
    stopped_by asked bytes ahead.given gives.line stopped (first_given bytes new left (gives.line ∷ ahead.given) known) ahead.sound
    (subst (λ (said : Said). IsNotTaken asked (said_in ahead.given) gives.line.number said stopped) (said_given new gives.line gives.is_last)
    (subst (λ (n : ℕ). IsNotTaken asked (said_in ahead.given) n (said_now new) stopped) (number_given new gives.line gives.is_last) why))

-- a line whose form is refused
pub not_formed : (asked : Asked) (input : Option (List ℕ)) (pass : Pass) (at : ℕ) (fault : FaultRead) (old new : Ordering) (before left : Option (List ℕ)) (count faults_before faults_now : ℕ)
    → IsAhead asked input pass old before count → IsRefused at fault old new before left faults_before faults_now
    → IfSome input (λ bytes. IsStopped asked bytes (stops.InForm at fault))
not_formed asked None pass at fault old new before left count faults_before faults_now ahead refused = tt
not_formed asked (Some bytes) pass at fault old new before left count faults_before faults_now ahead refused =
    let form : Fault Reason = record { line = at; column = fault.column; reason = fault.reason } in
    let all : AreAll bytes ahead.given (Some form) =
    all_given bytes ahead.given new.lines (Some form) (refused.whole bytes ahead.given ahead.known.last ahead.known.in_order) in
    ap (in_text bytes) (ap₂ (line_fault_after asked) all.past all.form
    ∙ ap (λ (found : Option (ℕ × Cause)). or_else (at_line found) (Some (InForm form))) ahead.sound)

-- # The end

end_fault : (asked : Asked) (bytes : List ℕ) (given : List Placed) → AreAll bytes given None → first_fault asked (said_in given) ≡ None
    → line_fault asked (order_of bytes) ≡ at_line (numbered (length given) (whole_fault asked (said_in given)))
end_fault asked bytes given all sound =
    ap₂ (line_fault_after asked) all.past all.form
    ∙ ap (λ (found : Option (ℕ × Cause)). or_else (at_line found) (at_line (numbered (length (said_in given)) (whole_fault asked (said_in given))))) sound
    ∙ ap (λ (n : ℕ). at_line (numbered n (whole_fault asked (said_in given)))) (length-said_in given)

read_at_end : (asked : Asked) (bytes : List ℕ) (given : List Placed) (ended : Ended) → AreAll bytes given None → first_fault asked (said_in given) ≡ None
    → IsKnown asked (said_in given) ended → IsRead asked bytes ended
read_at_end asked bytes given ended all sound known = record {
  sound = end_fault asked bytes given all sound ∙ ap (λ (whole : Option Cause). at_line (numbered (length given) whole)) known.sound;
  known = subst (λ (lines : List Said). IsEnded asked lines ended) (sym all.past) known.known;
}

stopped_at_end : (asked : Asked) (bytes : List ℕ) (given : List Placed) (lines number : ℕ) (stopped : Stopped) → whole_order (trace_of bytes) ≡ record { placed = given; lines = lines; fault = None }
    → first_fault asked (said_in given) ≡ None → number_at lines given (length given) ≡ number → IsNotKnown asked (said_in given) number stopped → IsStopped asked bytes stopped
stopped_at_end asked bytes given lines number (stops.InForm at fault) is sound same why = absurd why
stopped_at_end asked bytes given lines number stops.NoFirst is sound same why = absurd why
stopped_at_end asked bytes given lines number stops.TooLong is sound same why = absurd why
stopped_at_end asked bytes given lines number stops.ReadFault is sound same why = absurd why
stopped_at_end asked bytes given lines number stops.Memory is sound same why = tt
stopped_at_end asked bytes given lines number (stops.AtLine at cause) is sound same why =
    ap (in_text bytes) (end_fault asked bytes given (all_given bytes given lines None is) sound ∙ ap (λ (whole : Option Cause). at_line (numbered (length given) whole)) why.1)
    ∙ ap (λ (n : ℕ). Some (AtLine n cause)) (number_at_end bytes given lines None is ∙ same ∙ sym why.0)

pub known_whole : (asked : Asked) (input : Option (List ℕ)) (pass : Pass) (old : Ordering) (before : Option (List ℕ)) (count : ℕ) (result : Result Ended Stopped)
    → (ahead : IsAhead asked input pass old before count) → IfOk result (IsKnown asked (said_in ahead.given)) → IfOk result (IsEndOfSome asked)
known_whole asked input pass old before count (Err stopped) ahead is = tt
known_whole asked input pass old before count (Ok ended) ahead is = record { past = said_in ahead.given; sound = ahead.sound; known = is.known }

pub read_whole : (asked : Asked) (input : Option (List ℕ)) (pass : Pass) (old new : Ordering) (before left : Option (List ℕ)) (count faults_before faults_now : ℕ) (result : Result Ended Stopped)
    → (ahead : IsAhead asked input pass old before count) → IsOver old new before left faults_before faults_now → IfOk result (IsKnown asked (said_in ahead.given))
    → IfSome input (λ bytes. IfOk result (IsRead asked bytes))
read_whole asked None pass old new before left count faults_before faults_now result ahead over is = tt
read_whole asked (Some bytes) pass old new before left count faults_before faults_now (Err stopped) ahead over is = tt
read_whole asked (Some bytes) pass old new before left count faults_before faults_now (Ok ended) ahead over is =
    read_at_end asked bytes ahead.given ended (all_given bytes ahead.given new.lines None (over.whole bytes ahead.given ahead.known.last ahead.known.in_order)) ahead.sound is

pub stopped_whole : (asked : Asked) (input : Option (List ℕ)) (pass : Pass) (old new : Ordering) (before left : Option (List ℕ)) (count faults_before faults_now : ℕ) (result : Result Ended Stopped)
    → (ahead : IsAhead asked input pass old before count) → IsOver old new before left faults_before faults_now → IfErr result (IsNotKnown asked (said_in ahead.given) (number_now new))
    → IfSome input (λ bytes. IfErr result (IsStopped asked bytes))
stopped_whole asked None pass old new before left count faults_before faults_now result ahead over is = tt
stopped_whole asked (Some bytes) pass old new before left count faults_before faults_now (Ok ended) ahead over is = tt
stopped_whole asked (Some bytes) pass old new before left count faults_before faults_now (Err stopped) ahead over is =
    stopped_at_end asked bytes ahead.given new.lines (number_now new) stopped (over.whole bytes ahead.given ahead.known.last ahead.known.in_order) ahead.sound
    (sym (over.number ahead.given ahead.known.last)) is

-- # As much as can be counted

pub too_many_bytes : (asked : Asked) (input : Option (List ℕ)) (pass : Pass) (old : Ordering) (before left : Option (List ℕ)) (count taken : ℕ)
    → IsAhead asked input pass old before count → Counts before left old.reader.taken taken → 2 ^ 64 ≤ taken + ROOM → IfSome input IsTooLong
too_many_bytes asked None pass old before left count taken ahead counts much = tt
too_many_bytes asked (Some bytes) pass old before left count taken ahead counts much =
    inl (omega (arith, much, taken_bytes bytes left taken (counts_on (Some bytes) before left old.reader.taken taken ahead.known.counts counts)))

pub too_many_lines : (asked : Asked) (input : Option (List ℕ)) (pass : Pass) (old : Ordering) (before : Option (List ℕ)) (count : ℕ)
    → IsAhead asked input pass old before count → 2 ^ 64 ≤ count + 1 → IfSome input IsTooLong
too_many_lines asked None pass old before count ahead much = tt
too_many_lines asked (Some bytes) pass old before count ahead much =
    inr (omega (arith, much, ahead.many, given_within bytes old ahead.given before ahead.known.last ahead.known.in_order))
