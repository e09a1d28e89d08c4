-- What the telling of some lines shows of the whole trace.
use Rattle.base.proofs.Common.{◌≡◌, ℕ, ◌+◌, List, [], ◌∷◌, ◌++◌, length, reverse, Bool, Option, Some, None, Err, refl, sym, ap, subst, ◌∙◌, Appends}
use Rattle.std.specs.Prelude.{option_map}
use Rattle.std.proofs.lemmas.List.{reverse-reverse}
use Rattle.base.specs.Fields.{Spot, Fault}
use Rattle.yds_kernel.specs.declared.fault.Reason.{Reason}
use Rattle.yds_kernel.specs.Parts.{or_else}
use Rattle.yds_kernel.specs.Event.{Said}
use Rattle.yds_kernel.specs.Text.{Trace, trace_of}
use Rattle.yds_kernel_order.specs.Order.{Placed, said_in, order_of, number_at, line_at}
use Rattle.yds_kernel_order.specs.Ordering.{Order, Ordering, whole_order}
use Rattle.yds_kernel_order.proofs.Given.{length-said_in}
use Rattle.yds_trace.specs.Asked.{Asked}
use Rattle.yds_trace.specs.Faults.{whole_fault}
use Rattle.yds_trace.specs.Parts.{processors_of}
use Rattle.yds_trace_reading.specs.LineFault.{past_of}
use Rattle.yds_trace_reading.proofs.Giving.{AreGiven, AreFirst, past_behind, number_at_end}
use Rattle.yds_trace_parts.specs.declared.halt.Halt.{Halt as HaltKept}
use Rattle.yds_trace_parts.specs.declared.halt.Halt.TheVariants as kept
use Rattle.yds_trace_parts.specs.declared.telling.Telling.{Telling}
use Rattle.yds_trace_parts.specs.Told.{Halt, InForm, Told, at_line, end_halt, piece_unless, with_piece, last_pieces, no_job_halt, last_piece, told_last, told_after, told_at_end, told_of, by_number, told_in_text}
use Rattle.yds_trace_parts.specs.Telling.{halt_read, IsHaltFor, IsTelling, IsEnd, at_number}
use Rattle.yds_trace_parts.specs.Flushing.{count_on, times_told}
use Rattle.yds_trace_parts.specs.Driving.{WritesSome, WritesTold, Writes}
use Rattle.yds_trace_parts.specs.Laws.{Begins}
use Rattle.yds_trace_parts.proofs.Growing.{begins_on, lines_begin, end_begins, halted, end_halted, nothing_more, halting_text}
use Rattle.yds_trace_parts.proofs.InText.{halts_here, ends_here, same_number, found_there}
use Rattle.yds_trace_parts.proofs.Joined.{both_empty}

-- # What was read so far

-- what is known behind so many lines, whose parts were written
pub record IsBehind (asked : Asked) (strict : Bool) (input : Option (List ℕ)) (telling : Telling) (ordering : Ordering) (left : Option (List ℕ)) (count : ℕ) (old now : Option (List ℕ)) : Type 0 where
  pub given : List Placed
  pub known : AreGiven input ordering left given
  pub many : length given ≡ count
  pub stands : IsTelling asked strict (said_in given) telling
  pub appended : Appends old now (told_after asked strict (said_in given)).text

-- and the count of flushes behind them
pub record IsCounted (asked : Asked) (strict : Bool) (input : Option (List ℕ)) (telling : Telling) (ordering : Ordering) (left : Option (List ℕ)) (count : ℕ)
    (old now : Option (List ℕ)) (before after : ℕ) : Type 0 where
  pub behind : IsBehind asked strict input telling ordering left count old now
  pub counted : after ≡ count_on (times_told asked strict (said_in behind.given)) before

-- # The trace, by some of its lines

-- the lines that are still to come
pub record IsFront (bytes : List ℕ) (past : List Said) : Type 0 where
  pub behind : List Said
  pub front : past_of (order_of bytes) ≡ behind ++ past

pub front_of : (bytes : List ℕ) (given : List Placed) → AreFirst bytes given → IsFront bytes (said_in given)
front_of bytes given first = record { behind = said_in first.behind; front = past_behind bytes given first }

-- what is told of these lines is the begin of what is told of the trace
pub begins_told : (asked : Asked) (strict : Bool) (bytes : List ℕ) (past : List Said) → IsFront bytes past →
    Begins (told_after asked strict past).text (told_in_text asked strict bytes).text
begins_told asked strict bytes past front =
    begins_on (told_after asked strict past).text (told_after asked strict (past_of (order_of bytes))).text (told_in_text asked strict bytes).text
    (subst (λ (lines : List Said). Begins (told_after asked strict past).text (told_after asked strict lines).text) (sym front.front) (lines_begin asked strict front.behind past))
    (end_begins asked strict (past_of (order_of bytes)) (order_of bytes).fault)

-- where they halt, so does it
halts_told : (asked : Asked) (strict : Bool) (bytes : List ℕ) (past : List Said) (found : Halt) → IsFront bytes past → (told_after asked strict past).halt ≡ Some found →
    told_of asked strict (order_of bytes) ≡ told_after asked strict past
halts_told asked strict bytes past found front is =
    let all : told_after asked strict (past_of (order_of bytes)) ≡ told_after asked strict past =
    ap (told_after asked strict) front.front ∙ halted asked strict front.behind past found is in
    end_halted asked strict (past_of (order_of bytes)) (order_of bytes).fault found (ap (λ (told : Told). told.halt) all ∙ is) ∙ all

-- a reason with the number of its line
abbrev numbered : (bytes : List ℕ) (told : Told) → Option Halt
numbered bytes told = option_map (by_number (line_at bytes)) told.halt

-- # Some lines

pub some_written : (asked : Asked) (strict : Bool) (bytes : List ℕ) (past : List Said) (telling : Telling) (old now : Option (List ℕ)) → IsFront bytes past → IsTelling asked strict past telling →
    Appends old now (told_after asked strict past).text → WritesSome asked strict bytes old now
some_written asked strict bytes past telling old now front stands appended =
    record { past = past; behind = front.behind; front = front.front; goes_on = stands.goes_on; appended = appended }

-- # A line that halts

told_by : (asked : Asked) (strict : Bool) (bytes : List ℕ) (past : List Said) (said : Said) (number : ℕ) (halt : HaltKept) (found : Halt) (old now : Option (List ℕ)) →
    IsFront bytes (said ∷ past) → line_at bytes (length past + 1) ≡ number → (told_after asked strict past).halt ≡ None → halt_read halt ≡ Some found →
    at_number number (told_after asked strict (said ∷ past)).halt ≡ halt_read halt → Appends old now (told_after asked strict past).text →
    WritesTold asked strict bytes (Some halt) old now
told_by asked strict bytes past said number halt found old now front line goes read is appended =
    let there = found_there number (told_after asked strict (said ∷ past)).halt found (is ∙ read) in
    let all = halts_told asked strict bytes (said ∷ past) there.0 front there.1 in
    record {
      told = ap (numbered bytes) all ∙ same_number (line_at bytes) (length past + 1) number (told_after asked strict (said ∷ past)).halt line
          (halts_here asked strict past said goes) ∙ is;
      appended = subst (Appends old now) (sym (ap (λ (told : Told). told.text) all ∙ halting_text asked strict past said there.0 there.1)) appended;
    }

pub line_halts : (asked : Asked) (strict : Bool) (bytes : List ℕ) (past : List Said) (said : Said) (number : ℕ) (telling : Telling) (halt : HaltKept) (old now : Option (List ℕ)) →
    IsFront bytes (said ∷ past) → line_at bytes (length past + 1) ≡ number → IsFront bytes past → IsTelling asked strict past telling →
    IsHaltFor (at_number number (told_after asked strict (said ∷ past)).halt) halt → Appends old now (told_after asked strict past).text →
    Writes asked strict bytes (Err halt) old now
line_halts asked strict bytes past said number telling kept.Memory old now behind line front stands is appended =
    some_written asked strict bytes past telling old now front stands appended
line_halts asked strict bytes past said number telling kept.NoFirst old now behind line front stands is appended = absurd is
line_halts asked strict bytes past said number telling kept.Endless old now behind line front stands is appended = absurd is
line_halts asked strict bytes past said number telling kept.ReadFault old now behind line front stands is appended = absurd is
line_halts asked strict bytes past said number telling kept.WriteFault old now behind line front stands is appended = absurd is
line_halts asked strict bytes past said number telling (kept.InForm at fault) old now behind line front stands is appended =
    told_by asked strict bytes past said number (kept.InForm at fault) _ old now behind line stands.goes_on refl is appended
line_halts asked strict bytes past said number telling (kept.AtLine at cause) old now behind line front stands is appended =
    told_by asked strict bytes past said number (kept.AtLine at cause) _ old now behind line stands.goes_on refl is appended
line_halts asked strict bytes past said number telling (kept.Limit processor part fault) old now behind line front stands is appended =
    told_by asked strict bytes past said number (kept.Limit processor part fault) _ old now behind line stands.goes_on refl is appended
line_halts asked strict bytes past said number telling (kept.NotKnown processor part place name reason) old now behind line front stands is appended =
    told_by asked strict bytes past said number (kept.NotKnown processor part place name reason) _ old now behind line stands.goes_on refl is appended
line_halts asked strict bytes past said number telling (kept.TooLong processor part) old now behind line front stands is appended =
    told_by asked strict bytes past said number (kept.TooLong processor part) _ old now behind line stands.goes_on refl is appended
line_halts asked strict bytes past said number telling (kept.NoPlace name begin late) old now behind line front stands is appended =
    told_by asked strict bytes past said number (kept.NoPlace name begin late) _ old now behind line stands.goes_on refl is appended

-- # The end

-- the trace and the numbers of its lines, by all lines in their order
abbrev trace_by : Order → Trace
trace_by order = record { said = reverse (said_in order.placed); fault = order.fault }

-- its last line has this number
last_line : (bytes : List ℕ) (given : List Placed) (lines number : ℕ) (form : Option (Fault Reason)) →
    whole_order (trace_of bytes) ≡ record { placed = given; lines = lines; fault = form } → number_at lines given (length given) ≡ number →
    line_at bytes (length (said_in given)) ≡ number
last_line bytes given lines number form is last =
    ap (line_at bytes) (length-said_in given) ∙ number_at_end bytes given lines form is ∙ last

end_goes : (asked : Asked) (strict : Bool) (past : List Said) (form : Option (Fault Reason)) (text : List ℕ) (halt : Option Halt) → halt ≡ None →
    told_at_end asked strict past form (record { text = text; halt = halt }) ≡ told_last asked strict past text (end_halt asked past form)
end_goes asked strict past form text None is = refl
end_goes asked strict past form text (Some found) is = cc

-- all of them
pub lines_whole : (bytes : List ℕ) (given : List Placed) (lines : ℕ) (form : Option (Fault Reason)) →
    whole_order (trace_of bytes) ≡ record { placed = given; lines = lines; fault = form } → past_of (order_of bytes) ≡ said_in given
lines_whole bytes given lines form is = ap (λ (order : Order). past_of (trace_by order)) is ∙ reverse-reverse (said_in given)

-- what is told of a trace of these lines, which were all taken, and then of this line
told_whole : (asked : Asked) (strict : Bool) (bytes : List ℕ) (given : List Placed) (lines : ℕ) (form : Option (Fault Reason)) →
    whole_order (trace_of bytes) ≡ record { placed = given; lines = lines; fault = form } → (told_after asked strict (said_in given)).halt ≡ None →
    told_of asked strict (order_of bytes) ≡ told_last asked strict (said_in given) (told_after asked strict (said_in given)).text (end_halt asked (said_in given) form)
told_whole asked strict bytes given lines form is goes =
    ap (λ (order : Order). told_of asked strict (trace_by order)) is
    ∙ ap (λ (past : List Said). told_at_end asked strict past form (told_after asked strict past)) (reverse-reverse (said_in given))
    ∙ end_goes asked strict (said_in given) form (told_after asked strict (said_in given)).text (told_after asked strict (said_in given)).halt goes

-- a line whose form is refused
pub form_halts : (asked : Asked) (strict : Bool) (bytes : List ℕ) (given : List Placed) (lines number : ℕ) (fault : Spot Reason) (old now : Option (List ℕ)) (halt : HaltKept) →
    halt_read halt ≡ Some (InForm (record { line = number; column = fault.column; reason = fault.reason })) →
    whole_order (trace_of bytes) ≡ record { placed = given; lines = lines; fault = Some (record { line = number; column = fault.column; reason = fault.reason }) } →
    (told_after asked strict (said_in given)).halt ≡ None → Appends old now (told_after asked strict (said_in given)).text → WritesTold asked strict bytes (Some halt) old now
form_halts asked strict bytes given lines number fault old now halt read is goes appended =
    let all = told_whole asked strict bytes given lines (Some (record { line = number; column = fault.column; reason = fault.reason })) is goes in
    record {
      told = ap (numbered bytes) all ∙ sym read;
      appended = subst (Appends old now) (sym (ap (λ (told : Told). told.text) all)) appended;
    }

last_halt : (asked : Asked) (strict : Bool) (past : List Said) (text : List ℕ) (end : Option Halt) →
    (told_last asked strict past text end).halt ≡ or_else end (last_piece asked strict past (processors_of asked past)).halt
last_halt asked strict past text (Some halt) = refl
last_halt asked strict past text None = refl

last_text : (asked : Asked) (strict : Bool) (past : List Said) (text : List ℕ) (end : Option Halt) (found : Halt) → (told_last asked strict past text end).halt ≡ Some found →
    (told_last asked strict past text end).text ≡ text
last_text asked strict past text (Some halt) found is = refl
last_text asked strict past text None found is =
    nothing_more text (last_piece asked strict past (processors_of asked past))
    (both_empty (last_pieces asked strict past (processors_of asked past)) (piece_unless (no_job_halt asked past (processors_of asked past)) []) found is)

-- why nothing more is told behind the last line
abbrev pub halt_at_end : Asked → Bool → List Said → Option Halt
halt_at_end asked strict past = or_else (at_line (length past) (whole_fault asked past)) (last_piece asked strict past (processors_of asked past)).halt

end_by : (asked : Asked) (strict : Bool) (bytes : List ℕ) (given : List Placed) (lines number : ℕ) (halt : HaltKept) (found : Halt) (old now : Option (List ℕ)) →
    whole_order (trace_of bytes) ≡ record { placed = given; lines = lines; fault = None } → number_at lines given (length given) ≡ number →
    (told_after asked strict (said_in given)).halt ≡ None → halt_read halt ≡ Some found → at_number number (halt_at_end asked strict (said_in given)) ≡ halt_read halt →
    Appends old now (told_after asked strict (said_in given)).text → WritesTold asked strict bytes (Some halt) old now
end_by asked strict bytes given lines number halt found old now whole last goes read is appended =
    let past = said_in given in
    let all = told_whole asked strict bytes given lines None whole goes in
    let halts = last_halt asked strict past (told_after asked strict past).text (end_halt asked past None) in
    let there = found_there number (halt_at_end asked strict past) found (is ∙ read) in
    record {
      told = ap (numbered bytes) all ∙ ap (λ (reason : Option Halt). option_map (by_number (line_at bytes)) reason) halts
          ∙ same_number (line_at bytes) (length past) number (halt_at_end asked strict past) (last_line bytes given lines number None whole last)
          (ends_here asked strict past) ∙ is;
      appended = subst (Appends old now) (sym (ap (λ (told : Told). told.text) all
          ∙ last_text asked strict past (told_after asked strict past).text (end_halt asked past None) there.0 (halts ∙ there.1))) appended;
    }

-- the end isn't told
pub end_halts : (asked : Asked) (strict : Bool) (bytes : List ℕ) (given : List Placed) (lines number : ℕ) (telling : Telling) (halt : HaltKept) (old now : Option (List ℕ)) →
    whole_order (trace_of bytes) ≡ record { placed = given; lines = lines; fault = None } → number_at lines given (length given) ≡ number →
    IsFront bytes (said_in given) → IsTelling asked strict (said_in given) telling → IsHaltFor (at_number number (halt_at_end asked strict (said_in given))) halt →
    Appends old now (told_after asked strict (said_in given)).text → Writes asked strict bytes (Err halt) old now
end_halts asked strict bytes given lines number telling kept.Memory old now whole last front stands is appended =
    some_written asked strict bytes (said_in given) telling old now front stands appended
end_halts asked strict bytes given lines number telling kept.NoFirst old now whole last front stands is appended = absurd is
end_halts asked strict bytes given lines number telling kept.Endless old now whole last front stands is appended = absurd is
end_halts asked strict bytes given lines number telling kept.ReadFault old now whole last front stands is appended = absurd is
end_halts asked strict bytes given lines number telling kept.WriteFault old now whole last front stands is appended = absurd is
end_halts asked strict bytes given lines number telling (kept.InForm at fault) old now whole last front stands is appended =
    end_by asked strict bytes given lines number (kept.InForm at fault) _ old now whole last stands.goes_on refl is appended
end_halts asked strict bytes given lines number telling (kept.AtLine at cause) old now whole last front stands is appended =
    end_by asked strict bytes given lines number (kept.AtLine at cause) _ old now whole last stands.goes_on refl is appended
end_halts asked strict bytes given lines number telling (kept.Limit processor part fault) old now whole last front stands is appended =
    end_by asked strict bytes given lines number (kept.Limit processor part fault) _ old now whole last stands.goes_on refl is appended
end_halts asked strict bytes given lines number telling (kept.NotKnown processor part place name reason) old now whole last front stands is appended =
    end_by asked strict bytes given lines number (kept.NotKnown processor part place name reason) _ old now whole last stands.goes_on refl is appended
end_halts asked strict bytes given lines number telling (kept.TooLong processor part) old now whole last front stands is appended =
    end_by asked strict bytes given lines number (kept.TooLong processor part) _ old now whole last stands.goes_on refl is appended
end_halts asked strict bytes given lines number telling (kept.NoPlace name begin late) old now whole last front stands is appended =
    end_by asked strict bytes given lines number (kept.NoPlace name begin late) _ old now whole last stands.goes_on refl is appended

-- what is told of the whole trace, with its last parts
pub all_told : (asked : Asked) (strict : Bool) (bytes : List ℕ) (given : List Placed) (lines : ℕ) (text : List ℕ) →
    whole_order (trace_of bytes) ≡ record { placed = given; lines = lines; fault = None } → (told_after asked strict (said_in given)).halt ≡ None →
    whole_fault asked (said_in given) ≡ None → IsEnd asked strict (said_in given) text →
    told_in_text asked strict bytes ≡ record { text = (told_after asked strict (said_in given)).text ++ text; halt = None }
all_told asked strict bytes given lines text whole goes sound last =
    let past = said_in given in
    ap (λ (told : Told). record { text = told.text; halt = numbered bytes told }) (told_whole asked strict bytes given lines None whole goes
    ∙ ap (λ fault. told_last asked strict past (told_after asked strict past).text (at_line (length past) fault)) sound
    ∙ ap (with_piece (told_after asked strict past).text) last)
