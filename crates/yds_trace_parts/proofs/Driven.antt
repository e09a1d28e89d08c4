-- What the telling of some lines shows of the source and of the sink, step by step.
use Rattle.base.proofs.Common.{◌≡◌, ℕ, ◌+◌, ◌<◌, ◌≤◌, ◌^◌, inl, inr, List, [], ◌∷◌, ◌++◌, length, Bool, Option, Some, None, Ok, Err, refl, sym, ap, subst, ◌∙◌, arith, append_assoc, length-append, length-reverse, Appends}
use Rattle.std.specs.Prelude.{IfSome}
use Rattle.std.proofs.KnownBytes.{Appends-nil, Appends-trans}
use Rattle.yds_port.specs.Sink.{AppendsFront}
use Rattle.yds_kernel.specs.declared.fault.LineFault.{LineFault}
use Rattle.yds_kernel.specs.Parts.{or_else}
use Rattle.yds_kernel.specs.Event.{Said}
use Rattle.yds_kernel.specs.Views.{spot_read}
use Rattle.yds_kernel_text.specs.declared.limits.TheConstants.{ROOM}
use Rattle.yds_kernel_text.specs.Advancing.{Counts}
use Rattle.yds_kernel_order.specs.Order.{Placed, said_in, order_of, line_at}
use Rattle.yds_kernel_order.specs.Ordering.{Ordering, number_now, said_now}
use Rattle.yds_kernel_order.specs.Advancing.{GivesLine, IsOver, IsRefused}
use Rattle.yds_kernel_order.proofs.Given.{length-said_in}
use Rattle.yds_trace.specs.Asked.{Asked}
use Rattle.yds_trace.specs.declared.fault.Cause.{Cause}
use Rattle.yds_trace.specs.Faults.{first_fault, numbered, said_fault, whole_fault}
use Rattle.yds_trace.specs.Kept.{told_to_forget}
use Rattle.yds_trace.specs.Parts.{processors_of, parts_fault}
use Rattle.yds_trace_reading.specs.LineFault.{past_of}
use Rattle.yds_trace_reading.proofs.Giving.{AreGiven, counts_on, taken_bytes, one_given, number_given, said_given, first_given, number_of_last}
use Rattle.yds_trace_parts.specs.declared.halt.Halt.{Halt as HaltKept}
use Rattle.yds_trace_parts.specs.declared.halt.Halt.TheVariants as kept
use Rattle.yds_trace_parts.specs.declared.telling.Telling.{Telling}
use Rattle.yds_trace_parts.specs.Told.{Halt, Told, at_line, last_piece, line_halt, told_with, told_next, told_after, told_in_text}
use Rattle.yds_trace_parts.specs.declared.limits.TheConstants.{MOST_LINES}
use Rattle.yds_trace_parts.specs.Plain.{IsGranted, IsOfSome, IsPlainPass, HasRoom}
use Rattle.yds_trace_parts.specs.Telling.{IsHaltFor, IsTelling, IsEnd, Adds, at_number}
use Rattle.yds_trace_parts.specs.Flushing.{count_behind}
use Rattle.yds_trace_parts.specs.Driving.{IsEndless, WritesSome, Writes}
use Rattle.yds_trace_parts.specs.Laws.{Begins}
use Rattle.yds_trace_parts.proofs.Ahead.{IsBehind, IsCounted, IsFront, front_of, begins_told, some_written, line_halts, form_halts, end_halts, all_told}
use Rattle.yds_trace_parts.proofs.Flushed.{counted_more}

-- # Before the first line

pub at_begin : (asked : Asked) (strict : Bool) (input left : Option (List ℕ)) (telling : Telling) (ordering : Ordering) (written : Option (List ℕ)) (flushes : ℕ) →
    AreGiven input ordering left [] → IsTelling asked strict [] telling → IsCounted asked strict input telling ordering left 0 written written flushes flushes
at_begin asked strict input left telling ordering written flushes known stands = record {
  behind = record { given = []; known = known; many = refl; stands = stands; appended = Appends-nil written };
  counted = refl;
}

-- # A line more

pub one_more : (asked : Asked) (strict : Bool) (input : Option (List ℕ)) (telling next : Telling) (old new : Ordering) (before left : Option (List ℕ))
    (count faults_before faults_now : ℕ) (written mid now : Option (List ℕ)) (piece : List ℕ) (first middle last : ℕ) →
    (told : IsCounted asked strict input telling old before count written mid first middle) → GivesLine old new before left faults_before faults_now →
    Counts before left old.reader.taken new.reader.taken → IsTelling asked strict (said_now new ∷ said_in told.behind.given) next →
    Adds asked strict (said_in told.behind.given) (said_now new ∷ said_in told.behind.given) piece → Appends mid now piece → last ≡ count_behind piece middle →
    IsCounted asked strict input next new left (count + 1) written now first last
one_more asked strict input telling next old new before left count faults_before faults_now written mid now piece first middle last told gives counts stands added put behind =
    let ahead = told.behind in
    let says = said_given new gives.line gives.is_last in
    let past = said_in ahead.given in
    record {
      behind = record {
        given = gives.line ∷ ahead.given;
        known = one_given input old new before left ahead.given faults_before faults_now ahead.known gives counts;
        many = omega (arith, ahead.many);
        stands = subst (λ (said : Said). IsTelling asked strict (said ∷ past) next) says stands;
        appended = subst (λ (said : Said). Appends written now (told_after asked strict (said ∷ past)).text) says
            (subst (Appends written now) (sym added) (Appends-trans written mid now (told_after asked strict past).text piece ahead.appended put));
      };
      counted = counted_more asked strict new gives.line past piece first middle last says added told.counted behind;
    }

-- # A line that isn't taken

front_some : (bytes : List ℕ) (ordering : Ordering) (left : Option (List ℕ)) (given : List Placed) → AreGiven (Some bytes) ordering left given → IsFront bytes (said_in given)
front_some bytes ordering left given known = front_of bytes given (first_given bytes ordering left given known)

halted_by : (asked : Asked) (strict : Bool) (bytes : List ℕ) (line : Placed) (given : List Placed) (telling : Telling) (new : Ordering) (left : Option (List ℕ)) (halt : HaltKept)
    (written now : Option (List ℕ)) → AreGiven (Some bytes) new left (line ∷ given) → number_now new ≡ line.number → IsFront bytes (said_in given) →
    IsTelling asked strict (said_in given) telling → IsHaltFor (at_number (number_now new) (told_after asked strict (line.said ∷ said_in given)).halt) halt →
    Appends written now (told_after asked strict (said_in given)).text → Writes asked strict bytes (Err halt) written now
halted_by asked strict bytes line given telling new left halt written now known number front stands why appended =
    let first = first_given bytes new left (line ∷ given) known in
    line_halts asked strict bytes (said_in given) line.said (number_now new) telling halt written now (front_of bytes (line ∷ given) first)
    (ap (λ (n : ℕ). line_at bytes (n + 1)) (length-said_in given) ∙ number_of_last bytes line given first ∙ sym number) front stands why appended

pub not_taken : (asked : Asked) (strict : Bool) (input : Option (List ℕ)) (telling : Telling) (old new : Ordering) (before left : Option (List ℕ))
    (count faults_before faults_now : ℕ) (written now : Option (List ℕ)) (halt : HaltKept) → (ahead : IsBehind asked strict input telling old before count written now) →
    GivesLine old new before left faults_before faults_now → Counts before left old.reader.taken new.reader.taken →
    IsHaltFor (at_number (number_now new) (told_after asked strict (said_now new ∷ said_in ahead.given)).halt) halt →
    IfSome input (λ bytes. Writes asked strict bytes (Err halt) written now)
not_taken asked strict None telling old new before left count faults_before faults_now written now halt ahead gives counts why = tt
not_taken asked strict (Some bytes) telling old new before left count faults_before faults_now written now halt ahead gives counts why =
    halted_by asked strict bytes gives.line ahead.given telling new left halt written now
    (one_given (Some bytes) old new before left ahead.given faults_before faults_now ahead.known gives counts) (number_given new gives.line gives.is_last)
    (front_some bytes old before ahead.given ahead.known) ahead.stands
    (subst (λ (said : Said). IsHaltFor (at_number (number_now new) (told_after asked strict (said ∷ said_in ahead.given)).halt) halt) (said_given new gives.line gives.is_last) why)
    ahead.appended

-- # A line whose form is refused

pub not_in_form : (asked : Asked) (strict : Bool) (input : Option (List ℕ)) (telling : Telling) (old new : Ordering) (before left : Option (List ℕ))
    (count faults_before faults_now number : ℕ) (fault : LineFault) (written now : Option (List ℕ)) → IsBehind asked strict input telling old before count written now →
    IsRefused number fault old new before left faults_before faults_now →
    IfSome input (λ bytes. Writes asked strict bytes (Err (kept.InForm number fault)) written now)
not_in_form asked strict None telling old new before left count faults_before faults_now number fault written now ahead refused = tt
not_in_form asked strict (Some bytes) telling old new before left count faults_before faults_now number fault written now ahead refused =
    form_halts asked strict bytes ahead.given new.lines number (spot_read fault) written now (kept.InForm number fault) refl
    (refused.whole bytes ahead.given ahead.known.last ahead.known.in_order) ahead.stands.goes_on ahead.appended

-- # A write that failed

front_after : (front back : List ℕ) (a b c : Option (List ℕ)) → Appends a b front → AppendsFront back b c → AppendsFront (front ++ back) a c
front_after front back a b c first rest = record {
  front = front ++ rest.front;
  rest = rest.rest;
  is_front = ap (λ l. front ++ l) rest.is_front ∙ sym (append_assoc front rest.front rest.rest);
  appended = Appends-trans a b c front rest.front first rest.appended;
}

front_longer : (front back : List ℕ) (a b : Option (List ℕ)) → AppendsFront front a b → AppendsFront (front ++ back) a b
front_longer front back a b part = record {
  front = part.front;
  rest = part.rest ++ back;
  is_front = ap (λ l. l ++ back) part.is_front ∙ append_assoc part.front part.rest back;
  appended = part.appended;
}

cut_by : (asked : Asked) (strict : Bool) (bytes : List ℕ) (past : List Said) (said : Said) (written mid now : Option (List ℕ)) (piece : List ℕ) → IsFront bytes (said ∷ past) →
    Appends written mid (told_after asked strict past).text → Adds asked strict past (said ∷ past) piece → AppendsFront piece mid now →
    Writes asked strict bytes (Err kept.WriteFault) written now
cut_by asked strict bytes past said written mid now piece front appended added part =
    let begins : Begins (told_after asked strict (said ∷ past)).text (told_in_text asked strict bytes).text = begins_told asked strict bytes (said ∷ past) front in
    subst (λ (text : List ℕ). AppendsFront text written now) (sym begins.is)
    (front_longer (told_after asked strict (said ∷ past)).text begins.more written now
    (subst (λ (text : List ℕ). AppendsFront text written now) (sym added)
    (front_after (told_after asked strict past).text piece written mid now appended part)))

pub piece_cut : (asked : Asked) (strict : Bool) (input : Option (List ℕ)) (telling : Telling) (old new : Ordering) (before left : Option (List ℕ))
    (count faults_before faults_now : ℕ) (written mid now : Option (List ℕ)) (piece : List ℕ) →
    (ahead : IsBehind asked strict input telling old before count written mid) → GivesLine old new before left faults_before faults_now →
    Counts before left old.reader.taken new.reader.taken → Adds asked strict (said_in ahead.given) (said_now new ∷ said_in ahead.given) piece → AppendsFront piece mid now →
    IfSome input (λ bytes. Writes asked strict bytes (Err kept.WriteFault) written now)
piece_cut asked strict None telling old new before left count faults_before faults_now written mid now piece ahead gives counts added part = tt
piece_cut asked strict (Some bytes) telling old new before left count faults_before faults_now written mid now piece ahead gives counts added part =
    cut_by asked strict bytes (said_in ahead.given) gives.line.said written mid now piece
    (front_some bytes new left (gives.line ∷ ahead.given) (one_given (Some bytes) old new before left ahead.given faults_before faults_now ahead.known gives counts)) ahead.appended
    (subst (λ (said : Said). Adds asked strict (said_in ahead.given) (said ∷ said_in ahead.given) piece) (said_given new gives.line gives.is_last) added) part

-- # The end

pub end_not_told : (asked : Asked) (strict : Bool) (input : Option (List ℕ)) (telling : Telling) (old new : Ordering) (before left : Option (List ℕ))
    (count faults_before faults_now : ℕ) (written now : Option (List ℕ)) (halt : HaltKept) → (ahead : IsBehind asked strict input telling old before count written now) →
    IsOver old new before left faults_before faults_now → IsHaltFor (at_number (number_now new)
    (or_else (at_line count (whole_fault asked (said_in ahead.given))) (last_piece asked strict (said_in ahead.given) (processors_of asked (said_in ahead.given))).halt)) halt →
    IfSome input (λ bytes. Writes asked strict bytes (Err halt) written now)
end_not_told asked strict None telling old new before left count faults_before faults_now written now halt ahead over why = tt
end_not_told asked strict (Some bytes) telling old new before left count faults_before faults_now written now halt ahead over why =
    end_halts asked strict bytes ahead.given new.lines (number_now new) telling halt written now (over.whole bytes ahead.given ahead.known.last ahead.known.in_order)
    (sym (over.number ahead.given ahead.known.last)) (front_some bytes old before ahead.given ahead.known) ahead.stands
    (subst (λ (n : ℕ). IsHaltFor (at_number (number_now new)
    (or_else (at_line n (whole_fault asked (said_in ahead.given))) (last_piece asked strict (said_in ahead.given) (processors_of asked (said_in ahead.given))).halt)) halt)
    (sym ahead.many ∙ sym (length-said_in ahead.given)) why) ahead.appended

-- the texts of all parts, with that of the last one
told_all : (asked : Asked) (strict : Bool) (bytes : List ℕ) (telling : Telling) (old new : Ordering) (before left : Option (List ℕ)) (count faults_before faults_now : ℕ)
    (written now : Option (List ℕ)) (text : List ℕ) → (ahead : IsBehind asked strict (Some bytes) telling old before count written now) →
    IsOver old new before left faults_before faults_now → whole_fault asked (said_in ahead.given) ≡ None → IsEnd asked strict (said_in ahead.given) text →
    told_in_text asked strict bytes ≡ record { text = (told_after asked strict (said_in ahead.given)).text ++ text; halt = None }
told_all asked strict bytes telling old new before left count faults_before faults_now written now text ahead over sound last =
    all_told asked strict bytes ahead.given new.lines text (over.whole bytes ahead.given ahead.known.last ahead.known.in_order) ahead.stands.goes_on sound last

pub end_told : (asked : Asked) (strict : Bool) (input : Option (List ℕ)) (telling : Telling) (old new : Ordering) (before left : Option (List ℕ)) (count faults_before faults_now : ℕ)
    (written mid now : Option (List ℕ)) (text : List ℕ) → (ahead : IsBehind asked strict input telling old before count written mid) →
    IsOver old new before left faults_before faults_now → whole_fault asked (said_in ahead.given) ≡ None → IsEnd asked strict (said_in ahead.given) text → Appends mid now text →
    IfSome input (λ bytes. Writes asked strict bytes (Ok tt) written now)
end_told asked strict None telling old new before left count faults_before faults_now written mid now text ahead over sound last put = tt
end_told asked strict (Some bytes) telling old new before left count faults_before faults_now written mid now text ahead over sound last put =
    let all = told_all asked strict bytes telling old new before left count faults_before faults_now written mid text ahead over sound last in
    record {
      told = ap (λ (told : Told). told.halt) all;
      appended = subst (Appends written now) (sym (ap (λ (told : Told). told.text) all))
          (Appends-trans written mid now (told_after asked strict (said_in ahead.given)).text text ahead.appended put);
    }

pub end_cut : (asked : Asked) (strict : Bool) (input : Option (List ℕ)) (telling : Telling) (old new : Ordering) (before left : Option (List ℕ)) (count faults_before faults_now : ℕ)
    (written mid now : Option (List ℕ)) (text : List ℕ) → (ahead : IsBehind asked strict input telling old before count written mid) →
    IsOver old new before left faults_before faults_now → whole_fault asked (said_in ahead.given) ≡ None → IsEnd asked strict (said_in ahead.given) text → AppendsFront text mid now →
    IfSome input (λ bytes. Writes asked strict bytes (Err kept.WriteFault) written now)
end_cut asked strict None telling old new before left count faults_before faults_now written mid now text ahead over sound last part = tt
end_cut asked strict (Some bytes) telling old new before left count faults_before faults_now written mid now text ahead over sound last part =
    subst (λ (whole : List ℕ). AppendsFront whole written now)
    (sym (ap (λ (told : Told). told.text) (told_all asked strict bytes telling old new before left count faults_before faults_now written mid text ahead over sound last)))
    (front_after (told_after asked strict (said_in ahead.given)).text text written mid now ahead.appended part)

-- # What isn't of the trace

some_lines : (asked : Asked) (strict : Bool) (bytes : List ℕ) (telling : Telling) (old : Ordering) (before : Option (List ℕ)) (count : ℕ) (written now : Option (List ℕ)) →
    (ahead : IsBehind asked strict (Some bytes) telling old before count written now) → WritesSome asked strict bytes written now
some_lines asked strict bytes telling old before count written now ahead =
    some_written asked strict bytes (said_in ahead.given) telling written now
    (front_some bytes old before ahead.given ahead.known) ahead.stands ahead.appended

-- a read failed
pub read_failed : (asked : Asked) (strict : Bool) (input : Option (List ℕ)) (telling : Telling) (old : Ordering) (before : Option (List ℕ)) (count : ℕ)
    (written now : Option (List ℕ)) → IsBehind asked strict input telling old before count written now →
    IfSome input (λ bytes. Writes asked strict bytes (Err kept.ReadFault) written now)
read_failed asked strict None telling old before count written now ahead = tt
read_failed asked strict (Some bytes) telling old before count written now ahead = some_lines asked strict bytes telling old before count written now ahead

-- memory ran out
pub no_memory : (asked : Asked) (strict : Bool) (input : Option (List ℕ)) (telling : Telling) (old : Ordering) (before : Option (List ℕ)) (count : ℕ)
    (written now : Option (List ℕ)) → IsBehind asked strict input telling old before count written now →
    IfSome input (λ bytes. Writes asked strict bytes (Err kept.Memory) written now)
no_memory asked strict None telling old before count written now ahead = tt
no_memory asked strict (Some bytes) telling old before count written now ahead = some_lines asked strict bytes telling old before count written now ahead

endless : (asked : Asked) (strict : Bool) (bytes : List ℕ) (telling : Telling) (old : Ordering) (before : Option (List ℕ)) (count : ℕ)
    (written now : Option (List ℕ)) → IsBehind asked strict (Some bytes) telling old before count written now → IsEndless bytes →
    Writes asked strict bytes (Err kept.Endless) written now
endless asked strict bytes telling old before count written now ahead long = (long, some_lines asked strict bytes telling old before count written now ahead)

pub too_many_bytes : (asked : Asked) (strict : Bool) (input : Option (List ℕ)) (telling : Telling) (old : Ordering) (before left : Option (List ℕ)) (count taken : ℕ)
    (written now : Option (List ℕ)) → IsBehind asked strict input telling old before count written now → Counts before left old.reader.taken taken → 2 ^ 64 ≤ taken + ROOM →
    IfSome input (λ bytes. Writes asked strict bytes (Err kept.Endless) written now)
too_many_bytes asked strict None telling old before left count taken written now ahead counts many = tt
too_many_bytes asked strict (Some bytes) telling old before left count taken written now ahead counts many =
    endless asked strict bytes telling old before count written now ahead
    (inl (omega (arith, many, taken_bytes bytes left taken (counts_on (Some bytes) before left old.reader.taken taken ahead.known.counts counts))))

-- as many lines as these are in order of time
as_many : (bytes : List ℕ) (past : List Said) → IsFront bytes past → length past ≤ length (order_of bytes).said
as_many bytes past front =
    let all : length (past_of (order_of bytes)) ≡ length (front.behind ++ past) = ap length front.front in
    omega (arith, all, length-reverse (order_of bytes).said, length-append front.behind past)

pub too_many_lines : (asked : Asked) (strict : Bool) (input : Option (List ℕ)) (telling : Telling) (old : Ordering) (before : Option (List ℕ)) (count : ℕ)
    (written now : Option (List ℕ)) → IsBehind asked strict input telling old before count written now → MOST_LINES ≤ count →
    IfSome input (λ bytes. Writes asked strict bytes (Err kept.Endless) written now)
too_many_lines asked strict None telling old before count written now ahead all = tt
too_many_lines asked strict (Some bytes) telling old before count written now ahead all =
    endless asked strict bytes telling old before count written now ahead
    (inr (omega (
      arith,
      all,
      ahead.many,
      length-said_in ahead.given,
      as_many bytes (said_in ahead.given) (front_some bytes old before ahead.given ahead.known),
    )))

-- # What a part needs

no_fault : (cause other : Option Cause) (number : ℕ) → at_line number (or_else cause other) ≡ None → cause ≡ None
no_fault None other number is = refl
no_fault (Some fault) other number is = cc

line_goes : (asked : Asked) (strict : Bool) (past : List Said) (said : Said) (text : List ℕ) (halt : Option Halt) →
    (told_with asked strict past said text halt).halt ≡ None → halt ≡ None
line_goes asked strict past said text None goes = refl
line_goes asked strict past said text (Some found) goes = cc

-- both the lines before it and this one
more_goes : (asked : Asked) (strict : Bool) (past : List Said) (said : Said) (text : List ℕ) (halt : Option Halt) →
    (told_next asked strict past said (record { text = text; halt = halt })).halt ≡ None → (halt ≡ None) × (line_halt asked past said ≡ None)
more_goes asked strict past said text None goes = (refl, line_goes asked strict past said text (line_halt asked past said) goes)
more_goes asked strict past said text (Some found) goes = cc

-- lines that were all taken have no fault
pub sound_lines : (asked : Asked) (strict : Bool) (past : List Said) → (told_after asked strict past).halt ≡ None → first_fault asked past ≡ None
sound_lines asked strict [] goes = refl
sound_lines asked strict (said ∷ past) goes =
    let both = more_goes asked strict past said (told_after asked strict past).text (told_after asked strict past).halt goes in
    ap (λ (first : Option (ℕ × Cause)). or_else first (numbered (length past + 1) (said_fault asked past said))) (sound_lines asked strict past both.0)
    ∙ ap (numbered (length past + 1)) (no_fault (said_fault asked past said) (parts_fault asked past said) (length past + 1) both.1)

of_some : (asked : Asked) (strict : Bool) (past : List Said) (telling : Telling) (count : ℕ) → IsGranted asked → IsTelling asked strict past telling → length past ≡ count →
    IsOfSome count (told_to_forget telling.pass) telling.pass
of_some asked strict past telling count granted stands many = record {
  asked = asked;
  past = past;
  granted = granted;
  sound = sound_lines asked strict past stands.goes_on;
  stands = stands.stands;
  as_many = sym many;
}

-- as many lines say something as were given
pub past_length : (asked : Asked) (strict : Bool) (input : Option (List ℕ)) (telling : Telling) (old : Ordering) (before : Option (List ℕ)) (count : ℕ)
    (written now : Option (List ℕ)) → (ahead : IsBehind asked strict input telling old before count written now) → length (said_in ahead.given) ≡ count
past_length asked strict input telling old before count written now ahead = length-said_in ahead.given ∙ ahead.many

pub room_behind : (asked : Asked) (strict : Bool) (input : Option (List ℕ)) (telling : Telling) (old : Ordering) (before : Option (List ℕ)) (count : ℕ)
    (written now : Option (List ℕ)) → IsGranted asked → IsBehind asked strict input telling old before count written now → count < MOST_LINES →
    HasRoom (told_to_forget telling.pass) telling.pass
room_behind asked strict input telling old before count written now granted ahead few = record {
  number = count;
  of_some = of_some asked strict (said_in ahead.given) telling count granted ahead.stands (past_length asked strict input telling old before count written now ahead);
  room = few;
}

pub plain_behind : (asked : Asked) (strict : Bool) (input : Option (List ℕ)) (telling : Telling) (old : Ordering) (before : Option (List ℕ)) (count : ℕ)
    (written now : Option (List ℕ)) → IsGranted asked → IsBehind asked strict input telling old before count written now → count ≤ MOST_LINES →
    IsPlainPass (told_to_forget telling.pass) telling.pass
plain_behind asked strict input telling old before count written now granted ahead few = record {
  number = count;
  of_some = of_some asked strict (said_in ahead.given) telling count granted ahead.stands (past_length asked strict input telling old before count written now ahead);
  few = few;
}
