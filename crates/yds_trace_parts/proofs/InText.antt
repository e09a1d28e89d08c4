-- The line for which a trace isn't told further: at which place it stands, and that its number in the text is told.
use Rattle.base.proofs.Common.{◌≡◌, ℕ, ◌+◌, List, [], ◌∷◌, length, Bool, true, false, not, ◌&&◌, if◌then◌else◌, nat_lt, list_any, Option, Some, None, refl, sym, ap, subst, ◌∙◌, add-one}
use Rattle.std.specs.Prelude.{⊤, option_map}
use Rattle.base.specs.declared.limits.TheConstants.{MAX_INPUT}
use Rattle.yds_kernel.specs.Event.{Said}
use Rattle.yds_kernel.specs.Parts.{or_else}
use Rattle.yds_trace.specs.declared.cut.Cut.{Cut}
use Rattle.yds_trace.specs.declared.fault.Cause.{Cause}
use Rattle.yds_trace.specs.Asked.{Asked, on}
use Rattle.yds_trace.specs.Document.{Judged}
use Rattle.yds_trace.specs.Faults.{said_fault, whole_fault}
use Rattle.yds_trace.specs.Others.{others_from}
use Rattle.yds_trace.specs.Parts.{cut_after, part_until, parts_fault, place_of, processors_of, waiting, is_due, is_too_much}
use Rattle.yds_trace_document.specs.declared.fault.DocumentFault.TheVariants as faults
use Rattle.yds_trace_document.specs.Part.{part_of}
use Rattle.yds_trace_text.specs.Limit.{Limit, Beyond, part_limit}
use Rattle.yds_trace_text.specs.PartText.{part_text}
use Rattle.yds_trace_parts.specs.declared.halt.Halt.{Halt as HaltKept}
use Rattle.yds_trace_parts.specs.declared.halt.Halt.TheVariants as kept
use Rattle.yds_trace_parts.specs.Told.{Halt, InForm, AtLine, OfDocument, OfText, NoPlace, at_line, line_halt, next_number, part_processor, of_document, of_text, part_halt, both, piece_unless, part_piece, no_place, open_longest, waiting_halt, piece_with, piece_at, piece_of, pieces, told_with, told_next, told_after, has_written, last_pieces, no_job_halt, last_piece, by_number}
use Rattle.yds_trace_parts.specs.Telling.{IsHaltFor, with_number, at_number}

-- # At which place

-- Where a line is told, it is the one at this place.
abbrev pub IsAtPlace : ℕ → Option Halt → Type 0
IsAtPlace place (Some (AtLine at cause)) = at ≡ place
IsAtPlace place found = ⊤

at_else : (place : ℕ) (first second : Option Halt) → IsAtPlace place first → IsAtPlace place second → IsAtPlace place (or_else first second)
at_else place None second one two = two
at_else place (Some found) second one two = one

at_both : (place : ℕ) (text : List ℕ) (halt : Option Halt) (more : List ℕ) (other : Option Halt) → IsAtPlace place halt → IsAtPlace place other →
    IsAtPlace place (both (record { text = text; halt = halt }) (record { text = more; halt = other })).halt
at_both place text (Some found) more other one two = one
at_both place text None more (Some found) one two = two
at_both place text None more None one two = tt

at_unless : (place : ℕ) (halt : Option Halt) (text : List ℕ) → IsAtPlace place halt → IsAtPlace place (piece_unless halt text).halt
at_unless place (Some found) text is = is
at_unless place None text is = tt

at_its_line : (place : ℕ) (cause : Option Cause) → IsAtPlace place (at_line place cause)
at_its_line place None = tt
at_its_line place (Some cause) = refl

-- # A part

of_no_line : (place : ℕ) (processor : Option ℕ) (part : ℕ) (limit : Option Limit) → IsAtPlace place (of_document processor part limit)
of_no_line place processor part None = tt
of_no_line place processor part (Some limit) = tt

if_long : (place : ℕ) (processor : Option ℕ) (part : ℕ) (long : Bool) → IsAtPlace place (if long then Some (OfText processor part) else None)
if_long place processor part true = tt
if_long place processor part false = tt

at_part : (place : ℕ) (asked : Asked) (strict : Bool) (past : List Said) (cut : Cut) (until : Option ℕ) → IsAtPlace place (part_piece asked strict past cut until).halt
at_part place asked strict past cut until =
    at_unless place (part_halt asked strict past cut until) (part_text asked past cut until)
    (at_else place (of_document (part_processor asked) (next_number cut) (part_limit asked strict cut (part_of asked past cut until)))
    (of_text (part_processor asked) (next_number cut) (part_text asked past cut until))
    (of_no_line place (part_processor asked) (next_number cut) (part_limit asked strict cut (part_of asked past cut until)))
    (if_long place (part_processor asked) (next_number cut) (nat_lt MAX_INPUT (length (part_text asked past cut until)))))

-- # Behind a line

no_line : (place : ℕ) (found : Option Judged) → IsAtPlace place (no_place found)
no_line place None = tt
no_line place (Some judged) = tt

if_waiting : (place : ℕ) (found : Option Judged) (much : Bool) → IsAtPlace place (if much then no_place found else None)
if_waiting place found false = tt
if_waiting place found true = no_line place found

at_waiting : (asked : Asked) (past : List Said) (cut : Cut) → IsAtPlace (length past) (waiting_halt asked past cut)
at_waiting asked past cut =
    if_waiting (length past) (open_longest asked past (waiting asked past cut))
    (is_due past && is_too_much (waiting asked past cut) (others_from asked past cut.boundary))

at_piece_with : (place : ℕ) (asked : Asked) (strict : Bool) (past : List Said) (cut : Cut) (time : ℕ) (jobs : List Judged) →
    IsAtPlace place (piece_with asked strict past cut time jobs).halt
at_piece_with place asked strict past cut time [] = tt
at_piece_with place asked strict past cut time (judged ∷ jobs) = at_part place asked strict past cut (Some time)

at_piece : (asked : Asked) (strict : Bool) (past : List Said) (cut : Cut) (until : Option ℕ) → IsAtPlace (length past) (piece_at asked strict past cut until).halt
at_piece asked strict past cut None = at_waiting asked past cut
at_piece asked strict past cut (Some time) = at_piece_with (length past) asked strict past cut time (part_until asked past cut (Some time))

at_pieces : (asked : Asked) (strict : Bool) (past : List Said) (said : Said) (processors : List ℕ) →
    IsAtPlace (length (said ∷ past)) (pieces asked strict past said processors).halt
at_pieces asked strict past said [] = tt
at_pieces asked strict past said (processor ∷ more) =
    let here = on processor asked in
    let cut = cut_after here past in
    let piece = piece_of here strict (said ∷ past) cut in
    let rest = pieces asked strict past said more in
    at_both (length (said ∷ past)) piece.text piece.halt rest.text rest.halt (at_piece here strict (said ∷ past) cut (place_of here (said ∷ past) cut))
    (at_pieces asked strict past said more)

next_place : (said : Said) (past : List Said) → length (said ∷ past) ≡ length past + 1
next_place said past = sym (add-one (length past))

at_told : (asked : Asked) (strict : Bool) (past : List Said) (said : Said) (text : List ℕ) (halt : Option Halt) → IsAtPlace (length past + 1) halt →
    IsAtPlace (length past + 1) (told_with asked strict past said text halt).halt
at_told asked strict past said text (Some found) is = is
at_told asked strict past said text None is =
    subst (λ (place : ℕ). IsAtPlace place (pieces asked strict past said (processors_of asked (said ∷ past))).halt) (next_place said past)
    (at_pieces asked strict past said (processors_of asked (said ∷ past)))

at_next : (asked : Asked) (strict : Bool) (past : List Said) (said : Said) (text : List ℕ) (halt : Option Halt) → halt ≡ None →
    IsAtPlace (length past + 1) (told_next asked strict past said (record { text = text; halt = halt })).halt
at_next asked strict past said text (Some found) none = cc
at_next asked strict past said text None none =
    at_told asked strict past said text (line_halt asked past said)
    (at_its_line (length past + 1) (or_else (said_fault asked past said) (parts_fault asked past said)))

-- Where it halts at a line, that is the last one.
pub halts_here : (asked : Asked) (strict : Bool) (past : List Said) (said : Said) → (told_after asked strict past).halt ≡ None →
    IsAtPlace (length past + 1) (told_after asked strict (said ∷ past)).halt
halts_here asked strict past said goes = at_next asked strict past said (told_after asked strict past).text (told_after asked strict past).halt goes

-- # At the end

at_last : (place : ℕ) (asked : Asked) (strict : Bool) (past : List Said) (processors : List ℕ) → IsAtPlace place (last_pieces asked strict past processors).halt
at_last place asked strict past [] = tt
at_last place asked strict past (processor ∷ more) =
    let here = on processor asked in
    let piece = part_piece here strict past (cut_after here past) None in
    let rest = last_pieces asked strict past more in
    at_both place piece.text piece.halt rest.text rest.halt (at_part place here strict past (cut_after here past) None) (at_last place asked strict past more)

if_jobless : (place : ℕ) (jobless : Bool) → IsAtPlace place (if jobless then Some (OfDocument None 1 (Beyond faults.NoJobAnywhere)) else None)
if_jobless place true = tt
if_jobless place false = tt

-- So it is there.
pub ends_here : (asked : Asked) (strict : Bool) (past : List Said) →
    IsAtPlace (length past) (or_else (at_line (length past) (whole_fault asked past)) (last_piece asked strict past (processors_of asked past)).halt)
ends_here asked strict past =
    let processors = processors_of asked past in
    let last = last_pieces asked strict past processors in
    let none = piece_unless (no_job_halt asked past processors) [] in
    at_else (length past) (at_line (length past) (whole_fault asked past)) (last_piece asked strict past processors).halt (at_its_line (length past) (whole_fault asked past))
    (at_both (length past) last.text last.halt none.text none.halt (at_last (length past) asked strict past processors)
    (at_unless (length past) (no_job_halt asked past processors) []
    (if_jobless (length past) (asked.everywhere && not (list_any (λ processor. has_written (on processor asked) past (cut_after (on processor asked) past)) processors)))))

-- # Its number

-- told by the numbers of all lines, it is told by that of its line
pub same_number : (number_of : ℕ → ℕ) (place number : ℕ) (found : Option Halt) → number_of place ≡ number → IsAtPlace place found →
    option_map (by_number number_of) found ≡ at_number number found
same_number number_of place number None is here = refl
same_number number_of place number (Some (InForm fault)) is here = refl
same_number number_of place number (Some (AtLine at cause)) is here = ap (λ (n : ℕ). Some (AtLine n cause)) (ap number_of here ∙ is)
same_number number_of place number (Some (OfDocument processor part fault)) is here = refl
same_number number_of place number (Some (OfText processor part)) is here = refl
same_number number_of place number (Some (NoPlace name begin late)) is here = refl

-- where it is told, it was found
pub found_there : (number : ℕ) (found : Option Halt) (told : Halt) → at_number number found ≡ Some told → (halt : Halt) × (found ≡ Some halt)
found_there number None told is = cc
found_there number (Some halt) told is = (halt, refl)

-- what is kept of it, by its number
pub kept_number : (number : ℕ) (found : Option Halt) (halt : HaltKept) → IsHaltFor found halt → IsHaltFor (at_number number found) (with_number number halt)
kept_number number found kept.Memory is = tt
kept_number number found kept.NoFirst is = is
kept_number number found kept.Endless is = is
kept_number number found kept.ReadFault is = is
kept_number number found kept.WriteFault is = is
kept_number number found (kept.InForm at fault) is = ap (at_number number) is
kept_number number found (kept.AtLine at cause) is = ap (at_number number) is
kept_number number found (kept.Limit processor part fault) is = ap (at_number number) is
kept_number number found (kept.NotKnown processor part place name reason) is = ap (at_number number) is
kept_number number found (kept.TooLong processor part) is = ap (at_number number) is
kept_number number found (kept.NoPlace name begin late) is = ap (at_number number) is
