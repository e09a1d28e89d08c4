-- A trace that was told in parts to its end was told as its parts: none of its lines is refused, and none of the parts passes a limit.
use Rattle.yds_model.proofs.Common.{◌≡◌, ℕ, ◌+◌, ◌≤◌, List, [], ◌∷◌, ◌++◌, map, length, flat_map, flat_map-append, append-nil, All, All-append, All-cons, All-nil, Bool, true, false, nat_lt, ltb-false, if◌then◌else◌, Option, Some, None, refl, sym, ap, ap₂, subst, ◌∙◌}
use Rattle.std.specs.Prelude.{option_map}
use Rattle.base.specs.declared.limits.TheConstants.{MAX_INPUT}
use Rattle.base.specs.Fields.{Fault}
use Rattle.yds_kernel.specs.declared.fault.Reason.{Reason}
use Rattle.yds_kernel.specs.Event.{Said}
use Rattle.yds_kernel.specs.Parts.{or_else}
use Rattle.yds_kernel.specs.Text.{Trace}
use Rattle.yds_trace.specs.declared.cut.Cut.{Cut}
use Rattle.yds_trace.specs.declared.fault.Cause.{Cause}
use Rattle.yds_trace.specs.Asked.{Asked, on}
use Rattle.yds_trace.specs.Faults.{said_fault, first_fault, numbered}
use Rattle.yds_trace.specs.Document.{Judged}
use Rattle.yds_trace.specs.Parts.{cut_after, part_until, parts_fault, place_of, processors_of}
use Rattle.yds_trace_laws.proofs.Begins.{or_none}
use Rattle.yds_trace_document.specs.declared.fault.DocumentFault.{DocumentFault}
use Rattle.yds_trace_document.specs.Part.{part_of, part_limit_fault}
use Rattle.yds_trace_text.specs.Limit.{limit_of, part_limit}
use Rattle.yds_trace_text.specs.PartText.{part_text}
use Rattle.yds_trace_reading.specs.LineFault.{past_of}
use Rattle.yds_trace_parts.specs.Told.{Halt, OfText, at_line, line_halt, next_number, part_processor, of_document, of_text, part_halt, both, piece_unless, part_piece, piece_with, piece_at, piece_of, pieces, told_with, told_next, told_after, last_pieces, no_job_halt, last_piece, end_halt, told_last, told_at_end, told_of}
use Rattle.yds_trace_whole.specs.Parts.{Part, made, made_with, made_at, made_behind, written_behind, last_made, written_parts, KeepsAllParts}

-- # No fault

no_cause : (number : ℕ) (cause : Option Cause) → at_line number cause ≡ None → cause ≡ None
no_cause number None none = refl
no_cause number (Some cause) none = cc

no_limit : (processor : Option ℕ) (part : ℕ) (judged : List Judged) (fault : Option DocumentFault) → of_document processor part (option_map (limit_of judged) fault) ≡ None → fault ≡ None
no_limit processor part judged None none = refl
no_limit processor part judged (Some fault) none = cc

not_long : (processor : Option ℕ) (part : ℕ) (text : List ℕ) → of_text processor part text ≡ None → length text ≤ MAX_INPUT
not_long processor part text none = by (nat_lt MAX_INPUT (length text)) refl none
  where
    by : (b : Bool) → nat_lt MAX_INPUT (length text) ≡ b → (if b then Some (OfText processor part) else None) ≡ None → length text ≤ MAX_INPUT
    by true is none = cc
    by false is none = ltb-false MAX_INPUT (length text) is

-- # Parts that were written

-- its text may be written
abbrev pub MayStand : Asked → Bool → Part → Type 0
MayStand asked strict part = (part_limit_fault asked strict part.cut part.settled ≡ None) × (length part.text ≤ MAX_INPUT)

abbrev pub text_in : Part → List ℕ
text_in part = part.text

-- a text of these parts, each of which may stand
record IsPut (asked : Asked) (strict : Bool) (parts : List Part) (text : List ℕ) : Type 0 where
  says : text ≡ flat_map text_in parts
  stand : All (MayStand asked strict) parts

none_put : (asked : Asked) (strict : Bool) → IsPut asked strict [] []
none_put asked strict = record { says = refl; stand = All-nil _ }

joined : (asked : Asked) (strict : Bool) (one more : List Part) (text later : List ℕ) → IsPut asked strict one text → IsPut asked strict more later
    → IsPut asked strict (one ++ more) (text ++ later)
joined asked strict one more text later first second = record {
  says = ap₂ (λ (front : List ℕ) (back : List ℕ). front ++ back) first.says second.says ∙ sym (flat_map-append text_in one more);
  stand = All-append (MayStand asked strict) one more first.stand second.stand;
}

both_put : (asked : Asked) (strict : Bool) (one more : List Part) (text : List ℕ) (halt : Option Halt) (later : List ℕ) (other : Option Halt)
    → (halt ≡ None → IsPut asked strict one text) → (other ≡ None → IsPut asked strict more later)
    → (both (record { text = text; halt = halt }) (record { text = later; halt = other })).halt ≡ None
    → IsPut asked strict (one ++ more) (both (record { text = text; halt = halt }) (record { text = later; halt = other })).text
both_put asked strict one more text (Some reason) later other first second goes_on = cc
both_put asked strict one more text None later (Some reason) first second goes_on = cc
both_put asked strict one more text None later None first second goes_on = joined asked strict one more text later (first refl) (second refl)

may_stand : (asked : Asked) (strict : Bool) (past : List Said) (cut : Cut) (until : Option ℕ) → part_halt asked strict past cut until ≡ None
    → MayStand asked strict (made asked past cut until)
may_stand asked strict past cut until none =
    let parts = or_none (of_document (part_processor asked) (next_number cut) (part_limit asked strict cut (part_of asked past cut until))) (of_text (part_processor asked) (next_number cut) (part_text asked past cut until)) none in (
      no_limit (part_processor asked) (next_number cut) (part_of asked past cut until).judged (part_limit_fault asked strict cut (part_of asked past cut until)) parts.0,
      not_long (part_processor asked) (next_number cut) (part_text asked past cut until) parts.1,
    )

one_put : (asked : Asked) (strict : Bool) (past : List Said) (cut : Cut) (until : Option ℕ) → (part_piece asked strict past cut until).halt ≡ None
    → IsPut asked strict (made asked past cut until ∷ []) (part_piece asked strict past cut until).text
one_put asked strict past cut until goes_on = by (part_halt asked strict past cut until) refl goes_on
  where
    by : (halt : Option Halt) → part_halt asked strict past cut until ≡ halt → (piece_unless halt (part_text asked past cut until)).halt ≡ None
        → IsPut asked strict (made asked past cut until ∷ []) (piece_unless halt (part_text asked past cut until)).text
    by (Some halt) is none = cc
    by None is none = record {
      says = sym (append-nil (part_text asked past cut until));
      stand = All-cons (MayStand asked strict) (made asked past cut until) [] (may_stand asked strict past cut until is) (All-nil _);
    }

-- A part without a job isn't written.
with_put : (asked : Asked) (strict : Bool) (past : List Said) (cut : Cut) (time : ℕ) (jobs : List Judged) → (piece_with asked strict past cut time jobs).halt ≡ None
    → IsPut asked strict (made_with asked past cut time jobs) (piece_with asked strict past cut time jobs).text
with_put asked strict past cut time [] goes_on = none_put asked strict
with_put asked strict past cut time (judged ∷ jobs) goes_on = one_put asked strict past cut (Some time) goes_on

piece_put : (asked : Asked) (strict : Bool) (past : List Said) (cut : Cut) (place : Option ℕ) → (piece_at asked strict past cut place).halt ≡ None
    → IsPut asked strict (made_at asked past cut place) (piece_at asked strict past cut place).text
piece_put asked strict past cut None goes_on = none_put asked strict
piece_put asked strict past cut (Some time) goes_on = with_put asked strict past cut time (part_until asked past cut (Some time)) goes_on

-- what is said of a part on a processor is said of it where another one is asked for
turned : (asked : Asked) (strict : Bool) (processor : ℕ) (parts : List Part) (text : List ℕ) → IsPut (on processor asked) strict parts text → IsPut asked strict parts text
turned asked strict processor parts text put = record { says = put.says; stand = put.stand }

-- # Of all processors

pieces_put : (asked : Asked) (strict : Bool) (past : List Said) (said : Said) (processors : List ℕ) → (pieces asked strict past said processors).halt ≡ None
    → IsPut asked strict (made_behind asked past said processors) (pieces asked strict past said processors).text
pieces_put asked strict past said [] goes_on = none_put asked strict
pieces_put asked strict past said (processor ∷ more) goes_on =
    let here = on processor asked in
    let cut = cut_after here past in
    let place = place_of here (said ∷ past) cut in
    let piece = piece_of here strict (said ∷ past) cut in
    let rest = pieces asked strict past said more in
    both_put asked strict (made_at here (said ∷ past) cut place) (made_behind asked past said more) piece.text piece.halt rest.text rest.halt
    (λ none. turned asked strict processor (made_at here (said ∷ past) cut place) piece.text (piece_put here strict (said ∷ past) cut place none))
    (pieces_put asked strict past said more) goes_on

last_pieces_put : (asked : Asked) (strict : Bool) (past : List Said) (processors : List ℕ) → (last_pieces asked strict past processors).halt ≡ None
    → IsPut asked strict (map (last_made asked past) processors) (last_pieces asked strict past processors).text
last_pieces_put asked strict past [] goes_on = none_put asked strict
last_pieces_put asked strict past (processor ∷ more) goes_on =
    let here = on processor asked in
    let piece = part_piece here strict past (cut_after here past) None in
    let rest = last_pieces asked strict past more in
    both_put asked strict (last_made asked past processor ∷ []) (map (last_made asked past) more) piece.text piece.halt rest.text rest.halt
    (λ none. turned asked strict processor (last_made asked past processor ∷ []) piece.text (one_put here strict past (cut_after here past) None none))
    (last_pieces_put asked strict past more) goes_on

nothing_put : (asked : Asked) (strict : Bool) (halt : Option Halt) → (piece_unless halt []).halt ≡ None → IsPut asked strict [] (piece_unless halt []).text
nothing_put asked strict (Some halt) goes_on = cc
nothing_put asked strict None goes_on = none_put asked strict

last_put : (asked : Asked) (strict : Bool) (past : List Said) (processors : List ℕ) → (last_piece asked strict past processors).halt ≡ None
    → IsPut asked strict (map (last_made asked past) processors) (last_piece asked strict past processors).text
last_put asked strict past processors goes_on =
    let parts = map (last_made asked past) processors in
    let piece = last_pieces asked strict past processors in
    let none = piece_unless (no_job_halt asked past processors) [] in
    subst (λ (all : List Part). IsPut asked strict all (last_piece asked strict past processors).text) (append-nil parts)
    (both_put asked strict parts [] piece.text piece.halt none.text none.halt (last_pieces_put asked strict past processors)
    (nothing_put asked strict (no_job_halt asked past processors)) goes_on)

-- # All parts

pub record IsToldAs (asked : Asked) (strict : Bool) (past : List Said) (parts : List Part) (text : List ℕ) : Type 0 where
  pub sound : first_fault asked past ≡ None
  pub keeps : KeepsAllParts asked past
  pub says : text ≡ flat_map text_in parts
  pub stand : All (MayStand asked strict) parts

-- with these parts more
with_parts : (asked : Asked) (strict : Bool) (past : List Said) (before more : List Part) (text now : List ℕ) → IsToldAs asked strict past before text → IsPut asked strict more now
    → IsPut asked strict (before ++ more) (text ++ now)
with_parts asked strict past before more text now told put =
    joined asked strict before more text now (record { says = told.says; stand = told.stand }) put

line_told : (asked : Asked) (strict : Bool) (past : List Said) (said : Said) (text : List ℕ) (halt : Option Halt) → IsToldAs asked strict past (written_behind asked past) text
    → line_halt asked past said ≡ halt → (told_with asked strict past said text halt).halt ≡ None
    → IsToldAs asked strict (said ∷ past) (written_behind asked (said ∷ past)) (told_with asked strict past said text halt).text
line_told asked strict past said text (Some halt) before is goes_on = cc
line_told asked strict past said text None before is goes_on =
    let causes = or_none (said_fault asked past said) (parts_fault asked past said)
    (no_cause (length past + 1) (or_else (said_fault asked past said) (parts_fault asked past said)) is) in
    let processors = processors_of asked (said ∷ past) in
    let put = with_parts asked strict past (written_behind asked past) (made_behind asked past said processors) text (pieces asked strict past said processors).text
    before (pieces_put asked strict past said processors goes_on) in
    record {
      sound = ap (λ (one : Option (ℕ × Cause)). or_else one (numbered (length past + 1) (said_fault asked past said))) before.sound
          ∙ ap (numbered (length past + 1)) causes.0;
      keeps = (causes.1, before.keeps);
      says = put.says;
      stand = put.stand;
    }

next_told : (asked : Asked) (strict : Bool) (past : List Said) (said : Said) (text : List ℕ) (halt : Option Halt)
    → (halt ≡ None → IsToldAs asked strict past (written_behind asked past) text) → (told_next asked strict past said (record { text = text; halt = halt })).halt ≡ None
    → IsToldAs asked strict (said ∷ past) (written_behind asked (said ∷ past)) (told_next asked strict past said (record { text = text; halt = halt })).text
next_told asked strict past said text (Some halt) before goes_on = cc
next_told asked strict past said text None before goes_on = line_told asked strict past said text (line_halt asked past said) (before refl) refl goes_on

behind_told : (asked : Asked) (strict : Bool) (past : List Said) → (told_after asked strict past).halt ≡ None
    → IsToldAs asked strict past (written_behind asked past) (told_after asked strict past).text
behind_told asked strict [] goes_on = record { sound = refl; keeps = tt; says = refl; stand = All-nil _ }
behind_told asked strict (said ∷ past) goes_on =
    next_told asked strict past said (told_after asked strict past).text (told_after asked strict past).halt (behind_told asked strict past) goes_on

last_told : (asked : Asked) (strict : Bool) (past : List Said) (text : List ℕ) (halt : Option Halt) → IsToldAs asked strict past (written_behind asked past) text
    → (told_last asked strict past text halt).halt ≡ None → IsToldAs asked strict past (written_parts asked past) (told_last asked strict past text halt).text
last_told asked strict past text (Some halt) before goes_on = cc
last_told asked strict past text None before goes_on =
    let processors = processors_of asked past in
    let put = with_parts asked strict past (written_behind asked past) (map (last_made asked past) processors) text (last_piece asked strict past processors).text
    before (last_put asked strict past processors goes_on) in
    record { sound = before.sound; keeps = before.keeps; says = put.says; stand = put.stand }

end_told : (asked : Asked) (strict : Bool) (past : List Said) (form : Option (Fault Reason)) (text : List ℕ) (halt : Option Halt)
    → (halt ≡ None → IsToldAs asked strict past (written_behind asked past) text) → (told_at_end asked strict past form (record { text = text; halt = halt })).halt ≡ None
    → IsToldAs asked strict past (written_parts asked past) (told_at_end asked strict past form (record { text = text; halt = halt })).text
end_told asked strict past form text (Some halt) before goes_on = cc
end_told asked strict past form text None before goes_on = last_told asked strict past text (end_halt asked past form) (before refl) goes_on

pub told_as : (asked : Asked) (strict : Bool) (trace : Trace) → (told_of asked strict trace).halt ≡ None
    → IsToldAs asked strict (past_of trace) (written_parts asked (past_of trace)) (told_of asked strict trace).text
told_as asked strict trace goes_on =
    end_told asked strict (past_of trace) trace.fault (told_after asked strict (past_of trace)).text (told_after asked strict (past_of trace)).halt
    (behind_told asked strict (past_of trace)) goes_on
