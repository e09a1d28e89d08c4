-- What is told of more lines begins with what is told of fewer, and a halt stays.
use Rattle.base.proofs.Common.{◌≡◌, ℕ, List, [], ◌∷◌, ◌++◌, Bool, Option, Some, None, refl, sym, ap, ◌∙◌, append_assoc, append-nil}
use Rattle.yds_kernel.specs.Event.{Said}
use Rattle.yds_kernel.specs.declared.fault.Reason.{Reason}
use Rattle.base.specs.Fields.{Fault}
use Rattle.yds_trace.specs.Asked.{Asked, on}
use Rattle.yds_trace.specs.Parts.{cut_after, processors_of}
use Rattle.yds_trace_parts.specs.Laws.{Begins}
use Rattle.yds_trace_parts.specs.Told.{Halt, Told, piece_of, pieces, with_piece, last_piece, line_halt, told_with, told_next, told_after, end_halt, told_last, told_at_end}
use Rattle.yds_trace_parts.proofs.Joined.{both_empty}

begins_so : (text : List ℕ) → Begins text text
begins_so text = record { more = []; is = sym (append-nil text) }

pub begins_on : (first second third : List ℕ) → Begins first second → Begins second third → Begins first third
begins_on first second third one two = record {
  more = one.more ++ two.more;
  is = two.is ∙ ap (λ (front : List ℕ). front ++ two.more) one.is ∙ append_assoc first one.more two.more;
}

-- # A line more

with_piece_begins : (text : List ℕ) (piece : Told) → Begins text (with_piece text piece).text
with_piece_begins text piece = record { more = piece.text; is = refl }

with_begins : (asked : Asked) (strict : Bool) (past : List Said) (said : Said) (text : List ℕ) (halt : Option Halt) → Begins text (told_with asked strict past said text halt).text
with_begins asked strict past said text (Some halt) = begins_so text
with_begins asked strict past said text None = with_piece_begins text (pieces asked strict past said (processors_of asked (said ∷ past)))

next_by : (asked : Asked) (strict : Bool) (past : List Said) (said : Said) (text : List ℕ) (halt : Option Halt) →
    Begins text (told_next asked strict past said (record { text = text; halt = halt })).text
next_by asked strict past said text (Some halt) = begins_so text
next_by asked strict past said text None = with_begins asked strict past said text (line_halt asked past said)

pub one_begins : (asked : Asked) (strict : Bool) (past : List Said) (said : Said) → Begins (told_after asked strict past).text (told_after asked strict (said ∷ past)).text
one_begins asked strict past said = next_by asked strict past said (told_after asked strict past).text (told_after asked strict past).halt

-- more lines
pub lines_begin : (asked : Asked) (strict : Bool) (more past : List Said) → Begins (told_after asked strict past).text (told_after asked strict (more ++ past)).text
lines_begin asked strict [] past = begins_so (told_after asked strict past).text
lines_begin asked strict (said ∷ more) past =
    begins_on (told_after asked strict past).text (told_after asked strict (more ++ past)).text (told_after asked strict (said ∷ more ++ past)).text
    (lines_begin asked strict more past) (one_begins asked strict (more ++ past) said)

-- and the end
last_begins : (asked : Asked) (strict : Bool) (past : List Said) (text : List ℕ) (halt : Option Halt) → Begins text (told_last asked strict past text halt).text
last_begins asked strict past text (Some halt) = begins_so text
last_begins asked strict past text None = with_piece_begins text (last_piece asked strict past (processors_of asked past))

end_by : (asked : Asked) (strict : Bool) (past : List Said) (form : Option (Fault Reason)) (text : List ℕ) (halt : Option Halt) →
    Begins text (told_at_end asked strict past form (record { text = text; halt = halt })).text
end_by asked strict past form text (Some halt) = begins_so text
end_by asked strict past form text None = last_begins asked strict past text (end_halt asked past form)

pub end_begins : (asked : Asked) (strict : Bool) (past : List Said) (form : Option (Fault Reason)) →
    Begins (told_after asked strict past).text (told_at_end asked strict past form (told_after asked strict past)).text
end_begins asked strict past form = end_by asked strict past form (told_after asked strict past).text (told_after asked strict past).halt

-- # A halt stays

next_halted : (asked : Asked) (strict : Bool) (past : List Said) (said : Said) (text : List ℕ) (halt : Option Halt) (found : Halt) → halt ≡ Some found →
    told_next asked strict past said (record { text = text; halt = halt }) ≡ record { text = text; halt = halt }
next_halted asked strict past said text (Some halt) found is = refl
next_halted asked strict past said text None found is = cc

pub halted : (asked : Asked) (strict : Bool) (more past : List Said) (found : Halt) → (told_after asked strict past).halt ≡ Some found →
    told_after asked strict (more ++ past) ≡ told_after asked strict past
halted asked strict [] past found is = refl
halted asked strict (said ∷ more) past found is =
    ap (told_next asked strict (more ++ past) said) (halted asked strict more past found is)
    ∙ next_halted asked strict (more ++ past) said (told_after asked strict past).text (told_after asked strict past).halt found is

end_halted_by : (asked : Asked) (strict : Bool) (past : List Said) (form : Option (Fault Reason)) (text : List ℕ) (halt : Option Halt) (found : Halt) → halt ≡ Some found →
    told_at_end asked strict past form (record { text = text; halt = halt }) ≡ record { text = text; halt = halt }
end_halted_by asked strict past form text (Some halt) found is = refl
end_halted_by asked strict past form text None found is = cc

pub end_halted : (asked : Asked) (strict : Bool) (past : List Said) (form : Option (Fault Reason)) (found : Halt) → (told_after asked strict past).halt ≡ Some found →
    told_at_end asked strict past form (told_after asked strict past) ≡ told_after asked strict past
end_halted asked strict past form found is = end_halted_by asked strict past form (told_after asked strict past).text (told_after asked strict past).halt found is

-- # A line that halts adds nothing

pieces_empty : (asked : Asked) (strict : Bool) (past : List Said) (said : Said) (numbers : List ℕ) (found : Halt) →
    (pieces asked strict past said numbers).halt ≡ Some found → (pieces asked strict past said numbers).text ≡ []
pieces_empty asked strict past said [] found is = refl
pieces_empty asked strict past said (number ∷ numbers) found is =
    both_empty (piece_of (on number asked) strict (said ∷ past) (cut_after (on number asked) past)) (pieces asked strict past said numbers) found is

-- text without a piece
pub nothing_more : (text : List ℕ) (piece : Told) → piece.text ≡ [] → (with_piece text piece).text ≡ text
nothing_more text piece is = ap (λ (more : List ℕ). text ++ more) is ∙ append-nil text

with_text : (asked : Asked) (strict : Bool) (past : List Said) (said : Said) (text : List ℕ) (halt : Option Halt) (found : Halt) →
    (told_with asked strict past said text halt).halt ≡ Some found → (told_with asked strict past said text halt).text ≡ text
with_text asked strict past said text (Some halt) found is = refl
with_text asked strict past said text None found is =
    nothing_more text (pieces asked strict past said (processors_of asked (said ∷ past)))
    (pieces_empty asked strict past said (processors_of asked (said ∷ past)) found is)

next_text : (asked : Asked) (strict : Bool) (past : List Said) (said : Said) (text : List ℕ) (halt : Option Halt) (found : Halt) →
    (told_next asked strict past said (record { text = text; halt = halt })).halt ≡ Some found → (told_next asked strict past said (record { text = text; halt = halt })).text ≡ text
next_text asked strict past said text (Some halt) found is = refl
next_text asked strict past said text None found is = with_text asked strict past said text (line_halt asked past said) found is

pub halting_text : (asked : Asked) (strict : Bool) (past : List Said) (said : Said) (found : Halt) → (told_after asked strict (said ∷ past)).halt ≡ Some found →
    (told_after asked strict (said ∷ past)).text ≡ (told_after asked strict past).text
halting_text asked strict past said found is = next_text asked strict past said (told_after asked strict past).text (told_after asked strict past).halt found is
