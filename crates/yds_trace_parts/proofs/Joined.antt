-- Pieces of the text, one behind the other.
use Rattle.base.proofs.Common.{◌≡◌, ℕ, List, [], ◌∷◌, ◌++◌, map, Bool, Option, Some, None, refl, sym, ap, ◌∙◌, append_assoc, append-nil}
use Rattle.yds_kernel.specs.Event.{Said}
use Rattle.yds_trace.specs.Asked.{Asked}
use Rattle.yds_trace_parts.specs.declared.processors.Processor.{Processor}
use Rattle.yds_trace_parts.specs.Told.{Halt, Told, no_piece, both, pieces, last_pieces}
use Rattle.yds_trace_parts.specs.Telling.{text_alone, joined, told_behind, told_at_last, told_on}

-- # Two pieces

idle_by : (text : List ℕ) (halt : Option Halt) (more : List ℕ) (other : Option Halt) →
    both no_piece (both (record { text = text; halt = halt }) (record { text = more; halt = other }))
    ≡ both (record { text = text; halt = halt }) (record { text = more; halt = other })
idle_by text (Some found) more other = refl
idle_by text None more (Some found) = refl
idle_by text None more None = refl

more_by : (text more rest : List ℕ) (halt : Option Halt) →
    both (text_alone text) (both (text_alone more) (record { text = rest; halt = halt })) ≡ both (text_alone (text ++ more)) (record { text = rest; halt = halt })
more_by text more rest (Some found) = refl
more_by text more rest None = ap text_alone (sym (append_assoc text more rest))

halts_by : (text more : List ℕ) (halt : Option Halt) (rest : Told) (found : Halt) → halt ≡ Some found →
    (both (text_alone text) (both (record { text = more; halt = halt }) rest)).halt ≡ Some found
halts_by text more (Some one) rest found is = is
halts_by text more None rest found is = cc

empty_by : (text : List ℕ) (halt : Option Halt) (more : List ℕ) (other : Option Halt) (found : Halt) →
    (both (record { text = text; halt = halt }) (record { text = more; halt = other })).halt ≡ Some found →
    (both (record { text = text; halt = halt }) (record { text = more; halt = other })).text ≡ []
empty_by text (Some one) more other found is = refl
empty_by text None more (Some one) found is = refl
empty_by text None more None found is = cc

-- where it halts, there is no text
pub both_empty : (first second : Told) (found : Halt) → (both first second).halt ≡ Some found → (both first second).text ≡ []
both_empty first second found is = empty_by first.text first.halt second.text second.halt found is

-- # One behind the other

pub joined_first : (pieces : List Told) → both no_piece (joined pieces) ≡ joined pieces
joined_first [] = refl
joined_first (piece ∷ more) = idle_by piece.text piece.halt (joined more).text (joined more).halt

-- what is written of these, of which so many are behind
abbrev pub IsSoFar : (Processor → Told) → List ℕ → List Processor → Told → Type 0
IsSoFar told text rest all = both (text_alone text) (joined (map told rest)) ≡ all

pub joined_more : (told : Processor → Told) (text more : List ℕ) (one : Processor) (rest : List Processor) (all : Told) → told one ≡ text_alone more →
    IsSoFar told text (one ∷ rest) all → IsSoFar told (text ++ more) rest all
joined_more told text more one rest all is far =
    sym (more_by text more (joined (map told rest)).text (joined (map told rest)).halt)
    ∙ ap (λ (piece : Told). both (text_alone text) (both piece (joined (map told rest)))) (sym is) ∙ far

pub joined_halts : (told : Processor → Told) (text : List ℕ) (one : Processor) (rest : List Processor) (all : Told) (found : Halt) → (told one).halt ≡ Some found →
    IsSoFar told text (one ∷ rest) all → all.halt ≡ Some found
joined_halts told text one rest all found is far =
    ap (λ (piece : Told). piece.halt) (sym far) ∙ halts_by text (told one).text (told one).halt (joined (map told rest)) found is

pub joined_last : (told : Processor → Told) (text : List ℕ) (all : Told) → IsSoFar told text [] all → all ≡ text_alone text
joined_last told text all far = sym far ∙ ap text_alone (append-nil text)

-- # As the definitions say

pub pieces_are : (asked : Asked) (strict : Bool) (past : List Said) (said : Said) (numbers : List ℕ) →
    joined (map (told_behind asked strict (said ∷ past)) (map (told_on asked past) numbers)) ≡ pieces asked strict past said numbers
pieces_are asked strict past said [] = refl
pieces_are asked strict past said (number ∷ numbers) =
    ap (both (told_behind asked strict (said ∷ past) (told_on asked past number))) (pieces_are asked strict past said numbers)

pub last_are : (asked : Asked) (strict : Bool) (past : List Said) (numbers : List ℕ) →
    joined (map (told_at_last asked strict past) (map (told_on asked past) numbers)) ≡ last_pieces asked strict past numbers
last_are asked strict past [] = refl
last_are asked strict past (number ∷ numbers) = ap (both (told_at_last asked strict past (told_on asked past number))) (last_are asked strict past numbers)
