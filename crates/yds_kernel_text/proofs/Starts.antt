-- What lines say doesn't depend on the place of their first byte in the input.
use Rattle.base.proofs.Common.{◌≡◌, ℕ, ◌+◌, List, [], ◌∷◌, Bool, ◌==◌, map, refl, sym, ap, ap₂, ◌∙◌, cases_Bool, inl, inr, if◌then◌else◌, Line, in_front, lines_from, trimmed, without_return}
use Rattle.yds_kernel.specs.Line.{line_of, last_line_of}
use Rattle.yds_kernel.specs.Text.{Trace, no_line, then_says, said_of}

-- the same numbers and texts
abbrev Alike : List Line → List Line → Type 0
Alike [] [] = Unit {0}
Alike [] (other ∷ others) = ⊥
Alike (line ∷ lines) [] = ⊥
Alike (line ∷ lines) (other ∷ others) = (line.number ≡ other.number) × (line.text ≡ other.text) × Alike lines others

in_front_alike : (number start place byte : ℕ) (lines others : List Line) → Alike lines others → Alike (in_front number start byte lines) (in_front number place byte others)
in_front_alike number start place byte [] [] alike = (refl, refl, tt)
in_front_alike number start place byte [] (other ∷ others) alike = absurd alike
in_front_alike number start place byte (line ∷ lines) [] alike = absurd alike
in_front_alike number start place byte (line ∷ lines) (other ∷ others) alike = (refl, ap (λ text. byte ∷ text) alike.1, alike.2)

lines_alike : (number start place : ℕ) (bytes : List ℕ) → Alike (lines_from number start bytes) (lines_from number place bytes)
lines_alike number start place [] = tt
lines_alike number start place (byte ∷ bytes) =
    elim (cases_Bool (byte == 10)) [
      | inl feed ↦ rw feed (refl, refl, lines_alike (number + 1) (start + 1) (place + 1) bytes)
      | inr other ↦ rw other (in_front_alike number start place byte (lines_from number (start + 1) bytes) (lines_from number (place + 1) bytes) (lines_alike number (start + 1) (place + 1) bytes))
    ]

said_alike : (ended : Bool) (lines others : List Line) → Alike lines others → said_of ended (map trimmed lines) ≡ said_of ended (map trimmed others)
said_alike ended [] [] alike = refl
said_alike ended [] (other ∷ others) alike = absurd alike
said_alike ended (line ∷ lines) [] alike = absurd alike
said_alike ended (line ∷ []) (other ∷ []) alike =
    ap₂ (λ (number : ℕ) (text : List ℕ). then_says number (if ended then line_of (without_return text) else last_line_of (without_return text)) no_line) alike.0 alike.1
said_alike ended (line ∷ []) (other ∷ next ∷ others) alike = absurd alike.2
said_alike ended (line ∷ after ∷ lines) (other ∷ []) alike = absurd alike.2
said_alike ended (line ∷ after ∷ lines) (other ∷ next ∷ others) alike =
    ap₂ (λ (number : ℕ) (text : List ℕ). then_says number (line_of (without_return text)) (said_of ended (map trimmed (after ∷ lines)))) alike.0 alike.1
    ∙ ap (λ (trace : Trace). then_says other.number (line_of (without_return other.text)) trace) (said_alike ended (after ∷ lines) (next ∷ others) alike.2)

-- what the lines say from whatever place on
pub said_anywhere : (ended : Bool) (number start place : ℕ) (bytes : List ℕ) → said_of ended (map trimmed (lines_from number start bytes)) ≡ said_of ended (map trimmed (lines_from number place bytes))
said_anywhere ended number start place bytes =
    said_alike ended (lines_from number start bytes) (lines_from number place bytes) (lines_alike number start place bytes)
