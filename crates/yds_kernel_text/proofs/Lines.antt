-- What the first line of bytes says, before what the others say.
use Rattle.base.proofs.Common.{◌≡◌, ◌≢◌, ℕ, ◌+◌, ◌-◌, ◌<◌, ◌≤◌, List, [], ◌∷◌, ◌++◌, length, get_or, take, drop, map, Bool, true, ◌==◌, All, refl, sym, ap, ◌∙◌, arith, inl, inr, if◌then◌else◌, eq-eqb, eqb-true, ne_eqb, cases_Bool, append_assoc, take-append-drop, length-append, length-take-le, get_or-take, le_refl, drop_more, All-from_get_or, All-get_or, get_or-append_right, Line, in_front, lines_from, trimmed, without_return, lines_from-front, lines_from-last}
use Rattle.memchr.specs.Find.{Nowhere, Passes, is_byte}
use Rattle.yds_kernel.specs.Stamp.{last_byte}
use Rattle.yds_kernel.specs.Line.{line_of, last_line_of}
use Rattle.yds_kernel.specs.Text.{Trace, no_line, then_says, said_of, trace_from}
use Rattle.yds_kernel_text.proofs.Starts.{said_anywhere}

-- bytes up to which no line feed was found have none
pub no_feed : (bytes : List ℕ) (end : ℕ) → end ≤ length bytes → Nowhere (Passes (is_byte 10) bytes) 0 end → All (λ byte. byte ≢ 10) (take end bytes)
no_feed bytes end within nowhere =
    All-from_get_or (λ byte. byte ≢ 10) (take end bytes) 0 (λ i below same.
    let here : i < end = omega (arith, length-take-le end bytes within) in
    nowhere i (omega arith) here (eq-eqb (get_or bytes i 0) 10 (sym (get_or-take end bytes i 0 here) ∙ same)))

-- bytes are those before the line feed, the line feed, and those after it
pub at_feed : (bytes : List ℕ) (end : ℕ) → end < length bytes → Passes (is_byte 10) bytes end → bytes ≡ take end bytes ++ 10 ∷ drop (end + 1) bytes
at_feed bytes end within feed =
    sym (take-append-drop end bytes) ∙ ap (λ rest. take end bytes ++ rest) (drop_more bytes end 0 within)
    ∙ ap (λ (byte : ℕ). take end bytes ++ byte ∷ drop (end + 1) bytes) (eqb-true (get_or bytes end 0) 10 feed)

last_of_append : (front rest : List ℕ) → 0 < length rest → last_byte (front ++ rest) ≡ last_byte rest
last_of_append front rest some =
    let place : length (front ++ rest) - 1 - length front ≡ length rest - 1 = omega (arith, length-append front rest) in
    get_or-append_right front rest (length front) (length (front ++ rest) - 1) 0 refl (omega (arith, length-append front rest))
    ∙ ap (λ (i : ℕ). get_or rest i 0) place

in_front_some : (number start byte : ℕ) (lines : List Line) → 0 < length (in_front number start byte lines)
in_front_some number start byte [] = omega arith
in_front_some number start byte (line ∷ lines) = omega arith

lines_some : (number start byte : ℕ) (bytes : List ℕ) → 0 < length (lines_from number start (byte ∷ bytes))
lines_some number start byte bytes =
    elim (cases_Bool (byte == 10)) [
      | inl feed ↦ rw feed (omega arith)
      | inr other ↦ rw other (in_front_some number start byte (lines_from number (start + 1) bytes))
    ]

said_more : (ended : Bool) (line : Line) (lines : List Line) → 0 < length lines →
    said_of ended (map trimmed (line ∷ lines)) ≡ then_says line.number (line_of (without_return line.text)) (said_of ended (map trimmed lines))
said_more ended line [] some = absurd (omega arith)
said_more ended line (next ∷ lines) some = refl

-- a line that a line feed ends, and the bytes after it
pub front_says : (number : ℕ) (front rest : List ℕ) → All (λ byte. byte ≢ 10) front →
    trace_from number (front ++ 10 ∷ rest) ≡ then_says number (line_of (without_return front)) (trace_from (number + 1) rest)
front_says number front [] none =
    rw (last_of_append front (10 ∷ []) (omega arith)) (ap (λ lines. said_of true (map trimmed lines)) (lines_from-front number 0 front [] none))
front_says number front (byte ∷ bytes) none =
    let place : ℕ = 0 + length front + 1 in
    let ended : Bool = last_byte (byte ∷ bytes) == 10 in
    ap (λ (last : ℕ). said_of (last == 10) (map trimmed (lines_from number 0 (front ++ 10 ∷ byte ∷ bytes)))) (last_of_append front (10 ∷ byte ∷ bytes) (omega arith) ∙ last_of_append (10 ∷ []) (byte ∷ bytes) (omega arith))
    ∙ ap (λ lines. said_of ended (map trimmed lines)) (lines_from-front number 0 front (byte ∷ bytes) none)
    ∙ said_more ended (record { number = number; start = 0; text = front }) (lines_from (number + 1) place (byte ∷ bytes)) (lines_some (number + 1) place byte bytes)
    ∙ ap (λ (trace : Trace). then_says number (line_of (without_return front)) trace) (said_anywhere ended (number + 1) place 0 (byte ∷ bytes))

-- a last line that no line feed ends
pub rest_says : (number : ℕ) (bytes : List ℕ) → 0 < length bytes → All (λ byte. byte ≢ 10) bytes →
    trace_from number bytes ≡ then_says number (last_line_of (without_return bytes)) no_line
rest_says number [] some none = absurd (omega arith)
rest_says number (byte ∷ bytes) some none =
    let other : last_byte (byte ∷ bytes) ≢ 10 = All-get_or (λ byte. byte ≢ 10) (byte ∷ bytes) (length (byte ∷ bytes) - 1) 0 (omega arith) none in
    rw (ne_eqb (last_byte (byte ∷ bytes)) 10 other, lines_from-last number 0 byte bytes none) refl
