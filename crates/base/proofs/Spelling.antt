-- Spellings: what numbers written in base ten and names are made of.
use Rattle.std.proofs.Common.{◌≡◌, ◌≢◌, ℕ, ◌^◌, ◌<◌, ◌≤◌, true, false, ◌==◌, nat_le, List, [], ◌∷◌, length, get_or, All, IsUtf8, IsAscii, decimal, Ok, refl, ap, ◌∙◌, arith, inl, inr, eqb-true, eq-eqb, eq-zero-or-pos}
use Rattle.std.specs.List.{list_all}
use Rattle.std.specs.Str.Parse.{digits_value, AllDigits}
use Rattle.std.proofs.lemmas.Bool.{and_parts, and_from, eqb-false, cases_Bool, leb-true, le-leb}
use Rattle.std.proofs.lemmas.Fmt.{decimal_is_IsNumeral, decimal_digit, first_decimal}
use Rattle.std.proofs.lemmas.Str.{IsUtf8-from_ascii}
use Rattle.std.proofs.lemmas.Str.Parse.{digit_from_value}
use Rattle.std.proofs.lemmas.Str.Ascii.{IsAscii-nil, IsAscii-cons}
use Rattle.std.proofs.lemmas.List.Elements.{All-nil, All-cons, All-weaker}
use Rattle.base.specs.Spelling.{is_digit, is_number, number_at, is_visible, is_name}

-- visible bytes are ASCII
visible_ascii : (text : List ℕ) → list_all is_visible text ≡ true → IsAscii text
visible_ascii [] visible = IsAscii-nil
visible_ascii (byte ∷ text) visible =
    let parts = and_parts (is_visible byte) (list_all is_visible text) visible in
    let high : byte ≤ 126 = leb-true byte 126 (and_parts (nat_le 33 byte) (nat_le byte 126) parts.0).1 in
    IsAscii-cons byte text (omega arith) (visible_ascii text parts.1)

-- a name is text
pub name_utf8 : (text : List ℕ) → is_name text ≡ true → IsUtf8 text
name_utf8 text named = IsUtf8-from_ascii text (visible_ascii text (and_parts _ _ named).1)

-- what passes the test of digits has only digits
all_digits : (text : List ℕ) → list_all is_digit text ≡ true → All (λ byte. is_digit byte ≡ true) text
all_digits [] digits = All-nil (λ byte. is_digit byte ≡ true)
all_digits (byte ∷ text) digits =
    let parts = and_parts (is_digit byte) (list_all is_digit text) digits in
    All-cons (λ byte. is_digit byte ≡ true) byte text parts.0 (all_digits text parts.1)

-- each byte of a number is a digit
pub number_digits : (text : List ℕ) → is_number text ≡ true → All (λ byte. is_digit byte ≡ true) text
number_digits [] number = All-nil (λ byte. is_digit byte ≡ true)
number_digits (byte ∷ []) number =
    elim (cases_Bool (byte == 48)) [
      | inl zero_first ↦ All-cons (λ byte. is_digit byte ≡ true) byte [] (ap is_digit (eqb-true byte 48 zero_first)) (All-nil (λ byte. is_digit byte ≡ true))
      | inr other ↦ all_digits (byte ∷ []) (rw other at number)
    ]
number_digits (byte ∷ next ∷ text) number =
    elim (cases_Bool (byte == 48)) [
      | inl zero_first ↦
          let alone : (length (next ∷ text) == 0) ≡ true = rw zero_first at number in
          let none : length (next ∷ text) ≡ 0 = eqb-true (length (next ∷ text)) 0 alone in
          absurd (omega arith)
      | inr other ↦ all_digits (byte ∷ next ∷ text) (rw other at number)
    ]

-- and digits pass it
list_all-digits : (text : List ℕ) → AllDigits 10 text → list_all is_digit text ≡ true
list_all-digits [] digits = refl
list_all-digits (byte ∷ text) digits =
    let range : (48 ≤ byte) × (byte ≤ 57) = digit_from_value byte digits.0 in
    and_from (is_digit byte) (list_all is_digit text) (and_from (nat_le 48 byte) (nat_le byte 57) (le-leb 48 byte range.0) (le-leb byte 57 range.1)) (list_all-digits text digits.1)

-- digits without a leading zero, or the one digit 0, are a number
number_from_digits : (text : List ℕ) → 0 < length text → AllDigits 10 text → (get_or text 0 0 ≡ 48 → length text ≡ 1) → is_number text ≡ true
number_from_digits [] some digits lead = absurd (omega arith)
number_from_digits (byte ∷ text) some digits lead =
    elim (cases_Bool (byte == 48)) [
      | inl zero_first ↦
          let one : length (byte ∷ text) ≡ 1 = lead (eqb-true byte 48 zero_first) in
          rw zero_first (eq-eqb (length text) 0 (omega arith))
      | inr other ↦ rw other (list_all-digits (byte ∷ text) digits)
    ]

-- ---- what is written in base ten

-- is a number again
pub is_number-decimal : (n : ℕ) → n < 2 ^ 64 → is_number (decimal n) ≡ true
is_number-decimal n small =
    let numeral = (decimal_is_IsNumeral n small).0 in
    number_from_digits (decimal n) numeral.0 numeral.1 (λ lead. elim (eq-zero-or-pos n) [
      | inl none ↦ ap (λ (n : ℕ). length (decimal n)) none ∙ ap length (decimal_digit 0 (omega arith))
      | inr some ↦ absurd (omega (arith, first_decimal n some small))
    ])

-- and the same one
pub digits_value-decimal : (n : ℕ) → n < 2 ^ 64 → digits_value 10 (decimal n) ≡ n
digits_value-decimal n small = (decimal_is_IsNumeral n small).1

-- so it is read where it is within its limits
pub number_at-decimal : (least most n : ℕ) → n < 2 ^ 64 → least ≤ n → n ≤ most → number_at least most (decimal n) ≡ Ok n
number_at-decimal least most n small low high =
    rw (is_number-decimal n small, digits_value-decimal n small, le-leb least n low, le-leb n most high) refl

-- ---- digits are no blanks, line ends, pluses or slashes

-- a digit is one of the bytes from 48 to 57
pub digit_range : (byte : ℕ) → is_digit byte ≡ true → (48 ≤ byte) × (byte ≤ 57)
digit_range byte digit =
    let parts = and_parts (nat_le 48 byte) (nat_le byte 57) digit in (leb-true 48 byte parts.0, leb-true byte 57 parts.1)

-- so it is no byte below 48
digit_other : (byte other : ℕ) → other < 48 → is_digit byte ≡ true → (byte == other) ≡ false
digit_other byte other apart digit = grind arith

-- the bytes of what is written in base ten
pub decimal_digits : (n : ℕ) → n < 2 ^ 64 → All (λ byte. is_digit byte ≡ true) (decimal n)
decimal_digits n small = number_digits (decimal n) (is_number-decimal n small)

-- no byte of it is this one, as a line feed (10), a carriage return (13), a plus (43) or a slash (47)
pub decimal_none : (other n : ℕ) → n < 2 ^ 64 → other < 48 → All (λ byte. (byte == other) ≡ false) (decimal n)
decimal_none other n small apart =
    All-weaker (λ byte. is_digit byte ≡ true) (λ byte. (byte == other) ≡ false) (λ byte. digit_other byte other apart) (decimal n) (decimal_digits n small)

-- the same as an inequality
pub decimal_without : (other n : ℕ) → n < 2 ^ 64 → other < 48 → All (λ byte. byte ≢ other) (decimal n)
decimal_without other n small apart =
    All-weaker (λ byte. (byte == other) ≡ false) (λ byte. byte ≢ other) (λ byte differs. eqb-false byte other differs) (decimal n) (decimal_none other n small apart)
