-- What is printed of a number, a fraction or a name is a word, and is read back.
use Rattle.yds_model.proofs.Common.{◌≡◌, ℕ, ◌+◌, ◌<◌, ◌≤◌, ◌^◌, Bool, true, false, ◌==◌, nat_le, List, [], ◌∷◌, ◌++◌, length, take, drop, Ok, All, decimal, refl, sym, ap, ◌∙◌, arith, inl, inr, eqb-true, append_assoc, codes, list_all, list_any, position_or_len, before_first, after_first, or-true, take-append_seam, drop-append-add, and_parts, leb-true, cases_Bool, false≢true, decimal_nonempty, length-append, All-nil, All-cons, All-head, All-tail, All-weaker, All-append, Fraction, of_whole, is_digit, is_number, is_plus, is_slash, kept, fraction_at, is_visible, is_name, fraction_text, IsFraction, decimal_digits, decimal_none, digit_range, number_digits, is_number-decimal, digits_value-decimal}
use Rattle.yds_texts.proofs.Brought.{IsWord}

-- ---- words

-- a number in base ten is a word
pub decimal_word : (n : ℕ) → n < 2 ^ 64 → IsWord (decimal n)
decimal_word n small = record {
  some = decimal_nonempty n small;
  visible = All-weaker (λ byte. is_digit byte ≡ true) (λ byte. 33 ≤ byte) high (decimal n) (decimal_digits n small);
}
  where
    -- a digit is visible
    high : (byte : ℕ) → is_digit byte ≡ true → 33 ≤ byte
    high byte digit = let range = digit_range byte digit in omega (arith, range.0)

-- bytes that pass the test of it are visible
visible_bytes : (text : List ℕ) → list_all is_visible text ≡ true → All (λ byte. 33 ≤ byte) text
visible_bytes [] visible = All-nil (λ byte. 33 ≤ byte)
visible_bytes (byte ∷ text) visible =
    let parts = and_parts (is_visible byte) (list_all is_visible text) visible in
    All-cons (λ byte. 33 ≤ byte) byte text (leb-true 33 byte (and_parts (nat_le 33 byte) (nat_le byte 126) parts.0).0) (visible_bytes text parts.1)

-- a name is a word
pub name_word : (name : List ℕ) → is_name name ≡ true → IsWord name
name_word name named =
    let parts = and_parts _ _ named in
    record { some = leb-true 1 (length name) (and_parts _ _ parts.0).0; visible = visible_bytes name parts.1 }

-- ---- fractions

-- a byte in the middle that passes the test, where none before it does
position-middle : (p : ℕ → Bool) (front : List ℕ) (byte : ℕ) (rest : List ℕ) → All (λ byte. p byte ≡ false) front → p byte ≡ true →
    position_or_len p (front ++ byte ∷ rest) ≡ length front
position-middle p [] byte rest none one = rw one refl
position-middle p (first ∷ front) byte rest none one =
    rw (All-head (λ byte. p byte ≡ false) first front none, position-middle p front byte rest (All-tail (λ byte. p byte ≡ false) first front none) one) (omega arith)

-- what comes before it is that front
before-middle : (p : ℕ → Bool) (front : List ℕ) (byte : ℕ) (rest : List ℕ) → All (λ byte. p byte ≡ false) front → p byte ≡ true →
    before_first p (front ++ byte ∷ rest) ≡ front
before-middle p front byte rest none one =
    ap (λ (n : ℕ). take n (front ++ byte ∷ rest)) (position-middle p front byte rest none one) ∙ take-append_seam front (byte ∷ rest)

-- what comes after it is the rest
after-middle : (p : ℕ → Bool) (front : List ℕ) (byte : ℕ) (rest : List ℕ) → All (λ byte. p byte ≡ false) front → p byte ≡ true →
    after_first p (front ++ byte ∷ rest) ≡ rest
after-middle p front byte rest none one =
    ap (λ (n : ℕ). drop (n + 1) (front ++ byte ∷ rest)) (position-middle p front byte rest none one) ∙ drop-append-add front (byte ∷ rest) 1

-- and some byte passes the test
any-middle : (p : ℕ → Bool) (front : List ℕ) (byte : ℕ) (rest : List ℕ) → p byte ≡ true → list_any p (front ++ byte ∷ rest) ≡ true
any-middle p [] byte rest one = rw one refl
any-middle p (first ∷ front) byte rest one = rw (any-middle p front byte rest one) (or-true (p first))

-- digits with a plus after them are no number
digits_then_plus : (front rest : List ℕ) → All (λ byte. is_digit byte ≡ true) (front ++ 43 ∷ rest) → ⊥
digits_then_plus [] rest digits = false≢true (All-head (λ byte. is_digit byte ≡ true) 43 rest digits)
digits_then_plus (first ∷ front) rest digits = digits_then_plus front rest (All-tail (λ byte. is_digit byte ≡ true) first (front ++ 43 ∷ rest) digits)

-- since a plus is no digit
no_number : (front rest : List ℕ) → is_number (front ++ 43 ∷ rest) ≡ false
no_number front rest = elim (cases_Bool (is_number (front ++ 43 ∷ rest))) [
  | inl number ↦ absurd (digits_then_plus front rest (number_digits (front ++ 43 ∷ rest) number))
  | inr other ↦ other
]

-- the text of a fraction that isn't whole
mixed_text : (whole num den : ℕ) →
    decimal whole ++ codes "+" ++ decimal num ++ codes "/" ++ decimal den ≡ decimal whole ++ (43 ∷ (decimal num ++ 47 ∷ decimal den))
mixed_text whole num den = grind (arith, append_assoc, decimal)

-- a fraction within its limits is kept as it is
plain_fraction : (most : ℕ) (x : Fraction) → IsFraction most x → x.num ≡ 0 → of_whole x.whole ≡ x
plain_fraction most x fits none =
    ap {B = Fraction} (λ (num : ℕ). record { whole = x.whole; num = num; den = 1 }) (sym none)
    ∙ ap {B = Fraction} (λ (den : ℕ). record { whole = x.whole; num = x.num; den = den }) (sym (fits.whole_is_plain none))

-- so reading changes nothing of it
kept_same : (most : ℕ) (x : Fraction) → IsFraction most x → kept most x ≡ Ok x
kept_same most x fits = grind arith

-- so is what is printed of it, read back
whole_read : (most : ℕ) (x : Fraction) → most < 2 ^ 64 → IsFraction most x → x.num ≡ 0 → fraction_at most (decimal x.whole) ≡ Ok x
whole_read most x small fits none =
    let within : x.whole < 2 ^ 64 = omega (arith, fits.whole_in_range) in
    rw (is_number-decimal x.whole within, digits_value-decimal x.whole within) (ap (kept most) (plain_fraction most x fits none) ∙ kept_same most x fits)

-- a fraction with a part is read back from its text
mixed_read : (most : ℕ) (x : Fraction) → most < 2 ^ 64 → IsFraction most x →
    fraction_at most (decimal x.whole ++ (43 ∷ (decimal x.num ++ 47 ∷ decimal x.den))) ≡ Ok x
mixed_read most x small fits =
    let whole : x.whole < 2 ^ 64 = omega (arith, fits.whole_in_range) in
    let den : x.den < 2 ^ 64 = omega (arith, fits.den_in_range) in
    let num : x.num < 2 ^ 64 = omega (arith, den, fits.below_one) in
    let rest : List ℕ = decimal x.num ++ 47 ∷ decimal x.den in
    rw (
      no_number (decimal x.whole) rest,
      any-middle is_plus (decimal x.whole) 43 rest refl,
      before-middle is_plus (decimal x.whole) 43 rest (decimal_none 43 x.whole whole (omega arith)) refl,
      after-middle is_plus (decimal x.whole) 43 rest (decimal_none 43 x.whole whole (omega arith)) refl,
      any-middle is_slash (decimal x.num) 47 (decimal x.den) refl,
      before-middle is_slash (decimal x.num) 47 (decimal x.den) (decimal_none 47 x.num num (omega arith)) refl,
      after-middle is_slash (decimal x.num) 47 (decimal x.den) (decimal_none 47 x.num num (omega arith)) refl,
      is_number-decimal x.whole whole,
      is_number-decimal x.num num,
      is_number-decimal x.den den,
      digits_value-decimal x.whole whole,
      digits_value-decimal x.num num,
      digits_value-decimal x.den den,
    ) (kept_same most x fits)

-- and so is each fraction
pub fraction_read : (most : ℕ) (x : Fraction) → most < 2 ^ 64 → IsFraction most x → fraction_at most (fraction_text x) ≡ Ok x
fraction_read most x small fits = grind (arith, cases_Bool, eqb-true, mixed_read, mixed_text, whole_read)

-- what is printed of it is a word
pub fraction_word : (most : ℕ) (x : Fraction) → most < 2 ^ 64 → IsFraction most x → IsWord (fraction_text x)
fraction_word most x small fits =
    let whole : IsWord (decimal x.whole) = decimal_word x.whole (omega (arith, fits.whole_in_range)) in
    let den : IsWord (decimal x.den) = decimal_word x.den (omega (arith, fits.den_in_range)) in
    let num : IsWord (decimal x.num) = decimal_word x.num (omega (arith, fits.den_in_range, fits.below_one)) in
    elim (cases_Bool (x.num == 0)) [
      | inl none ↦ rw none whole
      | inr some ↦ rw (some, mixed_text x.whole x.num x.den) (record {
        some = omega (arith, whole.some, length-append (decimal x.whole) (43 ∷ (decimal x.num ++ 47 ∷ decimal x.den)));
        visible = All-append (λ byte. 33 ≤ byte) (decimal x.whole) (43 ∷ (decimal x.num ++ 47 ∷ decimal x.den)) whole.visible
            (All-cons (λ byte. 33 ≤ byte) 43 (decimal x.num ++ 47 ∷ decimal x.den) (omega arith)
            (All-append (λ byte. 33 ≤ byte) (decimal x.num) (47 ∷ decimal x.den) num.visible
            (All-cons (λ byte. 33 ≤ byte) 47 (decimal x.den) (omega arith) den.visible)));
      })
    ]
