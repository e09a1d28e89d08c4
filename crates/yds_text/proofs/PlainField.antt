-- The first field of a plain spelling: one space, the field, and a blank or the end after it.
use Rattle.yds_model.proofs.Common.{◌≡◌, ℕ, ◌+◌, ◌-◌, ◌<◌, ◌≤◌, true, false, List, [], ◌∷◌, ◌++◌, length, get_or, take, drop, All, Ok, refl, sym, ap, ap₂, ◌∙◌, subst, arith, ne_eqb, length-append, append_assoc, prefix_len, take-append_seam, drop-append-add, false≢true, cases_Bool, le-leb, leb-true, lt-ltb, eqb-true, and_parts, and_from, take-append-drop, length-take-le, common_steps, All-head, All-tail, All-cons, All-append, All-weaker, is_blank, fields_from, Fraction, is_digit, is_number, is_visible, is_name, number_at, fraction_at, kept, EndsField, fields_from-run, number_digits, digit_range}
use Rattle.yds_fraction.specs.Mixed.{fraction_of}
use Rattle.base.specs.declared.limits.TheConstants.{MAX_DENOMINATOR, MAX_NAME}
use Rattle.yds_text.specs.FractionParts.{fraction_after, fraction_of_parts}
use Rattle.yds_text.specs.Plain.{BeginsNumber, BeginsPlainly, ReadsText, ends_field}
use Rattle.yds_text.proofs.Digits.{Told, is_told, front_passes, front_all}
use Rattle.yds_text.proofs.Fractions.{whole_fraction, plus_fraction, slash_fraction, parts_told}

ends : (rest : List ℕ) → ends_field rest ≡ true → EndsField rest
ends [] is = tt
ends (byte ∷ rest) is = is

-- a field without blanks, and what ends it
pub plain_field : (Says : List ℕ → Type 0) (text rest : List ℕ) → 0 < length text → All (λ byte. is_blank byte ≡ false) text → ends_field rest ≡ true → Says text →
    BeginsPlainly Says (32 ∷ text ++ rest) rest
plain_field Says [] rest some full ended says = absurd (omega (arith, some))
plain_field Says (byte ∷ text) rest some full ended says = record {
  text = byte ∷ text;
  says = says;
  first = λ column. fields_from-run (column + 1) byte text rest full (ends rest ended);
  lengths = omega (arith, length-append (byte ∷ text) rest);
}

visible_full : (byte : ℕ) → is_visible byte ≡ true → is_blank byte ≡ false
visible_full byte visible = grind (arith, and_parts, leb-true, ne_eqb)

-- the visible bytes at the front, few enough, are a name
pub front_name : (after : List ℕ) (len : ℕ) → len ≤ length after → len ≡ prefix_len is_visible after → 0 < len → len ≤ MAX_NAME → is_name (take len after) ≡ true
front_name after len within is some short = grind (arith, and_from, front_all, le-leb, length-take-le)

-- and a field
pub plain_name : (bytes after : List ℕ) (len : ℕ) → bytes ≡ 32 ∷ after → len ≤ length after → len ≡ prefix_len is_visible after → 0 < len → ends_field (drop len after) ≡ true →
    (name : List ℕ) → take len after ≡ name → BeginsPlainly (λ text. text ≡ name) bytes (drop len after)
plain_name bytes after len begins within is some ended name same =
    subst (λ bytes. BeginsPlainly (λ text. text ≡ name) bytes (drop len after)) (sym (begins ∙ ap (λ l. 32 ∷ l) (sym (take-append-drop len after))))
    (plain_field (λ text. text ≡ name) (take len after) (drop len after) (omega (arith, length-take-le len after within))
    (All-weaker (λ byte. is_visible byte ≡ true) (λ byte. is_blank byte ≡ false) visible_full (take len after) (front_passes is_visible after len within is)) ended same)

digit_full : (byte : ℕ) → is_digit byte ≡ true → is_blank byte ≡ false
digit_full byte digit = grind (arith, digit_range, ne_eqb)

some_bytes : (text : List ℕ) → is_number text ≡ true → 0 < length text
some_bytes [] number = absurd (false≢true number)
some_bytes (byte ∷ text) number = omega arith

pub number_full : (text : List ℕ) → is_number text ≡ true → All (λ byte. is_blank byte ≡ false) text
number_full text number = All-weaker (λ byte. is_digit byte ≡ true) (λ byte. is_blank byte ≡ false) digit_full text (number_digits text number)

digits_of : (most value : ℕ) (bytes rest : List ℕ) (begins : BeginsNumber most value bytes rest) → Told most begins.digits value
digits_of most value bytes rest begins = is_told most begins.digits value begins.says

-- a number as a field
pub plain_number : (most value : ℕ) (bytes text rest : List ℕ) → bytes ≡ 32 ∷ text → BeginsNumber most value text rest → ends_field rest ≡ true →
    BeginsPlainly (λ text. number_at 0 most text ≡ Ok value) bytes rest
plain_number most value bytes text rest is begins ended =
    let told = digits_of most value text rest begins in
    subst (λ bytes. BeginsPlainly (λ text. number_at 0 most text ≡ Ok value) bytes rest) (sym (is ∙ ap (λ text. 32 ∷ text) begins.first))
    (plain_field (λ text. number_at 0 most text ≡ Ok value) begins.digits rest (some_bytes begins.digits told.number) (number_full begins.digits told.number) ended begins.says)

-- a whole number as a fraction
pub plain_whole : (most value : ℕ) (bytes text rest : List ℕ) → bytes ≡ 32 ∷ text → BeginsNumber most value text rest → ends_field rest ≡ true →
    BeginsPlainly (λ text. fraction_at most text ≡ Ok (fraction_of value 0 1)) bytes rest
plain_whole most value bytes text rest is begins ended =
    let plain = plain_number most value bytes text rest is begins ended in
    record { text = plain.text; says = whole_fraction most plain.text value plain.says; first = plain.first; lengths = plain.lengths }

-- the digits end before another byte
digits_end : (digits : List ℕ) (byte : ℕ) (rest : List ℕ) → All (λ byte. is_digit byte ≡ true) digits → is_digit byte ≡ false → prefix_len is_digit (digits ++ byte ∷ rest) ≡ length digits
digits_end [] byte rest digits other = rw other refl
digits_end (digit ∷ digits) byte rest all other =
    rw (All-head (λ byte. is_digit byte ≡ true) digit digits all, digits_end digits byte rest (All-tail (λ byte. is_digit byte ≡ true) digit digits all) other) (omega arith)

seam : (front : List ℕ) (byte : ℕ) (rest : List ℕ) → get_or (front ++ byte ∷ rest) (length front) 0 ≡ byte
seam [] byte rest = refl
seam (first ∷ front) byte rest = grind (arith, common_steps, seam front byte rest)

after_seam : (front : List ℕ) (byte : ℕ) (rest : List ℕ) → drop (length front + 1) (front ++ byte ∷ rest) ≡ rest
after_seam front byte rest = drop-append-add front (byte ∷ rest) 1

-- the fraction of three numbers with a plus and a slash between them
mixed_of_parts : (most whole num den : ℕ) (front above below : List ℕ) (value : Fraction) → Told most front whole → Told MAX_DENOMINATOR above num → Told MAX_DENOMINATOR below den →
    Ok value ≡ kept most (record { whole = whole; num = num; den = den }) → fraction_at most (front ++ 43 ∷ (above ++ 47 ∷ below)) ≡ Ok value
mixed_of_parts most whole num den front above below value one two three is =
    let after : List ℕ = above ++ 47 ∷ below in
    let text : List ℕ = front ++ 43 ∷ after in
    plus_fraction most text (length front) (omega (arith, length-append front (43 ∷ after))) (sym (digits_end front 43 after (number_digits front one.number) refl)) (seam front 43 after)
    ∙ ap₂ (fraction_after most) (take-append_seam front (43 ∷ after)) (after_seam front 43 after)
    ∙ slash_fraction most front after (length above) (omega (arith, length-append above (47 ∷ below))) (sym (digits_end above 47 below (number_digits above two.number) refl)) (seam above 47 below)
    ∙ ap₂ (fraction_of_parts most front) (take-append_seam above (47 ∷ below)) (after_seam above 47 below)
    ∙ sym (parts_told most front above below whole num den (Ok value) one two three is)

-- it is kept as it is, but a whole number in one part
kept_parts : (most whole num den : ℕ) → whole ≤ most → num < den → den ≤ MAX_DENOMINATOR → Ok (fraction_of whole num den) ≡ kept most (record { whole = whole; num = num; den = den })
kept_parts most whole num den small below within = grind (arith, cases_Bool, eqb-true, le-leb, lt-ltb)

-- a fraction with a numerator as a field
pub plain_mixed : (most whole num den : ℕ) (bytes text rest1 text1 rest2 text2 rest : List ℕ) → bytes ≡ 32 ∷ text → BeginsNumber most whole text rest1 →
    rest1 ≡ 43 ∷ text1 → BeginsNumber MAX_DENOMINATOR num text1 rest2 → rest2 ≡ 47 ∷ text2 → BeginsNumber MAX_DENOMINATOR den text2 rest → num < den → ends_field rest ≡ true →
    BeginsPlainly (λ text. fraction_at most text ≡ Ok (fraction_of whole num den)) bytes rest
plain_mixed most whole num den bytes text rest1 text1 rest2 text2 rest is one plus two slash three below ended =
    let first = digits_of most whole text rest1 one in
    let second = digits_of MAX_DENOMINATOR num text1 rest2 two in
    let third = digits_of MAX_DENOMINATOR den text2 rest three in
    let after : List ℕ = two.digits ++ 47 ∷ three.digits in
    let all : List ℕ = one.digits ++ 43 ∷ after in
    let Full : ℕ → Type 0 = λ byte. is_blank byte ≡ false in
    let joined : text ≡ all ++ rest =
    one.first ∙ ap (λ part. one.digits ++ part) (plus ∙ ap (λ part. 43 ∷ part) (two.first ∙ ap (λ part. two.digits ++ part) (slash ∙ ap (λ part. 47 ∷ part) three.first) ∙ sym (append_assoc two.digits (47 ∷ three.digits) rest)))
    ∙ sym (append_assoc one.digits (43 ∷ after) rest) in
    subst (λ bytes. BeginsPlainly (λ text. fraction_at most text ≡ Ok (fraction_of whole num den)) bytes rest) (sym (is ∙ ap (λ text. 32 ∷ text) joined))
    (plain_field (λ text. fraction_at most text ≡ Ok (fraction_of whole num den)) all rest (omega (arith, length-append one.digits (43 ∷ after)))
    (All-append Full one.digits (43 ∷ after) (number_full one.digits first.number)
    (All-cons Full 43 after refl (All-append Full two.digits (47 ∷ three.digits) (number_full two.digits second.number) (All-cons Full 47 three.digits refl (number_full three.digits third.number)))))
    ended (mixed_of_parts most whole num den one.digits two.digits three.digits (fraction_of whole num den) first second third (kept_parts most whole num den first.within below third.within)))

-- # Fields that go on behind it

pub reads_text : (Says : List ℕ → Type 0) (column : ℕ) (bytes rest : List ℕ) → BeginsPlainly Says bytes rest →
    ReadsText Says (fields_from column bytes) (fields_from (column + (length bytes - length rest)) rest)
reads_text Says column bytes rest begins = grind arith
