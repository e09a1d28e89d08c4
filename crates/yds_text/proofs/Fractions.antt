-- What a text spells as a fraction, by the digits at its front and what follows them.
use Rattle.yds_model.proofs.Common.{◌≡◌, ℕ, ◌+◌, ◌-◌, ◌<◌, ◌≤◌, ◌&&◌, Bool, true, false, cond, List, length, get_or, take, drop, nat_le, nat_lt, Result, Ok, Err, refl, arith, ne_eqb, list_any, prefix_len, digits_value, cases_Bool, and_parts, le-leb, leb-true, leb-false, ltb-true, false≢true, take_all, length-drop, list_any_at, list_any_none, prefix_len_passes, Fraction, of_whole, is_digit, is_number, is_plus, is_slash, number_at, fraction_at, kept, digit_range}
use Rattle.base.specs.declared.limits.TheConstants.{MAX_DENOMINATOR}
use Rattle.base.specs.declared.number_fault.NumberFault.{NumberFault}
use Rattle.base.specs.declared.number_fault.NumberFault.TheVariants.{BadNumber, OutOfRange}
use Rattle.yds_text.specs.FractionParts.{fraction_after, fraction_of_parts, is_bad}
use Rattle.yds_text.proofs.Digits.{Told, is_told, number_ends, first_separator, no_number_before}

-- what stands from a place on is all of the rest
pub whole_rest : (text : List ℕ) (place : ℕ) → take (length text - place) (drop place text) ≡ drop place text
whole_rest text place = take_all (length text - place) (drop place text) (omega (arith, length-drop place text))

-- neither separator is a digit
pub plus_apart : (byte : ℕ) → is_digit byte ≡ true → is_plus byte ≡ false
plus_apart byte digit = let range : (48 ≤ byte) × (byte ≤ 57) = digit_range byte digit in ne_eqb byte 43 (λ same. omega arith)

pub slash_apart : (byte : ℕ) → is_digit byte ≡ true → is_slash byte ≡ false
slash_apart byte digit = let range : (48 ≤ byte) × (byte ≤ 57) = digit_range byte digit in ne_eqb byte 47 (λ same. omega arith)

-- # A whole number

pub whole_fraction : (most : ℕ) (text : List ℕ) (value : ℕ) → number_at 0 most text ≡ Ok value → fraction_at most text ≡ Ok (of_whole value)
whole_fraction most text value is = grind (arith, is_told, le-leb, nat_le)

-- a text of digits alone has no plus
no_plus : (text : List ℕ) (len : ℕ) → len ≡ prefix_len is_digit text → length text ≤ len → list_any is_plus text ≡ false
no_plus text len is all = list_any_none is_plus text (λ k d below. plus_apart (get_or text k d) (prefix_len_passes is_digit text k d (omega arith)))

out_of_range : (fault : NumberFault) → ◌≡◌ {A = Result ℕ NumberFault} (Err OutOfRange) (Err fault) → OutOfRange ≡ fault
out_of_range fault is = cc

bad_number : (fault : NumberFault) → ◌≡◌ {A = Result ℕ NumberFault} (Err BadNumber) (Err fault) → BadNumber ≡ fault
bad_number fault is = cc

pub whole_fault : (most : ℕ) (text : List ℕ) (len : ℕ) (fault : NumberFault) → len ≡ prefix_len is_digit text → length text ≤ len →
    number_at 0 most text ≡ Err fault → fraction_at most text ≡ Err fault
whole_fault most text len fault is all faulty = grind (arith, bad_number, cases_Bool, le-leb, nat_le, no_plus, out_of_range)

-- # A whole part and `NUM/DEN`

joined : (whole some num den : Bool) (fraction fault : Result Fraction NumberFault) →
    cond (whole && some && num && den) fraction fault ≡ cond some (cond (whole && num && den) fraction fault) fault
joined true true num den fraction fault = refl
joined true false num den fraction fault = refl
joined false true num den fraction fault = refl
joined false false num den fraction fault = refl

pub plus_fraction : (most : ℕ) (text : List ℕ) (len : ℕ) → len < length text → len ≡ prefix_len is_digit text → get_or text len 0 ≡ 43 →
    fraction_at most text ≡ fraction_after most (take len text) (drop (len + 1) text)
plus_fraction most text len within is plus = grind (arith, first_separator, list_any_at, number_ends, plus_apart)

without : (some whole a b c : Bool) → (some ≡ true → whole ≡ false) → (some && whole && a && b && c) ≡ false
without true whole a b c none = rw (none refl) refl
without false whole a b c none = refl

-- another byte after the digits
pub other_fraction : (most : ℕ) (text : List ℕ) (len : ℕ) → len < length text → len ≡ prefix_len is_digit text → is_plus (get_or text len 0) ≡ false →
    fraction_at most text ≡ Err BadNumber
other_fraction most text len within is not_plus = grind (arith, no_number_before, number_ends, plus_apart)

-- # The numerator and the denominator

pub slash_fraction : (most : ℕ) (whole text : List ℕ) (len : ℕ) → len < length text → len ≡ prefix_len is_digit text → get_or text len 0 ≡ 47 →
    fraction_after most whole text ≡ fraction_of_parts most whole (take len text) (drop (len + 1) text)
slash_fraction most whole text len within is slash = grind (arith, first_separator, list_any_at, slash_apart)

no_parts : (some whole num den : Bool) (fraction : Result Fraction NumberFault) → (some ≡ true → num ≡ false) →
    cond some (cond (whole && num && den) fraction (Err BadNumber)) (Err BadNumber) ≡ Err BadNumber
no_parts true true num den fraction none = rw (none refl) refl
no_parts true false num den fraction none = refl
no_parts false whole num den fraction none = refl

pub unslashed_fraction : (most : ℕ) (whole text : List ℕ) (len : ℕ) → len < length text → len ≡ prefix_len is_digit text → is_slash (get_or text len 0) ≡ false →
    fraction_after most whole text ≡ Err BadNumber
unslashed_fraction most whole text len within is not_slash = grind (arith, no_number_before, slash_apart)

-- digits alone have no slash
pub ended_fraction : (most : ℕ) (whole text : List ℕ) (len : ℕ) → len ≡ prefix_len is_digit text → length text ≤ len → fraction_after most whole text ≡ Err BadNumber
ended_fraction most whole text len is all = grind (arith, list_any_none, prefix_len_passes, slash_apart)

-- # Three numbers

bad_spelling : (most : ℕ) (text : List ℕ) → is_bad (number_at 0 most text) ≡ true → is_number text ≡ false
bad_spelling most text bad = grind (arith, cases_Bool, false≢true, le-leb, nat_le)

pub good_spelling : (most : ℕ) (text : List ℕ) → is_bad (number_at 0 most text) ≡ false → is_number text ≡ true
good_spelling most text good = grind (arith, cases_Bool, false≢true)

-- a number of a right spelling that isn't told is too large
pub too_large : (most : ℕ) (text : List ℕ) (fault : NumberFault) → number_at 0 most text ≡ Err fault → is_number text ≡ true → (fault ≡ OutOfRange) × (most < digits_value 10 text)
too_large most text fault is number = grind (arith, cases_Bool, le-leb, leb-false, nat_le, out_of_range)

unkept : (most : ℕ) (x : Fraction) → (x.whole ≤ most → x.den ≤ MAX_DENOMINATOR → x.num < x.den → ⊥) → kept most x ≡ Err OutOfRange
unkept most x wrong = grind (arith, and_parts, cases_Bool, leb-true, ltb-true, nat_le, nat_lt)

-- three numbers of right spelling, one of them outside its limits
pub parts_out : (most : ℕ) (front above below : List ℕ) → is_number front ≡ true → is_number above ≡ true → is_number below ≡ true →
    (digits_value 10 front ≤ most → digits_value 10 below ≤ MAX_DENOMINATOR → digits_value 10 above < digits_value 10 below → ⊥) →
    fraction_of_parts most front above below ≡ Err OutOfRange
parts_out most front above below whole num den wrong =
    rw (whole, num, den) (unkept most (record { whole = digits_value 10 front; num = digits_value 10 above; den = digits_value 10 below }) wrong)

-- and with all of them told
pub parts_told : (most : ℕ) (front above below : List ℕ) (whole num den : ℕ) (result : Result Fraction NumberFault) →
    Told most front whole → Told MAX_DENOMINATOR above num → Told MAX_DENOMINATOR below den →
    result ≡ kept most (record { whole = whole; num = num; den = den }) → result ≡ fraction_of_parts most front above below
parts_told most front above below whole num den result first second third is =
    rw (first.number, second.number, third.number, first.says, second.says, third.says) is

second_wrong : {X : Type 0} (first third : Bool) (x y : X) → cond (first && false && third) x y ≡ y
second_wrong true third x y = refl
second_wrong false third x y = refl

third_wrong : {X : Type 0} (first second : Bool) (x y : X) → cond (first && second && false) x y ≡ y
third_wrong true true x y = refl
third_wrong true false x y = refl
third_wrong false second x y = refl

-- a wrong spelling of any of them
pub whole_bad : (most : ℕ) (front above below : List ℕ) → is_bad (number_at 0 most front) ≡ true → fraction_of_parts most front above below ≡ Err BadNumber
whole_bad most front above below bad = rw (bad_spelling most front bad) refl

pub num_bad : (most : ℕ) (front above below : List ℕ) → is_bad (number_at 0 MAX_DENOMINATOR above) ≡ true → fraction_of_parts most front above below ≡ Err BadNumber
num_bad most front above below bad = rw (bad_spelling MAX_DENOMINATOR above bad) (second_wrong (is_number front) (is_number below) _ _)

pub den_bad : (most : ℕ) (front above below : List ℕ) → is_bad (number_at 0 MAX_DENOMINATOR below) ≡ true → fraction_of_parts most front above below ≡ Err BadNumber
den_bad most front above below bad = rw (bad_spelling MAX_DENOMINATOR below bad) (third_wrong (is_number front) (is_number above) _ _)
