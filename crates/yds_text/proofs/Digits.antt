-- The digits at the front of a text, the byte after them, and the separators of a fraction.
use Rattle.yds_model.proofs.Common.{◌≡◌, ℕ, ◌<◌, ◌≤◌, ◌⊎◌, Bool, true, false, List, length, get_or, take, drop, All, nat_le, Ok, sym, ap, ◌∙◌, subst, inl, inr, arith, list_all, list_any, prefix_len, position_or_len, before_first, digits_value, cases_Bool, cases_order, false≢true, le-leb, leb-true, get_or-take, length-take, length-take-le, take_all, take-append-drop, take-append-le, prefix_len_passes, prefix_len_stops, prefix_len_is, position_or_len_is, passes_at_first, list_all-from_AllPass, is_digit, is_number, number_at, number_digits}

-- a text with a byte that is no digit is no number
pub not_number : (text : List ℕ) (i : ℕ) → i < length text → is_digit (get_or text i 0) ≡ false → is_number text ≡ false
not_number text i within other = grind (arith, cases_Bool, false≢true, number_digits)

-- nor is one that goes on after its digits
pub number_ends : (text : List ℕ) (len : ℕ) → len ≡ prefix_len is_digit text → len < length text → is_number text ≡ false
number_ends text len is within =
    not_number text (prefix_len is_digit text) (omega arith) (prefix_len_stops is_digit text 0 (omega arith))

-- each byte at the front passes
pub front_passes : (passes : ℕ → Bool) (text : List ℕ) (len : ℕ) → len ≤ length text → len ≡ prefix_len passes text → All (λ byte. passes byte ≡ true) (take len text)
front_passes passes text len within is = grind (arith, get_or-take, length-take-le, prefix_len_passes)

pub front_all : (passes : ℕ → Bool) (text : List ℕ) (len : ℕ) → len ≤ length text → len ≡ prefix_len passes text → list_all passes (take len text) ≡ true
front_all passes text len within is = list_all-from_AllPass passes (take len text) (front_passes passes text len within is)

-- the first bytes of a part are those of all
pub front_of_part : (text : List ℕ) (len part : ℕ) → len ≤ part → part ≤ length text → take len (take part text) ≡ take len text
front_of_part text len part fewer within =
    sym (take-append-le len (take part text) (drop part text) (omega (arith, length-take-le part text within))) ∙ ap (take len) (take-append-drop part text)

-- digits at the front of a part are digits at the front of all
pub front_digits : (text : List ℕ) (part len : ℕ) → part ≤ length text → len ≤ length (take part text) → len ≡ prefix_len is_digit (take part text) → list_all is_digit (take len text) ≡ true
front_digits text part len within fewer is =
    ap (list_all is_digit) (sym (front_of_part text len part (omega (arith, length-take-le part text within)) within)) ∙ front_all is_digit (take part text) len fewer is

-- digits at the front of a part are those at the front of all, unless the part ends with them before the other does
pub digits_of_part : (text : List ℕ) (part len : ℕ) → part ≤ length text → len ≡ prefix_len is_digit (take part text) → (len < part) ⊎ (part ≡ length text) → len ≡ prefix_len is_digit text
digits_of_part text part len within is (inr all) = is ∙ ap (prefix_len is_digit) (take_all part text (omega arith))
digits_of_part text part len within is (inl less) =
    sym (prefix_len_is is_digit text len 0 (omega arith)
    (λ k below. ap is_digit (sym (get_or-take part text k 0 (omega arith))) ∙ prefix_len_passes is_digit (take part text) k 0 (omega arith))
    (λ here. ap is_digit (sym (get_or-take part text len 0 less)) ∙ subst (λ place. is_digit (get_or (take part text) place 0) ≡ false) (sym is) (prefix_len_stops is_digit (take part text) 0 (omega (arith, length-take-le part text within)))))

-- # What a number says

pub record Told (most : ℕ) (text : List ℕ) (value : ℕ) : Type 0 where
  pub number : is_number text ≡ true
  pub says : digits_value 10 text ≡ value
  pub within : value ≤ most

-- a number that is told is what the text writes, within its limit
pub is_told : (most : ℕ) (text : List ℕ) (value : ℕ) → number_at 0 most text ≡ Ok value → Told most text value
is_told most text value is = grind (arith, le-leb, leb-true, nat_le)

-- # A separator after the digits

-- it is the first one
pub first_separator : (separates : ℕ → Bool) → ((byte : ℕ) → is_digit byte ≡ true → separates byte ≡ false) → (text : List ℕ) (len : ℕ) → len ≤ length text →
    len ≡ prefix_len is_digit text → (len < length text → separates (get_or text len 0) ≡ true) → position_or_len separates text ≡ len
first_separator separates apart text len within is here =
    position_or_len_is separates text len 0 within (λ k below. apart (get_or text k 0) (prefix_len_passes is_digit text k 0 (omega arith))) here

-- after another byte, what stands before the first is no number
pub no_number_before : (separates : ℕ → Bool) → ((byte : ℕ) → is_digit byte ≡ true → separates byte ≡ false) → (text : List ℕ) (len : ℕ) → len < length text →
    len ≡ prefix_len is_digit text → separates (get_or text len 0) ≡ false → list_any separates text ≡ true → is_number (before_first separates text) ≡ false
no_number_before separates apart text len within is other some =
    elim (cases_order (position_or_len separates text) len) [
      | inl same ↦ absurd (false≢true (sym other ∙ subst (λ place. separates (get_or text place 0) ≡ true) same (passes_at_first separates text 0 (omega arith))))
      | inr apart_places ↦ elim apart_places [
        | inl before ↦
            absurd (false≢true (sym (apart (get_or text (position_or_len separates text) 0) (prefix_len_passes is_digit text (position_or_len separates text) 0 (omega arith)))
            ∙ passes_at_first separates text 0 (omega arith)))
        | inr after ↦
            let stops : is_digit (get_or text len 0) ≡ false = subst (λ place. is_digit (get_or text place 0) ≡ false) (sym is) (prefix_len_stops is_digit text 0 (omega arith)) in
            not_number (take (position_or_len separates text) text) len (omega (arith, length-take (position_or_len separates text) text))
            (ap is_digit (get_or-take (position_or_len separates text) text len 0 after) ∙ stops)
      ]
    ]
