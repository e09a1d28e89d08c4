-- Texts without a line feed in them, as those of comments; and the digits of a number, however great.
use Rattle.yds_model.proofs.Common.{◌≡◌, ◌≢◌, ℕ, zero, suc, ◌+◌, ◌*◌, ◌^◌, ◌/◌, ◌%◌, ◌<◌, ◌≤◌, ◌==◌, Bool, true, false, not, List, [], ◌∷◌, ◌++◌, length, drop, decimal, mod-lt, nat_tests, pow-suc, cases_lt, if◌then◌else◌, refl, sym, ap, ◌∙◌, arith, inl, inr, All, All-nil, All-cons, AllByRecursion, list_all, list_all-append, and_from, and_parts, ne_eqb, eq-eqb, true≢false, leb-true, nat_le, digits, digits_onto, digit_glyph, is_visible, is_name}
use Rattle.yds_trace_text.specs.Text.{told}

abbrev pub is_other : ℕ → ℕ → Bool
is_other other byte = not (byte == other)

-- no byte of it is a line feed
abbrev pub Plain : List ℕ → Type 0
Plain text = list_all (is_other 10) text ≡ true

pub is_other_true : (other byte : ℕ) → byte ≢ other → is_other other byte ≡ true
is_other_true other byte apart = ap not (ne_eqb byte other apart)

is_other_apart : (other byte : ℕ) → is_other other byte ≡ true → byte ≢ other
is_other_apart other byte none same =
    let e : not (byte == other) ≡ false = ap not (eq-eqb byte other same) in true≢false (sym none ∙ e)

-- what the test says of each byte
pub all_other : (other : ℕ) (text : List ℕ) → list_all (is_other other) text ≡ true → All (λ byte. byte ≢ other) text
all_other other [] none = All-nil (λ byte. byte ≢ other)
all_other other (byte ∷ text) none =
    let parts = and_parts (is_other other byte) (list_all (is_other other) text) none in
    All-cons (λ byte. byte ≢ other) byte text (is_other_apart other byte parts.0) (all_other other text parts.1)

pub plain_all : (text : List ℕ) → Plain text → All (λ byte. byte ≢ 10) text
plain_all text plain = all_other 10 text plain

pub plain_append : (front back : List ℕ) → Plain front → Plain back → Plain (front ++ back)
plain_append front back first second =
    list_all-append (is_other 10) front back ∙ and_from (list_all (is_other 10) front) (list_all (is_other 10) back) first second

pub plain_told : (texts : List (List ℕ)) → AllByRecursion Plain texts → Plain (told texts)
plain_told [] all = refl
plain_told (text ∷ texts) all = plain_append text (told texts) all.0 (plain_told texts all.1)

pub plain_if : (b : Bool) (x y : List ℕ) → Plain x → Plain y → Plain (if b then x else y)
plain_if true x y first second = first
plain_if false x y first second = second

pub plain_drop : (text : List ℕ) → Plain text → Plain (drop 1 text)
plain_drop [] plain = refl
plain_drop (byte ∷ text) plain = (and_parts (is_other 10 byte) (list_all (is_other 10) text) plain).1

-- # Digits

-- each byte is a digit
abbrev pub Digits : List ℕ → Type 0
Digits text = AllByRecursion (λ byte. (48 ≤ byte) × (byte ≤ 57)) text

below_ten : (d : ℕ) → d < 10 → (48 ≤ digit_glyph false d) × (digit_glyph false d ≤ 57)
below_ten d small = grind (arith, nat_tests)

last_digit : (n : ℕ) → (48 ≤ digit_glyph false (n % 10)) × (digit_glyph false (n % 10) ≤ 57)
last_digit n = below_ten (n % 10) (mod-lt n (omega arith))

digits_if : (b : Bool) (x y : List ℕ) → Digits x → Digits y → Digits (if b then x else y)
digits_if true x y first second = first
digits_if false x y first second = second

digits_are : (k n : ℕ) (more : List ℕ) → Digits more → Digits (digits_onto k 10 false n more)
digits_are zero n more all = all
digits_are (suc k) n more all =
    digits_if (n / 10 == 0) (digit_glyph false (n % 10) ∷ more) (digits_onto k 10 false (n / 10) (digit_glyph false (n % 10) ∷ more)) (last_digit n, all)
    (digits_are k (n / 10) (digit_glyph false (n % 10) ∷ more) (last_digit n, all))

pub decimal_digits : (n : ℕ) → Digits (decimal n)
unfolding digits
decimal_digits n = digits_are 64 n [] tt

digits_plain : (text : List ℕ) → Digits text → Plain text
digits_plain [] all = refl
digits_plain (byte ∷ text) all =
    and_from (is_other 10 byte) (list_all (is_other 10) text) (is_other_true 10 byte (λ same. omega (arith, same, all.0.0))) (digits_plain text all.1)

pub plain_decimal : (n : ℕ) → Plain (decimal n)
plain_decimal n = digits_plain (decimal n) (decimal_digits n)

-- A number of many digits is told in as many as there is room for.
more_digits : (b : Bool) (k n : ℕ) (x y : List ℕ) → b ≡ false → length y ≡ n → length (if b then x else y) ≡ n
more_digits true k n x y some long = cc
more_digits false k n x y some long = long

some_left : (n power : ℕ) → 1 ≤ power → 10 * power ≤ n → (power ≤ n / 10) × ((n / 10 == 0) ≡ false)
some_left n power positive great = (omega (arith, great), ne_eqb (n / 10) 0 (λ none. omega (arith, great, positive, none)))

power_positive : (k : ℕ) → 1 ≤ 10 ^ k
power_positive zero = omega arith
power_positive (suc k) = omega (arith, pow-suc 10 k, power_positive k)

many_digits : (k n : ℕ) (more : List ℕ) → 10 ^ k ≤ n → length (digits_onto k 10 false n more) ≡ k + length more
many_digits zero n more great = omega arith
many_digits (suc k) n more great =
    let left = some_left n (10 ^ k) (power_positive k) (omega (arith, pow-suc 10 k, great)) in
    more_digits (n / 10 == 0) k (suc k + length more) (digit_glyph false (n % 10) ∷ more) (digits_onto k 10 false (n / 10) (digit_glyph false (n % 10) ∷ more)) left.1
    (omega (arith, many_digits k (n / 10) (digit_glyph false (n % 10) ∷ more) left.0))

-- So one that is told in fewer digits is told whole.
pub few_digits : (n : ℕ) → length (decimal n) < 64 → n < 10 ^ 64
unfolding digits
few_digits n few = elim (cases_lt n (10 ^ 64)) [
  | inl small ↦ small
  | inr great ↦ absurd (omega (arith, few, many_digits 64 n [] great))
]

-- # Names

visible_plain : (text : List ℕ) → list_all is_visible text ≡ true → Plain text
visible_plain [] visible = refl
visible_plain (byte ∷ text) visible =
    let parts = and_parts (is_visible byte) (list_all is_visible text) visible in
    let high : 33 ≤ byte = leb-true 33 byte (and_parts (nat_le 33 byte) (nat_le byte 126) parts.0).0 in
    and_from (is_other 10 byte) (list_all (is_other 10) text) (is_other_true 10 byte (λ same. omega (arith, same, high))) (visible_plain text parts.1)

pub name_plain : (text : List ℕ) → is_name text ≡ true → Plain text
name_plain text named = visible_plain text (and_parts _ _ named).1
