-- What the answer of `compare` is worth, tried on its worked row, and on a text that tells Average Rate less energy than the plan.
use Rattle.yds_model.proofs.Common.{◌≡◌, ◌≢◌, ℕ, zero, suc, ◌+◌, ◌*◌, ◌/◌, ◌%◌, ◌≤◌, ◌==◌, Bool, true, false, List, [], ◌∷◌, ◌++◌, length, get_or, drop, decimal, refl, sym, ap, subst, ◌∙◌, arith, of_whole, append_assoc, inl, inr, Ok, eqb-true, codes, if◌then◌else◌, digits, digits_onto, digit_glyph, All, zip, flat_map, cases_lt, ne_eqb, decimal_digit, get_or_append_left, All-nil, All-cons, mul-pos, Fraction, numerator, Point, spent_lines, side_lines, rounded_line, line, fraction_text, Document, no_document, reading, Spent, Side, Spends, TooSlowFor}
use Rattle.yds_texts.specs.CompareText.{AreTold, CostsNoLess, IsToldSide, HoldsComparison}
use Rattle.yds_texts.proofs.CompareText.{comparison_holds}
use Rattle.yds_examples.proofs.ComparisonExamples.{answer}

-- The worked row holds its comparison.
held : HoldsComparison 6 (codes "job a 0 3 2\njob b 1 2 1\npoint 0 0\npoint 1 1\npoint 2 3\n")
    (codes "plan energy 3\nplan time 0 0\nplan time 1 3\nplan time 2 0\navr energy 3+2/3\navr time 0 0+2/3\navr time 1 1+2/3\navr time 2 0+2/3\navr rounded 0\noa energy 3+1/3\noa time 0 0+1/3\noa time 1 2+1/3\noa time 2 0+1/3\noa rounded 0\n")
held = comparison_holds 6 _ _ answer

-- An energy without a time for each point isn't all that is told of a schedule.
no_times : AreTold (record { speed = 0; power = 0 } ∷ record { speed = 1; power = 1 } ∷ []) (record { energy = of_whole 3; times = [] }) → ⊥
no_times told = absurd (omega (arith, told.a_time_each))

-- # A number of one digit

-- what both lists have the chosen one has
chosen : (P : List ℕ → Type 0) (b : Bool) (one other : List ℕ) → P one → P other → P (if b then one else other)
chosen P true one other first second = first
chosen P false one other first second = second

-- what a digit before others keeps a number before others keeps
number_keeps : (P : List ℕ → Type 0) → ((n : ℕ) (others : List ℕ) → P others → P (digit_glyph false (n % 10) ∷ others)) → (k n : ℕ) (others : List ℕ) → P others →
    P (digits_onto k 10 false n others)
number_keeps P more zero n others known = known
number_keeps P more (suc k) n others known =
    chosen P (n / 10 == 0) _ _ (more n others known) (number_keeps P more k (n / 10) (digit_glyph false (n % 10) ∷ others) (more n others known))

-- a number from 10 on has more than one digit
two_digits : (n : ℕ) → 10 ≤ n → 2 ≤ length (decimal n)
unfolding digits
two_digits n great =
    let some : (n / 10 == 0) ≡ false = ne_eqb (n / 10) 0 (λ none. omega (arith, great, none)) in
    subst (λ (b : Bool). 2 ≤ length (if b then digit_glyph false (n % 10) ∷ [] else digits_onto 63 10 false (n / 10) (digit_glyph false (n % 10) ∷ []))) (sym some)
    (chosen (λ text. 2 ≤ length text) (n / 10 / 10 == 0) (digit_glyph false (n / 10 % 10) ∷ digit_glyph false (n % 10) ∷ [])
    (digits_onto 62 10 false (n / 10 / 10) (digit_glyph false (n / 10 % 10) ∷ digit_glyph false (n % 10) ∷ [])) (omega arith)
    (number_keeps (λ text. 2 ≤ length text) (λ n others known. omega (arith, known)) 62 (n / 10 / 10) (digit_glyph false (n / 10 % 10) ∷ digit_glyph false (n % 10) ∷ []) (omega arith)))

digit_large : (n : ℕ) → 48 ≤ digit_glyph false (n % 10)
digit_large n = grind arith

digits_large : (n : ℕ) → All (λ byte. 48 ≤ byte) (decimal n)
unfolding digits
digits_large n =
    number_keeps (All (λ byte. 48 ≤ byte)) (λ n others known. All-cons (λ byte. 48 ≤ byte) (digit_glyph false (n % 10)) others (digit_large n) known) 64 n []
    (All-nil (λ byte. 48 ≤ byte))

-- so where a digit and a line feed begin a number and what comes after it, that digit is the number
first_digit : (n digit byte : ℕ) (rest later : List ℕ) → (48 + digit) ∷ 10 ∷ later ≡ decimal n ++ (byte ∷ rest) → (n ≡ digit) × (byte ≡ 10)
first_digit n digit byte rest later same = elim (cases_lt n 10) [
  | inl small ↦
      let told = same ∙ ap (λ text. text ++ (byte ∷ rest)) (decimal_digit n small) in
      (omega (arith, ap (λ text. get_or text 0 0) told), omega (arith, ap (λ text. get_or text 1 0) told))
  | inr great ↦
      absurd (omega (
        arith,
        digits_large n 1 0 (two_digits n great),
        ap (λ text. get_or text 1 0) same,
        get_or_append_left (decimal n) (byte ∷ rest) 0 1 (two_digits n great),
      ))
]

-- and so it is with a fraction at the end of a line
fraction_digit : (none : Bool) (x : Fraction) (digit : ℕ) (rest later : List ℕ) → (x.num == 0) ≡ none →
    (48 + digit) ∷ 10 ∷ later ≡ (if none then decimal x.whole else decimal x.whole ++ codes "+" ++ decimal x.num ++ codes "/" ++ decimal x.den) ++ (10 ∷ rest) →
    numerator x ≡ digit * x.den
fraction_digit true x digit rest later whole same =
    let none : x.num ≡ 0 = eqb-true x.num 0 whole in
    omega (arith, none, ap (λ n. n * x.den) (first_digit x.whole digit 10 rest later same).0)
fraction_digit false x digit rest later whole same =
    absurd (omega (arith, (first_digit x.whole digit 43 (decimal x.num ++ (codes "/" ++ (decimal x.den ++ (10 ∷ rest)))) later (same ∙ simp append_assoc)).1))

-- where it is the energy of a side whose lines begin so
energy_digit : (x : Fraction) (digit : ℕ) (times rest later : List ℕ) → (48 + digit) ∷ 10 ∷ later ≡ ((fraction_text x ++ 10 ∷ []) ++ times) ++ rest → numerator x ≡ digit * x.den
energy_digit x digit times rest later same = fraction_digit (x.num == 0) x digit (times ++ rest) later refl (same ∙ simp append_assoc)

-- # The lines of a plan

-- what comes after the first v
abbrev after_v : List ℕ → List ℕ
after_v [] = []
after_v (byte ∷ text) = if byte == 118 then text else after_v text

-- these bytes have none
record HasNone (bytes : List ℕ) : Type 0 where
  passed : (text : List ℕ) → after_v (bytes ++ text) ≡ after_v text

both_none : {one other : List ℕ} → HasNone one → HasNone other → HasNone (one ++ other)
both_none {one} {other} first second = record { passed = λ text. ap after_v (append_assoc one other text) ∙ first.passed (other ++ text) ∙ second.passed text }

digit_apart : (n : ℕ) → digit_glyph false (n % 10) ≢ 118
digit_apart n same = grind (arith, same)

number_none : (n : ℕ) → HasNone (decimal n)
unfolding digits
number_none n =
    number_keeps HasNone (λ n others known. record {
      passed = λ text.
          ap (λ (b : Bool). if b then others ++ text else after_v (others ++ text)) (ne_eqb (digit_glyph false (n % 10)) 118 (digit_apart n)) ∙ known.passed text;
    }) 64 n [] (record { passed = λ text. refl })

fraction_none : (none : Bool) (x : Fraction) → HasNone (if none then decimal x.whole else decimal x.whole ++ codes "+" ++ decimal x.num ++ codes "/" ++ decimal x.den)
fraction_none true x = number_none x.whole
fraction_none false x =
    let plus : HasNone (codes "+") = record { passed = λ text. refl } in
    let slash : HasNone (codes "/") = record { passed = λ text. refl } in
    both_none (both_none (both_none (both_none (number_none x.whole) plus) (number_none x.num)) slash) (number_none x.den)

-- a line feed
feed_none : HasNone (10 ∷ [])
feed_none = record { passed = λ text. refl }

times_none : (times : List (Point × Fraction)) →
    HasNone (flat_map (λ timed. line (codes "plan" ∷ codes "time" ∷ decimal timed.0.speed ∷ fraction_text timed.1 ∷ [])) times)
times_none [] = record { passed = λ text. refl }
times_none (timed ∷ times) =
    let time : HasNone (32 ∷ fraction_text timed.1) = record { passed = (fraction_none (timed.1.num == 0) timed.1).passed } in
    let first : HasNone (line (codes "plan" ∷ codes "time" ∷ decimal timed.0.speed ∷ fraction_text timed.1 ∷ [])) =
    record { passed = (both_none (both_none (number_none timed.0.speed) time) feed_none).passed } in
    both_none first (times_none times)

plan_none : (points : List Point) (spent : Spent) → HasNone (spent_lines (codes "plan") points spent)
plan_none points spent =
    let first : HasNone (line (codes "plan" ∷ codes "energy" ∷ fraction_text spent.energy ∷ [])) =
    record { passed = (both_none (fraction_none (spent.energy.num == 0) spent.energy) feed_none).passed } in
    both_none first (times_none (zip points spent.times))

-- # A policy that spends less

abbrev input : List ℕ
input = codes "job a 0 3 2\njob b 1 2 1\npoint 0 0\npoint 1 1\npoint 2 3\n"

-- what follows the plan's lines tells 2 for Average Rate: its energy is told, and is 2
two_told : (points : List Point) (side : Side) (rest later : List ℕ) → codes "r energy 2\n" ++ later ≡ after_v (side_lines (codes "avr") points side ++ rest) →
    (spent : Spent) × (side ≡ Spends spent) × (numerator spent.energy ≡ 2 * spent.energy.den)
two_told points (TooSlowFor units from to) rest later same = absurd (omega (arith, ap (λ text. get_or text 2 0) same))
two_told points (Spends spent) rest later same =
    let times = flat_map (λ timed. line (codes "avr" ∷ codes "time" ∷ decimal timed.0.speed ∷ fraction_text timed.1 ∷ [])) (zip points spent.times) in
    (spent, refl, energy_digit spent.energy 2 times rest later (ap (drop 9) same))

-- the lines of the plan and all others
in_turn : (a b c d e : List ℕ) → a ++ b ++ c ++ d ++ e ≡ a ++ (b ++ (c ++ (d ++ e)))
in_turn a b c d e = simp append_assoc

-- the document of the worked row
abbrev document : Document
document = record no_document {
  names = codes "a" ∷ codes "b" ∷ [];
  jobs = record { release = 0; deadline = 3; work = 2 } ∷ record { release = 1; deadline = 2; work = 1 } ∷ [];
  points = record { speed = 0; power = 0 } ∷ record { speed = 1; power = 1 } ∷ record { speed = 2; power = 3 } ∷ [];
}

its_document : reading input ≡ Ok document
its_document = refl

-- So a text that tells the plan's energy 3 and Average Rate's 2 isn't worth what a comparison is.
less : (later : List ℕ) → HoldsComparison 6 input (codes "plan energy 3\nplan time 0 0\nplan time 1 3\nplan time 2 0\navr energy 2\n" ++ later) → ⊥
less later holds =
    let is = holds.cheapest in
    let answer = is.answer in
    let points = is.document.points in
    let same : document ≡ is.document = let own = its_document in let read = is.read in cc in
    let average = side_lines (codes "avr") points answer.average_side in
    let average_line = rounded_line (codes "avr") answer.average_rounded in
    let optimal = side_lines (codes "oa") points answer.optimal_side in
    let optimal_line = rounded_line (codes "oa") answer.optimal_rounded in
    let rest = average_line ++ (optimal ++ optimal_line) in
    let plan = spent_lines (codes "plan") points answer.plan_spent in
    let told : codes "plan energy 3\nplan time 0 0\nplan time 1 3\nplan time 2 0\navr energy 2\n" ++ later ≡ plan ++ (average ++ rest) =
    answer.said ∙ in_turn plan average average_line optimal optimal_line in
    let times = flat_map (λ timed. line (codes "plan" ∷ codes "time" ∷ decimal timed.0.speed ∷ fraction_text timed.1 ∷ [])) (zip points answer.plan_spent.times) in
    let costs = energy_digit answer.plan_spent.energy 3 times (average ++ rest) (codes "plan time 0 0\nplan time 1 3\nplan time 2 0\navr energy 2\n" ++ later) (ap (drop 12) told) in
    let two = two_told points answer.average_side rest later (ap after_v told ∙ (plan_none points answer.plan_spent).passed (average ++ rest)) in
    let no_less = subst (CostsNoLess answer.plan_spent.energy) two.1 is.average_rate in
    let lowest = subst (IsToldSide points) two.1 is.average_told in
    let some : 1 ≤ answer.plan_spent.energy.den * two.0.energy.den =
    mul-pos (omega (arith, is.plan_told.energy.below_one)) (omega (arith, lowest.energy.below_one)) in
    absurd (omega (arith, no_less, some, ap (λ n. n * two.0.energy.den) costs, ap (λ n. n * answer.plan_spent.energy.den) two.2))
