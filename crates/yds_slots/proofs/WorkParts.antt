-- The works of a job together, in parts of its grain, and as one fraction.
use Rattle.yds_model.proofs.Common.{◌≡◌, ℕ, ◌+◌, ◌*◌, ◌/◌, ◌%◌, ◌<◌, ◌≤◌, ◌⊎◌, inl, inr, List, [], ◌∷◌, ◌++◌, refl, sym, ap, ◌∙◌, arith, Bool, true, false, eqb-true, ◌==◌, if◌then◌else◌, sum_by, All, ◌∣◌, cases_eq, cond_both, ne_eqb, eq-eqb, div-mul-add, mod-mul-add, div-one, div-add-mod, eq_of_mul-eq-mul_right, mul-pos, sum_by_push, sum_by-cons, All-tail, Fraction, of_whole, of_parts, at_scale, numerator, WrittenSlot}
use Rattle.fraction_lemmas.proofs.Fractions.{value-den}
use Rattle.yds_model.specs.Plan.{IsOver}

-- the works of the job together, in parts of one g-th
abbrev pub parts_at : ℕ → List WrittenSlot → ℕ → ℕ
parts_at g slots job = sum_by (λ slot. if slot.job == job then numerator slot.work * (g / slot.work.den) else 0) slots

pub parts_pushed : (g : ℕ) (slots : List WrittenSlot) (slot : WrittenSlot) (job : ℕ) →
    parts_at g (slots ++ slot ∷ []) job ≡ parts_at g slots job + (if slot.job == job then numerator slot.work * (g / slot.work.den) else 0)
parts_pushed g slots slot job = sum_by_push (λ (s : WrittenSlot). if s.job == job then numerator s.work * (g / s.work.den) else 0) slots slot

-- whole works are g times as many parts of one g-th
abbrev pub IsWholeFor : ℕ → WrittenSlot → Type 0
IsWholeFor job slot = slot.job ≡ job → slot.work.den ≡ 1

part_finer : (g n den : ℕ) (mine : Bool) → (mine ≡ true → den ≡ 1) → (if mine then n * (g / den) else 0) ≡ (if mine then n * (1 / den) else 0) * g
part_finer g n den true whole = rw (whole refl, div-one g) (omega arith)
part_finer g n den false whole = omega arith

pub parts_finer : (g : ℕ) (slots : List WrittenSlot) (job : ℕ) → All (IsWholeFor job) slots → parts_at g slots job ≡ parts_at 1 slots job * g
parts_finer g [] job whole = omega arith
parts_finer g (slot ∷ slots) job whole =
    simp sum_by-cons (omega (
      arith,
      part_finer g (numerator slot.work) slot.work.den (slot.job == job) (λ mine. whole 0 slot (omega arith) (eqb-true slot.job job mine)),
      parts_finer g slots job (All-tail (IsWholeFor job) slot slots whole),
    ))

-- # A fraction of so many parts

of_parts_value_by : (p g : ℕ) (plain : Bool) → (p % g == 0) ≡ plain →
    (let x : Fraction = if plain then of_whole (p / g) else record { whole = p / g; num = p % g; den = g } in numerator x * g ≡ p * x.den)
of_parts_value_by p g true e = omega (arith, div-add-mod p g, eqb-true (p % g) 0 e)
of_parts_value_by p g false e = omega (arith, ap (λ n. n * g) (div-add-mod p g))

-- the value of so many parts
pub of_parts_value : (p g : ℕ) → numerator (of_parts p g) * g ≡ p * (of_parts p g).den
of_parts_value p g = of_parts_value_by p g (p % g == 0) refl

-- it is whole, or has the denominator
pub of_parts_over : (p g : ℕ) → IsOver g (of_parts p g)
of_parts_over p g = grind arith

whole_at : (q p g scale any : ℕ) → p ≡ q * g → (q * scale + 0 * any) * g ≡ p * scale
whole_at q p g scale any e = omega (arith, ap (λ n. n * scale) e)

value_at : (q r p g scale value : ℕ) → p ≡ q * g + r → value * g ≡ (q * g + r) * scale → value * g ≡ p * scale
value_at q r p g scale value e h = omega (arith, h, ap (λ n. n * scale) e)

-- its value at each scale that it has
abbrev HasParts : ℕ → ℕ → ℕ → Fraction → Type 0
HasParts scale p g x = x.den ∣ scale → at_scale scale x * g ≡ p * scale

pub of_parts_at : (scale p g : ℕ) → HasParts scale p g (of_parts p g)
of_parts_at scale p g = grind (arith, cond_both, div-add-mod, eqb-true, value-den, value_at, whole_at)

whole_parts : (w g p : ℕ) → 1 ≤ g → p ≡ w * g → (p / g ≡ w) × (p % g ≡ 0)
whole_parts w g p some e =
    let plain : p ≡ w * g + 0 = omega arith in rw plain (div-mul-add w g 0 some, mod-mul-add w g 0 some)

fraction_is : (z : Fraction) (whole num den : ℕ) → z.whole ≡ whole → z.num ≡ num → z.den ≡ den → z ≡ record { whole = whole; num = num; den = den }
fraction_is z whole num den e f g = grind arith

-- A fraction of that value that is written in these parts, or is whole, is that one.
pub of_parts_is : (p g : ℕ) (z : Fraction) → 1 ≤ g → z.num < z.den → (z.num ≡ 0 → z.den ≡ 1) → (z.num ≡ 0) ⊎ (z.den ≡ g) →
    numerator z * g ≡ p * z.den → z ≡ of_parts p g
of_parts_is p g z some below plain (inl none) value =
    let one : z.den ≡ 1 = plain none in
    let is : (z.whole * 1 + 0) * g ≡ p * 1 = ap (λ n. (z.whole * n + 0) * g) (sym one) ∙ ap (λ n. (z.whole * z.den + n) * g) (sym none) ∙ value ∙ ap (λ n. p * n) one in
    let parts : (p / g ≡ z.whole) × (p % g ≡ 0) = whole_parts z.whole g p some (omega arith) in
    rw (eq-eqb (p % g) 0 parts.1) (fraction_is z (p / g) 0 1 (sym parts.0) none one)
of_parts_is p g z some below plain (inr same) value =
    let is : (z.whole * g + z.num) * g ≡ p * g = ap (λ n. (z.whole * n + z.num) * g) (sym same) ∙ value ∙ ap (λ n. p * n) same in
    let sum : z.whole * g + z.num ≡ p = eq_of_mul-eq-mul_right g some (z.whole * g + z.num) p is in
    let within : z.num < g = omega arith in
    let quotient : p / g ≡ z.whole = ap (λ n. n / g) (sym sum) ∙ div-mul-add z.whole g z.num within in
    let rest : p % g ≡ z.num = ap (λ n. n % g) (sym sum) ∙ mod-mul-add z.whole g z.num within in
    elim (cases_eq (p % g) 0) [
      | inl nothing_left ↦
          let none : z.num ≡ 0 = sym rest ∙ nothing_left in
          rw (eq-eqb (p % g) 0 nothing_left) (fraction_is z (p / g) 0 1 (sym quotient) none (plain none))
      | inr some_left ↦ rw (ne_eqb (p % g) 0 some_left) (fraction_is z (p / g) (p % g) g (sym quotient) (sym rest) same)
    ]

-- # One more work

-- the values of a sum and of its parts, over the grain before and after it
pub summed : (nx xd ny yd nz zd g h p q m : ℕ) → 1 ≤ g → 1 ≤ xd → 1 ≤ yd → nz * (xd * yd) ≡ (nx * yd + ny * xd) * zd → nx * g ≡ p * xd →
    q * g ≡ p * h → m * yd ≡ h → nz * h ≡ (q + ny * m) * zd
summed nx xd ny yd nz zd g h p q m some_g some_x some_y sum value finer parts =
    let one : nz * (xd * yd) * (g * h) ≡ (nx * yd + ny * xd) * zd * (g * h) = ap (λ n. n * (g * h)) sum in
    let two : nx * g * (yd * zd * h) ≡ p * xd * (yd * zd * h) = ap (λ n. n * (yd * zd * h)) value in
    let three : q * g * (xd * yd * zd) ≡ p * h * (xd * yd * zd) = ap (λ n. n * (xd * yd * zd)) finer in
    let four : ny * xd * zd * g * (m * yd) ≡ ny * xd * zd * g * h = ap (λ n. ny * xd * zd * g * n) parts in
    eq_of_mul-eq-mul_right (xd * yd * g) (mul-pos (mul-pos some_x some_y) some_g) (nz * h) ((q + ny * m) * zd) (omega arith)
