-- The first numbers, and the cuts of the processors that have them.
use Rattle.base.proofs.Common.{◌≡◌, ℕ, zero, suc, ◌+◌, ◌≤◌, ◌||◌, Bool, true, false, nat_le, List, [], ◌∷◌, ◌++◌, map, length, list_any, refl, sym, ap, subst, ◌∙◌, arith, add-one, map-append, length-append, length-map, leb-true, leb-false}
use Rattle.yds_trace.specs.declared.cut.Cut.{Cut}
use Rattle.yds_trace.specs.Parts.{first_numbers}
use Rattle.yds_trace_parts.specs.declared.processors.Processor.{Processor}
use Rattle.yds_trace_parts.specs.Telling.{each_of, NoneEndsBefore}
use Rattle.yds_trace_parts.proofs.Placed.{any_push}

-- # So many numbers

pub length-first_numbers : (count : ℕ) → length (first_numbers count) ≡ count
length-first_numbers zero = refl
length-first_numbers (suc count) =
    length-append (first_numbers count) (count ∷ [])
    ∙ ap (λ (n : ℕ). n + 1) (length-first_numbers count) ∙ add-one count

pub length-each_of : (cuts : ℕ → Cut) (count : ℕ) → length (each_of cuts count) ≡ count
length-each_of cuts count = length-map (first_numbers count) (λ (number : ℕ). let one : Processor = record { number = number; cut = cuts number } in one) ∙ length-first_numbers count

-- with one more
pub each_push : (cuts : ℕ → Cut) (count : ℕ) → each_of cuts count ++ record { number = count; cut = cuts count } ∷ [] ≡ each_of cuts (count + 1)
each_push cuts count =
    sym (map-append (λ (number : ℕ). let one : Processor = record { number = number; cut = cuts number } in one) (first_numbers count) (count ∷ []))
    ∙ ap (each_of cuts) (sym (add-one count))

-- # From some number on all are alike

or_twice : (a b : Bool) → (b || (a || b)) ≡ (b || a)
or_twice true true = refl
or_twice true false = refl
or_twice false true = refl
or_twice false false = refl

-- a test that gives the same of each from a number on, and this is the case of one of them
pub alike : (test : ℕ → Bool) (seen : Bool) (count : ℕ) → ((number : ℕ) → count ≤ number → test number ≡ seen) → (more : ℕ) → count ≤ more →
    (seen || list_any test (first_numbers more)) ≡ (seen || list_any test (first_numbers count))
alike test seen count same zero within =
    let none : count ≡ 0 = omega (arith, within) in
    ap (λ (n : ℕ). seen || list_any test (first_numbers n)) (sym none)
alike test seen count same (suc more) within = by (nat_le count more) refl (alike test seen count same more)
  where
    by : (b : Bool) → nat_le count more ≡ b → (count ≤ more → (seen || list_any test (first_numbers more)) ≡ (seen || list_any test (first_numbers count))) →
        (seen || list_any test (first_numbers (suc more))) ≡ (seen || list_any test (first_numbers count))
    by true is rest =
        ap (λ (b : Bool). seen || b) (any_push test (first_numbers more) more
        ∙ ap (λ (b : Bool). list_any test (first_numbers more) || b) (same more (leb-true count more is)))
        ∙ or_twice (list_any test (first_numbers more)) seen ∙ rest (leb-true count more is)
    by false is rest =
        let here : suc more ≡ count = omega (arith, leb-false count more is, within) in
        ap (λ (n : ℕ). seen || list_any test (first_numbers n)) here

-- # None ends before a time

pub none_push : (time : ℕ) (cuts : List Cut) (cut : Cut) → NoneEndsBefore time cuts → time ≤ cut.boundary → NoneEndsBefore time (cuts ++ cut ∷ [])
none_push time [] cut none last = (last, tt)
none_push time (first ∷ cuts) cut none last = (none.0, none_push time cuts cut none.1 last)

pub none_more : (time : ℕ) (cuts : ℕ → Cut) (cut : Cut) (count : ℕ) → ((number : ℕ) → count ≤ number → cuts number ≡ cut) → time ≤ cut.boundary →
    NoneEndsBefore time (map cuts (first_numbers count)) → (more : ℕ) → count ≤ more → NoneEndsBefore time (map cuts (first_numbers more))
none_more time cuts cut count same later none zero within = tt
none_more time cuts cut count same later none (suc more) within = by (nat_le count more) refl (none_more time cuts cut count same later none more)
  where
    by : (b : Bool) → nat_le count more ≡ b → (count ≤ more → NoneEndsBefore time (map cuts (first_numbers more))) → NoneEndsBefore time (map cuts (first_numbers (suc more)))
    by true is rest =
        subst (NoneEndsBefore time) (sym (map-append cuts (first_numbers more) (more ∷ [])))
        (none_push time (map cuts (first_numbers more)) (cuts more) (rest (leb-true count more is))
        (subst (λ (one : Cut). time ≤ one.boundary) (sym (same more (leb-true count more is))) later))
    by false is rest =
        let here : count ≡ suc more = omega (arith, leb-false count more is, within) in
        subst (λ (n : ℕ). NoneEndsBefore time (map cuts (first_numbers n))) here none
