-- A fraction that a field spells is within its limit.
use Rattle.yds_model.proofs.Common.{◌≡◌, ℕ, ◌≤◌, Bool, true, false, List, Result, Ok, Err, refl, sym, ap, arith, ◌&&◌, if◌then◌else◌, leb-true, digits_value, Fraction, of_whole, kept, fraction_at, is_number, is_mixed, mixed_of}
use Rattle.base.specs.declared.number_fault.NumberFault.{NumberFault}
use Rattle.base.specs.declared.number_fault.NumberFault.TheVariants as faults

abbrev kept_one : Bool → Fraction → Result Fraction NumberFault
kept_one none x = Ok (if none then of_whole x.whole else x)

kept_parts : (within some few less none : Bool) (x y : Fraction) → (if within && some && few && less then kept_one none x else Err faults.OutOfRange) ≡ Ok y
    → (within ≡ true) × (y.whole ≡ x.whole)
kept_parts true true true true true x y is = let same : of_whole x.whole ≡ y = cc in (refl, sym (ap (λ (z : Fraction). z.whole) same))
kept_parts true true true true false x y is = let same : x ≡ y = cc in (refl, sym (ap (λ (z : Fraction). z.whole) same))
kept_parts true true true false none x y is = cc
kept_parts true true false less none x y is = cc
kept_parts true false few less none x y is = cc
kept_parts false some few less none x y is = cc

kept_within : (most : ℕ) (x y : Fraction) → kept most x ≡ Ok y → y.whole ≤ most
kept_within most x y is = grind (arith, leb-true)

within_by : (number mixed : Bool) (most : ℕ) (one two y : Fraction) → (if number then kept most one else (if mixed then kept most two else Err faults.BadNumber)) ≡ Ok y → y.whole ≤ most
within_by true mixed most one two y is = kept_within most one y is
within_by false true most one two y is = kept_within most two y is
within_by false false most one two y is = cc

pub fraction_within : (most : ℕ) (text : List ℕ) (y : Fraction) → fraction_at most text ≡ Ok y → y.whole ≤ most
fraction_within most text y is = within_by (is_number text) (is_mixed text) most (of_whole (digits_value 10 text)) (mixed_of text) y is
