-- A fraction by its parts, each spelled by itself.
use Rattle.std.specs.Prelude.{ℕ, Bool, true, false, List, ◌&&◌, if◌then◌else◌, Result, Ok, Err}
use Rattle.std.specs.List.{list_any, before_first, after_first}
use Rattle.std.specs.Str.Parse.{digits_value}
use Rattle.base.specs.declared.number_fault.NumberFault.{NumberFault}
use Rattle.base.specs.declared.number_fault.NumberFault.TheVariants.{BadNumber, OutOfRange}
use Rattle.yds_model.specs.Scale.{Fraction}
use Rattle.base.specs.Spelling.{is_number}
use Rattle.yds_model.specs.Spelling.{is_slash, kept}

-- the fraction of three numbers
abbrev pub fraction_of_parts : ℕ → List ℕ → List ℕ → List ℕ → Result Fraction NumberFault
fraction_of_parts most whole num den =
    if is_number whole && is_number num && is_number den
    then kept most (record { whole = digits_value 10 whole; num = digits_value 10 num; den = digits_value 10 den })
    else Err BadNumber

-- the fraction of a whole part and `NUM/DEN`
abbrev pub fraction_after : ℕ → List ℕ → List ℕ → Result Fraction NumberFault
fraction_after most whole text =
    if list_any is_slash text then fraction_of_parts most whole (before_first is_slash text) (after_first is_slash text) else Err BadNumber

-- whether the spelling is wrong
abbrev pub is_bad : Result ℕ NumberFault → Bool
is_bad (Ok number) = false
is_bad (Err BadNumber) = true
is_bad (Err OutOfRange) = false
