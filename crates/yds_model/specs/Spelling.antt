-- How fractions are spelled.
use Rattle.std.specs.Prelude.{ℕ, List, Bool, ◌==◌, ◌&&◌, nat_lt, nat_le, if◌then◌else◌, Result, Ok, Err}
use Rattle.std.specs.List.{list_any, before_first, after_first}
use Rattle.std.specs.Str.Parse.{digits_value}
use Rattle.base.specs.declared.limits.TheConstants.{MAX_DENOMINATOR}
use Rattle.base.specs.declared.number_fault.NumberFault.{NumberFault}
use Rattle.base.specs.declared.number_fault.NumberFault.TheVariants.{BadNumber, OutOfRange}
use Rattle.base.specs.Spelling.{is_number}
use Rattle.yds_model.specs.Scale.{Fraction, of_whole}

-- Three numbers with a plus (43) and a slash (47) between them: `WHOLE+NUM/DEN`.
abbrev pub is_plus : ℕ → Bool
is_plus byte = byte == 43

abbrev pub is_slash : ℕ → Bool
is_slash byte = byte == 47

abbrev pub is_mixed : List ℕ → Bool
is_mixed text =
    list_any is_plus text && is_number (before_first is_plus text)
    && list_any is_slash (after_first is_plus text) && is_number (before_first is_slash (after_first is_plus text))
    && is_number (after_first is_slash (after_first is_plus text))

abbrev pub mixed_of : List ℕ → Fraction
mixed_of text = record {
  whole = digits_value 10 (before_first is_plus text);
  num = digits_value 10 (before_first is_slash (after_first is_plus text));
  den = digits_value 10 (after_first is_slash (after_first is_plus text));
}

-- A fraction within its limits is kept as it is written, but one without a numerator is the whole number.
abbrev pub kept : ℕ → Fraction → Result Fraction NumberFault
kept most x =
    if nat_le x.whole most && nat_le 1 x.den && nat_le x.den MAX_DENOMINATOR && nat_lt x.num x.den
    then Ok (if x.num == 0 then of_whole x.whole else x)
    else Err OutOfRange

-- the fraction that a field spells, a number or `WHOLE+NUM/DEN`, whose whole part is to be at most `most`
abbrev pub fraction_at : ℕ → List ℕ → Result Fraction NumberFault
fraction_at most text =
    if is_number text then kept most (of_whole (digits_value 10 text))
    else (if is_mixed text then kept most (mixed_of text) else Err BadNumber)
