-- How numbers and names are spelled.
use Rattle.std.specs.Prelude.{ℕ, List, [], ◌∷◌, length, Bool, false, ◌==◌, ◌&&◌, nat_le, if◌then◌else◌, Result, Ok, Err}
use Rattle.std.specs.List.{list_all}
use Rattle.std.specs.Str.Parse.{digits_value}
use Rattle.base.specs.declared.limits.TheConstants.{MAX_NAME}
use Rattle.base.specs.declared.number_fault.NumberFault.{NumberFault}
use Rattle.base.specs.declared.number_fault.NumberFault.TheVariants.{BadNumber, OutOfRange}

abbrev pub is_digit : ℕ → Bool
is_digit byte = nat_le 48 byte && nat_le byte 57

-- `0`, or a digit from 1 to 9 and any digits after it
abbrev pub is_number : List ℕ → Bool
is_number [] = false
is_number (first ∷ rest) = if first == 48 then length rest == 0 else list_all is_digit (first ∷ rest)

-- the number that a field spells, which is to be at least `least` and at most `most`
abbrev pub number_at : ℕ → ℕ → List ℕ → Result ℕ NumberFault
number_at least most text =
    if is_number text
    then (if nat_le least (digits_value 10 text) && nat_le (digits_value 10 text) most then Ok (digits_value 10 text) else Err OutOfRange)
    else Err BadNumber

-- a visible ASCII character
abbrev pub is_visible : ℕ → Bool
is_visible byte = nat_le 33 byte && nat_le byte 126

-- 1 to 64 bytes, each a visible ASCII character
abbrev pub is_name : List ℕ → Bool
is_name text = nat_le 1 (length text) && nat_le (length text) MAX_NAME && list_all is_visible text
