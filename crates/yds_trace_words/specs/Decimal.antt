-- Decimals, read exactly: so many parts in a whole, as nanoseconds in a millisecond or in a second.
use Rattle.std.specs.Prelude.{ℕ, ◌+◌, ◌*◌, ◌-◌, ◌^◌, List, length, Bool, ◌==◌, ◌&&◌, nat_le, if◌then◌else◌, Option, Some, None}
use Rattle.std.specs.List.{list_all, list_any, before_first, after_first}
use Rattle.std.specs.Result.{result_ok}
use Rattle.std.specs.Str.Parse.{digits_value}
use Rattle.base.specs.Spelling.{is_digit, number_at}
use Rattle.yds_kernel.specs.Parts.{◌>>=◌}

abbrev pub is_point : ℕ → Bool
is_point byte = byte == 46

-- digits behind the point, at least one and at most so many
abbrev pub is_fraction : ℕ → List ℕ → Bool
is_fraction places text = nat_le 1 (length text) && nat_le (length text) places && list_all is_digit text

-- these digits as parts of a whole that has 10 ^ places of them
abbrev pub parts_of : ℕ → List ℕ → ℕ
parts_of places fraction = digits_value 10 fraction * 10 ^ (places - length fraction)

-- what stands behind the point, if there is one
abbrev pub behind_point : List ℕ → Option (List ℕ)
behind_point text = if list_any is_point text then Some (after_first is_point text) else None

abbrev pub fraction_at : ℕ → Option (List ℕ) → Option ℕ
fraction_at places None = Some 0
fraction_at places (Some text) = if is_fraction places text then Some (parts_of places text) else None

abbrev pub at_most : ℕ → ℕ → Option ℕ
at_most most value = if nat_le value most then Some value else None

-- The parts that a decimal spells, at most so many: a number as in a document, perhaps a point and digits behind it.
unfoldable pub decimal_at : ℕ → ℕ → List ℕ → Option ℕ
decimal_at places most text = do
  whole ← result_ok (number_at 0 most (before_first is_point text))
  parts ← fraction_at places (behind_point text)
  at_most most (whole * 10 ^ places + parts)
