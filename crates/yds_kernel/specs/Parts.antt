-- What stands at the front of bytes, and the bytes after it.
use Rattle.std.specs.Prelude.{ℕ, List, [], ◌∷◌, length, take, drop, ◌==◌, ◌&&◌, nat_le, if◌then◌else◌, Option, Some, None}
use Rattle.std.specs.List.{prefix_len, position_or_len}
use Rattle.std.specs.Str.{bytes_eq}
use Rattle.std.specs.Str.Parse.{digits_value}
use Rattle.base.specs.Lines.{is_blank}
use Rattle.base.specs.Spelling.{is_digit}
use Rattle.yds_kernel.specs.declared.limits.TheConstants.{MAX_U64, MAX_NUMBER}

-- goes on only where something was read
infixl 10 ◌>>=◌
abbrev pub ◌>>=◌ : {A B : Type 0} → Option A → (A → Option B) → Option B
None >>= next = None
(Some x) >>= next = next x

-- the second where there is no first
abbrev pub or_else : {A : Type 0} → Option A → Option A → Option A
or_else (Some x) other = Some x
or_else None other = other

-- the bytes after this text, where they begin with it
abbrev pub after : List ℕ → List ℕ → Option (List ℕ)
after text bytes =
    if nat_le (length text) (length bytes) && bytes_eq (take (length text) bytes) text then Some (drop (length text) bytes) else None

-- so many bytes, at least one, and the bytes after them
abbrev pub parted : ℕ → List ℕ → Option (List ℕ × List ℕ)
parted count bytes = if count == 0 then None else Some (take count bytes, drop count bytes)

-- the digits at the front
abbrev pub digits : List ℕ → Option (List ℕ × List ℕ)
digits bytes = parted (prefix_len is_digit bytes) bytes

-- the bytes before the next blank
abbrev pub field : List ℕ → Option (List ℕ × List ℕ)
field bytes = parted (position_or_len is_blank bytes) bytes

-- what comes after the blanks at the front, if there are any
abbrev pub skip_blanks : List ℕ → List ℕ
skip_blanks bytes = drop (prefix_len is_blank bytes) bytes

-- what comes after the blanks at the front, at least one
abbrev pub after_blanks : List ℕ → Option (List ℕ)
after_blanks bytes = if prefix_len is_blank bytes == 0 then None else Some (skip_blanks bytes)

-- A number beyond 64 bits counts as the greatest one of 64 bits, which each limit refuses.
abbrev pub capped : ℕ → ℕ
capped number = if nat_le number MAX_U64 then number else MAX_U64

-- the number that the digits at the front spell, leading zeros too
unfoldable pub number : List ℕ → Option (ℕ × List ℕ)
number bytes = do
  found ← digits bytes
  Some (capped (digits_value 10 found.0), found.1)

-- the same of a number within the limit of processors, processes and speeds
unfoldable pub small_number : List ℕ → Option (ℕ × List ℕ)
small_number bytes = do
  found ← number bytes
  if nat_le found.0 MAX_NUMBER then Some found else None

-- what comes after a minus, if there is one
abbrev pub skip_minus : List ℕ → List ℕ
skip_minus [] = []
skip_minus (byte ∷ rest) = if byte == 45 then rest else byte ∷ rest

-- What comes after a priority. What it is doesn't matter.
unfoldable pub after_priority : List ℕ → Option (List ℕ)
after_priority bytes = do
  found ← digits (skip_minus bytes)
  Some found.1
