-- The lines of an input, the fields of a line, and the line that fields make.
use Rattle.std.specs.Prelude.{ℕ, ◌+◌, List, [], ◌∷◌, ◌++◌, map, Bool, ◌==◌, ◌||◌, if◌then◌else◌}
use Rattle.std.specs.List.{join_with_byte}

-- a line of an input: its number, from 1, the place of its first byte in the input, from 0, and its bytes
pub record Line : Type 0 where
  pub number : ℕ
  pub start : ℕ
  pub text : List ℕ

-- one more byte in front of the first of these lines; where there is none it is a line of its own
abbrev pub in_front : ℕ → ℕ → ℕ → List Line → List Line
in_front number start byte [] = record { number = number; start = start; text = byte ∷ [] } ∷ []
in_front number start byte (line ∷ lines) = record { number = number; start = start; text = byte ∷ line.text } ∷ lines

-- Line feeds (10) end lines. Bytes after the last one make a last line; no line stands after a line feed at the end.
abbrev pub lines_from : ℕ → ℕ → List ℕ → List Line
lines_from number start [] = []
lines_from number start (byte ∷ bytes) =
    if byte == 10 then record { number = number; start = start; text = [] } ∷ lines_from (number + 1) (start + 1) bytes
    else in_front number start byte (lines_from number (start + 1) bytes)

-- without a carriage return (13) at the end, one at most
abbrev pub without_return : List ℕ → List ℕ
without_return [] = []
without_return (byte ∷ []) = if byte == 13 then [] else byte ∷ []
without_return (byte ∷ next ∷ bytes) = byte ∷ without_return (next ∷ bytes)

-- a carriage return directly before the line feed, or before the end of the input, isn't part of the line
abbrev pub trimmed : Line → Line
trimmed line = record { number = line.number; start = line.start; text = without_return line.text }

abbrev pub lines_of : List ℕ → List Line
lines_of bytes = map trimmed (lines_from 1 0 bytes)

-- a field: the column of its first byte in the line, from 1, and its bytes
pub record Field : Type 0 where
  pub column : ℕ
  pub text : List ℕ

-- a space or a tab
abbrev pub is_blank : ℕ → Bool
is_blank byte = (byte == 32) || (byte == 9)

-- one more byte in front of these fields: it belongs to the first of them where that begins in the next column
abbrev pub joined : ℕ → ℕ → List Field → List Field
joined column byte [] = record { column = column; text = byte ∷ [] } ∷ []
joined column byte (field ∷ fields) =
    if field.column == column + 1 then record { column = column; text = byte ∷ field.text } ∷ fields
    else record { column = column; text = byte ∷ [] } ∷ field ∷ fields

-- the longest runs of bytes that aren't blank, from this column on
abbrev pub fields_from : ℕ → List ℕ → List Field
fields_from column [] = []
fields_from column (byte ∷ bytes) =
    if is_blank byte then fields_from (column + 1) bytes else joined column byte (fields_from (column + 1) bytes)

abbrev pub fields_of : List ℕ → List Field
fields_of text = fields_from 1 text

-- these fields as one line, with a space between them and a line feed at its end
abbrev pub line : List (List ℕ) → List ℕ
line fields = join_with_byte 32 fields ++ 10 ∷ []
