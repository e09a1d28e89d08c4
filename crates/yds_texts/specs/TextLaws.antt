-- The laws of lines and fields. Each is the contract of a public function of this crate.
use Rattle.std.specs.Prelude.{◌≡◌, ℕ, ◌+◌, ◌≤◌, List, [], ◌∷◌, length, take, drop}
use Rattle.std.specs.List.{All}
use Rattle.base.specs.Lines.{Line, Field, lines_of, fields_of}

-- the line is the slice of the bytes from its start on
abbrev pub IsLineSlice : List ℕ → Line → Type 0
IsLineSlice bytes line = line.text ≡ take (length line.text) (drop line.start bytes)

-- from `start` on, each line begins beyond the end of the one before
abbrev pub LinesRise : ℕ → List Line → Type 0
LinesRise start [] = Unit {0}
LinesRise start (line ∷ lines) = (start ≤ line.start) × LinesRise (line.start + length line.text + 1) lines

-- The lines are slices of the bytes, each beyond the one before.
abbrev pub LinesAreSlices : Type 0
LinesAreSlices = (bytes : List ℕ) → All (IsLineSlice bytes) (lines_of bytes) × LinesRise 0 (lines_of bytes)

-- the field is the slice of the text from its column on, and columns count from 1
abbrev pub IsFieldSlice : List ℕ → Field → Type 0
IsFieldSlice text field = (before : ℕ) → before + 1 ≡ field.column → field.text ≡ take (length field.text) (drop before text)

-- from `column` on, each field begins beyond the end of the one before
abbrev pub FieldsRise : ℕ → List Field → Type 0
FieldsRise column [] = Unit {0}
FieldsRise column (field ∷ fields) = (column ≤ field.column) × FieldsRise (field.column + length field.text + 1) fields

-- The fields are slices of the line, each beyond the one before.
abbrev pub FieldsAreSlices : Type 0
FieldsAreSlices = (text : List ℕ) → All (IsFieldSlice text) (fields_of text) × FieldsRise 1 (fields_of text)
