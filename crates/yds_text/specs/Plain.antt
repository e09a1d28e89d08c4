-- What a reader of a field of the plain spelling read: one space, the field, and a blank or the end after it.
use Rattle.std.specs.Prelude.{◌≡◌, ℕ, ◌+◌, Bool, true, List, [], ◌∷◌, ◌++◌, length, Ok}
use Rattle.base.specs.Lines.{Field, is_blank, fields_from}
use Rattle.base.specs.Spelling.{number_at}

-- a field ends before these bytes
abbrev pub ends_field : List ℕ → Bool
ends_field [] = true
ends_field (byte ∷ bytes) = is_blank byte

-- the bytes begin with digits that spell this number, and the others come after them
pub record BeginsNumber (most value : ℕ) (bytes rest : List ℕ) : Type 0 where
  pub digits : List ℕ
  pub says : number_at 0 most digits ≡ Ok value
  pub first : bytes ≡ digits ++ rest

-- the bytes begin with a space and a field of which this is said, and the others come after it
pub record BeginsPlainly (Says : List ℕ → Type 0) (bytes rest : List ℕ) : Type 0 where
  pub text : List ℕ
  pub says : Says text
  pub first : (column : ℕ) → fields_from column bytes ≡ record { column = column + 1; text = text } ∷ fields_from (column + 1 + length text) rest
  pub lengths : length bytes ≡ 1 + length text + length rest

-- the first of the fields was read, of whose bytes this is said
pub record ReadsText (Says : List ℕ → Type 0) (old new : List Field) : Type 0 where
  pub field : Field
  pub says : Says field.text
  pub first : old ≡ field ∷ new
