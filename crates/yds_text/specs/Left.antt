-- What contracts see of the lines and of the fields that are left to read.
use Rattle.std.specs.Prelude.{ℕ, List}
use Rattle.base.specs.Lines.{Line, Field}

-- the lines from this place in the input on
pub record LinesLeft : Type 0 where
  pub start : ℕ
  pub lines : List Line

-- the fields that are left of the line of this number
pub record FieldsLeft : Type 0 where
  pub line : ℕ
  pub fields : List Field
