-- What a call of `next` reads: the first of what is left, or nothing where nothing is left.
use Rattle.std.specs.Prelude.{◌≡◌, [], ◌∷◌, Option, MatchOption}
use Rattle.base.specs.Lines as text
use Rattle.yds_text.specs.Left.{LinesLeft, FieldsLeft}
use Rattle.yds_text.specs.declared.line.Line.{Line}
use Rattle.yds_text.specs.declared.field.Field.{Field}

-- the first line was read: it begins where the lines that were left do
pub record ReadsLine (old new : LinesLeft) (line : Line) : Type 0 where
  pub first : old.lines ≡ record { number = line.number; start = old.start; text = line.text.now } ∷ new.lines

pub record EndsLines (old new : LinesLeft) : Type 0 where
  pub none : old.lines ≡ []
  pub after : new.lines ≡ []

abbrev pub GivesLine : LinesLeft → Option Line → LinesLeft → Type 0
GivesLine old result new = MatchOption result (EndsLines old new) (ReadsLine old new)

-- a field without the number of its line
abbrev pub field_read : Field → text.Field
field_read field = record { column = field.column; text = field.text.now }

-- the first field was read
pub record ReadsField (old new : FieldsLeft) (field : Field) : Type 0 where
  pub first : old.fields ≡ field_read field ∷ new.fields
  pub line : field.line ≡ old.line
  pub same_line : new.line ≡ old.line

pub record EndsFields (old new : FieldsLeft) : Type 0 where
  pub none : old.fields ≡ []
  pub after : new.fields ≡ []
  pub same_line : new.line ≡ old.line

abbrev pub GivesField : FieldsLeft → Option Field → FieldsLeft → Type 0
GivesField old result new = MatchOption result (EndsFields old new) (ReadsField old new)
