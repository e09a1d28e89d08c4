-- What the fields of a line say where they were read in one pass, as plain ones: an entry, and no fault.
use Rattle.std.specs.Prelude.{◌≡◌, List, [], ◌∷◌, Result, Ok}
use Rattle.yds_model.specs.declared.reason.Reason.{Reason}
use Rattle.base.specs.Lines.{Field}
use Rattle.yds_model.specs.Entry.{Entry}
use Rattle.base.specs.Fields.{Spot, no_field}
use Rattle.yds_model.specs.Reading.{read_level, read_piece}

-- this is one field, read as this entry
pub record SaysOne (read : Field → Result Entry (Spot Reason)) (fields : List Field) (entry : Entry) : Type 0 where
  pub only : Field
  pub are : fields ≡ only ∷ []
  pub says : read only ≡ Ok entry

-- these are two fields, read as this entry
pub record SaysTwo (read : Field → Field → Result Entry (Spot Reason)) (fields : List Field) (entry : Entry) : Type 0 where
  pub first : Field
  pub second : Field
  pub are : fields ≡ first ∷ second ∷ []
  pub says : read first second ≡ Ok entry

-- these are four
pub record SaysFour (read : Field → Field → Field → Field → Result Entry (Spot Reason)) (fields : List Field) (entry : Entry) : Type 0 where
  pub first : Field
  pub second : Field
  pub third : Field
  pub fourth : Field
  pub are : fields ≡ first ∷ second ∷ third ∷ fourth ∷ []
  pub says : read first second third fourth ≡ Ok entry

-- the two fields of a level and of a piece
abbrev pub read_level_fields : Field → Field → Result Entry (Spot Reason)
read_level_fields a b = read_level (no_field ∷ a ∷ b ∷ [])

abbrev pub read_piece_fields : Field → Field → Result Entry (Spot Reason)
read_piece_fields a b = read_piece (no_field ∷ a ∷ b ∷ [])
