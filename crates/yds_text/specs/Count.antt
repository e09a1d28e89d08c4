-- What a reader of a line's fields returned, against their count by the definition. The definition takes the reason for which
-- a wrong count is refused; here none is given.
use Rattle.std.specs.Prelude.{◌≡◌, ◌≤◌, length, ℕ, List, [], ◌∷◌, true, Result, Ok, Err}
use Rattle.base.specs.Lines.{Field}
use Rattle.base.specs.Fields.{field_at, count_fields}
use Rattle.yds_text.specs.declared.count.FieldCount.{FieldCount}
use Rattle.yds_text.specs.declared.field.Field.{Field as FieldRead}
use Rattle.yds_text.specs.Read.{field_read}

abbrev pub no_reason : Unit {0}
no_reason = tt

-- so many fields stand after the first, and they are these, or their count is refused there
abbrev pub Counts : {X : Type 0} → (X → List Field) → Result X FieldCount → ℕ → List Field → Type 0
Counts view (Ok x) wanted fields = (fields ≡ view x) × (count_fields no_reason wanted fields ≡ Ok true)
Counts view (Err fault) wanted fields = count_fields no_reason wanted fields ≡ Err (record { column = fault.column; reason = no_reason })

-- the next of these fields was read, or there is none and the column after the last one is refused
abbrev pub ReadsNext : Result FieldRead FieldCount → ℕ → List Field → List Field → Type 0
ReadsNext (Ok field) past old new = old ≡ field_read field ∷ new
ReadsNext (Err fault) past old new = (old ≡ []) × (fault.column ≡ past)

-- no field is left, or the first of them is refused
abbrev pub EndsThere : Result (Unit {0}) FieldCount → List Field → Type 0
EndsThere (Ok done) fields = fields ≡ []
EndsThere (Err fault) fields = (1 ≤ length fields) × (fault.column ≡ (field_at fields 0).column)
