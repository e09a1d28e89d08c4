-- What a reader of a field or of a line returned, against what the definition of reading says there; and what a name says
-- by the names of the jobs before it.
use Rattle.std.specs.Prelude.{◌≡◌, ℕ, List, Some, None, is_none, Result, Ok, Err}
use Rattle.base.specs.Lines.{Field}
use Rattle.base.specs.Spelling.{is_name}
use Rattle.yds_model.specs.declared.reason.Reason.{Reason}
use Rattle.yds_model.specs.declared.reason.Reason.TheVariants as reasons
use Rattle.base.specs.Fields.{Spot, ◌>>=◌, refuse, demand}
use Rattle.yds_instance.specs.Named.{number_of}
use Rattle.yds_text.specs.declared.count.FieldCount.{FieldCount}
use Rattle.document_reader.specs.declared.field_fault.FieldFault.{FieldFault}
use Rattle.document_reader.specs.declared.line_fault.LineFault.{LineFault}
use Rattle.document_reader.specs.declared.line_fault.LineFault.TheVariants as faults

-- the definition says this fault, unless memory ran out
abbrev pub Fails : {Y : Type 0} → LineFault → Result Y (Spot Reason) → Type 0
Fails (faults.At column reason) read = read ≡ Err (record { column = column; reason = reason })
Fails faults.Memory read = Unit {0}

-- what a reader of fields returned, seen by `view`, is what the definition says
abbrev pub Gives : {X Y : Type 0} → (X → Y) → Result X FieldFault → Result Y (Spot Reason) → Type 0
Gives view (Ok x) read = read ≡ Ok (view x)
Gives view (Err fault) read = read ≡ Err (record { column = fault.column; reason = fault.reason })

-- the same of what takes memory, unless it ran out
abbrev pub GivesUnlessMemory : {X Y : Type 0} → (X → Y) → Result X LineFault → Result Y (Spot Reason) → Type 0
GivesUnlessMemory view (Ok x) read = read ≡ Ok (view x)
GivesUnlessMemory view (Err fault) read = Fails fault read

-- the fault of a line whose fields have this one
abbrev pub line_fault_of : FieldFault → LineFault
line_fault_of field = faults.At field.column field.reason

-- the fault of a line of too many or too few fields
abbrev pub count_fault : FieldCount → FieldFault
count_fault count = record { column = count.column; reason = reasons.FieldCount }

-- a name that is none of these
abbrev pub new_name_of : List (List ℕ) → Field → Result (List ℕ) (Spot Reason)
new_name_of names field = do
  named ← demand (is_name field.text) field.column reasons.BadName
  new ← demand (is_none (number_of names field.text)) field.column reasons.DuplicateName
  Ok field.text

-- the number of this name
abbrev pub known_job_of : List (List ℕ) → Field → Result ℕ (Spot Reason)
known_job_of names field = do
  named ← demand (is_name field.text) field.column reasons.BadName
  elim (number_of names field.text) [ None ↦ refuse field.column reasons.UnknownName | Some job ↦ Ok job ]
