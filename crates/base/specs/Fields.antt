-- What the fields of a line are tried for, whatever the reasons are for which a line is refused: documents of jobs and of
-- tasks are read by the same words.
use Rattle.std.specs.Prelude.{ℕ, ◌+◌, ◌-◌, List, [], length, Result, Ok, Err, Bool, nat_lt, ◌==◌, if◌then◌else◌}
use Rattle.std.specs.List.{slice_index_or}
use Rattle.base.specs.declared.number_fault.NumberFault.{NumberFault}
use Rattle.base.specs.Lines.{Field}

-- where an input is refused, and why; lines, and columns in bytes, count from 1
pub record Fault (Reason : Type 0) : Type 0 where
  pub line : ℕ
  pub column : ℕ
  pub reason : Reason

-- the same within a line
pub record Spot (Reason : Type 0) : Type 0 where
  pub column : ℕ
  pub reason : Reason

infixl 10 ◌>>=◌
abbrev pub ◌>>=◌ : {R A B : Type 0} → Result A (Spot R) → (A → Result B (Spot R)) → Result B (Spot R)
(Ok x) >>= next = next x
(Err spot) >>= next = Err spot

abbrev pub refuse : {R A : Type 0} → ℕ → R → Result A (Spot R)
refuse column reason = Err (record { column = column; reason = reason })

-- goes on only where the test holds
abbrev pub demand : {R : Type 0} → Bool → ℕ → R → Result Bool (Spot R)
demand test column reason = if test then Ok test else refuse column reason

abbrev pub no_field : Field
no_field = record { column = 0; text = [] }

abbrev pub field_at : List Field → ℕ → Field
field_at fields i = slice_index_or fields i no_field

-- the column after the field's last byte
abbrev pub past_end : Field → ℕ
past_end field = field.column + length field.text

-- just so many fields stand after the kind: else the first one too many is named, or the byte after the last one's end
abbrev pub count_fields : {R : Type 0} → R → ℕ → List Field → Result Bool (Spot R)
count_fields reason wanted fields =
    if nat_lt (wanted + 1) (length fields) then refuse (field_at fields (wanted + 1)).column reason
    else demand (length fields == wanted + 1) (past_end (field_at fields (length fields - 1))) reason

-- a number that isn't spelled or isn't in range is refused at its field, for the reason that stands for the fault
abbrev pub in_field : {R A : Type 0} → (NumberFault → R) → Field → Result A NumberFault → Result A (Spot R)
in_field reason_of field (Ok x) = Ok x
in_field reason_of field (Err fault) = refuse field.column (reason_of fault)

-- what a line says, or its fault on the line of this number
abbrev pub on_line : {R A : Type 0} → ℕ → Result A (Spot R) → Result A (Fault R)
on_line number (Ok x) = Ok x
on_line number (Err spot) = Err (record { line = number; column = spot.column; reason = spot.reason })
