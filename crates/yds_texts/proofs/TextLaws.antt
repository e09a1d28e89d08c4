-- The laws of lines and fields: each is a slice, and begins beyond the one before.
use Rattle.yds_model.proofs.Common.{◌≡◌, ℕ, ◌+◌, ◌≤◌, ◌==◌, List, [], ◌∷◌, length, take, drop, refl, sym, ap, ◌∙◌, arith, inl, inr, eqb-true, drop-drop, take-take, map, AllByRecursion, cases_Bool, eqb-false, All-from_recursion, Line, Field, in_front, lines_from, without_return, trimmed, is_blank, joined, fields_from}
use Rattle.yds_texts.specs.TextLaws.{IsLineSlice, LinesRise, LinesAreSlices, IsFieldSlice, FieldsRise, FieldsAreSlices}

-- one byte further in the whole
rest_after : (start byte : ℕ) (whole bytes : List ℕ) → drop start whole ≡ byte ∷ bytes → drop (start + 1) whole ≡ bytes
rest_after start byte whole bytes here = sym (drop-drop 1 start whole) ∙ ap (drop 1) here

-- ---- lines

-- the first of these lines, if there is one, begins here
abbrev FirstAt : ℕ → List Line → Type 0
FirstAt start [] = Unit {0}
FirstAt start (line ∷ lines) = line.start ≡ start

-- a byte in front of lines begins the first one
FirstAt-in_front : (number start byte : ℕ) (lines : List Line) → FirstAt start (in_front number start byte lines)
FirstAt-in_front number start byte [] = refl
FirstAt-in_front number start byte (line ∷ lines) = refl

-- so the lines from a place on begin there
FirstAt-lines_from : (number start : ℕ) (bytes : List ℕ) → FirstAt start (lines_from number start bytes)
FirstAt-lines_from number start [] = tt
FirstAt-lines_from number start (byte ∷ bytes) =
    elim (cases_Bool (byte == 10)) [
      | inl feed ↦ rw feed refl
      | inr other ↦ rw other (FirstAt-in_front number start byte (lines_from number (start + 1) bytes))
    ]

-- lines that are slices still are with a byte in front
slices_in_front : (number start byte : ℕ) (whole bytes : List ℕ) (lines : List Line) → drop start whole ≡ byte ∷ bytes →
    FirstAt (start + 1) lines → AllByRecursion (IsLineSlice whole) lines → AllByRecursion (IsLineSlice whole) (in_front number start byte lines)
slices_in_front number start byte whole bytes [] here first slices = (ap (take 1) (sym here), tt)
slices_in_front number start byte whole bytes (line ∷ lines) here first slices =
    let rest : drop line.start whole ≡ bytes = ap (λ (n : ℕ). drop n whole) first ∙ rest_after start byte whole bytes here in
    let more : byte ∷ line.text ≡ take (length (byte ∷ line.text)) (byte ∷ bytes) =
    ap (λ text. byte ∷ text) (slices.0 ∙ ap (take (length line.text)) rest) in
    (more ∙ ap (take (length (byte ∷ line.text))) (sym here), slices.1)

-- so the lines from a place on are slices
slices_from : (number start : ℕ) (whole bytes : List ℕ) → drop start whole ≡ bytes → AllByRecursion (IsLineSlice whole) (lines_from number start bytes)
slices_from number start whole [] here = tt
slices_from number start whole (byte ∷ bytes) here =
    elim (cases_Bool (byte == 10)) [
      | inl feed ↦ rw feed (refl, slices_from (number + 1) (start + 1) whole bytes (rest_after start byte whole bytes here))
      | inr other ↦
          rw other (slices_in_front number start byte whole bytes (lines_from number (start + 1) bytes) here
          (FirstAt-lines_from number (start + 1) bytes) (slices_from number (start + 1) whole bytes (rest_after start byte whole bytes here)))
    ]

-- a line without its carriage return is a front of it
without_return-front : (text : List ℕ) → (length (without_return text) ≤ length text) × (without_return text ≡ take (length (without_return text)) text)
without_return-front [] = (omega arith, refl)
without_return-front (byte ∷ []) =
    elim (cases_Bool (byte == 13)) [
      | inl return ↦ rw return (omega arith, refl)
      | inr other ↦ rw other (omega arith, refl)
    ]
without_return-front (byte ∷ next ∷ text) =
    let front = without_return-front (next ∷ text) in (omega arith, ap (λ text. byte ∷ text) front.1)

-- so it is a slice too
slice_trimmed : (whole : List ℕ) (line : Line) → IsLineSlice whole line → IsLineSlice whole (trimmed line)
slice_trimmed whole line slice =
    let front = without_return-front line.text in
    front.1 ∙ ap (take (length (without_return line.text))) slice ∙ take-take (length (without_return line.text)) (length line.text) (drop line.start whole) front.0

-- and all are
slices_trimmed : (whole : List ℕ) (lines : List Line) → AllByRecursion (IsLineSlice whole) lines → AllByRecursion (IsLineSlice whole) (map trimmed lines)
slices_trimmed whole [] slices = tt
slices_trimmed whole (line ∷ lines) slices = (slice_trimmed whole line slices.0, slices_trimmed whole lines slices.1)

-- lines that rise from a place on do so from each earlier one
LinesRise-lower : (low high : ℕ) (lines : List Line) → low ≤ high → LinesRise high lines → LinesRise low lines
LinesRise-lower low high [] lower rise = tt
LinesRise-lower low high (line ∷ lines) lower rise = (omega arith, rise.1)

-- lines that rise still do with a byte in front
rise_in_front : (number start byte : ℕ) (lines : List Line) → FirstAt (start + 1) lines → LinesRise (start + 1) lines → LinesRise start (in_front number start byte lines)
rise_in_front number start byte [] first rise = (omega arith, tt)
rise_in_front number start byte (line ∷ lines) first rise =
    (omega arith, LinesRise-lower (start + length (byte ∷ line.text) + 1) (line.start + length line.text + 1) lines (omega arith) rise.1)

-- so the lines from a place on rise
rise_from : (number start : ℕ) (bytes : List ℕ) → LinesRise start (lines_from number start bytes)
rise_from number start [] = tt
rise_from number start (byte ∷ bytes) =
    elim (cases_Bool (byte == 10)) [
      | inl feed ↦ rw feed (omega arith, LinesRise-lower (start + 0 + 1) (start + 1) (lines_from (number + 1) (start + 1) bytes) (omega arith) (rise_from (number + 1) (start + 1) bytes))
      | inr other ↦
          rw other (rise_in_front number start byte (lines_from number (start + 1) bytes) (FirstAt-lines_from number (start + 1) bytes) (rise_from number (start + 1) bytes))
    ]

-- and they rise without carriage returns
rise_trimmed : (start : ℕ) (lines : List Line) → LinesRise start lines → LinesRise start (map trimmed lines)
rise_trimmed start [] rise = tt
rise_trimmed start (line ∷ lines) rise =
    let front = without_return-front line.text in (
      rise.0,
      LinesRise-lower (line.start + length (without_return line.text) + 1) (line.start + length line.text + 1) (map trimmed lines) (omega arith)
          (rise_trimmed (line.start + length line.text + 1) lines rise.1),
    )

-- the law of both
pub lines_are_slices : LinesAreSlices
lines_are_slices bytes = (
  All-from_recursion (IsLineSlice bytes) (map trimmed (lines_from 1 0 bytes)) (slices_trimmed bytes (lines_from 1 0 bytes) (slices_from 1 0 bytes bytes refl)),
  rise_trimmed 0 (lines_from 1 0 bytes) (rise_from 1 0 bytes),
)

-- ---- fields

-- the byte here as a field
one_byte : (before byte : ℕ) (whole bytes : List ℕ) → drop before whole ≡ byte ∷ bytes → IsFieldSlice whole (record { column = before + 1; text = byte ∷ [] })
one_byte before byte whole bytes here other same =
    let place : before ≡ other = omega arith in ap (take 1) (sym here) ∙ ap (λ (n : ℕ). take 1 (drop n whole)) place

-- and in front of a field
more_bytes : (before byte : ℕ) (whole bytes : List ℕ) (field : Field) → drop before whole ≡ byte ∷ bytes → field.column ≡ before + 1 + 1 →
    IsFieldSlice whole field → IsFieldSlice whole (record { column = before + 1; text = byte ∷ field.text })
more_bytes before byte whole bytes field here next slice other same = grind (arith, rest_after)

-- fields that are slices still are with a byte in front
slices_joined : (before byte : ℕ) (whole bytes : List ℕ) (fields : List Field) → drop before whole ≡ byte ∷ bytes →
    AllByRecursion (IsFieldSlice whole) fields → AllByRecursion (IsFieldSlice whole) (joined (before + 1) byte fields)
slices_joined before byte whole bytes [] here slices = (one_byte before byte whole bytes here, tt)
slices_joined before byte whole bytes (field ∷ fields) here slices =
    elim (cases_Bool (field.column == before + 1 + 1)) [
      | inl next ↦ rw next (more_bytes before byte whole bytes field here (eqb-true field.column (before + 1 + 1) next) slices.0, slices.1)
      | inr apart ↦ rw apart (one_byte before byte whole bytes here, slices)
    ]

-- so the fields from a place on are slices
field_slices : (before : ℕ) (whole bytes : List ℕ) → drop before whole ≡ bytes → AllByRecursion (IsFieldSlice whole) (fields_from (before + 1) bytes)
field_slices before whole [] here = tt
field_slices before whole (byte ∷ bytes) here =
    let rest = field_slices (before + 1) whole bytes (rest_after before byte whole bytes here) in
    elim (cases_Bool (is_blank byte)) [
      | inl blank ↦ rw blank rest
      | inr full ↦ rw full (slices_joined before byte whole bytes (fields_from (before + 1 + 1) bytes) here rest)
    ]

-- fields that rise from a column on do so from each earlier one
FieldsRise-lower : (low high : ℕ) (fields : List Field) → low ≤ high → FieldsRise high fields → FieldsRise low fields
FieldsRise-lower low high [] lower rise = tt
FieldsRise-lower low high (field ∷ fields) lower rise = (omega arith, rise.1)

-- fields that rise still do with a byte in front
rise_joined : (column byte : ℕ) (fields : List Field) → FieldsRise (column + 1) fields → FieldsRise column (joined column byte fields)
rise_joined column byte [] rise = (omega arith, tt)
rise_joined column byte (field ∷ fields) rise =
    elim (cases_Bool (field.column == column + 1)) [
      | inl next ↦
          let place : field.column ≡ column + 1 = eqb-true field.column (column + 1) next in
          rw next (omega arith, FieldsRise-lower (column + length (byte ∷ field.text) + 1) (field.column + length field.text + 1) fields (omega arith) rise.1)
      | inr apart ↦
          let beyond : field.column ≡ column + 1 → ⊥ = eqb-false field.column (column + 1) apart in
          rw apart (omega arith, (omega arith, rise.1))
    ]

-- so the fields from a column on rise
field_rise : (column : ℕ) (bytes : List ℕ) → FieldsRise column (fields_from column bytes)
field_rise column [] = tt
field_rise column (byte ∷ bytes) =
    let rest = field_rise (column + 1) bytes in
    elim (cases_Bool (is_blank byte)) [
      | inl blank ↦ rw blank (FieldsRise-lower column (column + 1) (fields_from (column + 1) bytes) (omega arith) rest)
      | inr full ↦ rw full (rise_joined column byte (fields_from (column + 1) bytes) rest)
    ]

-- the law of both
pub fields_are_slices : FieldsAreSlices
fields_are_slices text = (
  All-from_recursion (IsFieldSlice text) (fields_from (0 + 1) text) (field_slices 0 text text refl),
  field_rise 1 text,
)
