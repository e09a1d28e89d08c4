-- Lines and fields in parts: the steps by which a text is read and written.
use Rattle.std.proofs.Common.{◌≡◌, ◌≢◌, ℕ, ◌+◌, ◌<◌, ◌≤◌, true, false, ◌==◌, cond, List, [], ◌∷◌, ◌++◌, length, take, drop, All, refl, sym, ap, ◌∙◌, arith, ne_eqb, eq-eqb, one-add, ap₂, subst, take-append-drop, append-nil, append_assoc, not, inl, inr}
use Rattle.std.specs.List.{prefix_len, position_or_len, join_with_byte, AllByRecursion}
use Rattle.std.proofs.lemmas.Bool.{cases_Bool}
use Rattle.std.proofs.lemmas.List.Folds.{length-prefix_len}
use Rattle.std.proofs.lemmas.List.Elements.{All-nil, All-cons, All-head, All-tail, All-append}
use Rattle.base.specs.Lines.{Line, in_front, Field, lines_from, without_return, is_blank, joined, fields_from}

-- ---- lines

-- a front without line feeds, and the line feed that ends it
pub lines_from-front : (number start : ℕ) (front rest : List ℕ) → All (λ byte. byte ≢ 10) front →
    lines_from number start (front ++ 10 ∷ rest) ≡ record { number = number; start = start; text = front } ∷ lines_from (number + 1) (start + length front + 1) rest
lines_from-front number start [] rest none =
    ap (λ (place : ℕ). record { number = number; start = start; text = [] } ∷ lines_from (number + 1) place rest) (omega arith)
lines_from-front number start (byte ∷ front) rest none =
    let other : (byte == 10) ≡ false = ne_eqb byte 10 (All-head (λ byte. byte ≢ 10) byte front none) in
    let place : start + 1 + length front + 1 ≡ start + length (byte ∷ front) + 1 = omega arith in
    rw (other, lines_from-front number (start + 1) front rest (All-tail (λ byte. byte ≢ 10) byte front none), place) refl

-- a last line without its line feed
pub lines_from-last : (number start byte : ℕ) (bytes : List ℕ) → All (λ byte. byte ≢ 10) (byte ∷ bytes) →
    lines_from number start (byte ∷ bytes) ≡ record { number = number; start = start; text = byte ∷ bytes } ∷ []
lines_from-last number start byte [] none =
    rw (ne_eqb byte 10 (All-head (λ byte. byte ≢ 10) byte [] none)) refl
lines_from-last number start byte (next ∷ bytes) none =
    rw (ne_eqb byte 10 (All-head (λ byte. byte ≢ 10) byte (next ∷ bytes) none), lines_from-last number (start + 1) next bytes (All-tail (λ byte. byte ≢ 10) byte (next ∷ bytes) none)) refl

-- a byte in front makes at most one line more
length-in_front-le : (number start byte : ℕ) (lines : List Line) → length (in_front number start byte lines) ≤ length lines + 1
length-in_front-le number start byte [] = omega arith
length-in_front-le number start byte (line ∷ lines) = omega arith

-- so there are no more lines than bytes
pub length-lines_from-le : (number start : ℕ) (bytes : List ℕ) → length (lines_from number start bytes) ≤ length bytes
length-lines_from-le number start [] = omega arith
length-lines_from-le number start (byte ∷ bytes) =
    elim (cases_Bool (byte == 10)) [
      | inl feed ↦ rw feed (omega (arith, length-lines_from-le (number + 1) (start + 1) bytes))
      | inr other ↦
          rw other (omega (arith, length-in_front-le number start byte (lines_from number (start + 1) bytes), length-lines_from-le number (start + 1) bytes))
    ]

-- a written line: bytes without line feeds, and a line feed
pub lines_from-written : (number start : ℕ) (text rest : List ℕ) → All (λ byte. byte ≢ 10) text →
    lines_from number start (text ++ 10 ∷ [] ++ rest) ≡ record { number = number; start = start; text = text } ∷ lines_from (number + 1) (start + length text + 1) rest
lines_from-written number start text rest none =
    ap (lines_from number start) (append_assoc text (10 ∷ []) rest) ∙ lines_from-front number start text rest none

-- ---- carriage returns

-- one carriage return at the end goes
pub without_return-end : (front : List ℕ) → without_return (front ++ 13 ∷ []) ≡ front
without_return-end [] = refl
without_return-end (byte ∷ []) = refl
without_return-end (byte ∷ next ∷ front) = ap (λ bytes. byte ∷ bytes) (without_return-end (next ∷ front))

-- another byte at the end stays
pub without_return-other : (front : List ℕ) (byte : ℕ) → byte ≢ 13 → without_return (front ++ byte ∷ []) ≡ front ++ byte ∷ []
without_return-other [] byte other = rw (ne_eqb byte 13 other) refl
without_return-other (first ∷ []) byte other = rw (ne_eqb byte 13 other) refl
without_return-other (first ∷ next ∷ front) byte other = ap (λ bytes. first ∷ bytes) (without_return-other (next ∷ front) byte other)

-- and a text without carriage returns stays
pub without_return-none : (text : List ℕ) → All (λ byte. byte ≢ 13) text → without_return text ≡ text
without_return-none [] none = refl
without_return-none (byte ∷ []) none = rw (ne_eqb byte 13 (All-head (λ byte. byte ≢ 13) byte [] none)) refl
without_return-none (byte ∷ next ∷ text) none =
    ap (λ text. byte ∷ text) (without_return-none (next ∷ text) (All-tail (λ byte. byte ≢ 13) byte (next ∷ text) none))

-- ---- fields

-- the first of these fields stands at this column or later
abbrev pub StartsFrom : ℕ → List Field → Type 0
StartsFrom column [] = Unit {0}
StartsFrom column (field ∷ fields) = column ≤ field.column

-- a byte in front makes a field at its column
StartsFrom-joined : (column byte : ℕ) (fields : List Field) → StartsFrom column (joined column byte fields)
StartsFrom-joined column byte [] = omega arith
StartsFrom-joined column byte (field ∷ fields) =
    elim (field.column == column + 1) as (λ test. StartsFrom column (cond test (record { column = column; text = byte ∷ field.text } ∷ fields) (record { column = column; text = byte ∷ [] } ∷ field ∷ fields))) [ true ↦ omega arith | false ↦ omega arith ]

-- later than a column is later than the one before it
StartsFrom-weaker : (column : ℕ) (fields : List Field) → StartsFrom (column + 1) fields → StartsFrom column fields
StartsFrom-weaker column [] later = tt
StartsFrom-weaker column (field ∷ fields) later = omega arith

-- the fields from a column on stand there or later
pub StartsFrom-fields_from : (column : ℕ) (bytes : List ℕ) → StartsFrom column (fields_from column bytes)
StartsFrom-fields_from column [] = tt
StartsFrom-fields_from column (byte ∷ bytes) =
    elim (is_blank byte) as (λ test. StartsFrom column (cond test (fields_from (column + 1) bytes) (joined column byte (fields_from (column + 1) bytes)))) [
      | true ↦ StartsFrom-weaker column (fields_from (column + 1) bytes) (StartsFrom-fields_from (column + 1) bytes)
      | false ↦ StartsFrom-joined column byte (fields_from (column + 1) bytes)
    ]

-- a byte in front of a blank is a field
joined-apart : (column byte : ℕ) (fields : List Field) → StartsFrom (column + 1 + 1) fields →
    joined column byte fields ≡ record { column = column; text = byte ∷ [] } ∷ fields
joined-apart column byte [] later = refl
joined-apart column byte (field ∷ fields) later =
    let apart : (field.column == column + 1) ≡ false = ne_eqb field.column (column + 1) (λ (same : field.column ≡ column + 1). omega arith) in
    rw apart refl

-- a byte in front of a field
joined-next : (column byte : ℕ) (text : List ℕ) (fields : List Field) →
    joined column byte (record { column = column + 1; text = text } ∷ fields) ≡ record { column = column; text = byte ∷ text } ∷ fields
joined-next column byte text fields = rw (eq-eqb (column + 1) (column + 1) refl) refl

-- nothing, or a blank first
abbrev pub EndsField : List ℕ → Type 0
EndsField [] = Unit {0}
EndsField (byte ∷ bytes) = is_blank byte ≡ true

-- a blank at the front is passed over
fields_from-blank : (column byte : ℕ) (bytes : List ℕ) → is_blank byte ≡ true → fields_from column (byte ∷ bytes) ≡ fields_from (column + 1) bytes
fields_from-blank column byte bytes blank = rw blank refl

-- another byte is the first of a field
fields_from-full : (column byte : ℕ) (bytes : List ℕ) → is_blank byte ≡ false → fields_from column (byte ∷ bytes) ≡ joined column byte (fields_from (column + 1) bytes)
fields_from-full column byte bytes full = rw full refl

-- a field at the front, and what is after it
pub fields_from-run : (column byte : ℕ) (bytes rest : List ℕ) → All (λ byte. is_blank byte ≡ false) (byte ∷ bytes) → EndsField rest →
    fields_from column (byte ∷ bytes ++ rest) ≡ record { column = column; text = byte ∷ bytes } ∷ fields_from (column + length (byte ∷ bytes)) rest
fields_from-run column byte [] [] full ends = rw (All-head (λ byte. is_blank byte ≡ false) byte [] full) refl
fields_from-run column byte [] (blank ∷ rest) full ends =
    fields_from-full column byte (blank ∷ rest) (All-head (λ byte. is_blank byte ≡ false) byte [] full)
    ∙ ap (joined column byte) (fields_from-blank (column + 1) blank rest ends)
    ∙ joined-apart column byte (fields_from (column + 1 + 1) rest) (StartsFrom-fields_from (column + 1 + 1) rest)
    ∙ ap (λ fields. record { column = column; text = byte ∷ [] } ∷ fields) (sym (fields_from-blank (column + 1) blank rest ends))
fields_from-run column byte (next ∷ bytes) rest full ends =
    fields_from-full column byte (next ∷ bytes ++ rest) (All-head (λ byte. is_blank byte ≡ false) byte (next ∷ bytes) full)
    ∙ ap (joined column byte) (fields_from-run (column + 1) next bytes rest (All-tail (λ byte. is_blank byte ≡ false) byte (next ∷ bytes) full) ends)
    ∙ joined-next column byte (next ∷ bytes) (fields_from (column + 1 + length (next ∷ bytes)) rest)
    ∙ ap (λ (place : ℕ). record { column = column; text = byte ∷ next ∷ bytes } ∷ fields_from place rest) (omega arith)

-- one place more, in a list with one element more
drop_next : (n : ℕ) (byte : ℕ) (bytes : List ℕ) → drop (1 + n) (byte ∷ bytes) ≡ drop n bytes
drop_next n byte bytes = rw (one-add n) refl

-- the same of the front
take_next : (n : ℕ) (byte : ℕ) (bytes : List ℕ) → take (1 + n) (byte ∷ bytes) ≡ byte ∷ take n bytes
take_next n byte bytes = rw (one-add n) refl

-- blanks at the front
pub fields_from-blanks : (column : ℕ) (bytes : List ℕ) →
    fields_from column bytes ≡ fields_from (column + prefix_len is_blank bytes) (drop (prefix_len is_blank bytes) bytes)
fields_from-blanks column [] = refl
fields_from-blanks column (byte ∷ bytes) =
    elim (cases_Bool (is_blank byte)) [
      | inl blank ↦
          let blanks : prefix_len is_blank (byte ∷ bytes) ≡ 1 + prefix_len is_blank bytes = rw blank refl in
          fields_from-blank column byte bytes blank
          ∙ fields_from-blanks (column + 1) bytes
          ∙ ap₂ fields_from (omega arith) (sym (drop_next (prefix_len is_blank bytes) byte bytes))
          ∙ ap (λ (n : ℕ). fields_from (column + n) (drop n (byte ∷ bytes))) (sym blanks)
      | inr full ↦
          let none : prefix_len is_blank (byte ∷ bytes) ≡ 0 = rw full refl in
          ap (λ (place : ℕ). fields_from place (byte ∷ bytes)) (omega arith)
          ∙ ap (λ (n : ℕ). fields_from (column + n) (drop n (byte ∷ bytes))) (sym none)
    ]

-- up to the first blank no byte is one, and what is left begins with it
full_before : (bytes : List ℕ) → All (λ byte. is_blank byte ≡ false) (take (position_or_len is_blank bytes) bytes)
full_before [] = All-nil (λ byte. is_blank byte ≡ false)
full_before (byte ∷ bytes) =
    elim (cases_Bool (is_blank byte)) [
      | inl blank ↦
          let none : position_or_len is_blank (byte ∷ bytes) ≡ 0 = rw blank refl in
          subst (λ (n : ℕ). All (λ byte. is_blank byte ≡ false) (take n (byte ∷ bytes))) (sym none) (All-nil (λ byte. is_blank byte ≡ false))
      | inr full ↦
          let more : position_or_len is_blank (byte ∷ bytes) ≡ 1 + position_or_len is_blank bytes = rw full refl in
          let P : List ℕ → Type 0 = All (λ byte. is_blank byte ≡ false) in
          subst P (sym (ap (λ (n : ℕ). take n (byte ∷ bytes)) more ∙ take_next (position_or_len is_blank bytes) byte bytes))
          (All-cons (λ byte. is_blank byte ≡ false) byte (take (position_or_len is_blank bytes) bytes) full (full_before bytes))
    ]

-- what is left begins with a blank, or is nothing
blank_after : (bytes : List ℕ) → EndsField (drop (position_or_len is_blank bytes) bytes)
blank_after [] = tt
blank_after (byte ∷ bytes) =
    elim (cases_Bool (is_blank byte)) [
      | inl blank ↦
          let none : position_or_len is_blank (byte ∷ bytes) ≡ 0 = rw blank refl in
          subst (λ (n : ℕ). EndsField (drop n (byte ∷ bytes))) (sym none) blank
      | inr full ↦
          let more : position_or_len is_blank (byte ∷ bytes) ≡ 1 + position_or_len is_blank bytes = rw full refl in
          subst EndsField (sym (ap (λ (n : ℕ). drop n (byte ∷ bytes)) more ∙ drop_next (position_or_len is_blank bytes) byte bytes)) (blank_after bytes)
    ]

-- the first field of bytes that don't begin with a blank
pub fields_from-first : (column : ℕ) (bytes : List ℕ) → 0 < position_or_len is_blank bytes →
    fields_from column bytes ≡ record { column = column; text = take (position_or_len is_blank bytes) bytes }
    ∷ fields_from (column + position_or_len is_blank bytes) (drop (position_or_len is_blank bytes) bytes)
fields_from-first column [] some = absurd (omega arith)
fields_from-first column (byte ∷ bytes) some =
    elim (cases_Bool (is_blank byte)) [
      | inl blank ↦
          let none : position_or_len is_blank (byte ∷ bytes) ≡ 0 = rw blank refl in
          absurd (omega arith)
      | inr full ↦
          let more : position_or_len is_blank (byte ∷ bytes) ≡ 1 + position_or_len is_blank bytes = rw full refl in
          let long : length (take (position_or_len is_blank bytes) bytes) ≡ position_or_len is_blank bytes = length-prefix_len (λ byte. not (is_blank byte)) bytes in
          ap (λ text. fields_from column (byte ∷ text)) (sym (take-append-drop (position_or_len is_blank bytes) bytes))
          ∙ fields_from-run column byte (take (position_or_len is_blank bytes) bytes) (drop (position_or_len is_blank bytes) bytes)
          (All-cons (λ byte. is_blank byte ≡ false) byte (take (position_or_len is_blank bytes) bytes) full (full_before bytes)) (blank_after bytes)
          ∙ ap₂ (λ (text : List ℕ) (fields : List Field). record { column = column; text = text } ∷ fields)
          (sym (take_next (position_or_len is_blank bytes) byte bytes))
          (ap₂ fields_from (omega arith) (sym (drop_next (position_or_len is_blank bytes) byte bytes)))
          ∙ ap (λ (n : ℕ). record { column = column; text = take n (byte ∷ bytes) } ∷ fields_from (column + n) (drop n (byte ∷ bytes))) (sym more)
    ]

-- with no field after them, the blanks at the front are all
pub drop_blanks-none : (bytes : List ℕ) → position_or_len is_blank (drop (prefix_len is_blank bytes) bytes) ≡ 0 →
    drop (prefix_len is_blank bytes) bytes ≡ []
drop_blanks-none [] none = refl
drop_blanks-none (byte ∷ bytes) none =
    elim (cases_Bool (is_blank byte)) [
      | inl blank ↦
          let blanks : prefix_len is_blank (byte ∷ bytes) ≡ 1 + prefix_len is_blank bytes = rw blank refl in
          let rest : drop (prefix_len is_blank (byte ∷ bytes)) (byte ∷ bytes) ≡ drop (prefix_len is_blank bytes) bytes =
          ap (λ (n : ℕ). drop n (byte ∷ bytes)) blanks ∙ drop_next (prefix_len is_blank bytes) byte bytes in
          rest ∙ drop_blanks-none bytes (sym (ap (position_or_len is_blank) rest) ∙ none)
      | inr full ↦
          let blanks : prefix_len is_blank (byte ∷ bytes) ≡ 0 = rw full refl in
          let some : position_or_len is_blank (byte ∷ bytes) ≡ 1 + position_or_len is_blank bytes = rw full refl in
          let same : position_or_len is_blank (drop (prefix_len is_blank (byte ∷ bytes)) (byte ∷ bytes)) ≡ position_or_len is_blank (byte ∷ bytes) =
          ap (λ (n : ℕ). position_or_len is_blank (drop n (byte ∷ bytes))) blanks in
          absurd (omega arith)
    ]

-- a field and the space after it
pub fields_from-front : (column : ℕ) (field rest : List ℕ) → 0 < length field → All (λ byte. is_blank byte ≡ false) field →
    fields_from column (field ++ 32 ∷ rest) ≡ record { column = column; text = field } ∷ fields_from (column + length field + 1) rest
fields_from-front column [] rest some full = absurd (omega arith)
fields_from-front column (byte ∷ field) rest some full = fields_from-run column byte field (32 ∷ rest) full refl

-- a field with nothing after it
pub fields_from-last : (column : ℕ) (field : List ℕ) → 0 < length field → All (λ byte. is_blank byte ≡ false) field →
    fields_from column field ≡ record { column = column; text = field } ∷ []
fields_from-last column [] some full = absurd (omega arith)
fields_from-last column (byte ∷ field) some full =
    ap (λ bytes. fields_from column (byte ∷ bytes)) (sym (append-nil field)) ∙ fields_from-run column byte field [] full tt

-- a byte in front makes at most one field more
length-joined-le : (column byte : ℕ) (fields : List Field) → length (joined column byte fields) ≤ length fields + 1
length-joined-le column byte [] = omega arith
length-joined-le column byte (field ∷ fields) =
    elim (field.column == column + 1) as (λ test. length (cond test (record { column = column; text = byte ∷ field.text } ∷ fields) (record { column = column; text = byte ∷ [] } ∷ field ∷ fields)) ≤ length (field ∷ fields) + 1) [ true ↦ omega arith | false ↦ omega arith ]

-- so there are no more fields than bytes
pub length-fields_from-le : (column : ℕ) (bytes : List ℕ) → length (fields_from column bytes) ≤ length bytes
length-fields_from-le column [] = omega arith
length-fields_from-le column (byte ∷ bytes) =
    elim (cases_Bool (is_blank byte)) [
      | inl blank ↦ rw blank (omega (arith, length-fields_from-le (column + 1) bytes))
      | inr full ↦
          rw full (omega (arith, length-joined-le column byte (fields_from (column + 1) bytes), length-fields_from-le (column + 1) bytes))
    ]

-- what holds of each byte of these fields, and of a space, holds of them with one space between
pub All-join : (P : ℕ → Type 0) (fields : List (List ℕ)) → P 32 → AllByRecursion (All P) fields → All P (join_with_byte 32 fields)
All-join P [] space all = All-nil P
All-join P (field ∷ []) space all = all.0
All-join P (field ∷ next ∷ fields) space all =
    All-append P field (32 ∷ join_with_byte 32 (next ∷ fields)) all.0
    (All-cons P 32 (join_with_byte 32 (next ∷ fields)) space (All-join P (next ∷ fields) space all.1))

-- these bytes as fields with one space between, from this column on
abbrev pub spaced : ℕ → List (List ℕ) → List Field
spaced column [] = []
spaced column (text ∷ texts) = record { column = column; text = text } ∷ spaced (column + length text + 1) texts

-- bytes that are a field
pub record IsFull (text : List ℕ) : Type 0 where
  pub some : 0 < length text
  pub full : All (λ byte. is_blank byte ≡ false) text

-- texts with one blank between are read as these fields
pub fields_from-join : (column : ℕ) (texts : List (List ℕ)) → AllByRecursion IsFull texts → fields_from column (join_with_byte 32 texts) ≡ spaced column texts
fields_from-join column [] full = refl
fields_from-join column (text ∷ []) full = fields_from-last column text full.0.some full.0.full
fields_from-join column (text ∷ next ∷ texts) full =
    fields_from-front column text (join_with_byte 32 (next ∷ texts)) full.0.some full.0.full
    ∙ ap (λ fields. record { column = column; text = text } ∷ fields) (fields_from-join (column + length text + 1) (next ∷ texts) full.1)
