-- What a step of reading says where it succeeds.
use Rattle.yds_model.proofs.Common.{◌≡◌, ℕ, ◌<◌, ◌≤◌, Bool, true, false, ◌==◌, nat_le, List, [], ◌∷◌, ◌++◌, length, Option, Some, None, Result, Ok, Err, refl, sym, ap, subst, ◌∙◌, arith, inl, inr, is_none, eqb-true, digits_value, bytes_eq, filter_map, position-Some, and_parts, leb-true, cases_Bool, Fraction, of_whole, Line, Field, is_number, is_mixed, mixed_of, kept, number_at, fraction_at, is_name, Entry, name_said, job_named, first_of_them, Spot, ◌>>=◌, refuse, demand, field_at, count_fields, in_field, Kind, kind_of, fields_wanted, may_follow, has_room, reason_of, number_in, fraction_in, new_name, known_job, read_kind, read_fields, IsFraction}
use Rattle.base.specs.declared.number_fault.NumberFault.{NumberFault}
use Rattle.base.specs.declared.number_fault.NumberFault.TheVariants as faults
use Rattle.yds_model.specs.declared.reason.Reason.{Reason}
use Rattle.yds_model.specs.declared.reason.Reason.TheVariants as reasons
use Rattle.base.specs.Fields.{on_line}

-- ---- steps one after another

-- the result is this value
abbrev Gives : (X E : Type 0) → Result X E → X → Type 0
Gives X E result x = result ≡ Ok x

-- a demand that is met has its test pass
pub demand_ok : {R : Type 0} (test : Bool) (column : ℕ) (reason : R) (b : Bool) → demand test column reason ≡ Ok b → test ≡ true
demand_ok true column reason b is = refl
demand_ok false column reason b is = absurd (cc)

-- where a step and what comes after it succeed, the step gave a value and the rest the entry
pub one_step : {R X A : Type 0} (m : Result A (Spot R)) (after : A → Result X (Spot R)) (entry : X) → (m >>= after) ≡ Ok entry →
    (a : A) × (m ≡ Ok a) × (after a ≡ Ok entry)
one_step (Ok a) after entry is = (a, refl, is)
one_step (Err spot) after entry is = absurd (cc)

-- the same of two steps
pub two_steps : {R X A B : Type 0} (m : Result A (Spot R)) (n : Result B (Spot R)) (after : A → B → Result X (Spot R)) (entry : X) →
    (m >>= (λ a. n >>= (λ b. after a b))) ≡ Ok entry → (a : A) × (b : B) × (m ≡ Ok a) × (n ≡ Ok b) × (after a b ≡ Ok entry)
two_steps (Ok a) (Ok b) after entry is = (a, b, refl, refl, is)
two_steps (Ok a) (Err spot) after entry is = absurd (cc)
two_steps (Err spot) n after entry is = absurd (cc)

-- and of four
pub four_steps : {R X A B C D : Type 0} (m : Result A (Spot R)) (n : Result B (Spot R)) (o : Result C (Spot R)) (p : Result D (Spot R)) (after : A → B → C → D → Result X (Spot R)) (entry : X) →
    (m >>= (λ a. n >>= (λ b. o >>= (λ c. p >>= (λ d. after a b c d))))) ≡ Ok entry →
    (a : A) × (b : B) × (c : C) × (d : D) × (m ≡ Ok a) × (n ≡ Ok b) × (o ≡ Ok c) × (p ≡ Ok d) × (after a b c d ≡ Ok entry)
four_steps m n o p after entry is = grind arith

-- what was made is the entry
pub entry_made : (made entry : Entry) → Gives Entry (Spot Reason) (Ok made) entry → made ≡ entry
entry_made made entry is = cc

-- ---- numbers, fractions and names

-- a number that a field gives is the one that its text was read as
pub in_field_ok : {R A : Type 0} (reason_of : NumberFault → R) (field : Field) (read : Result A NumberFault) (x : A) → in_field reason_of field read ≡ Ok x → read ≡ Ok x
in_field_ok reason_of field (Ok y) x is = let same : y ≡ x = cc in ap Ok same
in_field_ok reason_of field (Err fault) x is = absurd (cc)

-- a number that is read lies within its limits
pub number_at_ok : (least most : ℕ) (text : List ℕ) (x : ℕ) → number_at least most text ≡ Ok x → (least ≤ x) × (x ≤ most)
number_at_ok least most text x is = grind (arith, and_parts, cases_Bool, leb-true, nat_le)

-- and so does one that a field gives
pub number_ok : (least most : ℕ) (field : Field) (x : ℕ) → number_in least most field ≡ Ok x → (least ≤ x) × (x ≤ most)
number_ok least most field x is = number_at_ok least most field.text x (in_field_ok reason_of field (number_at least most field.text) x is)

-- a whole number within the limit is a fraction within it
pub whole_fits : (most whole : ℕ) → whole ≤ most → IsFraction most (of_whole whole)
whole_fits most whole within = record { whole_in_range = within; below_one = omega arith; den_in_range = omega arith; whole_is_plain = λ none. refl }

-- a fraction that is kept is within its limits
kept_ok : (most : ℕ) (y x : Fraction) → kept most y ≡ Ok x → IsFraction most x
kept_ok most y x is = grind arith

-- so one that is read is
fraction_at_ok : (most : ℕ) (text : List ℕ) (x : Fraction) → fraction_at most text ≡ Ok x → IsFraction most x
fraction_at_ok most text x is =
    elim (cases_Bool (is_number text)) [
      | inl number ↦ kept_ok most (of_whole (digits_value 10 text)) x (rw number at is)
      | inr other ↦ elim (cases_Bool (is_mixed text)) [
        | inl mixed ↦ kept_ok most (mixed_of text) x (rw (other, mixed) at is)
        | inr neither ↦ let failed : Gives Fraction NumberFault (Err faults.BadNumber) x = rw (other, neither) at is in absurd (cc)
      ]
    ]

-- and so is one that a field gives
pub fraction_ok : (most : ℕ) (field : Field) (x : Fraction) → fraction_in most field ≡ Ok x → IsFraction most x
fraction_ok most field x is = fraction_at_ok most field.text x (in_field_ok reason_of field (fraction_at most field.text) x is)

-- where both demands on a name are met, it is the field's text
name_from : (earlier : List Entry) (field : Field) (x : List ℕ) (named new : Bool) (first second : ℕ) (bad double : Reason) →
    (demand named first bad >>= (λ one. demand new second double >>= (λ two. Ok field.text))) ≡ Ok x → (named ≡ true) × (new ≡ true) × (field.text ≡ x)
name_from earlier field x true true first second bad double is = (refl, refl, cc)
name_from earlier field x true false first second bad double is = absurd (cc)
name_from earlier field x false new first second bad double is = absurd (cc)

-- an option that is tested to be `None` is
none_is : {X : Type 0} (o : Option X) → is_none o ≡ true → o ≡ None
none_is None is = refl
none_is (Some x) is = absurd (cc)

-- a new name is a name, and no job has it
pub name_ok : (earlier : List Entry) (field : Field) (name : List ℕ) → new_name earlier field ≡ Ok name → (is_name name ≡ true) × (job_named earlier name ≡ None)
name_ok earlier field name is =
    let parts = name_from earlier field name (is_name field.text) (is_none (job_named earlier field.text)) field.column field.column reasons.BadName reasons.DuplicateName is in
    (subst (λ name. is_name name ≡ true) parts.2 parts.0, subst (λ name. job_named earlier name ≡ None) parts.2 (none_is (job_named earlier field.text) parts.1))

-- a number that is given where a name has one is that name's
known_from : (number : Option ℕ) (named : Bool) (job column other : ℕ) (bad unknown : Reason) →
    (demand named column bad >>= (λ one. elim number [ None ↦ refuse other unknown | Some job ↦ Ok job ])) ≡ Ok job → number ≡ Some job
known_from None true job column other bad unknown is = absurd (cc)
known_from (Some known) true job column other bad unknown is = let same : known ≡ job = cc in ap Some same
known_from number false job column other bad unknown is = absurd (cc)

-- a job that is known is one of those that were named
pub known_ok : (earlier : List Entry) (field : Field) (job : ℕ) → known_job earlier field ≡ Ok job → job < length (filter_map name_said earlier)
known_ok earlier field job is =
    let number : job_named earlier field.text ≡ Some job = known_from (job_named earlier field.text) (is_name field.text) job field.column field.column reasons.BadName reasons.UnknownName is in
    (position-Some (λ other. bytes_eq other field.text) (filter_map name_said earlier) job [] number).0

-- ---- a line

-- an entry of a line is one of its kind, for which there is room and which may stand there
room_from : (earlier : List Entry) (fields : List Field) (entry : Entry) (kind : Option Kind) →
    Gives Entry (Spot Reason) (elim kind [
      | None ↦ refuse (field_at fields 0).column reasons.UnknownKind
      | Some kind ↦ do
        placed ← demand (may_follow kind earlier) (field_at fields 0).column reasons.Misplaced
        room ← demand (has_room kind earlier) (field_at fields 0).column reasons.TooMany
        counted ← count_fields reasons.FieldCount (fields_wanted kind) fields
        read_kind kind earlier fields
    ]) entry → (kind : Kind) × (may_follow kind earlier ≡ true) × (has_room kind earlier ≡ true) × (read_kind kind earlier fields ≡ Ok entry)
room_from earlier fields entry None is = absurd (cc)
room_from earlier fields entry (Some kind) is =
    let placed = demand (may_follow kind earlier) (field_at fields 0).column reasons.Misplaced in
    let room = demand (has_room kind earlier) (field_at fields 0).column reasons.TooMany in
    let two = two_steps placed room (λ a b. count_fields reasons.FieldCount (fields_wanted kind) fields >>= (λ counted. read_kind kind earlier fields)) entry is in
    let one = one_step (count_fields reasons.FieldCount (fields_wanted kind) fields) (λ counted. read_kind kind earlier fields) entry two.4 in (
      kind,
      demand_ok (may_follow kind earlier) (field_at fields 0).column reasons.Misplaced two.0 two.2,
      demand_ok (has_room kind earlier) (field_at fields 0).column reasons.TooMany two.1 two.3,
      one.2,
    )

-- a line that is read has a kind that may stand there, and for which there is room
pub fields_ok : (earlier : List Entry) (fields : List Field) (entry : Entry) → read_fields earlier fields ≡ Ok entry →
    (kind : Kind) × (may_follow kind earlier ≡ true) × (has_room kind earlier ≡ true) × (read_kind kind earlier fields ≡ Ok entry)
fields_ok earlier fields entry is = room_from earlier fields entry (kind_of (field_at fields 0).text) is

-- where no line of a kind stands, none is the first
pub no_first : {X : Type 0} (xs : List X) → (length xs == 0) ≡ true → first_of_them xs ≡ None
no_first [] none = refl
no_first (x ∷ xs) none = let long : length (x ∷ xs) ≡ 0 = eqb-true (length (x ∷ xs)) 0 none in absurd (omega arith)

-- ---- all lines

-- what succeeds with its line's number succeeds without it
pub on_line_ok : {R A : Type 0} (number : ℕ) (read : Result A (Spot R)) (entry : A) → on_line number read ≡ Ok entry → read ≡ Ok entry
on_line_ok number (Ok made) entry is = let same : made ≡ entry = cc in ap Ok same
on_line_ok number (Err spot) entry is = absurd (cc)

-- what is made of what was read, or the fault that came in its place
abbrev pub made_of : {X Y F : Type 0} → (X → Result Y F) → Result X F → Result Y F
made_of make read = elim read [ Ok x ↦ make x | Err fault ↦ Err fault ]

-- where it is made, something was read
pub read_of : {X Y F : Type 0} (make : X → Result Y F) (read : Result X F) (y : Y) → made_of make read ≡ Ok y → (x : X) × (read ≡ Ok x) × (make x ≡ Ok y)
read_of make (Ok x) y is = (x, refl, is)
read_of make (Err fault) y is = absurd (cc)

-- what each line that is read keeps, lines that are read one after another keep
pub lines_keep : {E F : Type 0} (read_line : List E → Line → Result E F) (read_lines : List E → List Line → Result (List E) F) (P : List E → Type 0) →
    ((earlier : List E) → read_lines earlier [] ≡ Ok earlier) →
    ((earlier : List E) (line : Line) (lines : List Line) →
    read_lines earlier (line ∷ lines) ≡ made_of (λ entry. read_lines (earlier ++ entry ∷ []) lines) (read_line earlier line)) →
    ((earlier : List E) (line : Line) (entry : E) → P earlier → read_line earlier line ≡ Ok entry → P (earlier ++ entry ∷ [])) →
    (earlier : List E) (lines : List Line) (entries : List E) → P earlier → read_lines earlier lines ≡ Ok entries → P entries
lines_keep read_line read_lines P none more each earlier [] entries holds is = let same : earlier ≡ entries = cc (none earlier) in subst P same holds
lines_keep read_line read_lines P none more each earlier (line ∷ lines) entries holds is =
    let first = read_of (λ entry. read_lines (earlier ++ entry ∷ []) lines) (read_line earlier line) entries (sym (more earlier line lines) ∙ is) in
    lines_keep read_line read_lines P none more each (earlier ++ first.0 ∷ []) lines entries (each earlier line first.0 holds first.1) first.2
