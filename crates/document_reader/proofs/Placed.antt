-- Where a line may stand, by what the draft holds.
use Rattle.yds_model.proofs.Common.{◌≡◌, ℕ, List, [], ◌∷◌, length, Option, Some, None, Bool, true, false, Result, Err, refl, sym, ap, ◌∙◌, subst, arith, eqb-true, inl, inr, is_some, is_none, nat_lt, ◌==◌, if◌then◌else◌, filter_map, Document, Entry, grid_said, energy_said, first_of_them, is_level, cases_Bool, Field, Spot, ◌>>=◌, demand, refuse, field_at, Kind, may_follow, has_room, kind_of, read_fields}
use Rattle.model_lemmas.proofs.Said.{levels_counted}
use Rattle.base.specs.declared.limits.TheConstants.{MAX_JOBS, MAX_POINTS, MAX_SLOTS, MAX_LEVELS, MAX_PIECES, MAX_MEMBERS}
use Rattle.yds_model.specs.declared.reason.Reason.{Reason}
use Rattle.yds_model.specs.declared.reason.Reason.TheVariants as reasons
use Rattle.document_reader.specs.declared.draft.Draft.{Draft}
use Rattle.document_reader.specs.declared.line_fault.LineFault.{LineFault}
use Rattle.document_reader.specs.declared.line_fault.LineFault.TheVariants as faults
use Rattle.document_reader.specs.declared.line_kind.LineKind.{LineKind}
use Rattle.document_reader.specs.declared.line_kind.LineKind.TheVariants as kinds
use Rattle.document_reader.specs.Fields.{Fails}
use Rattle.document_reader.specs.Draft.{IsDraft, Holds, Tells, count_and_read, items_of}
use Rattle.document_reader.specs.LineKinds.{line_kind, follows_draft, has_room_in}

some_items : {A : Type 0} (o : Option A) → nat_lt 0 (length (items_of o)) ≡ is_some o
some_items None = refl
some_items (Some x) = refl

none_items : {A : Type 0} (o : Option A) → (length (items_of o) == 0) ≡ is_none o
none_items None = refl
none_items (Some x) = refl

none_first : {A : Type 0} (xs : List A) → (length xs == 0) ≡ is_none (first_of_them xs)
none_first [] = refl
none_first (x ∷ xs) = elim (cases_Bool (length (x ∷ xs) == 0)) [ inl none ↦ absurd (omega (arith, eqb-true (length (x ∷ xs)) 0 none)) | inr some ↦ some ]

-- as many levels are said as the draft has
levels_held : (draft : Draft) (earlier : List Entry) → Holds draft earlier
    → length (filter_map (λ entry. if is_level entry then Some entry else None) earlier) ≡ length draft.certificate
levels_held draft earlier holds = levels_counted earlier ∙ ap (λ (d : Document). length d.levels) holds.said

pub follows_said : (kind : LineKind) (draft : Draft) (earlier : List Entry) → Holds draft earlier → follows_draft kind draft ≡ may_follow (line_kind kind) earlier
follows_said kinds.Job draft earlier holds = refl
follows_said kinds.Point draft earlier holds = refl
follows_said kinds.Slot draft earlier holds = refl
follows_said kinds.Level draft earlier holds = refl
follows_said kinds.Piece draft earlier holds = ap (nat_lt 0) (sym (levels_held draft earlier holds))
follows_said kinds.Member draft earlier holds = ap (nat_lt 0) (sym (levels_held draft earlier holds))
follows_said kinds.Ticks draft earlier holds = sym (ap (λ l. length l == 0) holds.ticks ∙ none_items draft.ticks)
follows_said kinds.Run draft earlier holds = sym (ap (λ l. nat_lt 0 (length l)) holds.ticks ∙ some_items draft.ticks)
follows_said kinds.Grid draft earlier holds = sym (none_first (filter_map grid_said earlier) ∙ ap (λ (d : Document). is_none d.grid) holds.said)
follows_said kinds.Energy draft earlier holds = sym (none_first (filter_map energy_said earlier) ∙ ap (λ (d : Document). is_none d.energy) holds.said)

pub room_said : (kind : LineKind) (draft : Draft) (earlier : List Entry) → IsDraft draft → Holds draft earlier → has_room_in kind draft ≡ has_room (line_kind kind) earlier
room_said kinds.Job draft earlier kept holds = ap (λ (d : Document). nat_lt (length d.names) MAX_JOBS) (sym holds.said)
room_said kinds.Point draft earlier kept holds = ap (λ (d : Document). nat_lt (length d.points) MAX_POINTS) (sym holds.said)
room_said kinds.Slot draft earlier kept holds = ap (λ (d : Document). nat_lt (length d.slots) MAX_SLOTS) (sym holds.said)
room_said kinds.Run draft earlier kept holds = ap (λ (d : Document). nat_lt (length d.slots) MAX_SLOTS) (sym holds.said)
room_said kinds.Level draft earlier kept holds = ap (λ n. nat_lt n MAX_LEVELS) (sym (levels_held draft earlier holds))
room_said kinds.Piece draft earlier kept holds = ap (λ n. nat_lt n MAX_PIECES) (kept.pieces ∙ ap length (sym holds.pieces))
room_said kinds.Member draft earlier kept holds = ap (λ n. nat_lt n MAX_MEMBERS) (kept.members ∙ ap length (sym holds.members))
room_said kinds.Ticks draft earlier kept holds = refl
room_said kinds.Grid draft earlier kept holds = refl
room_said kinds.Energy draft earlier kept holds = refl

-- # The line, by its kind

abbrev read_as : List Entry → List Field → Option Kind → Result Entry (Spot Reason)
read_as earlier fields kind = elim kind [
  | None ↦ refuse (field_at fields 0).column reasons.UnknownKind
  | Some kind ↦ demand (may_follow kind earlier) (field_at fields 0).column reasons.Misplaced >>= (λ placed.
      demand (has_room kind earlier) (field_at fields 0).column reasons.TooMany >>= (λ room. count_and_read kind earlier fields))
]

-- what stands after the test of the place, and after that of the room
abbrev placed_as : List Entry → List Field → Kind → Bool → Bool → Result Entry (Spot Reason)
placed_as earlier fields kind follows room =
    demand follows (field_at fields 0).column reasons.Misplaced >>= (λ placed.
    demand room (field_at fields 0).column reasons.TooMany >>= (λ some. count_and_read kind earlier fields))

by_kind : (earlier : List Entry) (fields : List Field) (kind : LineKind) (draft : Draft) (follows room : Bool) → Some (line_kind kind) ≡ kind_of (field_at fields 0).text → IsDraft draft → Holds draft earlier
    → follows_draft kind draft ≡ follows → has_room_in kind draft ≡ room → read_fields earlier fields ≡ placed_as earlier fields (line_kind kind) follows room
by_kind earlier fields kind draft follows room is kept holds placed some =
    sym (ap (read_as earlier fields) is)
    ∙ ap (λ b. placed_as earlier fields (line_kind kind) b (has_room (line_kind kind) earlier)) (sym (follows_said kind draft earlier holds) ∙ placed)
    ∙ ap (λ b. placed_as earlier fields (line_kind kind) follows b) (sym (room_said kind draft earlier kept holds) ∙ some)

pub misplaced : (earlier : List Entry) (fields : List Field) (kind : LineKind) (draft : Draft) → Some (line_kind kind) ≡ kind_of (field_at fields 0).text → IsDraft draft → Holds draft earlier
    → follows_draft kind draft ≡ false → read_fields earlier fields ≡ Err (record { column = (field_at fields 0).column; reason = reasons.Misplaced })
misplaced earlier fields kind draft is kept holds placed = by_kind earlier fields kind draft false (has_room_in kind draft) is kept holds placed refl

pub too_many : (earlier : List Entry) (fields : List Field) (kind : LineKind) (draft : Draft) → Some (line_kind kind) ≡ kind_of (field_at fields 0).text → IsDraft draft → Holds draft earlier
    → follows_draft kind draft ≡ true → has_room_in kind draft ≡ false → read_fields earlier fields ≡ Err (record { column = (field_at fields 0).column; reason = reasons.TooMany })
too_many earlier fields kind draft is kept holds placed some = by_kind earlier fields kind draft true false is kept holds placed some

pub told_by_kind : (earlier : List Entry) (fields : List Field) (kind : LineKind) (draft new : Draft) (result : Result (Unit {0}) LineFault) → Some (line_kind kind) ≡ kind_of (field_at fields 0).text
    → IsDraft draft → Holds draft earlier → follows_draft kind draft ≡ true → has_room_in kind draft ≡ true → Tells result (count_and_read (line_kind kind) earlier fields) new earlier
    → Tells result (read_fields earlier fields) new earlier
told_by_kind earlier fields kind draft new result is kept holds placed some told =
    subst (λ (r : Result Entry (Spot Reason)). Tells result r new earlier) (sym (by_kind earlier fields kind draft true true is kept holds placed some)) told

pub fails_at : (fault : LineFault) (read : Result Entry (Spot Reason)) (column : ℕ) (reason : Reason) → fault ≡ faults.At column reason → read ≡ Err (record { column = column; reason = reason }) → Fails fault read
fails_at fault read column reason is fails = subst (λ (f : LineFault). Fails f read) (sym is) fails
