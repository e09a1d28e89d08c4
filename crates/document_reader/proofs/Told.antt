-- What a line is told to say, from the count of its fields and from the fields.
use Rattle.yds_model.proofs.Common.{◌≡◌, ℕ, List, [], ◌∷◌, Bool, true, Option, Some, None, Result, Ok, Err, sym, ap, ◌∙◌, subst, unwrap_or, filter_map, slice_index_or, Point, Field, Document, Entry, point_said, ticks_said, Spot, ◌>>=◌, count_fields, Kind, JobLine, PointLine, SlotLine, RunLine, number_in, fields_wanted, read_kind}
use Rattle.yds_model.specs.declared.reason.Reason.{Reason}
use Rattle.yds_model.specs.declared.reason.Reason.TheVariants as reasons
use Rattle.base.specs.declared.limits.TheConstants.{MAX_POINT_SPEED, MAX_POINT_POWER}
use Rattle.document_reader.specs.declared.draft.Draft.{Draft}
use Rattle.document_reader.specs.declared.field_fault.FieldFault.{FieldFault}
use Rattle.document_reader.specs.declared.line_fault.LineFault.{LineFault}
use Rattle.yds_text.specs.Count.{no_reason}
use Rattle.yds_text.proofs.Counted.{counted_for}
use Rattle.document_reader.specs.Fields.{Fails, line_fault_of}
use Rattle.document_reader.specs.Job.{job_of}
use Rattle.document_reader.specs.Slot.{slot_of}
use Rattle.document_reader.specs.Run.{run_of}
use Rattle.document_reader.specs.Point.{point_of, point_after, read_point_after}
use Rattle.document_value.specs.Documents.{points_of}
use Rattle.document_reader.specs.Draft.{Holds, HoldsMore, Takes, Tells, TellsFields, count_and_read, items_of}

-- an error that is passed on
pub passed : (r : Result (Unit {0}) LineFault) (e : LineFault) (read : Result Entry (Spot Reason)) (draft : Draft) (es : List Entry)
    → (y : LineFault) × (r ≡ Err y) × (y ≡ e) → Fails e read → Tells r read draft es
passed r e read draft es told failed =
    subst (λ (t : Result (Unit {0}) LineFault). Tells t read draft es) (sym told.1) (subst (λ (f : LineFault). Fails f read) (sym told.2) failed)

-- one of a field
pub passed_on : (r : Result (Unit {0}) LineFault) (field : FieldFault) (read : Result Entry (Spot Reason)) (draft : Draft) (es : List Entry)
    → (y : LineFault) × (r ≡ Err y) × (y ≡ line_fault_of field) → read ≡ Err (record { column = field.column; reason = field.reason }) → Tells r read draft es
passed_on r field read draft es told refused = passed r (line_fault_of field) read draft es told refused

-- the same of a line that takes no memory
pub field_passed_on : (r : Result (Unit {0}) FieldFault) (field : FieldFault) (read : Result Entry (Spot Reason)) (draft : Draft) (es : List Entry)
    → (y : FieldFault) × (r ≡ Err y) × (y ≡ field) → read ≡ Err (record { column = field.column; reason = field.reason }) → TellsFields r read draft es
field_passed_on r field read draft es told refused =
    subst (λ (t : Result (Unit {0}) FieldFault). TellsFields t read draft es) (sym told.1)
    (subst (λ (f : FieldFault). read ≡ Err (record { column = f.column; reason = f.reason })) (sym told.2) refused)

counted_read : (kind : Kind) (earlier : List Entry) (fields cells : List Field) → (fields ≡ cells) × (count_fields no_reason (fields_wanted kind) fields ≡ Ok true)
    → count_and_read kind earlier fields ≡ read_kind kind earlier cells
counted_read kind earlier fields cells counted =
    ap (λ (r : Result Bool (Spot Reason)). r >>= (λ all. read_kind kind earlier fields)) (counted_for reasons.FieldCount (fields_wanted kind) fields counted.1) ∙ ap (read_kind kind earlier) counted.0

-- the fields are as many as they ought to be, and one of them is refused
pub fields_failed : (kind : Kind) (earlier : List Entry) (fields cells : List Field) (fault : LineFault)
    → (fields ≡ cells) × (count_fields no_reason (fields_wanted kind) fields ≡ Ok true) → Fails fault (read_kind kind earlier cells) → Fails fault (count_and_read kind earlier fields)
fields_failed kind earlier fields cells fault counted failed = subst (Fails fault) (sym (counted_read kind earlier fields cells counted)) failed

pub fields_refused : (kind : Kind) (earlier : List Entry) (fields cells : List Field) (spot : Spot Reason)
    → (fields ≡ cells) × (count_fields no_reason (fields_wanted kind) fields ≡ Ok true) → read_kind kind earlier cells ≡ Err spot → count_and_read kind earlier fields ≡ Err spot
fields_refused kind earlier fields cells spot counted refused = counted_read kind earlier fields cells counted ∙ refused

-- the entry that the fields say is held
pub holds_more : (kind : Kind) (earlier : List Entry) (fields cells : List Field) (entry : Entry) (old new : Draft)
    → (fields ≡ cells) × (count_fields no_reason (fields_wanted kind) fields ≡ Ok true) → read_kind kind earlier cells ≡ Ok entry → Holds old earlier → Takes old new entry
    → HoldsMore (count_and_read kind earlier fields) new earlier
holds_more kind earlier fields cells entry old new counted said holds takes =
    record { entry = entry; said = counted_read kind earlier fields cells counted ∙ said; holds = takes earlier holds }

-- # What the draft holds in place of the earlier entries

ticks_held : (earlier : List Entry) (held : Option ℕ) (ticks : ℕ) → filter_map ticks_said earlier ≡ items_of held → ticks ≡ unwrap_or held 1
    → slice_index_or (filter_map ticks_said earlier) 0 1 ≡ ticks
ticks_held earlier None ticks are is = ap (λ (l : List ℕ). slice_index_or l 0 1) are ∙ sym is
ticks_held earlier (Some n) ticks are is = ap (λ (l : List ℕ). slice_index_or l 0 1) are ∙ sym is

pub job_same : (draft : Draft) (earlier : List Entry) (k a b c d : Field) → Holds draft earlier → job_of draft.instance.names a b c d ≡ read_kind JobLine earlier (k ∷ a ∷ b ∷ c ∷ d ∷ [])
job_same draft earlier k a b c d holds = sym (ap (λ (said : Document). job_of said.names a b c d) holds.said)

pub slot_same : (draft : Draft) (earlier : List Entry) (k a b c d : Field) → Holds draft earlier
    → slot_of draft.instance.names draft.schedule.slots a b c d ≡ read_kind SlotLine earlier (k ∷ a ∷ b ∷ c ∷ d ∷ [])
slot_same draft earlier k a b c d holds = sym (ap (λ (said : Document). slot_of said.names said.slots a b c d) holds.said)

pub run_same : (draft : Draft) (earlier : List Entry) (ticks : ℕ) (k a b c d : Field) → Holds draft earlier → ticks ≡ unwrap_or draft.ticks 1
    → run_of draft.instance.names draft.schedule.slots ticks a b c d ≡ read_kind RunLine earlier (k ∷ a ∷ b ∷ c ∷ d ∷ [])
run_same draft earlier ticks k a b c d holds is =
    sym (ap (λ (said : Document). run_of said.names said.slots (slice_index_or (filter_map ticks_said earlier) 0 1) a b c d) holds.said
    ∙ ap (λ (t : ℕ). run_of draft.instance.names draft.schedule.slots t a b c d) (ticks_held earlier draft.ticks ticks holds.ticks is))

point_numbers : (points : List Point) (r p : Result ℕ (Spot Reason)) (a : Field) (point : Point)
    → (r >>= (λ speed. p >>= (λ power. Ok (record { speed = speed; power = power })))) ≡ Ok point
    → (r >>= (λ speed. p >>= (λ power. point_after points (record { speed = speed; power = power }) a.column))) ≡ point_after points point a.column
point_numbers points (Ok speed) (Ok power) a point is =
    let same : record { speed = speed; power = power } ≡ point = cc in ap (λ (q : Point). point_after points q a.column) same
point_numbers points (Ok speed) (Err e) a point is = cc
point_numbers points (Err e) p a point is = cc

pub point_same : (draft : Draft) (earlier : List Entry) (k a b : Field) (point : Point) → Holds draft earlier → point_of a b ≡ Ok point
    → point_after (points_of draft.table) point a.column ≡ read_kind PointLine earlier (k ∷ a ∷ b ∷ [])
point_same draft earlier k a b point holds is =
    sym (ap (λ (said : Document). read_point_after said.points a b) holds.said ∙ point_numbers (points_of draft.table) (number_in 0 MAX_POINT_SPEED a) (number_in 0 MAX_POINT_POWER b) a point is)

abbrev point_parts : Result ℕ (Spot Reason) → Result ℕ (Spot Reason) → Result Point (Spot Reason)
point_parts r p = r >>= (λ speed. p >>= (λ power. Ok (record { speed = speed; power = power })))

point_refused : (points : List Point) (r p : Result ℕ (Spot Reason)) (a : Field) (spot : Spot Reason)
    → point_parts r p ≡ Err spot
    → (r >>= (λ speed. p >>= (λ power. point_after points (record { speed = speed; power = power }) a.column))) ≡ Err spot
point_refused points (Ok speed) (Ok power) a spot is = cc
point_refused points (Ok speed) (Err e) a spot is = cc
point_refused points (Err e) p a spot is = cc

pub point_failed : (earlier : List Entry) (k a b : Field) (spot : Spot Reason) → point_of a b ≡ Err spot → read_kind PointLine earlier (k ∷ a ∷ b ∷ []) ≡ Err spot
point_failed earlier k a b spot refused =
    point_refused (filter_map point_said earlier) (number_in 0 MAX_POINT_SPEED a) (number_in 0 MAX_POINT_POWER b) a spot refused
