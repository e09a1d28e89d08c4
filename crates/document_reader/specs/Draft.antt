-- What the lines before a line said together, as it is kept while a document is read.
use Rattle.std.specs.Prelude.{◌≡◌, ◌<◌, ◌≤◌, List, [], ◌∷◌, ◌++◌, length, Option, Some, None, IfSome, Result, Ok, Err}
use Rattle.std.specs.List.{All, filter_map}
use Rattle.yds_model.specs.declared.reason.Reason.{Reason}
use Rattle.yds_model.specs.declared.reason.Reason.TheVariants as reasons
use Rattle.base.specs.declared.limits.TheConstants.{MAX_TICKS, MAX_ENERGY}
use Rattle.yds_model.specs.Level.{all_pieces, all_members}
use Rattle.base.specs.Lines.{Field}
use Rattle.yds_model.specs.Document.{Document}
use Rattle.yds_model.specs.Entry.{Entry, piece_said, member_said, ticks_said, document_said}
use Rattle.base.specs.Fields.{Spot, ◌>>=◌, count_fields}
use Rattle.yds_model.specs.Reading.{Kind, fields_wanted, read_kind}
use Rattle.document_value.specs.Documents.{points_of}
use Rattle.document_reader.specs.declared.draft.Draft.{Draft}
use Rattle.document_reader.specs.declared.field_fault.FieldFault.{FieldFault}
use Rattle.document_reader.specs.declared.line_fault.LineFault.{LineFault}
use Rattle.document_reader.specs.Fields.{Fails}

-- the item, where there is one
abbrev pub items_of : {A : Type 0} → Option A → List A
items_of None = []
items_of (Some x) = x ∷ []

-- what a draft keeps by itself
pub record IsDraft (draft : Draft) : Type 0 where
  pub scheduled : draft.schedule.jobs ≡ length draft.instance.jobs
  pub pieces : draft.pieces ≡ length (all_pieces draft.certificate)
  pub members : draft.members ≡ length (all_members draft.certificate)
  pub known : All (λ level. All (λ job. job < length draft.instance.jobs) level.members) draft.certificate
  pub ticks : IfSome draft.ticks (λ ticks. (1 ≤ ticks) × (ticks ≤ MAX_TICKS))
  pub energy : IfSome draft.energy (λ energy. energy.whole ≤ MAX_ENERGY)

-- the document that the lines said so far
abbrev pub document_of : Draft → Document
document_of draft = record {
  names = draft.instance.names;
  jobs = draft.instance.jobs;
  points = points_of draft.table;
  slots = draft.schedule.slots;
  levels = draft.certificate;
  grid = draft.grid;
  energy = draft.energy;
}

-- the draft holds what these entries said
pub record Holds (draft : Draft) (entries : List Entry) : Type 0 where
  pub said : document_said entries ≡ document_of draft
  pub pieces : filter_map piece_said entries ≡ all_pieces draft.certificate
  pub members : filter_map member_said entries ≡ all_members draft.certificate
  pub ticks : filter_map ticks_said entries ≡ items_of draft.ticks

-- after whatever entries the draft held, it holds one more
abbrev pub Takes : Draft → Draft → Entry → Type 0
Takes old new entry = (earlier : List Entry) → Holds old earlier → Holds new (earlier ++ entry ∷ [])

-- the definition says an entry, and the draft holds it too
pub record HoldsMore (read : Result Entry (Spot Reason)) (draft : Draft) (earlier : List Entry) : Type 0 where
  pub entry : Entry
  pub said : read ≡ Ok entry
  pub holds : Holds draft (earlier ++ entry ∷ [])

abbrev pub Tells : Result (Unit {0}) LineFault → Result Entry (Spot Reason) → Draft → List Entry → Type 0
Tells (Ok done) read draft earlier = HoldsMore read draft earlier
Tells (Err fault) read draft earlier = Fails fault read

-- the same of a line that takes no memory
abbrev pub TellsFields : Result (Unit {0}) FieldFault → Result Entry (Spot Reason) → Draft → List Entry → Type 0
TellsFields (Ok done) read draft earlier = HoldsMore read draft earlier
TellsFields (Err fault) read draft earlier = read ≡ Err (record { column = fault.column; reason = fault.reason })

-- the count of the fields, and then the fields of a line of this kind
abbrev pub count_and_read : Kind → List Entry → List Field → Result Entry (Spot Reason)
count_and_read kind earlier fields = do
  counted ← count_fields reasons.FieldCount (fields_wanted kind) fields
  read_kind kind earlier fields

-- a line of this kind is told after whatever entries the draft held
abbrev pub Reads : Kind → List Field → Result (Unit {0}) LineFault → Draft → Draft → Type 0
Reads kind fields result old new = (earlier : List Entry) → Holds old earlier → Tells result (count_and_read kind earlier fields) new earlier

-- the same of a line that takes no memory
abbrev pub ReadsFields : Kind → List Field → Result (Unit {0}) FieldFault → Draft → Draft → Type 0
ReadsFields kind fields result old new = (earlier : List Entry) → Holds old earlier → TellsFields result (count_and_read kind earlier fields) new earlier
