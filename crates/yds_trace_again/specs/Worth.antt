-- What a trace's text is worth to whoever reads it: no late job is hidden, and what it is read as is faithful to the trace.
use Rattle.std.specs.Prelude.{◌≡◌, ℕ, ◌<◌, List, Some, Ok}
use Rattle.std.specs.List.{All}
use Rattle.yds_model.specs.Feasible.{IsFeasible}
use Rattle.yds_model.specs.Document.{Document as DocumentRead}
use Rattle.yds_model.specs.Reading.{reading}
use Rattle.yds_kernel.specs.Event.{Said}
use Rattle.yds_trace.specs.Asked.{Asked}
use Rattle.yds_trace.specs.WrittenTime.{Units}
use Rattle.yds_trace.specs.Document.{Judged, all_judged, units_of, Document}
use Rattle.yds_trace_laws.specs.Faithful.{AreFaithful}
use Rattle.yds_trace_text.specs.Text.{late_comment}
use Rattle.yds_trace_again.specs.Again.{document_read}
use Rattle.yds_trace_again.specs.Holds.{Holds}

-- # A text as it is read

-- It is read as a document whose slots are feasible.
pub record IsReadFeasible (text : List ℕ) : Type 0 where
  pub document : DocumentRead
  pub read : reading text ≡ Ok document
  pub feasible : IsFeasible document.jobs document.slots

-- What is read is a document of runs that is faithful to these jobs in these units.
pub record IsReadFaithful (asked : Asked) (units : Units) (ones : List Judged) (document : DocumentRead) : Type 0 where
  pub shown : Document
  pub is : document ≡ document_read shown
  pub faithful : AreFaithful asked units ones shown

-- so it is of each document as which the text is read
abbrev pub IsFaithfulText : Asked → Units → List Judged → List ℕ → Type 0
IsFaithfulText asked units ones text = (document : DocumentRead) → reading text ≡ Ok document → IsReadFaithful asked units ones document

-- # No late job is hidden

-- Where a job is known to be late, it is late by less than a unit of time, and a comment of the text names it.
abbrev pub IsToldLate : Asked → List Said → List ℕ → Judged → Type 0
IsToldLate asked past text judged = (by : ℕ) → judged.late ≡ Some by → (by < asked.unit) × Holds text (late_comment (units_of asked past) judged)

-- Where what the text is read as is feasible, that holds of each job of the tasks.
abbrev pub NothingLate : Asked → List Said → List ℕ → Type 0
NothingLate asked past text = IsReadFeasible text → All (IsToldLate asked past text) (all_judged asked past)
