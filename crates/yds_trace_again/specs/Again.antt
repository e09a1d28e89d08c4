-- A trace's document as the definition of documents reads it.
use Rattle.std.specs.Prelude.{◌≡◌, ℕ, ◌≤◌, List, length, map, Ok}
use Rattle.base.specs.declared.limits.TheConstants.{MAX_INPUT}
use Rattle.yds_model.specs.Document.{Document as DocumentRead, no_document}
use Rattle.yds_model.specs.Within.{IsDocument}
use Rattle.yds_model.specs.Reading.{reading}
use Rattle.yds_kernel.specs.Event.{Said}
use Rattle.yds_trace.specs.Asked.{Asked}
use Rattle.yds_trace.specs.Document.{Document, document_of}
use Rattle.yds_trace_laws.specs.AsSlots.{jobs_read, slots_read}
use Rattle.yds_trace_text.specs.Text.{name_of}

-- its jobs with their names, and a slot for each of its runs, and nothing else
abbrev pub document_read : Document → DocumentRead
document_read document = record no_document {
  names = map name_of document.jobs;
  jobs = jobs_read document.jobs;
  slots = slots_read document.runs;
}

-- The text is read as this document: just its jobs and its runs, in their order. That the document is possible says that it is within the
-- limits, and that no two jobs have the same name. It may be read: it isn't too long.
pub record IsReadAs (document : Document) (text : List ℕ) : Type 0 where
  pub possible : IsDocument (document_read document)
  pub read : reading text ≡ Ok (document_read document)
  pub short : length text ≤ MAX_INPUT

-- as the document of the trace
abbrev pub IsReadAgain : Asked → List Said → List ℕ → Type 0
IsReadAgain asked past text = IsReadAs (document_of asked past) text
