-- What a reader of the lines of a document returned.
use Rattle.std.specs.Prelude.{◌≡◌, List, ◌∷◌, Result, Ok, Err}
use Rattle.yds_model.specs.declared.reason.Reason.{Reason}
use Rattle.yds_model.specs.Document.{Document as DocumentText}
use Rattle.base.specs.Lines.{Line}
use Rattle.yds_model.specs.Entry.{Entry}
use Rattle.base.specs.Fields.{Fault}
use Rattle.yds_model.specs.Reading.{live_lines, read_after}
use Rattle.document_reader.specs.declared.draft.Draft.{Draft}
use Rattle.document_value.specs.declared.document.Document.{Document}
use Rattle.document_reader.specs.declared.fault.DocFault.{DocFault}
use Rattle.document_reader.specs.declared.fault.DocFault.TheVariants as faults
use Rattle.document_value.specs.Documents.{document_view}
use Rattle.document_reader.specs.Draft.{Holds}

-- the definition says this fault, unless memory ran out
abbrev pub DocFails : {Y : Type 0} → DocFault → Result Y (Fault Reason) → Type 0
DocFails (faults.At line column reason) read = read ≡ Err (record { line = line; column = column; reason = reason })
DocFails faults.Memory read = Unit {0}

-- the bytes are read as this document, or the definition says the fault
abbrev pub GivesDocument : Result Document DocFault → Result DocumentText (Fault Reason) → Type 0
GivesDocument (Ok document) read = read ≡ Ok (document_view document)
GivesDocument (Err fault) read = DocFails fault read

-- after a line the draft holds what the lines so far said
pub record HoldsOn (line : Line) (earlier : List Entry) (draft : Draft) : Type 0 where
  pub entries : List Entry
  pub holds : Holds draft entries
  pub same : (lines : List Line) → read_after earlier (live_lines (line ∷ lines)) ≡ read_after entries (live_lines lines)

abbrev pub TellsLine : Result (Unit {0}) DocFault → Line → List Entry → Draft → Type 0
TellsLine (Ok done) line earlier draft = HoldsOn line earlier draft
TellsLine (Err fault) line earlier draft = (lines : List Line) → DocFails fault (read_after earlier (live_lines (line ∷ lines)))
