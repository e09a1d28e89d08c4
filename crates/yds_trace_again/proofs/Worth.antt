-- A text that is read again hides no late job, and is faithful, where its document is.
use Rattle.yds_model.proofs.Common.{◌≡◌, ◌∙◌, ℕ, List, get_or, Ok, sym, subst, IsFeasible, reading}
use Rattle.yds_model.specs.Document.{Document as DocumentRead}
use Rattle.yds_kernel.specs.Event.{Said}
use Rattle.yds_trace.specs.Asked.{Asked, IsAsked}
use Rattle.yds_trace.specs.WrittenTime.{Units}
use Rattle.yds_trace.specs.Document.{Judged, all_judged, units_of, Document, document_of}
use Rattle.yds_trace_laws.specs.AsSlots.{jobs_read, slots_read}
use Rattle.yds_trace_laws.specs.Faithful.{AreFaithful}
use Rattle.yds_trace_laws.proofs.Seen.{feasible_means_in_time}
use Rattle.yds_trace_document.specs.Settled.{settled_of}
use Rattle.yds_trace_text.specs.Text.{late_comment, text_of}
use Rattle.yds_trace_again.specs.Again.{document_read, IsReadAs, IsReadAgain}
use Rattle.yds_trace_again.specs.Holds.{Holds}
use Rattle.yds_trace_again.specs.Worth.{IsReadFeasible, IsFaithfulText, NothingLate}
use Rattle.yds_trace_again.proofs.Holding.{late_jobs_are_named}

-- It is read as nothing else.
as_read : (shown : Document) (text : List ℕ) (document : DocumentRead) → IsReadAs shown text → reading text ≡ Ok document → document ≡ document_read shown
as_read shown text document again read = let both = sym read ∙ again.read in cc

-- So where what it is read as is feasible, the document is.
pub feasible_read : (shown : Document) (text : List ℕ) → IsReadAs shown text → IsReadFeasible text → IsFeasible (jobs_read shown.jobs) (slots_read shown.runs)
feasible_read shown text again is =
    subst (λ (document : DocumentRead). IsFeasible document.jobs document.slots) (as_read shown text is.document again is.read) is.feasible

-- And where the document is faithful, what it is read as is.
pub faithful_read : (asked : Asked) (units : Units) (ones : List Judged) (shown : Document) (text : List ℕ) → IsReadAs shown text → AreFaithful asked units ones shown
    → IsFaithfulText asked units ones text
faithful_read asked units ones shown text again faithful document read = record { shown = shown; is = as_read shown text document again read; faithful = faithful }

-- So the text of a trace's document hides no late job.
pub told_late : (asked : Asked) (past : List Said) (text : List ℕ) → IsAsked asked → text ≡ text_of asked past → IsReadAgain asked past text → NothingLate asked past text
told_late asked past text fit is again feasible i d within by late = (
  feasible_means_in_time asked past fit (feasible_read (document_of asked past) text again feasible) i d within by late,
  subst (λ (one : List ℕ). Holds one (late_comment (units_of asked past) (get_or (all_judged asked past) i d))) (sym is) (late_jobs_are_named asked (settled_of asked past) i d within),
)
