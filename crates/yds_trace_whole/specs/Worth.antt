-- What the parts of a trace are worth to whoever asked for them: no late job is hidden in them, each is faithful to the trace, and each is read
-- again as a document of its own.
use Rattle.std.specs.Prelude.{◌≡◌, ℕ, ◌<◌, ◌≤◌, List, filter, length, Bool, Some, None}
use Rattle.std.specs.List.{All, Contains, flat_map}
use Rattle.base.specs.declared.limits.TheConstants.{MAX_INPUT}
use Rattle.yds_model.specs.Feasible.{IsFeasible}
use Rattle.yds_kernel.specs.Event.{Said}
use Rattle.yds_trace.specs.Asked.{Asked, on}
use Rattle.yds_trace.specs.Document.{Judged, all_judged}
use Rattle.yds_trace.specs.Parts.{belongs}
use Rattle.yds_trace_laws.specs.AsSlots.{jobs_read, slots_read}
use Rattle.yds_trace_laws.specs.InUnits.{document_in, AreOf}
use Rattle.yds_trace_laws.specs.Faithful.{AreFaithful}
use Rattle.yds_trace_laws.specs.Processors.{whole_job}
use Rattle.yds_trace_document.specs.Part.{part_limit_fault}
use Rattle.yds_trace_text.specs.Text.{late_comment}
use Rattle.yds_trace_again.specs.Again.{IsReadAs}
use Rattle.yds_trace_again.specs.Holds.{Holds}
use Rattle.yds_trace_again.specs.Worth.{IsReadFeasible, IsFaithfulText}
use Rattle.yds_trace_whole.specs.Parts.{Part, parts_of, written_parts}

-- # No late job is hidden

-- the slots of the part's document are feasible
abbrev pub IsPartFeasible : Part → Type 0
IsPartFeasible part = IsFeasible (jobs_read part.settled.document.jobs) (slots_read part.settled.document.runs)

-- One of the parts has this job, and its text has a comment that names it, in the part's times.
pub record IsNamedIn (parts : List Part) (one : Judged) : Type 0 where
  pub part : Part
  pub is_there : Contains parts part
  pub has : Contains part.settled.judged one
  pub named : Holds part.text (late_comment part.settled.units one)

-- Where a job is known to be late, it is late by less than a unit of time, and a comment of a part names it.
abbrev pub IsToldLateIn : Asked → List Part → Judged → Type 0
IsToldLateIn asked parts one = (by : ℕ) → one.late ≡ Some by → (by < asked.unit) × IsNamedIn parts one

-- Where the slots of each part's document are feasible, that holds of each job of the whole trace that belongs to the processor.
abbrev pub NothingLateInParts : Asked → List Said → Type 0
NothingLateInParts asked past = All IsPartFeasible (parts_of asked past) → All (IsToldLateIn asked (parts_of asked past)) (filter (belongs asked) (all_judged asked past))

-- # On all processors

-- One of the parts names the job.
pub record IsNamedAmong (parts : List Part) (one : Judged) : Type 0 where
  -- as it is judged on the part's processor
  pub there : Judged
  pub same_job : whole_job there ≡ whole_job one
  pub named : IsNamedIn parts there

abbrev pub IsToldLateAmong : Asked → List Part → Judged → Type 0
IsToldLateAmong asked parts one = (by : ℕ) → one.late ≡ Some by → (by < asked.unit) × IsNamedAmong parts one

-- Where the slots of each part that is written are feasible, each job of the trace that is known to be late is late by less than a unit, and named.
abbrev pub NothingLateAnywhere : Asked → List Said → Type 0
NothingLateAnywhere asked past = All IsPartFeasible (written_parts asked past) → All (IsToldLateAmong asked (written_parts asked past)) (all_judged asked past)

-- # Each part is faithful

-- The part's jobs are jobs of the whole trace, its document is made of them, and no job and no run of it is invented, and none is missing.
pub record IsFaithfulPart (asked : Asked) (past : List Said) (part : Part) : Type 0 where
  pub of_trace : AreOf asked past part.settled.judged
  pub document_is : part.settled.document ≡ document_in part.settled.units part.settled.judged
  pub faithful : AreFaithful asked part.settled.units part.settled.judged part.settled.document

-- # Each part is read again

-- Where a part passes no limit and isn't too long, its text is read as just its document.
abbrev pub IsReadPart : Asked → Bool → Part → Type 0
IsReadPart asked strict part =
    part_limit_fault asked strict part.cut part.settled ≡ None → length part.text ≤ MAX_INPUT → IsReadAs part.settled.document part.text

-- # The text of all parts

-- The text is that of these parts, one behind the other.
abbrev pub IsOfParts : List Part → List ℕ → Type 0
IsOfParts parts text = text ≡ flat_map (λ part. part.text) parts

-- Where what each of them is read as is feasible, each job of the tasks that is known to be late is late by less than a unit of time, and a
-- comment of one of them names it.
pub record NothingLateInTexts (asked : Asked) (past : List Said) (parts : List Part) (text : List ℕ) : Type 0 where
  pub says : IsOfParts parts text
  pub told : All (λ part. IsReadFeasible part.text) parts → All (IsToldLateAmong asked parts) (all_judged asked past)

-- Each of them is read again as its document.
pub record ArePartsReadAgain (parts : List Part) (text : List ℕ) : Type 0 where
  pub says : IsOfParts parts text
  pub read : All (λ part. IsReadAs part.settled.document part.text) parts

-- The part's jobs are jobs of the whole trace, as its processor has them, and what its text is read as is faithful to them.
pub record IsFaithfulPiece (asked : Asked) (past : List Said) (part : Part) : Type 0 where
  pub of_trace : AreOf (on part.processor asked) past part.settled.judged
  pub faithful : IsFaithfulText (on part.processor asked) part.settled.units part.settled.judged part.text

pub record AreFaithfulPieces (asked : Asked) (past : List Said) (parts : List Part) (text : List ℕ) : Type 0 where
  pub says : IsOfParts parts text
  pub each : All (IsFaithfulPiece asked past) parts
