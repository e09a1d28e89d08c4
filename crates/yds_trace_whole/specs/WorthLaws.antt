-- What follows from the definitions of a trace's parts for whoever reads them.
use Rattle.std.specs.Prelude.{◌≡◌, ◌≤◌, ℕ, List, length, Bool, None, Ok}
use Rattle.std.specs.List.{All, flat_map}
use Rattle.yds_model.specs.Document.{Document}
use Rattle.yds_model.specs.Reading.{reading}
use Rattle.yds_kernel.specs.Event.{Said}
use Rattle.yds_trace.specs.Asked.{Asked, IsAsked}
use Rattle.yds_trace.specs.Faults.{first_fault}
use Rattle.yds_trace_again.specs.Laws.{AreLabelled}
use Rattle.yds_trace_whole.specs.Parts.{Part, KeepsParts, KeepsAllParts, parts_of, written_parts}
use Rattle.yds_trace_whole.specs.Worth.{NothingLateInParts, NothingLateAnywhere, IsFaithfulPart, IsReadPart}

-- Where no line is refused, the parts of a processor hide no late job.
abbrev pub NothingIsLateInParts : Type 0
NothingIsLateInParts = (asked : Asked) (past : List Said) → IsAsked asked → first_fault asked past ≡ None → KeepsParts asked past → NothingLateInParts asked past

-- Nor do those of all processors together.
abbrev pub NothingIsLateAnywhere : Type 0
NothingIsLateAnywhere = (asked : Asked) (past : List Said) → IsAsked asked → first_fault asked past ≡ None → KeepsAllParts asked past → NothingLateAnywhere asked past

-- Where no line is refused, each part is faithful to the whole trace.
abbrev pub PartsAreFaithful : Type 0
PartsAreFaithful = (asked : Asked) (past : List Said) → IsAsked asked → first_fault asked past ≡ None → KeepsParts asked past →
    All (IsFaithfulPart asked past) (parts_of asked past)

-- Each part that is written of a trace without a fault is read again.
abbrev pub EachPartIsRead : Type 0
EachPartIsRead = (asked : Asked) (strict : Bool) (past : List Said) → IsAsked asked → AreLabelled asked.tasks → first_fault asked past ≡ None →
    All (IsReadPart asked strict) (written_parts asked past)

abbrev pub text_of : Part → List ℕ
text_of part = part.text

-- The texts of two parts or more, one behind the other, aren't read as one document.
abbrev pub SeveralAreRefused : Type 0
SeveralAreRefused = (asked : Asked) (past : List Said) → 2 ≤ length (written_parts asked past) → (document : Document) →
    reading (flat_map text_of (written_parts asked past)) ≡ Ok document → ⊥
