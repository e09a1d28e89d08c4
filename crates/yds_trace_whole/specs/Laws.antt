-- What follows from the definitions of a trace's parts.
use Rattle.std.specs.Prelude.{◌≡◌, ℕ, List, filter, false, Some, None}
use Rattle.std.specs.List.{All}
use Rattle.yds_kernel.specs.Event.{Said}
use Rattle.yds_trace.specs.Asked.{Asked, IsAsked, on}
use Rattle.yds_trace.specs.Faults.{first_fault}
use Rattle.yds_trace.specs.Document.{all_judged, document_of}
use Rattle.yds_trace.specs.Parts.{belongs, processors_of}
use Rattle.yds_trace_whole.specs.Parts.{KeepsParts, KeepsAllParts, parts_of, written_parts, parts_on, judged_in_parts}
use Rattle.yds_trace_whole.specs.Whole.{whole_document, put_together, HasItsSpans}

-- # One processor

-- Where no line is refused, the jobs of the parts are those of the whole trace that belong to the processor: a part that was written long ago
-- says of its jobs what the whole trace says of them.
abbrev pub PartsAreTheWhole : Type 0
PartsAreTheWhole = (asked : Asked) (past : List Said) → first_fault asked past ≡ None → KeepsParts asked past →
    judged_in_parts (parts_of asked past) ≡ filter (belongs asked) (all_judged asked past)

-- Then the documents of the parts, put together, are the one document that the whole trace would have without limits: the same jobs with the
-- same windows and works, and the same runs in the same order.
abbrev pub PartsMakeTheDocument : Type 0
PartsMakeTheDocument = (asked : Asked) (past : List Said) → IsAsked asked → first_fault asked past ≡ None → KeepsParts asked past →
    put_together (parts_of asked past) ≡ whole_document asked past

-- Where `from` is given, that is the document of a trace that isn't told in parts: both count from that time.
abbrev pub WholeIsTheDocument : Type 0
WholeIsTheDocument = (asked : Asked) (past : List Said) (from : ℕ) → asked.everywhere ≡ false → asked.from ≡ Some from →
    whole_document asked past ≡ document_of asked past

-- Then each part tells of other threads just what the whole trace tells of its time.
abbrev pub SpansAreTheWhole : Type 0
SpansAreTheWhole = (asked : Asked) (past : List Said) → first_fault asked past ≡ None → KeepsParts asked past → All (HasItsSpans asked past) (parts_of asked past)

-- # All processors

-- Of the parts that are written, those of a processor are the parts that it has by itself.
abbrev pub PartsAreOfProcessors : Type 0
PartsAreOfProcessors = (asked : Asked) (past : List Said) → All (λ processor. parts_on processor (written_parts asked past) ≡ parts_of (on processor asked) past) (processors_of asked past)

-- Where no line is refused behind the parts of all processors, none is behind those of one.
abbrev pub AllPartsAreKept : Type 0
AllPartsAreKept = (asked : Asked) (past : List Said) → KeepsAllParts asked past → All (λ processor. KeepsParts (on processor asked) past) (processors_of asked past)
