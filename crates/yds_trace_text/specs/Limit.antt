-- What is told of a document that is beyond a limit.
use Rattle.std.specs.Prelude.{ℕ, List, [], map, get_or, Bool, Option, Some, None, option_map}
use Rattle.yds_trace.specs.declared.reason.Reason.{Reason}
use Rattle.yds_trace.specs.declared.cut.Cut.{Cut}
use Rattle.yds_trace.specs.Asked.{Asked}
use Rattle.yds_trace.specs.Document.{Judged, written_name}
use Rattle.yds_trace_document.specs.declared.fault.DocumentFault.{DocumentFault}
use Rattle.yds_trace_document.specs.declared.fault.DocumentFault.TheVariants as faults
use Rattle.yds_trace_document.specs.Settled.{Settled}
use Rattle.yds_trace_document.specs.Limits.{limit_fault}
use Rattle.yds_trace_document.specs.Part.{part_limit_fault}

pub data Limit : Type 0 where
  Beyond : (fault : DocumentFault) → Limit
  -- of the job at this place it isn't known whether it is late: how it is called, and why it doesn't stand as it is
  NotKnown : (place : ℕ) → (name : List ℕ) → (reason : Option Reason) → Limit

-- the place of a job of which it isn't known whether it is late, if that is the fault
abbrev pub unsure_place : DocumentFault → Option ℕ
unsure_place (faults.NotKnown place) = Some place
unsure_place _ = None

abbrev pub reason_in : Judged → Option Reason
reason_in judged = judged.reason

abbrev pub name_at : List Judged → ℕ → List ℕ
name_at judged place = get_or (map written_name judged) place []

abbrev pub reason_at : List Judged → ℕ → Option Reason
reason_at judged place = get_or (map reason_in judged) place None

abbrev pub not_known : List Judged → ℕ → Limit
not_known judged place = NotKnown place (name_at judged place) (reason_at judged place)

-- what is told of a fault of these jobs
abbrev pub limit_of : List Judged → DocumentFault → Limit
limit_of judged fault = elim (unsure_place fault) [ Some place ↦ not_known judged place | None ↦ Beyond fault ]

-- the first limit that what is settled is beyond
abbrev pub first_limit : Bool → Settled → Option Limit
first_limit strict settled = option_map (limit_of settled.judged) (limit_fault strict settled)

-- the same of a part behind these parts
abbrev pub part_limit : Asked → Bool → Cut → Settled → Option Limit
part_limit asked strict cut settled = option_map (limit_of settled.judged) (part_limit_fault asked strict cut settled)
