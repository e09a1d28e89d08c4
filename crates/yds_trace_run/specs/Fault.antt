-- Why a trace isn't told: a line that is refused, or its document.
use Rattle.std.specs.Prelude.{ℕ, List, length, Bool, nat_lt, if◌then◌else◌, Option, Some, None}
use Rattle.base.specs.declared.limits.TheConstants.{MAX_INPUT}
use Rattle.yds_kernel.specs.Parts.{or_else}
use Rattle.yds_kernel.specs.Event.{Said}
use Rattle.yds_kernel_order.specs.Order.{order_of}
use Rattle.yds_trace.specs.Asked.{Asked}
use Rattle.yds_trace_document.specs.Settled.{settled_of}
use Rattle.yds_trace_text.specs.Limit.{Limit, first_limit}
use Rattle.yds_trace_text.specs.Text.{text_of}
use Rattle.yds_trace_reading.specs.LineFault.{LineFault, past_of, line_fault_of}

pub data TraceFault : Type 0 where
  -- the first line that is refused
  OfLine : (fault : LineFault) → TraceFault
  -- the first limit that the document is beyond
  OfDocument : (limit : Limit) → TraceFault
  -- its text is longer than a document may be
  OfText : TraceFault

abbrev pub of_line : Option LineFault → Option TraceFault
of_line None = None
of_line (Some fault) = Some (OfLine fault)

abbrev pub of_document : Option Limit → Option TraceFault
of_document None = None
of_document (Some limit) = Some (OfDocument limit)

abbrev pub of_text : List ℕ → Option TraceFault
of_text text = if nat_lt MAX_INPUT (length text) then Some OfText else None

-- that of the document of lines without a fault
abbrev pub document_fault : Asked → Bool → List Said → Option TraceFault
document_fault asked strict past = or_else (of_document (first_limit strict (settled_of asked past))) (of_text (text_of asked past))

-- the first cause for which the trace that these bytes are isn't told, if there is one
abbrev pub fault_of : Asked → Bool → List ℕ → Option TraceFault
fault_of asked strict input = or_else (of_line (line_fault_of asked input)) (document_fault asked strict (past_of (order_of input)))
