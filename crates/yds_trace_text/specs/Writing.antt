-- What a call gives that writes the text of a trace's document, or of a part.
use Rattle.std.specs.Prelude.{◌≡◌, ◌≤◌, ◌<◌, ℕ, List, length, Bool, Option, Some, None, is_none, Result, Ok, Err, Vec, ⊤}
use Rattle.std.specs.declared.alloc.Global.{Global}
use Rattle.base.specs.declared.limits.TheConstants.{MAX_INPUT}
use Rattle.yds_kernel.specs.Event.{Said}
use Rattle.yds_trace.specs.declared.cut.Cut.{Cut}
use Rattle.yds_trace.specs.Asked.{Asked}
use Rattle.yds_trace.specs.Parts.{part_until}
use Rattle.yds_trace_document.specs.Settled.{Settled, settled_of}
use Rattle.yds_trace_document.specs.Limits.{limit_fault}
use Rattle.yds_trace_document.specs.Part.{shift_of, part_of, part_limit_fault}
use Rattle.yds_trace_text.specs.declared.fault.NoText.{NoText}
use Rattle.yds_trace_text.specs.declared.fault.NoText.TheVariants as faults
use Rattle.yds_trace_text.specs.Limit.{Limit, Beyond, NotKnown, first_limit, part_limit}
use Rattle.yds_trace_text.specs.Text.{settled_text}
use Rattle.yds_trace_text.specs.PartText.{part_settled_text}

-- The limit is told, or there is want of memory.
abbrev pub Tells : Limit → NoText → Type 0
Tells limit (faults.Limit fault) = limit ≡ Beyond fault
Tells limit (faults.NotKnown place name reason) = limit ≡ NotKnown place name.items reason
Tells limit faults.TooLong = ⊥
Tells limit faults.Memory = ⊤

-- it is within the limits, and this is its text
pub record IsTextOf (strict : Bool) (asked : Asked) (settled : Settled) (text : List ℕ) : Type 0 where
  pub without_fault : limit_fault strict settled ≡ None
  pub exact : text ≡ settled_text asked settled
  pub short : length text ≤ MAX_INPUT

-- it is within the limits, and its text is longer than a document may be
pub record IsTooLong (strict : Bool) (asked : Asked) (settled : Settled) : Type 0 where
  pub without_fault : limit_fault strict settled ≡ None
  pub long : MAX_INPUT < length (settled_text asked settled)

-- the text; or the first limit that it is beyond; or it is too long; or want of memory
abbrev pub Gives : Bool → Asked → Settled → Result (Vec ℕ Global) NoText → Type 0
Gives strict asked settled (Ok text) = IsTextOf strict asked settled text.items
Gives strict asked settled (Err (faults.Limit fault)) = first_limit strict settled ≡ Some (Beyond fault)
Gives strict asked settled (Err (faults.NotKnown place name reason)) = first_limit strict settled ≡ Some (NotKnown place name.items reason)
Gives strict asked settled (Err faults.TooLong) = IsTooLong strict asked settled
Gives strict asked settled (Err faults.Memory) = ⊤

-- the same of a trace's lines
abbrev pub Writes : Bool → Asked → List Said → Result (Vec ℕ Global) NoText → Type 0
Writes strict asked past result = Gives strict asked (settled_of asked past) result

-- # Parts

-- behind these parts it is within the limits, and this is its text
pub record IsPartText (strict : Bool) (asked : Asked) (cut : Cut) (last : Bool) (shift : ℕ) (settled : Settled) (text : List ℕ) : Type 0 where
  pub without_fault : part_limit_fault asked strict cut settled ≡ None
  pub exact : text ≡ part_settled_text asked cut last shift settled
  pub short : length text ≤ MAX_INPUT

-- it is within the limits, and its text is longer than a document may be
pub record IsPartTooLong (strict : Bool) (asked : Asked) (cut : Cut) (last : Bool) (shift : ℕ) (settled : Settled) : Type 0 where
  pub without_fault : part_limit_fault asked strict cut settled ≡ None
  pub long : MAX_INPUT < length (part_settled_text asked cut last shift settled)

-- the text; or the first limit that it is beyond; or it is too long; or want of memory
abbrev pub GivesPart : Bool → Asked → Cut → Bool → ℕ → Settled → Result (Vec ℕ Global) NoText → Type 0
GivesPart strict asked cut last shift settled (Ok text) = IsPartText strict asked cut last shift settled text.items
GivesPart strict asked cut last shift settled (Err (faults.Limit fault)) = part_limit asked strict cut settled ≡ Some (Beyond fault)
GivesPart strict asked cut last shift settled (Err (faults.NotKnown place name reason)) =
    part_limit asked strict cut settled ≡ Some (NotKnown place name.items reason)
GivesPart strict asked cut last shift settled (Err faults.TooLong) = IsPartTooLong strict asked cut last shift settled
GivesPart strict asked cut last shift settled (Err faults.Memory) = ⊤

-- the same of the part of a trace's lines that ends at this time, or of the last one
abbrev pub WritesPart : Bool → Asked → List Said → Cut → Option ℕ → Result (Vec ℕ Global) NoText → Type 0
WritesPart strict asked past cut until result =
    GivesPart strict asked cut (is_none until) (shift_of asked past (part_until asked past cut until)) (part_of asked past cut until) result
