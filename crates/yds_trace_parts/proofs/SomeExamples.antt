-- What may be written of a trace that isn't told to its end: the parts of lines from the first on, and nothing else.
use Rattle.base.proofs.Common.{◌≡◌, ℕ, List, [], ◌∷◌, ◌++◌, Bool, Some, refl, sym, append-nil, Appends}
use Rattle.yds_kernel.specs.Event.{Said}
use Rattle.yds_kernel_order.specs.Order.{order_of}
use Rattle.yds_trace.specs.Asked.{Asked}
use Rattle.yds_trace_reading.specs.LineFault.{past_of}
use Rattle.yds_trace_parts.specs.Told.{told_after}
use Rattle.yds_trace_parts.specs.Driving.{WritesSome}

-- Before the first line nothing is written yet.
pub nothing_yet : (asked : Asked) (strict : Bool) (input old : List ℕ) → WritesSome asked strict input (Some old) (Some old)
nothing_yet asked strict input old = record {
  past = [];
  behind = past_of (order_of input);
  front = sym (append-nil (past_of (order_of input)));
  goes_on = refl;
  appended = sym (append-nil old);
}

-- Near miss: of no lines no byte is written.
pub no_other_byte : (asked : Asked) (strict : Bool) (byte : ℕ) → WritesSome asked strict [] (Some []) (Some (byte ∷ [])) → ⊥
no_other_byte asked strict byte some = by some.behind some.past some.front some.appended
  where
    by : (behind past : List Said) → [] ≡ behind ++ past → Appends (Some []) (Some (byte ∷ [])) (told_after asked strict past).text → ⊥
    by [] [] front appended = cc
    by [] (said ∷ past) front appended = cc
    by (said ∷ behind) past front appended = cc
