-- What a trace that was told shows of the source and of the sink, by each way in which it ends.
use Rattle.base.proofs.Common.{◌≡◌, ℕ, ◌<◌, List, [], Bool, Option, Some, None, Result, Ok, Err, refl, subst, arith}
use Rattle.std.specs.Prelude.{⊤, IfSome}
use Rattle.yds_port.specs.Count.{Rose}
use Rattle.yds_kernel_order.specs.Order.{order_of}
use Rattle.yds_trace.specs.Asked.{Asked}
use Rattle.yds_trace_bounds.specs.declared.bounds.Bounds.{Bounds}
use Rattle.yds_trace_bounds.specs.Bounds.{asked_in}
use Rattle.yds_trace_reading.specs.LineFault.{past_of}
use Rattle.yds_trace_reading.specs.Reading.{IsRest}
use Rattle.yds_trace_parts.specs.declared.halt.Halt.{Halt as HaltKept}
use Rattle.yds_trace_parts.specs.declared.halt.Halt.TheVariants as kept
use Rattle.yds_trace_parts.specs.Told.{Halt}
use Rattle.yds_trace_parts.specs.Telling.{IsHaltFor}
use Rattle.yds_trace_parts.specs.Flushing.{count_on, times_told, IsFlushedSince}
use Rattle.yds_trace_parts.specs.Driving.{WritesIn, Tells}

-- # Neither a read nor a write failed

abbrev pub IsOwn : HaltKept → Type 0
IsOwn kept.ReadFault = ⊥
IsOwn kept.WriteFault = ⊥
IsOwn halt = ⊤

pub own_halt : (found : Option Halt) (halt : HaltKept) → IsHaltFor found halt → IsOwn halt
own_halt found kept.Memory is = tt
own_halt found kept.NoFirst is = tt
own_halt found kept.Endless is = tt
own_halt found kept.ReadFault is = is
own_halt found kept.WriteFault is = is
own_halt found (kept.InForm number fault) is = tt
own_halt found (kept.AtLine number cause) is = tt
own_halt found (kept.Limit processor part fault) is = tt
own_halt found (kept.NotKnown processor part place name reason) is = tt
own_halt found (kept.TooLong processor part) is = tt
own_halt found (kept.NoPlace name begin late) is = tt

none_of : {A : Type 0} (option : Option A) → IfSome option (λ one. ⊤)
none_of None = tt
none_of (Some one) = tt

none_within : (bounds : Bounds) (asked : Asked) (input : Option (List ℕ)) → IfSome input (λ bytes. IfSome (asked_in bounds asked (order_of bytes)) (λ within. ⊤))
none_within bounds asked None = tt
none_within bounds asked (Some bytes) = none_of (asked_in bounds asked (order_of bytes))

not_rose : (before now : ℕ) (P : Type 0) → now ≡ before → before < now → P
not_rose before now P same rose = absurd (omega (arith, same, rose))

not_read : (halt : HaltKept) (answer : Result (Unit {0}) HaltKept) (P : Type 0) → IsOwn halt → answer ≡ Err halt → answer ≡ Err kept.ReadFault → P
not_read halt answer P own is same = let one : halt ≡ kept.ReadFault = cc in absurd (subst IsOwn one own)

not_written : (halt : HaltKept) (answer : Result (Unit {0}) HaltKept) (P : Type 0) → IsOwn halt → answer ≡ Err halt → answer ≡ Err kept.WriteFault → P
not_written halt answer P own is same = let one : halt ≡ kept.WriteFault = cc in absurd (subst IsOwn one own)

-- # Ends

-- It halts for a reason of its own.
pub tells_halt : {S K : Type 0} (left : S → Option (List ℕ)) (read : S → ℕ) (written : K → Option (List ℕ)) (flushed : K → Option ℕ) (flushes wrote : K → ℕ)
    (bounds : Bounds) (asked : Asked) (strict : Bool) (halt : HaltKept) (source from : S) (sink to : K) → IsOwn halt → read from ≡ read source → wrote to ≡ wrote sink →
    IsFlushedSince written flushed sink to → (times : ℕ) → flushes to ≡ count_on times (flushes sink) → IfSome (left source) (λ input. WritesIn (asked_in bounds asked (order_of input)) strict input (Err halt) (written sink) (written to)) →
    IsRest (left source) (left from) → Tells left read written flushed flushes wrote bounds asked strict (Err halt) source from sink to
tells_halt left read written flushed flushes wrote bounds asked strict halt source from sink to own same_read same_wrote all times counted told rest = record {
  source_later = omega (arith, same_read);
  sink_later = omega (arith, same_wrote);
  no_fault = tt;
  read_fault = not_read halt (Err halt) _ own refl;
  write_fault = not_written halt (Err halt) _ own refl;
  sink_rose = not_rose (wrote sink) (wrote to) _ same_wrote;
  all_flushed = λ other. all;
  flushed_so_often = λ other. (times, counted);
  flushed_behind_each = none_within bounds asked (left source);
  told = told;
  none_left = none_of (left source);
  rest = rest;
}

later_rose : (first second third : ℕ) → second ≡ first → Rose second third → Rose first third
later_rose first second third same rose = subst (λ (n : ℕ). Rose n third) same rose

-- A read failed.
pub tells_read_fault : {S K : Type 0} (left : S → Option (List ℕ)) (read : S → ℕ) (written : K → Option (List ℕ)) (flushed : K → Option ℕ) (flushes wrote : K → ℕ)
    (bounds : Bounds) (asked : Asked) (strict : Bool) (source from : S) (sink to : K) (before : ℕ) → before ≡ read source → Rose before (read from) → wrote to ≡ wrote sink →
    IsFlushedSince written flushed sink to → (times : ℕ) → flushes to ≡ count_on times (flushes sink) → IfSome (left source) (λ input. WritesIn (asked_in bounds asked (order_of input)) strict input (Err kept.ReadFault) (written sink) (written to)) →
    IsRest (left source) (left from) → Tells left read written flushed flushes wrote bounds asked strict (Err kept.ReadFault) source from sink to
tells_read_fault left read written flushed flushes wrote bounds asked strict source from sink to before same_read rose same_wrote all times counted told rest = record {
  source_later = omega (arith, same_read, rose.0);
  sink_later = omega (arith, same_wrote);
  no_fault = tt;
  read_fault = λ _. later_rose (read source) before (read from) same_read rose;
  write_fault = λ same. cc;
  sink_rose = not_rose (wrote sink) (wrote to) _ same_wrote;
  all_flushed = λ other. all;
  flushed_so_often = λ other. (times, counted);
  flushed_behind_each = none_within bounds asked (left source);
  told = told;
  none_left = none_of (left source);
  rest = rest;
}

-- A write failed.
pub tells_write_fault : {S K : Type 0} (left : S → Option (List ℕ)) (read : S → ℕ) (written : K → Option (List ℕ)) (flushed : K → Option ℕ) (flushes wrote : K → ℕ)
    (bounds : Bounds) (asked : Asked) (strict : Bool) (source from : S) (sink to : K) (before : ℕ) → before ≡ wrote sink → Rose before (wrote to) → read from ≡ read source →
    IfSome (left source) (λ input. WritesIn (asked_in bounds asked (order_of input)) strict input (Err kept.WriteFault) (written sink) (written to)) →
    IsRest (left source) (left from) → Tells left read written flushed flushes wrote bounds asked strict (Err kept.WriteFault) source from sink to
tells_write_fault left read written flushed flushes wrote bounds asked strict source from sink to before same_wrote rose same_read told rest = record {
  source_later = omega (arith, same_read);
  sink_later = omega (arith, same_wrote, rose.0);
  no_fault = tt;
  read_fault = λ same. cc;
  write_fault = λ _. later_rose (wrote sink) before (wrote to) same_wrote rose;
  sink_rose = λ _. refl;
  all_flushed = λ other. absurd (other refl);
  flushed_so_often = λ other. absurd (other refl);
  flushed_behind_each = none_within bounds asked (left source);
  told = told;
  none_left = none_of (left source);
  rest = rest;
}

-- All of it was told.
pub tells_all : {S K : Type 0} (left : S → Option (List ℕ)) (read : S → ℕ) (written : K → Option (List ℕ)) (flushed : K → Option ℕ) (flushes wrote : K → ℕ)
    (bounds : Bounds) (asked : Asked) (strict : Bool) (source from : S) (sink to : K) → read from ≡ read source → wrote to ≡ wrote sink →
    (times : ℕ) → flushes to ≡ count_on times (flushes sink) →
    IfSome (left source) (λ input. IfSome (asked_in bounds asked (order_of input)) (λ within. flushes to ≡ count_on (times_told within strict (past_of (order_of input))) (flushes sink))) →
    IfSome (left source) (λ input. WritesIn (asked_in bounds asked (order_of input)) strict input (Ok tt) (written sink) (written to)) →
    IfSome (left source) (λ input. left from ≡ Some []) → IsRest (left source) (left from) →
    Tells left read written flushed flushes wrote bounds asked strict (Ok tt) source from sink to
tells_all left read written flushed flushes wrote bounds asked strict source from sink to same_read same_wrote times counted each told none rest = record {
  source_later = omega (arith, same_read);
  sink_later = omega (arith, same_wrote);
  no_fault = same_read;
  read_fault = λ same. cc;
  write_fault = λ same. cc;
  sink_rose = not_rose (wrote sink) (wrote to) _ same_wrote;
  all_flushed = tt;
  flushed_so_often = λ other. (times, counted);
  flushed_behind_each = each;
  told = told;
  none_left = none;
  rest = rest;
}
