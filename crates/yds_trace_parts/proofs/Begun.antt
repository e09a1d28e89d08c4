-- What a trace that is begun, or isn't, shows of what is written of it.
use Rattle.base.proofs.Common.{◌≡◌, ℕ, ◌+◌, ◌≤◌, ◌^◌, inl, inr, List, [], Bool, Option, Some, None, Result, Err, refl, sym, ap, subst, arith, append-nil}
use Rattle.std.specs.Prelude.{IfSome, option_map}
use Rattle.std.proofs.KnownBytes.{Appends-nil}
use Rattle.yds_kernel_text.specs.declared.limits.TheConstants.{ROOM}
use Rattle.yds_kernel_text.specs.Advancing.{Counts}
use Rattle.yds_kernel_order.specs.Order.{order_of}
use Rattle.yds_kernel_order.specs.Ordering.{Ordering, IsGiven, IsOrderOf}
use Rattle.yds_trace.specs.Asked.{Asked}
use Rattle.yds_trace_bounds.specs.declared.bounds.Bounds.{Bounds}
use Rattle.yds_trace_bounds.specs.Bounds.{asked_from, asked_in, first_of}
use Rattle.yds_trace_reading.specs.declared.first.NoBegin.{NoBegin}
use Rattle.yds_trace_reading.specs.declared.first.NoBegin.TheVariants as begins
use Rattle.yds_trace_reading.specs.Begin.{IsNotBegun}
use Rattle.yds_trace_reading.specs.LineFault.{past_of}
use Rattle.yds_trace_reading.proofs.Beginning.{IsKnownFirst, counted_since}
use Rattle.yds_trace_reading.proofs.Draining.{rest_of}
use Rattle.yds_trace_reading.proofs.Giving.{before_all, first_of_all, taken_bytes}
use Rattle.yds_trace_parts.specs.declared.halt.Halt.{Halt as HaltKept}
use Rattle.yds_trace_parts.specs.declared.halt.Halt.TheVariants as kept
use Rattle.yds_trace_parts.specs.Telling.{halt_of_begin}
use Rattle.yds_trace_parts.specs.Flushing.{count_on, times_told}
use Rattle.yds_trace_parts.specs.Driving.{IsEndless, WritesSome, Writes, WritesIn, Tells}
use Rattle.yds_trace_parts.proofs.Ending.{tells_halt, tells_read_fault}

-- # It is begun

-- what is written by what is asked from the first event on is what is written within the bounds
pub writes_in : (bounds : Bounds) (asked : Asked) (first : ℕ) (strict : Bool) (input : Option (List ℕ)) (result : Result (Unit {0}) HaltKept) (old new : Option (List ℕ)) →
    IsKnownFirst bounds input first → IfSome input (λ bytes. Writes (asked_from first bounds asked) strict bytes result old new) →
    IfSome input (λ bytes. WritesIn (asked_in bounds asked (order_of bytes)) strict bytes result old new)
writes_in bounds asked first strict None result old new known is = tt
writes_in bounds asked first strict (Some bytes) result old new known is =
    subst (λ (within : Option Asked). WritesIn within strict bytes result old new) (sym (ap (option_map (λ time. asked_from time bounds asked)) known)) is

-- and so is the count of flushes
pub flushed_in : (bounds : Bounds) (asked : Asked) (first : ℕ) (strict : Bool) (input : Option (List ℕ)) (old new : ℕ) → IsKnownFirst bounds input first →
    IfSome input (λ bytes. new ≡ count_on (times_told (asked_from first bounds asked) strict (past_of (order_of bytes))) old) →
    IfSome input (λ bytes. IfSome (asked_in bounds asked (order_of bytes)) (λ within. new ≡ count_on (times_told within strict (past_of (order_of bytes))) old))
flushed_in bounds asked first strict None old new known is = tt
flushed_in bounds asked first strict (Some bytes) old new known is =
    subst (λ (found : Option Asked). IfSome found (λ within. new ≡ count_on (times_told within strict (past_of (order_of bytes))) old))
    (sym (ap (option_map (λ time. asked_from time bounds asked)) known)) is

-- # It isn't

-- before the first line
nothing_taken : (asked : Asked) (strict : Bool) (bytes : List ℕ) (written : Option (List ℕ)) → WritesSome asked strict bytes written written
nothing_taken asked strict bytes written = record {
  past = [];
  behind = past_of (order_of bytes);
  front = sym (append-nil (past_of (order_of bytes)));
  goes_on = refl;
  appended = Appends-nil written;
}

-- memory ran out
memory_within : (within : Option Asked) (strict : Bool) (bytes : List ℕ) (written : Option (List ℕ)) → WritesIn within strict bytes (Err kept.Memory) written written
memory_within None strict bytes written = Appends-nil written
memory_within (Some asked) strict bytes written = nothing_taken asked strict bytes written

pub no_memory_yet : (bounds : Bounds) (asked : Asked) (strict : Bool) (input : Option (List ℕ)) (written : Option (List ℕ)) →
    IfSome input (λ bytes. WritesIn (asked_in bounds asked (order_of bytes)) strict bytes (Err kept.Memory) written written)
no_memory_yet bounds asked strict None written = tt
no_memory_yet bounds asked strict (Some bytes) written = memory_within (asked_in bounds asked (order_of bytes)) strict bytes written

-- a read failed
fault_within : (within : Option Asked) (strict : Bool) (bytes : List ℕ) (written : Option (List ℕ)) → WritesIn within strict bytes (Err kept.ReadFault) written written
fault_within None strict bytes written = Appends-nil written
fault_within (Some asked) strict bytes written = nothing_taken asked strict bytes written

none_read : (bounds : Bounds) (asked : Asked) (strict : Bool) (input : Option (List ℕ)) (written : Option (List ℕ)) →
    IfSome input (λ bytes. WritesIn (asked_in bounds asked (order_of bytes)) strict bytes (Err kept.ReadFault) written written)
none_read bounds asked strict None written = tt
none_read bounds asked strict (Some bytes) written = fault_within (asked_in bounds asked (order_of bytes)) strict bytes written

-- as many bytes as can be counted
endless_within : (within : Option Asked) (strict : Bool) (bytes : List ℕ) (written : Option (List ℕ)) → IsEndless bytes → WritesIn within strict bytes (Err kept.Endless) written written
endless_within None strict bytes written long = (long, Appends-nil written)
endless_within (Some asked) strict bytes written long = (long, nothing_taken asked strict bytes written)

none_counted : (bounds : Bounds) (asked : Asked) (strict : Bool) (input left : Option (List ℕ)) (taken : ℕ) (written : Option (List ℕ)) → Counts input left 0 taken → 2 ^ 64 ≤ taken + ROOM →
    IfSome input (λ bytes. WritesIn (asked_in bounds asked (order_of bytes)) strict bytes (Err kept.Endless) written written)
none_counted bounds asked strict None left taken written counts many = tt
none_counted bounds asked strict (Some bytes) left taken written counts many =
    endless_within (asked_in bounds asked (order_of bytes)) strict bytes written (inl (omega (arith, many, taken_bytes bytes left taken counts)))

-- the first event was lost
none_first : (bounds : Bounds) (asked : Asked) (strict : Bool) (input : Option (List ℕ)) (written : Option (List ℕ)) →
    ((bytes : List ℕ) → IsGiven before_all [] → IsOrderOf bytes before_all [] input → first_of bounds (order_of bytes) ≡ None) →
    IfSome input (λ bytes. WritesIn (asked_in bounds asked (order_of bytes)) strict bytes (Err kept.NoFirst) written written)
none_first bounds asked strict None written lost = tt
none_first bounds asked strict (Some bytes) written lost =
    let all = first_of_all (Some bytes) in
    subst (λ (within : Option Asked). WritesIn within strict bytes (Err kept.NoFirst) written written)
    (sym (ap (option_map (λ time. asked_from time bounds asked)) (lost bytes all.last all.in_order))) (Appends-nil written)

ends_before : {S K : Type 0} (left : S → Option (List ℕ)) (read : S → ℕ) (written : K → Option (List ℕ)) (flushed : K → Option ℕ) (flushes wrote : K → ℕ)
    (bounds : Bounds) (asked : Asked) (strict : Bool) (why : NoBegin) (source from : S) (sink : K) (new : Ordering) → Counts (left source) (left from) 0 new.reader.taken →
    IsNotBegun bounds before_all new (left source) (read source) (read from) why →
    Tells left read written flushed flushes wrote bounds asked strict (Err (halt_of_begin why)) source from sink sink
ends_before left read written flushed flushes wrote bounds asked strict begins.Lost source from sink new counts is =
    tells_halt left read written flushed flushes wrote bounds asked strict kept.NoFirst source from sink sink tt is.0 refl (inr (refl, refl)) 0 refl
    (none_first bounds asked strict (left source) (written sink) is.1) (rest_of (left source) (left from) new.reader.taken counts)
ends_before left read written flushed flushes wrote bounds asked strict begins.TooLong source from sink new counts is =
    tells_halt left read written flushed flushes wrote bounds asked strict kept.Endless source from sink sink tt is.0 refl (inr (refl, refl)) 0 refl
    (none_counted bounds asked strict (left source) (left from) new.reader.taken (written sink) counts is.1) (rest_of (left source) (left from) new.reader.taken counts)
ends_before left read written flushed flushes wrote bounds asked strict begins.ReadFault source from sink new counts is =
    tells_read_fault left read written flushed flushes wrote bounds asked strict source from sink sink (read source) refl is refl (inr (refl, refl)) 0 refl
    (none_read bounds asked strict (left source) (written sink)) (rest_of (left source) (left from) new.reader.taken counts)
ends_before left read written flushed flushes wrote bounds asked strict begins.Memory source from sink new counts is =
    tells_halt left read written flushed flushes wrote bounds asked strict kept.Memory source from sink sink tt is refl (inr (refl, refl)) 0 refl
    (no_memory_yet bounds asked strict (left source) (written sink)) (rest_of (left source) (left from) new.reader.taken counts)

pub tells_not_begun : {S K : Type 0} (left : S → Option (List ℕ)) (read : S → ℕ) (written : K → Option (List ℕ)) (flushed : K → Option ℕ) (flushes wrote : K → ℕ)
    (bounds : Bounds) (asked : Asked) (strict : Bool) (why : NoBegin) (source from : S) (sink : K) (old new : Ordering) → old ≡ before_all →
    Counts (left source) (left from) old.reader.taken new.reader.taken → IsNotBegun bounds old new (left source) (read source) (read from) why →
    Tells left read written flushed flushes wrote bounds asked strict (Err (halt_of_begin why)) source from sink sink
tells_not_begun left read written flushed flushes wrote bounds asked strict why source from sink old new is counts not_begun =
    ends_before left read written flushed flushes wrote bounds asked strict why source from sink new (counted_since (left source) (left from) old new.reader.taken is counts)
    (subst (λ (ordering : Ordering). IsNotBegun bounds ordering new (left source) (read source) (read from) why) is not_begun)
