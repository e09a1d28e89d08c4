-- What a trace that is begun shows of the input.
use Rattle.base.proofs.Common.{◌≡◌, ℕ, arith, inl, List, [], true, false, Option, Some, None, Result, Ok, Err, refl, sym, ap, subst, ◌∙◌}
use Rattle.std.specs.Prelude.{IfSome, IfOk, OnOk}
use Rattle.std.specs.Result.{IfErr}
use Rattle.yds_kernel.specs.Event.{Said}
use Rattle.yds_kernel.specs.Text.{Trace}
use Rattle.yds_kernel_text.specs.Advancing.{Counts}
use Rattle.yds_kernel_order.specs.Order.{order_of}
use Rattle.yds_kernel_order.specs.Ordering.{Ordering, IsGiven, IsOrderOf}
use Rattle.yds_kernel_order.specs.Taking.{ReadsAhead, IsNext}
use Rattle.yds_kernel_order.proofs.Next.{next_is_first, none_is_first}
use Rattle.yds_trace.specs.declared.ended.Ended.{Ended}
use Rattle.yds_trace.specs.Asked.{Asked}
use Rattle.yds_trace_bounds.specs.declared.bounds.Bounds.{Bounds}
use Rattle.yds_trace_bounds.specs.Bounds.{asked_from, asked_in, count_from_first, time_of, first_time, first_of}
use Rattle.yds_trace_reading.specs.declared.stopped.Stopped.{Stopped}
use Rattle.yds_trace_reading.specs.declared.stopped.Stopped.TheVariants as stops
use Rattle.yds_trace_reading.specs.declared.first.NoBegin.{NoBegin}
use Rattle.yds_trace_reading.specs.declared.first.NoBegin.TheVariants as begins
use Rattle.yds_trace_reading.specs.Begin.{IsBegun, IsNotBegun, stopped_for}
use Rattle.yds_trace_reading.specs.Reading.{IsEndOfSome, IsEndWithin, IsTooLong, IsRead, IsReadIn, IsStopped, IsStoppedIn}
use Rattle.yds_trace_reading.proofs.Giving.{AreGiven, before_all, first_of_all, taken_bytes}

-- # The first event

-- where bounds count from the first event, its time is that of the first line
pub counted_from : (bounds : Bounds) (trace : Trace) (first : Option ℕ) → count_from_first bounds ≡ true → first_time trace.said ≡ first → first_of bounds trace ≡ first
counted_from bounds trace first count is = rw count is

-- else they count from 0
pub not_counted : (bounds : Bounds) (trace : Trace) → count_from_first bounds ≡ false → first_of bounds trace ≡ Some 0
not_counted bounds trace count = rw count refl

-- Bounds that don't count from it are begun by the reading alone.
pub begins_uncounted : (bounds : Bounds) (input : List ℕ) (old now : Ordering) (before left : Option (List ℕ)) (first second : ℕ) → IsGiven old [] → IsOrderOf input old [] before
    → ReadsAhead old now before left first second → count_from_first bounds ≡ false → IsBegun bounds input now left 0
begins_uncounted bounds input old now before left first second is_given stands reads count = record {
  in_order = reads.order input [] is_given stands;
  known = not_counted bounds (order_of input) count;
}

-- So are they where the trace has no line.
pub begins_none : (bounds : Bounds) (input : List ℕ) (old now : Ordering) (before left : Option (List ℕ)) (first second : ℕ) → IsGiven old [] → IsOrderOf input old [] before
    → ReadsAhead old now before left first second → count_from_first bounds ≡ true → now.waiting ≡ [] → IsBegun bounds input now left 0
begins_none bounds input old now before left first second is_given stands reads count none = record {
  in_order = reads.order input [] is_given stands;
  known = counted_from bounds (order_of input) (Some 0) count (ap first_time (none_is_first input old now before left first second is_given stands reads none));
}

-- The first line has the time from which the others count, or none.
time_in : (bounds : Bounds) (input : List ℕ) (old now : Ordering) (before left : Option (List ℕ)) (first second : ℕ) (said : Said) (time : Option ℕ) → IsGiven old []
    → IsOrderOf input old [] before → ReadsAhead old now before left first second → count_from_first bounds ≡ true → IsNext said now → time_of said ≡ time
    → first_of bounds (order_of input) ≡ time
time_in bounds input old now before left first second said time is_given stands reads count next is =
    counted_from bounds (order_of input) time count (ap first_time (next_is_first input old now before left first second said is_given stands reads next).1 ∙ is)

pub begins_with : (bounds : Bounds) (input : List ℕ) (old now : Ordering) (before left : Option (List ℕ)) (first second : ℕ) (said : Said) (result : Result ℕ NoBegin) → IsGiven old []
    → IsOrderOf input old [] before → ReadsAhead old now before left first second → count_from_first bounds ≡ true → IsNext said now → IfOk result (λ time. time_of said ≡ Some time)
    → IfOk result (IsBegun bounds input now left)
begins_with bounds input old now before left first second said (Err why) is_given stands reads count next is = tt
begins_with bounds input old now before left first second said (Ok time) is_given stands reads count next is = record {
  in_order = reads.order input [] is_given stands;
  known = time_in bounds input old now before left first second said (Some time) is_given stands reads count next is;
}

pub not_begins_with : (bounds : Bounds) (old now : Ordering) (before left : Option (List ℕ)) (first second : ℕ) (said : Said) (result : Result ℕ NoBegin)
    → ReadsAhead old now before left first second → count_from_first bounds ≡ true → IsNext said now → IfErr result (λ why. (why ≡ begins.Lost) × (time_of said ≡ None))
    → IfErr result (IsNotBegun bounds old now before first second)
not_begins_with bounds old now before left first second said (Ok time) reads count next is = tt
not_begins_with bounds old now before left first second said (Err why) reads count next is =
    subst (IsNotBegun bounds old now before first second) (sym is.0)
    (reads.no_fault, λ input is_given stands. time_in bounds input old now before left first second said None is_given stands reads count next is.1)

pub given_with : (now : Ordering) (result : Result ℕ NoBegin) → IsGiven now [] → OnOk result (IsGiven now [])
given_with now (Err why) is = tt
given_with now (Ok time) is = is

-- # Before the first line

-- the time from which the bounds count is known
abbrev pub IsKnownFirst : Bounds → Option (List ℕ) → ℕ → Type 0
IsKnownFirst bounds input first = IfSome input (λ bytes. first_of bounds (order_of bytes) ≡ Some first)

abbrev pub Begins : Bounds → Option (List ℕ) → Ordering → Ordering → Option (List ℕ) → ℕ → Type 0
Begins bounds left old new now first = (input : List ℕ) → IsGiven old [] → IsOrderOf input old [] left → IsBegun bounds input new now first

pub known_first : (bounds : Bounds) (left now : Option (List ℕ)) (old new : Ordering) (first : ℕ) → old ≡ before_all → Begins bounds left old new now first → IsKnownFirst bounds left first
known_first bounds None now old new first is begins = tt
known_first bounds (Some bytes) now old new first is begins =
    let all = first_of_all (Some bytes) in
    (begins bytes (subst (λ (ordering : Ordering). IsGiven ordering []) (sym is) all.last) (subst (λ (ordering : Ordering). IsOrderOf bytes ordering [] (Some bytes)) (sym is) all.in_order)).known

-- since the reader's begin as many bytes were taken
pub counted_since : (left now : Option (List ℕ)) (old : Ordering) (taken : ℕ) → old ≡ before_all → Counts left now old.reader.taken taken → Counts left now 0 taken
counted_since left now old taken is counts = subst (λ (before : ℕ). Counts left now before taken) (ap (λ (ordering : Ordering). ordering.reader.taken) is) counts

-- no line was given still
pub none_given : (bounds : Bounds) (left now : Option (List ℕ)) (old new : Ordering) (first : ℕ) → old ≡ before_all → IsGiven new [] → Begins bounds left old new now first
    → Counts left now old.reader.taken new.reader.taken → AreGiven left new now []
none_given bounds None now old new first is given begins counts = record { last = given; in_order = tt; counts = tt }
none_given bounds (Some bytes) now old new first is given begins counts =
    let all = first_of_all (Some bytes) in
    record {
      last = given;
      in_order = (begins bytes (subst (λ (ordering : Ordering). IsGiven ordering []) (sym is) all.last) (subst (λ (ordering : Ordering). IsOrderOf bytes ordering [] (Some bytes)) (sym is) all.in_order)).in_order;
      counts = counted_since (Some bytes) now old new.reader.taken is counts;
    }

-- # What is asked within bounds

asked_known : (bounds : Bounds) (asked : Asked) (trace : Trace) (first : ℕ) → first_of bounds trace ≡ Some first → asked_in bounds asked trace ≡ Some (asked_from first bounds asked)
asked_known bounds asked trace first is = rw is refl

pub read_in : (bounds : Bounds) (asked : Asked) (first : ℕ) (input : Option (List ℕ)) (result : Result Ended Stopped) → IsKnownFirst bounds input first
    → IfSome input (λ bytes. IfOk result (IsRead (asked_from first bounds asked) bytes)) → IfSome input (λ bytes. IfOk result (IsReadIn (asked_in bounds asked (order_of bytes)) bytes))
read_in bounds asked first None result known is = tt
read_in bounds asked first (Some bytes) (Err stopped) known is = tt
read_in bounds asked first (Some bytes) (Ok ended) known is =
    subst (λ (within : Option Asked). IsReadIn within bytes ended) (sym (asked_known bounds asked (order_of bytes) first known)) is

pub stopped_in : (bounds : Bounds) (asked : Asked) (first : ℕ) (input : Option (List ℕ)) (stopped : Stopped) → IsKnownFirst bounds input first
    → IfSome input (λ bytes. IsStopped (asked_from first bounds asked) bytes stopped) → IfSome input (λ bytes. IsStoppedIn (asked_in bounds asked (order_of bytes)) bytes stopped)
stopped_in bounds asked first None stopped known is = tt
stopped_in bounds asked first (Some bytes) stopped known is =
    subst (λ (within : Option Asked). IsStoppedIn within bytes stopped) (sym (asked_known bounds asked (order_of bytes) first known)) is

pub err_in : (bounds : Bounds) (asked : Asked) (first : ℕ) (input : Option (List ℕ)) (result : Result Ended Stopped) → IsKnownFirst bounds input first
    → IfSome input (λ bytes. IfErr result (IsStopped (asked_from first bounds asked) bytes)) → IfSome input (λ bytes. IfErr result (IsStoppedIn (asked_in bounds asked (order_of bytes)) bytes))
err_in bounds asked first None result known is = tt
err_in bounds asked first (Some bytes) (Ok ended) known is = tt
err_in bounds asked first (Some bytes) (Err stopped) known is = stopped_in bounds asked first (Some bytes) stopped known is

pub end_within : (bounds : Bounds) (asked : Asked) (first : ℕ) (result : Result Ended Stopped) → IfOk result (IsEndOfSome (asked_from first bounds asked)) → IfOk result (IsEndWithin bounds asked)
end_within bounds asked first (Err stopped) is = tt
end_within bounds asked first (Ok ended) is = record { first = first; of_some = is }

-- # A trace that isn't begun

too_long_in : (within : Option Asked) (bytes : List ℕ) → IsTooLong bytes → IsStoppedIn within bytes stops.TooLong
too_long_in None bytes long = long
too_long_in (Some asked) bytes long = long

read_fault_in : (within : Option Asked) (bytes : List ℕ) → IsStoppedIn within bytes stops.ReadFault
read_fault_in None bytes = tt
read_fault_in (Some asked) bytes = tt

memory_in : (within : Option Asked) (bytes : List ℕ) → IsStoppedIn within bytes stops.Memory
memory_in None bytes = tt
memory_in (Some asked) bytes = tt

asked_unknown : (bounds : Bounds) (asked : Asked) (trace : Trace) → first_of bounds trace ≡ None → asked_in bounds asked trace ≡ None
asked_unknown bounds asked trace is = rw is refl

pub not_begun : (bounds : Bounds) (asked : Asked) (left now : Option (List ℕ)) (old new : Ordering) (first second : ℕ) (why : NoBegin) → old ≡ before_all
    → IsNotBegun bounds old new left first second why → Counts left now old.reader.taken new.reader.taken
    → IfSome left (λ bytes. IsStoppedIn (asked_in bounds asked (order_of bytes)) bytes (stopped_for why))
not_begun bounds asked None now old new first second why is begun counts = tt
not_begun bounds asked (Some bytes) now old new first second begins.Lost is begun counts =
    let all = first_of_all (Some bytes) in
    subst (λ (within : Option Asked). IsStoppedIn within bytes stops.NoFirst)
    (sym (asked_unknown bounds asked (order_of bytes) (begun.1 bytes (subst (λ (ordering : Ordering). IsGiven ordering []) (sym is) all.last)
    (subst (λ (ordering : Ordering). IsOrderOf bytes ordering [] (Some bytes)) (sym is) all.in_order)))) tt
not_begun bounds asked (Some bytes) now old new first second begins.TooLong is begun counts =
    too_long_in (asked_in bounds asked (order_of bytes)) bytes
    (inl (omega (arith, begun.1, taken_bytes bytes now new.reader.taken (counted_since (Some bytes) now old new.reader.taken is counts))))
not_begun bounds asked (Some bytes) now old new first second begins.ReadFault is begun counts = read_fault_in (asked_in bounds asked (order_of bytes)) bytes
not_begun bounds asked (Some bytes) now old new first second begins.Memory is begun counts = memory_in (asked_in bounds asked (order_of bytes)) bytes
