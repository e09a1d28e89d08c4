-- What the steps of a reader make of the order for which it stands.
use Rattle.base.proofs.Common.{◌≡◌, ℕ, ◌+◌, ◌-◌, ◌^◌, ◌<◌, ◌≤◌, List, [], ◌∷◌, ◌++◌, length, true, false, nat_le, Option, Some, None, Result, Ok, Err, refl, sym, ap, ◌∙◌, arith, subst, append_assoc, length-append, eq-eqb, leb-false, leb-true, false≢true, true≢false, OnOk, Fault, Spot}
use Rattle.std.specs.Result.{is_err}
use Rattle.yds_port.specs.Count.{Rose}
use Rattle.yds_kernel.specs.declared.fault.Reason.{Reason}
use Rattle.yds_kernel.specs.declared.fault.LineFault.{LineFault}
use Rattle.yds_kernel.specs.Event.{Said}
use Rattle.yds_kernel.specs.Text.{Trace, trace_of, trace_from, then_says}
use Rattle.yds_kernel_text.specs.Reading.{Reading, said_by, unread}
use Rattle.yds_kernel_text.specs.Advancing.{Gives, GivesLine as ReadsLine}
use Rattle.yds_kernel_order.specs.declared.limits.TheConstants.{MAX_PASSED}
use Rattle.yds_kernel_order.specs.Order.{Placed, next_placed, placed_from, number_at}
use Rattle.yds_kernel_order.specs.Ring.{Held, IsBehind, Places}
use Rattle.yds_kernel_order.specs.Ordering.{Order, Ordering, Stop, AtEnd, AtFault, IsGiven, IsOrderOf, HoldsEnough, StandsFor, IsCounted, IsReadTo, order_behind, order_at, whole_order, number_now}
use Rattle.yds_kernel_order.specs.declared.step.Step.{Step}
use Rattle.yds_kernel_order.specs.declared.step.Step.TheVariants as steps
use Rattle.yds_kernel_order.specs.Advancing.{Advances, GivesLine, IsOver, IsRefused}
use Rattle.yds_kernel_order.specs.Taking.{PutsSaid, PutsLine, TakesOne, Takes, ReadsAhead, ReadsOn, GivesWaiting, GivesNext, lines_left, may_come, needs_more}

-- # A line of the text

abbrev pub fault_at : Stop → Option (Fault Reason)
fault_at AtEnd = None
fault_at (AtFault fault) = Some fault

-- the order of a trace behind so many lines, which were placed
abbrev pub order_by : ℕ → List Placed → Trace → Order
order_by lines placed trace = record {
  placed = placed_from (lines + 1) trace.said placed;
  lines = lines + length trace.said;
  fault = trace.fault;
}

line_taken : (lines : ℕ) (placed : List Placed) (said : Said) (trace : Trace) →
    order_by lines placed (record { said = said ∷ trace.said; fault = trace.fault }) ≡ order_by (lines + 1) (next_placed (lines + 1) said placed) trace
line_taken lines placed said trace =
    ap (λ (n : ℕ). record {
      placed = placed_from (lines + 1 + 1) trace.said (next_placed (lines + 1) said placed);
      lines = n;
      fault = trace.fault;
    }) (omega arith)

fault_found : (lines : ℕ) (placed : List Placed) (fault : Option (Fault Reason)) →
    order_by lines placed (record { said = []; fault = fault }) ≡ record { placed = placed; lines = lines; fault = fault }
fault_found lines placed fault = ap (λ (n : ℕ). record { placed = placed; lines = n; fault = fault }) (omega arith)

-- the same with this reading of the text
abbrev pub with_reader : Ordering → Reading → Ordering
with_reader ordering reader = record {
  reader = reader;
  lines = ordering.lines;
  waiting = ordering.waiting;
  given = ordering.given;
  stop = ordering.stop;
}

-- Before a line was read, the order of the whole was that of the unread bytes behind the lines that were taken.
unread_order : (input : List ℕ) (old : Ordering) (given left : List Placed) (before : List ℕ) (number : ℕ) (trace : Trace) →
    old.stop ≡ None → number ≡ old.reader.number + 1 → trace_from number (old.reader.left ++ before) ≡ trace → StandsFor input old given before →
    (old.lines + 1 ≡ number) × (whole_order (trace_of input) ≡ order_by old.lines (old.waiting ++ given) trace)
unread_order input old given left before number trace none next says stands =
    let counted : old.lines ≡ old.reader.number = subst (λ (stop : Option Stop). IsCounted stop old.lines old.reader.number) none stands.counted in
    let here : old.lines + 1 ≡ number = omega (arith, counted, next) in (
      here,
      stands.order
          ∙ ap (λ (stop : Option Stop). order_at stop old.lines (old.waiting ++ given) (old.reader.left ++ before)) none
          ∙ ap (order_by old.lines (old.waiting ++ given)) (ap (λ (n : ℕ). trace_from n (old.reader.left ++ before)) here ∙ says),
    )

-- What the line says was put into its place, or the reading stopped at it.
said_order : (input : List ℕ) (old new : Ordering) (reader : Reading) (given : List Placed) (before now : List ℕ) (said : Result Said (Spot Reason)) →
    old.stop ≡ None → reader.number ≡ old.reader.number + 1 → new.reader ≡ reader → IsGiven old given →
    trace_from reader.number (old.reader.left ++ before) ≡ then_says reader.number said (trace_from (reader.number + 1) (reader.left ++ now)) →
    PutsSaid said (with_reader old reader) new → StandsFor input old given before → StandsFor input new given now
said_order input old new reader given before now (Ok said) none next same is_given says puts stands =
    let rest : Trace = trace_from (reader.number + 1) (reader.left ++ now) in
    let (here, order) = unread_order input old given given before reader.number (record { said = said ∷ rest.said; fault = rest.fault }) none next says stands in
    let stop : new.stop ≡ None = puts.0 ∙ none in record {
      order =
          order ∙ line_taken old.lines (old.waiting ++ given) said rest
          ∙ ap (λ (n : ℕ). order_by n (next_placed n said (old.waiting ++ given)) rest) here
          ∙ ap (λ (placed : List Placed). order_by reader.number placed rest) (sym (puts.3 given is_given))
          ∙ ap (λ (n : ℕ). order_by n (new.waiting ++ given) (trace_from (n + 1) (reader.left ++ now))) (sym puts.1)
          ∙ ap (λ (r : Reading). order_behind new.lines (new.waiting ++ given) (r.left ++ now)) (sym same)
          ∙ ap (λ (s : Option Stop). order_at s new.lines (new.waiting ++ given) (new.reader.left ++ now)) (sym stop);
      read_to = subst (λ (s : Option Stop). IsReadTo s now) (sym stop) tt;
      counted = subst (λ (s : Option Stop). IsCounted s new.lines new.reader.number) (sym stop) (puts.1 ∙ ap (λ (r : Reading). r.number) (sym same));
    }
said_order input old new reader given before now (Err spot) none next same is_given says puts stands =
    let fault : Fault Reason = record { line = reader.number; column = spot.column; reason = spot.reason } in
    let (here, order) = unread_order input old given given before reader.number (record { said = []; fault = Some fault }) none next says stands in record {
      order =
          order ∙ fault_found old.lines (old.waiting ++ given) (Some fault)
          ∙ ap (λ (lines : List Placed). record { placed = lines ++ given; lines = old.lines; fault = Some fault }) (sym puts.2)
          ∙ ap (λ (n : ℕ). record { placed = new.waiting ++ given; lines = n; fault = Some fault }) (sym puts.1)
          ∙ ap (λ (s : Option Stop). order_at s new.lines (new.waiting ++ given) (new.reader.left ++ now)) (sym puts.0);
      read_to = subst (λ (s : Option Stop). IsReadTo s now) (sym puts.0) tt;
      counted = subst (λ (s : Option Stop). IsCounted s new.lines new.reader.number) (sym puts.0) tt;
    }

line_order : (input : List ℕ) (old new : Ordering) (reader : Reading) (given : List Placed) (before now : Option (List ℕ)) →
    old.stop ≡ None → reader.number ≡ old.reader.number + 1 → new.reader ≡ reader → IsGiven old given →
    Gives reader.number (said_by reader) (unread old.reader before) (unread reader now) →
    PutsSaid (said_by reader) (with_reader old reader) new → IsOrderOf input old given before → IsOrderOf input new given now
line_order input old new reader given None now none next same is_given gives puts stands = absurd stands
line_order input old new reader given (Some before) None none next same is_given gives puts stands = absurd gives
line_order input old new reader given (Some before) (Some now) none next same is_given gives puts stands =
    said_order input old new reader given before now (said_by reader) none next same is_given gives puts stands

-- what was given stays given where nothing of it changed
still_given : (old new : Ordering) (given : List Placed) → new.given ≡ old.given → HoldsEnough new.stop new.waiting → IsGiven old given → IsGiven new given
still_given old new [] same enough is_given = same ∙ is_given
still_given old new (line ∷ before) same enough is_given = (same ∙ is_given.0, enough)

line_given : (old new : Ordering) (reader : Reading) (said : Result Said (Spot Reason)) (given : List Placed) → PutsSaid said (with_reader old reader) new →
    IsGiven old given → IsGiven new given
line_given old new reader (Ok said) [] puts is_given = puts.2 [] is_given
line_given old new reader (Ok said) (line ∷ before) puts is_given = puts.2 (line ∷ before) is_given
line_given old new reader (Err spot) given puts is_given =
    still_given old new given puts.3 (subst (λ (s : Option Stop). HoldsEnough s new.waiting) (sym puts.0) tt) is_given

left_while : (ordering : Ordering) → ordering.stop ≡ None → lines_left ordering ≡ (2 ^ 64 - ordering.reader.number) + 1
left_while ordering none = rw none refl

left_stopped : (ordering : Ordering) (stop : Stop) → ordering.stop ≡ Some stop → lines_left ordering ≡ 0
left_stopped ordering stop some = rw some refl

fewer_left : (old new : Ordering) (reader : Reading) (said : Result Said (Spot Reason)) → old.stop ≡ None → reader.number ≡ old.reader.number + 1 → reader.number < 2 ^ 64 →
    new.reader ≡ reader → PutsSaid said (with_reader old reader) new → lines_left new < lines_left old
fewer_left old new reader (Ok said) none next fits same puts =
    omega (arith, left_while old none, left_while new (puts.0 ∙ none), ap (λ (r : Reading). r.number) same)
fewer_left old new reader (Err spot) none next fits same puts =
    omega (arith, left_while old none, left_stopped new (AtFault (record { line = reader.number; column = spot.column; reason = spot.reason })) puts.0)

-- a line was read and put into its place, or the reading stopped at it
pub takes_line : (old new : Ordering) (reader : Reading) (before now : Option (List ℕ)) (first second : ℕ) →
    old.stop ≡ None → ReadsLine old.reader reader before now first second → PutsLine (with_reader old reader) new →
    TakesOne old new before now first second
takes_line old new reader before now first second none reads puts = record {
  given = λ given is_given. line_given old new reader (said_by reader) given puts.said is_given;
  order = λ input given is_given stands.
      line_order input old new reader given before now none reads.next puts.reader is_given reads.says puts.said stands;
  fewer = fewer_left old new reader (said_by reader) none reads.next puts.counted puts.reader puts.said;
  no_fault = reads.no_fault;
}

-- # The end of the text

-- the same behind the end of the text, with this reading of it
abbrev pub ended : Ordering → Reading → Ordering
ended ordering reader = record {
  reader = reader;
  lines = ordering.lines;
  waiting = ordering.waiting;
  given = ordering.given;
  stop = Some AtEnd;
}

-- # A line that is given

gives_order : (input : List ℕ) (old new : Ordering) (line : Placed) (given : List Placed) (left : Option (List ℕ)) →
    old.waiting ≡ new.waiting ++ line ∷ [] → new.reader ≡ old.reader → new.lines ≡ old.lines → new.stop ≡ old.stop →
    IsOrderOf input old given left → IsOrderOf input new (line ∷ given) left
gives_order input old new line given None waiting reader lines stop stands = absurd stands
gives_order input old new line given (Some left) waiting reader lines stop stands =
    let parts : old.waiting ++ given ≡ new.waiting ++ line ∷ given =
    ap (λ (placed : List Placed). placed ++ given) waiting ∙ append_assoc new.waiting (line ∷ []) given in record {
      order =
          stands.order
          ∙ ap (λ (placed : List Placed). order_at old.stop old.lines placed (old.reader.left ++ left)) parts
          ∙ ap (λ (s : Option Stop). order_at s old.lines (new.waiting ++ line ∷ given) (old.reader.left ++ left)) (sym stop)
          ∙ ap (λ (n : ℕ). order_at new.stop n (new.waiting ++ line ∷ given) (old.reader.left ++ left)) (sym lines)
          ∙ ap (λ (r : Reading). order_at new.stop new.lines (new.waiting ++ line ∷ given) (r.left ++ left)) (sym reader);
      read_to = subst (λ (s : Option Stop). IsReadTo s left) (sym stop) stands.read_to;
      counted =
          subst (λ (r : Reading). IsCounted new.stop new.lines r.number) (sym reader)
          (subst (λ (n : ℕ). IsCounted new.stop n old.reader.number) (sym lines)
          (subst (λ (s : Option Stop). IsCounted s old.lines old.reader.number) (sym stop) stands.counted));
    }

-- What a loop over lines of the text knows: the lines that were given still are, and the order is the same.
pub record Reads (old now : Ordering) (left rest : Option (List ℕ)) (first second : ℕ) : Type 0 where
  pub given : (given : List Placed) → IsGiven old given → IsGiven now given
  pub order : (input : List ℕ) (given : List Placed) → IsGiven old given → IsOrderOf input old given left → IsOrderOf input now given rest
  pub no_fault : second ≡ first

pub reads_more : (old now new : Ordering) (left rest end : Option (List ℕ)) (first second third : ℕ) → Reads old now left rest first second →
    TakesOne now new rest end second third → Reads old new left end first third
reads_more old now new left rest end first second third reads takes = record {
  given = λ given is_given. takes.given given (reads.given given is_given);
  order = λ input given is_given stands. takes.order input given (reads.given given is_given) (reads.order input given is_given stands);
  no_fault = takes.no_fault ∙ reads.no_fault;
}

enough_wait : (old new : Ordering) (line : Placed) (stop : Option Stop) → old.stop ≡ stop → new.stop ≡ stop → needs_more old ≡ false →
    length old.waiting ≡ length new.waiting + 1 → HoldsEnough new.stop new.waiting
enough_wait old new line None was is enough len =
    let more : nat_le (length old.waiting) MAX_PASSED ≡ false = subst (λ (s : Option Stop). may_come s (length old.waiting) ≡ false) was enough in
    subst (λ (s : Option Stop). HoldsEnough s new.waiting) (sym is) (omega (arith, leb-false (length old.waiting) MAX_PASSED more, len))
enough_wait old new line (Some stop) was is enough len = subst (λ (s : Option Stop). HoldsEnough s new.waiting) (sym is) tt

-- the first line that waited was given
pub gives_line : (old now new : Ordering) (left rest : Option (List ℕ)) (first second : ℕ) → ReadsAhead old now left rest first second →
    GivesWaiting now new → GivesLine old new left rest first second
gives_line old now new left rest first second reads gives = record {
  line = gives.line;
  is_last = gives.given;
  is_given = λ given is_given. (
    gives.given,
    enough_wait now new gives.line now.stop refl gives.stop reads.enough (omega (arith, ap length gives.first, length-append new.waiting (gives.line ∷ []))),
  );
  in_order = λ input given is_given stands.
      gives_order input now new gives.line given rest gives.first gives.reader gives.lines gives.stop (reads.order input given is_given stands);
  no_fault = reads.no_fault;
}

-- # Behind the last line

last_number : (ordering : Ordering) (given : List Placed) → IsGiven ordering given → number_now ordering ≡ number_at ordering.lines given (length given)
last_number ordering [] is_given = rw is_given refl
last_number ordering (line ∷ before) is_given =
    rw (is_given.0, eq-eqb (length (line ∷ before)) (length before + 1) (omega arith)) refl

pub stopped_order : (input : List ℕ) (ordering : Ordering) (given : List Placed) (left : Option (List ℕ)) (stop : Stop) → ordering.waiting ≡ [] → ordering.stop ≡ Some stop →
    IsOrderOf input ordering given left → whole_order (trace_of input) ≡ record { placed = given; lines = ordering.lines; fault = fault_at stop }
stopped_order input ordering given None stop none some stands = absurd stands
stopped_order input ordering given (Some left) AtEnd none some stands =
    stands.order
    ∙ ap (λ (s : Option Stop). order_at s ordering.lines (ordering.waiting ++ given) (ordering.reader.left ++ left)) some
    ∙ ap (λ (waiting : List Placed). record { placed = waiting ++ given; lines = ordering.lines; fault = None }) none
stopped_order input ordering given (Some left) (AtFault fault) none some stands =
    stands.order
    ∙ ap (λ (s : Option Stop). order_at s ordering.lines (ordering.waiting ++ given) (ordering.reader.left ++ left)) some
    ∙ ap (λ (waiting : List Placed). record { placed = waiting ++ given; lines = ordering.lines; fault = Some fault }) none

nothing_left : (input : List ℕ) (ordering : Ordering) (given : List Placed) (left : Option (List ℕ)) → ordering.stop ≡ Some AtEnd →
    IsOrderOf input ordering given left → left ≡ Some []
nothing_left input ordering given None some stands = absurd stands
nothing_left input ordering given (Some left) some stands = ap Some (subst (λ (s : Option Stop). IsReadTo s left) some stands.read_to)

-- each line was given
pub is_over : (old now : Ordering) (left rest : Option (List ℕ)) (first second : ℕ) → ReadsAhead old now left rest first second → now.waiting ≡ [] → now.stop ≡ Some AtEnd →
    IsOver old now left rest first second
is_over old now left rest first second reads none end = record {
  whole = λ input given is_given stands. stopped_order input now given rest AtEnd none end (reads.order input given is_given stands);
  number = λ given is_given. last_number now given (reads.given given is_given);
  none_left = λ input given is_given stands. nothing_left input now given rest end (reads.order input given is_given stands);
  no_fault = reads.no_fault;
}

-- each line before the one that is refused was given
pub is_refused : (old now : Ordering) (left rest : Option (List ℕ)) (first second number : ℕ) (fault : LineFault) → ReadsAhead old now left rest first second → now.waiting ≡ [] →
    now.stop ≡ Some (AtFault (record { line = number; column = fault.column; reason = fault.reason })) → IsRefused number fault old now left rest first second
is_refused old now left rest first second number fault reads none stopped = record {
  whole = λ input given is_given stands.
      stopped_order input now given rest (AtFault (record { line = number; column = fault.column; reason = fault.reason })) none stopped
      (reads.order input given is_given stands);
  no_fault = reads.no_fault;
}

-- # A step

-- Where more lines are needed, the reading goes on, and there is room for one.
pub goes_on : (ordering : Ordering) → needs_more ordering ≡ true → (ordering.stop ≡ None) × (length ordering.waiting ≤ MAX_PASSED)
goes_on ordering more = reading ordering.stop refl where
  reading : (stop : Option Stop) → ordering.stop ≡ stop → (ordering.stop ≡ None) × (length ordering.waiting ≤ MAX_PASSED)
  reading None is = (is, leb-true (length ordering.waiting) MAX_PASSED (subst (λ (s : Option Stop). may_come s (length ordering.waiting) ≡ true) is more))
  reading (Some stop) is = absurd (false≢true (subst (λ (s : Option Stop). may_come s (length ordering.waiting) ≡ true) is more))

-- what can't go on is told behind the lines that were taken
pub reads_stopped : (step : Step) (old now new : Ordering) (left rest end : Option (List ℕ)) (first second third : ℕ) → Reads old now left rest first second →
    Takes (Err step) now new rest end second third → ReadsOn (Err step) old new left end first third
reads_stopped steps.Failed old now new left rest end first second third reads takes = subst (λ (faults : ℕ). Rose faults third) reads.no_fault takes
reads_stopped steps.TooLong old now new left rest end first second third reads takes = record { counted = takes.counted; no_fault = takes.no_fault ∙ reads.no_fault }
reads_stopped steps.Memory old now new left rest end first second third reads takes = takes ∙ reads.no_fault
reads_stopped steps.Line old now new left rest end first second third reads takes = absurd takes
reads_stopped steps.End old now new left rest end first second third reads takes = absurd takes
reads_stopped (steps.Refused number fault) old now new left rest end first second third reads takes = absurd takes

pub advances_stopped : (step : Step) (old new : Ordering) (left end : Option (List ℕ)) (first second : ℕ) → ReadsOn (Err step) old new left end first second →
    Advances step old new left end first second
advances_stopped steps.Failed old new left end first second stopped = stopped
advances_stopped steps.TooLong old new left end first second stopped = stopped
advances_stopped steps.Memory old new left end first second stopped = stopped
advances_stopped steps.Line old new left end first second stopped = absurd stopped
advances_stopped steps.End old new left end first second stopped = absurd stopped
advances_stopped (steps.Refused number fault) old new left end first second stopped = absurd stopped

-- what is given behind the lines that were taken
pub advances_given : (step : Step) (old now new : Ordering) (left rest : Option (List ℕ)) (first second : ℕ) → ReadsAhead old now left rest first second →
    GivesNext step now new → Advances step old new left rest first second
advances_given steps.Line old now new left rest first second reads gives = gives_line old now new left rest first second reads gives
advances_given steps.End old now new left rest first second reads gives =
    subst (λ (ordering : Ordering). IsOver old ordering left rest first second) (sym gives.same) (is_over old now left rest first second reads gives.none gives.stopped)
advances_given (steps.Refused number fault) old now new left rest first second reads gives =
    subst (λ (ordering : Ordering). IsRefused number fault old ordering left rest first second) (sym gives.same)
    (is_refused old now left rest first second number fault reads gives.none gives.stopped)
advances_given steps.Failed old now new left rest first second reads gives = absurd gives
advances_given steps.TooLong old now new left rest first second reads gives = absurd gives
advances_given steps.Memory old now new left rest first second reads gives = absurd gives

given_reader : (step : Step) (old new : Ordering) → GivesNext step old new → new.reader ≡ old.reader
given_reader steps.Line old new gives = gives.reader
given_reader steps.End old new gives = ap (λ (ordering : Ordering). ordering.reader) gives.same
given_reader (steps.Refused number fault) old new gives = ap (λ (ordering : Ordering). ordering.reader) gives.same
given_reader steps.Failed old new gives = absurd gives
given_reader steps.TooLong old new gives = absurd gives
given_reader steps.Memory old new gives = absurd gives

-- # A line among those that wait

-- the lines that wait, and the one that was given last
abbrev pub held_by : Ordering → Held
held_by ordering = record { waiting = ordering.waiting; given = ordering.given }

behind_given : (ordering : Ordering) (given : List Placed) → ordering.stop ≡ None → IsGiven ordering given → IsBehind (held_by ordering) given
behind_given ordering [] none is_given = is_given
behind_given ordering (line ∷ before) none is_given = (is_given.0, subst (λ (s : Option Stop). HoldsEnough s ordering.waiting) none is_given.1)

given_behind : (ordering : Ordering) (given : List Placed) → ordering.stop ≡ None → IsBehind (held_by ordering) given → IsGiven ordering given
given_behind ordering [] none behind = behind
given_behind ordering (line ∷ before) none behind = (behind.0, subst (λ (s : Option Stop). HoldsEnough s ordering.waiting) (sym none) behind.1)

-- what was said was put among the lines that wait
pub puts_said : (old new : Ordering) (said : Said) → needs_more old ≡ true → new.reader ≡ old.reader → old.reader.number < 2 ^ 64 → new.stop ≡ old.stop →
    new.lines ≡ old.reader.number → said_by old.reader ≡ Ok said → Places old.reader.number said (held_by old) (held_by new) → PutsLine old new
puts_said old new said more reader fits stop lines is places =
    let none : old.stop ≡ None = (goes_on old more).0 in record {
      reader = reader;
      counted = fits;
      said = subst (λ (r : Result Said (Spot Reason)). PutsSaid r old new) (sym is) (
        stop,
        lines,
        (λ given is_given. given_behind new given (stop ∙ none) (places.behind given (behind_given old given none is_given))),
        (λ given is_given. places.placed given (behind_given old given none is_given)),
      );
    }

-- what is ensured where nothing failed
pub unless_failed : {E P : Type 0} (result : Result (Unit {0}) E) → is_err result ≡ false → OnOk result P → P
unless_failed (Ok done) sound ensures = ensures
unless_failed (Err error) sound ensures = absurd (true≢false sound)
