-- One walk over the waiting jobs finds the place of a part's end that the definitions say.
use Rattle.base.proofs.Common.{◌≡◌, ℕ, ◌+◌, ◌<◌, ◌≤◌, ◌&&◌, ◌||◌, Bool, true, false, not, cond, List, [], ◌∷◌, ◌++◌, map, max, ◌∙◌, refl, sym, ap, ap₂, subst, arith, nat_le, nat_lt, nat_tests, le-leb, le-ltb, lt-leb, lt-ltb, le_refl, false≢true, ltb-true, ltb-false, if◌then◌else◌, Option, Some, None, list_all, list_any, list_all-append, map-append, append-nil, append_assoc}
use Rattle.std.proofs.lemmas.List.Folds.{list_any-append}
use Rattle.yds_kernel.specs.Event.{Said}
use Rattle.yds_kernel.specs.Parts.{or_else}
use Rattle.yds_trace.specs.declared.job.End.{End}
use Rattle.yds_trace.specs.declared.job.End.TheVariants as ends
use Rattle.yds_trace.specs.declared.shown.Shown.{Shown}
use Rattle.yds_trace.specs.Asked.{Asked, task_at}
use Rattle.yds_trace.specs.Past.{last_time}
use Rattle.yds_trace.specs.Document.{Judged, stands}
use Rattle.yds_trace.specs.Parts as parts
use Rattle.yds_trace.specs.Parts.{begin_of, begins_from, begins_before, is_over, is_done_by, is_closed_by, is_written, is_own, ended_by, each_before, has_job, has_own_job, is_quiet, is_closed, last_where}
use Rattle.yds_trace.specs.Shown.{IsShared}
use Rattle.yds_trace_document.specs.Kept.{last_of}
use Rattle.yds_trace_document.proofs.Same.{last_same}
use Rattle.yds_trace_document.proofs.Sorting.{FromLow, Rises, lower}
use Rattle.std.specs.List.{find}
use Rattle.std.specs.Option.{option_or}
use Rattle.yds_trace_parts.specs.Told.{first_of, open_longest}
use Rattle.yds_trace_parts.specs.Place.{places_shown, open_shown, is_settled, Front, end_of, done_from, both, with_job, has_come, is_quiet_at, Places, with_place, Walk, start, stepped, walk}

-- # Settled jobs

abbrev settled_by : Asked → Judged → ℕ → ℕ → Bool
settled_by asked judged until last =
    is_over until judged.due judged.job.end && nat_le (judged.job.begin + (task_at asked judged.task).apart) last

pub settled_same : (asked : Asked) (past : List Said) (boundary : ℕ) (shown : Shown) (judged : Judged) → IsShared asked past boundary shown →
    is_settled asked shown judged ≡ parts.is_settled asked past judged
settled_same asked past boundary shown judged is =
    ap (λ (last : ℕ). settled_by asked judged (last_of asked.to last) last) is.last
    ∙ ap (λ (until : ℕ). settled_by asked judged until (last_time past)) (last_same asked.to (last_time past))

-- # Times

le_max : (a b time : ℕ) → nat_le (max a b) time ≡ (nat_le a time && nat_le b time)
le_max a b time = grind (arith, nat_tests)

and_true : (b : Bool) → b ≡ (b && true)
and_true true = refl
and_true false = refl

and_false : (b : Bool) → false ≡ (b && false)
and_false true = refl
and_false false = refl

both_come : (time : ℕ) (a b : Option ℕ) → has_come time (both a b) ≡ (has_come time a && has_come time b)
both_come time None b = refl
both_come time (Some a) None = and_false (nat_le a time)
both_come time (Some a) (Some b) = le_max a b time

end_come : (time : ℕ) (end : End) → has_come time (end_of end) ≡ ended_by time end
end_come time ends.Open = refl
end_come time (ends.Ended end) = refl
end_come time (ends.Lost since) = refl

come_by : (settled stand : Bool) (time : ℕ) (end : End) →
    has_come time (if settled then (if stand then end_of end else Some 0) else None) ≡ (settled && (not stand || ended_by time end))
come_by true true time end = end_come time end
come_by true false time end = le-leb 0 time (omega arith)
come_by false stand time end = refl

due_by : (written : Bool) (due mine time : ℕ) → nat_le (if written then max due mine else due) time ≡ (nat_le due time && (not written || nat_le mine time))
due_by true due mine time = le_max due mine time
due_by false due mine time = and_true (nat_le due time)

-- # Lists

or_front : (b : Bool) (time : ℕ) (later first : Option ℕ) →
    or_else (if b then Some time else later) first ≡ (if b then Some time else or_else later first)
or_front true time later first = refl
or_front false time later first = refl

last_push : (test : ℕ → Bool) (times : List ℕ) (time : ℕ) →
    last_where test (times ++ time ∷ []) ≡ (if test time then Some time else last_where test times)
last_push test [] time = refl
last_push test (first ∷ times) time =
    ap (λ (later : Option ℕ). or_else later (if test first then Some first else None)) (last_push test times time)
    ∙ or_front (test time) time (last_where test times) (if test first then Some first else None)

last_more : (test : ℕ → Bool) (front : List Judged) (judged : Judged) →
    last_where test (map begin_of (front ++ judged ∷ [])) ≡ (if test judged.job.begin then Some judged.job.begin else last_where test (map begin_of front))
last_more test front judged =
    ap (last_where test) (map-append begin_of front (judged ∷ [])) ∙ last_push test (map begin_of front) judged.job.begin

all_push : {A : Type 0} (p : A → Bool) (xs : List A) (x : A) → list_all p (xs ++ x ∷ []) ≡ (list_all p xs && p x)
all_push p xs x = list_all-append p xs (x ∷ []) ∙ ap (λ (b : Bool). list_all p xs && b) (sym (and_true (p x)))

or_false : (b : Bool) → (b || false) ≡ b
or_false true = refl
or_false false = refl

pub any_push : {A : Type 0} (p : A → Bool) (xs : List A) (x : A) → list_any p (xs ++ x ∷ []) ≡ (list_any p xs || p x)
any_push p xs x = list_any-append p xs (x ∷ []) ∙ ap (λ (b : Bool). list_any p xs || b) (or_false (p x))

-- # Jobs before a time

-- each begins by this time
abbrev pub UpTo : ℕ → List Judged → Type 0
UpTo most [] = Unit {0}
UpTo most (judged ∷ jobs) = (judged.job.begin ≤ most) × UpTo most jobs

up_to_more : (most more : ℕ) (jobs : List Judged) (judged : Judged) → most ≤ more → judged.job.begin ≤ more → UpTo most jobs → UpTo more (jobs ++ judged ∷ [])
up_to_more most more [] judged less within all = (within, tt)
up_to_more most more (first ∷ jobs) judged less within all = (omega (arith, all.0), up_to_more most more jobs judged less within all.1)

all_earlier : (test : Judged → Bool) (most time : ℕ) (jobs : List Judged) → most < time → UpTo most jobs → each_before test time jobs ≡ list_all test jobs
all_earlier test most time [] less all = refl
all_earlier test most time (judged ∷ jobs) less all =
    ap₂ (λ (b c : Bool). (b || test judged) && c) (lt-leb time judged.job.begin (omega (arith, all.0))) (all_earlier test most time jobs less all.1)

none_earlier : (test : Judged → Bool) (time : ℕ) (jobs : List Judged) → FromLow begin_of time jobs → each_before test time jobs ≡ true
none_earlier test time [] all = refl
none_earlier test time (judged ∷ jobs) all =
    ap₂ (λ (b c : Bool). (b || test judged) && c) (le-leb time judged.job.begin all.0) (none_earlier test time jobs all.1)

each_split : (test : Judged → Bool) (most time : ℕ) (front rest : List Judged) → most < time → UpTo most front → FromLow begin_of time rest →
    each_before test time (front ++ rest) ≡ list_all test front
each_split test most time front rest less all later =
    list_all-append (λ judged. begins_from time judged || test judged) front rest
    ∙ ap₂ (λ (b c : Bool). b && c) (all_earlier test most time front less all) (none_earlier test time rest later)
    ∙ sym (and_true (list_all test front))

-- a job before a place; with one processor it is to be written
abbrev is_before_place : Asked → Judged → Bool
is_before_place asked judged = asked.everywhere || is_written judged

-- the test holds for one that begins before this time
abbrev any_before : (Judged → Bool) → ℕ → List Judged → Bool
any_before test time jobs = list_any (λ judged. begins_before time judged && test judged) jobs

any_earlier : (test : Judged → Bool) (most time : ℕ) (jobs : List Judged) → most < time → UpTo most jobs → any_before test time jobs ≡ list_any test jobs
any_earlier test most time [] less all = refl
any_earlier test most time (judged ∷ jobs) less all =
    ap₂ (λ (b c : Bool). (b && test judged) || c) (lt-ltb judged.job.begin time (omega (arith, all.0))) (any_earlier test most time jobs less all.1)

any_later : (test : Judged → Bool) (time : ℕ) (jobs : List Judged) → FromLow begin_of time jobs → any_before test time jobs ≡ false
any_later test time [] all = refl
any_later test time (judged ∷ jobs) all =
    ap₂ (λ (b c : Bool). (b && test judged) || c) (le-ltb judged.job.begin time all.0) (any_later test time jobs all.1)

any_split : (test : Judged → Bool) (most time : ℕ) (front rest : List Judged) → most < time → UpTo most front → FromLow begin_of time rest →
    any_before test time (front ++ rest) ≡ list_any test front
any_split test most time front rest less all later =
    list_any-append (λ judged. begins_before time judged && test judged) front rest
    ∙ ap₂ (λ (b c : Bool). b || c) (any_earlier test most time front less all) (any_later test time rest later)
    ∙ or_false (list_any test front)

from_zero : (jobs : List Judged) → FromLow begin_of 0 jobs
from_zero [] = tt
from_zero (judged ∷ jobs) = (omega arith, from_zero jobs)

-- # The walk

-- what the walk knows behind these jobs
record Holds (asked : Asked) (past : List Said) (all front : List Judged) (at : Walk) : Type 0 where
  some : at.front.some ≡ list_any (is_before_place asked) front
  own : at.front.own ≡ (list_any (is_own asked) front || not (list_any (is_own asked) all))
  done : (time : ℕ) → has_come time at.front.done ≡ list_all (is_done_by asked past time) front
  due : (time : ℕ) → nat_le at.front.due time ≡ list_all (is_closed_by asked time) front
  quiet : at.places.quiet ≡ last_where (is_quiet asked past all) (map begin_of front)
  closed : at.places.closed ≡ last_where (is_closed asked past all) (map begin_of front)
  tied_quiet : is_quiet asked past all at.before ≡ true → at.places.quiet ≡ Some at.before
  tied_closed : is_closed asked past all at.before ≡ true → at.places.closed ≡ Some at.before
  earlier : UpTo at.before front

never : (asked : Asked) (past : List Said) (all : List Judged) → is_quiet asked past all 0 ≡ false
never asked past all = ap (λ (b : Bool). b && each_before (is_done_by asked past 0) 0 all) (any_later (is_before_place asked) 0 all (from_zero all))

begun : (asked : Asked) (past : List Said) (all : List Judged) → Holds asked past all [] (start asked all)
begun asked past all = record {
  some = refl;
  own = refl;
  done = λ time. le-leb 0 time (omega arith);
  due = λ time. le-leb 0 time (omega arith);
  quiet = refl;
  closed = refl;
  tied_quiet = λ held. absurd (false≢true (sym (never asked past all) ∙ held));
  tied_closed = λ held. absurd (false≢true (sym (ap (λ (b : Bool). b && has_own_job asked 0 all && each_before (is_closed_by asked 0) 0 all) (never asked past all)) ∙ held));
  earlier = tt;
}

abbrev stepped_by : Asked → Bool → Bool → Judged → Walk → Walk
stepped_by asked later settled judged at = record {
  front = with_job asked settled judged at.front;
  places = if later then with_place at.front judged.job.begin at.places else at.places;
  before = if later then judged.job.begin else at.before;
}

some_more : (asked : Asked) (past : List Said) (all front : List Judged) (at : Walk) (judged : Judged) → Holds asked past all front at →
    (at.front.some || is_before_place asked judged) ≡ list_any (is_before_place asked) (front ++ judged ∷ [])
some_more asked past all front at judged holds =
    ap (λ (b : Bool). b || is_before_place asked judged) holds.some ∙ sym (any_push (is_before_place asked) front judged)

swap_last : (a b c : Bool) → ((a || b) || c) ≡ ((a || c) || b)
swap_last true b c = refl
swap_last false true true = refl
swap_last false true false = refl
swap_last false false true = refl
swap_last false false false = refl

own_more : (asked : Asked) (past : List Said) (all front : List Judged) (at : Walk) (judged : Judged) → Holds asked past all front at →
    (at.front.own || is_own asked judged) ≡ (list_any (is_own asked) (front ++ judged ∷ []) || not (list_any (is_own asked) all))
own_more asked past all front at judged holds =
    ap (λ (b : Bool). b || is_own asked judged) holds.own
    ∙ swap_last (list_any (is_own asked) front) (not (list_any (is_own asked) all)) (is_own asked judged)
    ∙ ap (λ (b : Bool). b || not (list_any (is_own asked) all)) (sym (any_push (is_own asked) front judged))

done_more : (asked : Asked) (past : List Said) (all front : List Judged) (at : Walk) (judged : Judged) → Holds asked past all front at → (time : ℕ) →
    has_come time (both at.front.done (done_from (parts.is_settled asked past judged) judged)) ≡ list_all (is_done_by asked past time) (front ++ judged ∷ [])
done_more asked past all front at judged holds time =
    both_come time at.front.done (done_from (parts.is_settled asked past judged) judged)
    ∙ ap₂ (λ (b c : Bool). b && c) (holds.done time) (come_by (parts.is_settled asked past judged) (stands judged) time judged.job.end)
    ∙ sym (all_push (is_done_by asked past time) front judged)

due_more : (asked : Asked) (past : List Said) (all front : List Judged) (at : Walk) (judged : Judged) → Holds asked past all front at → (time : ℕ) →
    nat_le (if is_own asked judged then max at.front.due judged.due else at.front.due) time ≡ list_all (is_closed_by asked time) (front ++ judged ∷ [])
due_more asked past all front at judged holds time =
    due_by (is_own asked judged) at.front.due judged.due time
    ∙ ap (λ (b : Bool). b && is_closed_by asked time judged) (holds.due time)
    ∙ sym (all_push (is_closed_by asked time) front judged)

-- a later begin
quiet_here : (asked : Asked) (past : List Said) (all front rest : List Judged) (at : Walk) (time : ℕ) → all ≡ front ++ rest → Holds asked past all front at →
    at.before < time → FromLow begin_of time rest → is_quiet asked past all time ≡ is_quiet_at time at.front
quiet_here asked past all front rest at time is holds less later =
    ap (λ (jobs : List Judged). has_job asked time jobs && each_before (is_done_by asked past time) time jobs) is
    ∙ ap₂ (λ (b c : Bool). b && c) (any_split (is_before_place asked) at.before time front rest less holds.earlier later ∙ sym holds.some)
    (each_split (is_done_by asked past time) at.before time front rest less holds.earlier later ∙ sym (holds.done time))

own_here : (asked : Asked) (past : List Said) (all front rest : List Judged) (at : Walk) (time : ℕ) → all ≡ front ++ rest → Holds asked past all front at →
    at.before < time → FromLow begin_of time rest → has_own_job asked time all ≡ at.front.own
own_here asked past all front rest at time is holds less later =
    ap (λ (jobs : List Judged). any_before (is_own asked) time jobs || not (list_any (is_own asked) all)) is
    ∙ ap (λ (b : Bool). b || not (list_any (is_own asked) all)) (any_split (is_own asked) at.before time front rest less holds.earlier later)
    ∙ sym holds.own

and_three : (a b c : Bool) → (a && b && c) ≡ (a && (b && c))
and_three true b c = refl
and_three false b c = refl

closed_here : (asked : Asked) (past : List Said) (all front rest : List Judged) (at : Walk) (time : ℕ) → all ≡ front ++ rest → Holds asked past all front at →
    at.before < time → FromLow begin_of time rest → is_closed asked past all time ≡ (is_quiet_at time at.front && (at.front.own && nat_le at.front.due time))
closed_here asked past all front rest at time is holds less later =
    and_three (is_quiet asked past all time) (has_own_job asked time all) (each_before (is_closed_by asked time) time all)
    ∙ ap₂ (λ (b c : Bool). b && c) (quiet_here asked past all front rest at time is holds less later)
    (ap₂ (λ (b c : Bool). b && c) (own_here asked past all front rest at time is holds less later)
    (ap (each_before (is_closed_by asked time) time) is
    ∙ each_split (is_closed_by asked time) at.before time front rest less holds.earlier later ∙ sym (holds.due time)))

quiet_if : (quiet closed : Bool) (time : ℕ) (places : Places) →
    (let made : Places = if quiet then record { quiet = Some time; closed = if closed then Some time else places.closed } else places in made.quiet)
    ≡ (if quiet then Some time else places.quiet)
quiet_if true closed time places = refl
quiet_if false closed time places = refl

closed_if : (quiet closed : Bool) (time : ℕ) (places : Places) →
    (let made : Places = if quiet then record { quiet = Some time; closed = if closed then Some time else places.closed } else places in made.closed)
    ≡ (if quiet && closed then Some time else places.closed)
closed_if true closed time places = refl
closed_if false closed time places = refl

quiet_with : (front : Front) (time : ℕ) (places : Places) → (with_place front time places).quiet ≡ (if is_quiet_at time front then Some time else places.quiet)
quiet_with front time places = quiet_if (is_quiet_at time front) (front.own && nat_le front.due time) time places

closed_with : (front : Front) (time : ℕ) (places : Places) →
    (with_place front time places).closed ≡ (if is_quiet_at time front && (front.own && nat_le front.due time) then Some time else places.closed)
closed_with front time places = closed_if (is_quiet_at time front) (front.own && nat_le front.due time) time places

pub chosen : (b : Bool) (time : ℕ) (other : Option ℕ) → b ≡ true → (if b then Some time else other) ≡ Some time
chosen true time other held = refl
chosen false time other held = absurd (false≢true held)

same_if : (b : Bool) (time : ℕ) (other : Option ℕ) → (b ≡ true → other ≡ Some time) → other ≡ (if b then Some time else other)
same_if true time other tied = tied refl
same_if false time other tied = refl

step : (asked : Asked) (past : List Said) (all front rest : List Judged) (at : Walk) (judged : Judged) (later : Bool) → all ≡ front ++ judged ∷ rest →
    Holds asked past all front at → at.before ≤ judged.job.begin → FromLow begin_of judged.job.begin rest → nat_lt at.before judged.job.begin ≡ later →
    Holds asked past all (front ++ judged ∷ []) (stepped_by asked later (parts.is_settled asked past judged) judged at)
step asked past all front rest at judged true is holds above low less =
    let here : is_quiet asked past all judged.job.begin ≡ is_quiet_at judged.job.begin at.front =
    quiet_here asked past all front (judged ∷ rest) at judged.job.begin is holds (ltb-true at.before judged.job.begin less) (le_refl judged.job.begin, low) in
    let also : is_closed asked past all judged.job.begin ≡ (is_quiet_at judged.job.begin at.front && (at.front.own && nat_le at.front.due judged.job.begin)) =
    closed_here asked past all front (judged ∷ rest) at judged.job.begin is holds (ltb-true at.before judged.job.begin less) (le_refl judged.job.begin, low) in
    record {
      some = some_more asked past all front at judged holds;
      own = own_more asked past all front at judged holds;
      done = done_more asked past all front at judged holds;
      due = due_more asked past all front at judged holds;
      quiet =
          quiet_with at.front judged.job.begin at.places
          ∙ ap₂ (λ (b : Bool) (place : Option ℕ). if b then Some judged.job.begin else place) (sym here) holds.quiet
          ∙ sym (last_more (is_quiet asked past all) front judged);
      closed =
          closed_with at.front judged.job.begin at.places
          ∙ ap₂ (λ (b : Bool) (place : Option ℕ). if b then Some judged.job.begin else place) (sym also) holds.closed
          ∙ sym (last_more (is_closed asked past all) front judged);
      tied_quiet = λ held.
          quiet_with at.front judged.job.begin at.places ∙ chosen (is_quiet_at judged.job.begin at.front) judged.job.begin at.places.quiet (sym here ∙ held);
      tied_closed = λ held.
          closed_with at.front judged.job.begin at.places
          ∙ chosen (is_quiet_at judged.job.begin at.front && (at.front.own && nat_le at.front.due judged.job.begin)) judged.job.begin at.places.closed (sym also ∙ held);
      earlier = up_to_more at.before judged.job.begin front judged above (le_refl judged.job.begin) holds.earlier;
    }
step asked past all front rest at judged false is holds above low less =
    let here : at.before ≡ judged.job.begin = omega (arith, ltb-false at.before judged.job.begin less, above) in
    record {
      some = some_more asked past all front at judged holds;
      own = own_more asked past all front at judged holds;
      done = done_more asked past all front at judged holds;
      due = due_more asked past all front at judged holds;
      quiet =
          same_if (is_quiet asked past all judged.job.begin) judged.job.begin at.places.quiet
          (subst (λ (time : ℕ). is_quiet asked past all time ≡ true → at.places.quiet ≡ Some time) here holds.tied_quiet)
          ∙ ap (λ (place : Option ℕ). if is_quiet asked past all judged.job.begin then Some judged.job.begin else place) holds.quiet
          ∙ sym (last_more (is_quiet asked past all) front judged);
      closed =
          same_if (is_closed asked past all judged.job.begin) judged.job.begin at.places.closed
          (subst (λ (time : ℕ). is_closed asked past all time ≡ true → at.places.closed ≡ Some time) here holds.tied_closed)
          ∙ ap (λ (place : Option ℕ). if is_closed asked past all judged.job.begin then Some judged.job.begin else place) holds.closed
          ∙ sym (last_more (is_closed asked past all) front judged);
      tied_quiet = holds.tied_quiet;
      tied_closed = holds.tied_closed;
      earlier = up_to_more at.before at.before front judged (le_refl at.before) (omega (arith, here)) holds.earlier;
    }

low_next : (later : Bool) (before time : ℕ) (rest : List Judged) → before ≤ time → FromLow begin_of time rest →
    FromLow begin_of (if later then time else before) rest
low_next true before time rest above low = low
low_next false before time rest above low = lower begin_of time before rest above low

-- where the walk ends
record Finds (asked : Asked) (past : List Said) (all : List Judged) (places : Places) : Type 0 where
  quiet : places.quiet ≡ last_where (is_quiet asked past all) (map begin_of all)
  closed : places.closed ≡ last_where (is_closed asked past all) (map begin_of all)

abbrev SameTests : Asked → Shown → List Said → List Judged → Type 0
SameTests asked shown past [] = Unit {0}
SameTests asked shown past (judged ∷ jobs) = (is_settled asked shown judged ≡ parts.is_settled asked past judged) × SameTests asked shown past jobs

walked : (asked : Asked) (shown : Shown) (past : List Said) (all front rest : List Judged) (at : Walk) → all ≡ front ++ rest → Holds asked past all front at →
    FromLow begin_of at.before rest → Rises begin_of rest → SameTests asked shown past rest → Finds asked past all (walk asked shown rest at).places
walked asked shown past all front [] at is holds low rising same =
    let whole : all ≡ front = is ∙ append-nil front in
    record {
      quiet = holds.quiet ∙ ap (λ (jobs : List Judged). last_where (is_quiet asked past all) (map begin_of jobs)) (sym whole);
      closed = holds.closed ∙ ap (λ (jobs : List Judged). last_where (is_closed asked past all) (map begin_of jobs)) (sym whole);
    }
walked asked shown past all front (judged ∷ rest) at is holds low rising same =
    subst (λ (settled : Bool). Finds asked past all (walk asked shown rest (stepped asked settled judged at)).places) (sym same.0)
    (walked asked shown past all (front ++ judged ∷ []) rest (stepped asked (parts.is_settled asked past judged) judged at)
    (is ∙ sym (append_assoc front (judged ∷ []) rest))
    (step asked past all front rest at judged (nat_lt at.before judged.job.begin) is holds low.0 rising.0 refl)
    (low_next (nat_lt at.before judged.job.begin) at.before judged.job.begin rest low.0 rising.0) rising.1 same.1)

same_tests : (asked : Asked) (shown : Shown) (past : List Said) (boundary : ℕ) (jobs : List Judged) → IsShared asked past boundary shown →
    SameTests asked shown past jobs
same_tests asked shown past boundary [] is = tt
same_tests asked shown past boundary (judged ∷ jobs) is =
    (settled_same asked past boundary shown judged is, same_tests asked shown past boundary jobs is)

pub place_found : (asked : Asked) (shown : Shown) (past : List Said) (boundary : ℕ) (jobs : List Judged) → IsShared asked past boundary shown →
    Rises begin_of jobs →
    or_else (places_shown asked shown jobs).closed (places_shown asked shown jobs).quiet ≡ parts.place_among asked past jobs
place_found asked shown past boundary jobs is rising =
    let ended = walked asked shown past jobs [] jobs (start asked jobs) refl (begun asked past jobs) (from_zero jobs) rising (same_tests asked shown past boundary jobs is) in
    ap₂ (λ (closed quiet : Option ℕ). or_else closed quiet) ended.closed ended.quiet

pub or_same : {A : Type 0} (first second : Option A) → option_or first second ≡ or_else first second
or_same None second = refl
or_same (Some x) second = refl

-- # The job that has been open longest

find_same : (asked : Asked) (shown : Shown) (past : List Said) (jobs : List Judged) → SameTests asked shown past jobs →
    find (λ judged. not (is_settled asked shown judged)) jobs ≡ find (λ judged. not (parts.is_settled asked past judged)) jobs
find_same asked shown past [] same = refl
find_same asked shown past (judged ∷ jobs) same =
    ap₂ (λ (settled : Bool) (later : Option Judged). cond (not settled) (Some judged) later) same.0 (find_same asked shown past jobs same.1)

pub open_found : (asked : Asked) (shown : Shown) (past : List Said) (boundary : ℕ) (jobs : List Judged) → IsShared asked past boundary shown →
    open_shown asked shown jobs ≡ open_longest asked past jobs
open_found asked shown past boundary jobs is =
    ap (λ (found : Option Judged). or_else found (first_of jobs)) (find_same asked shown past jobs (same_tests asked shown past boundary jobs is))
