-- No job that stands as it is begins before the trace's first line.
use Rattle.yds_model.proofs.Common.{◌≡◌, ◌∙◌, ℕ, suc, ◌+◌, ◌-◌, ◌<◌, ◌≤◌, ◌==◌, ◌&&◌, ◌||◌, ◌⊎◌, inl, inr, List, [], ◌∷◌, min, get_or, Bool, true, false, nat_lt, nat_le, if◌then◌else◌, Option, Some, None, is_none, refl, sym, ap, subst, arith, All, All-from_recursion, and_parts, leb-true, le-leb, cases_lt, cases_Bool, true≢false}
use Rattle.std.specs.Bool.{⊤}
use Rattle.yds_kernel.specs.Event.{Happening, Switch, WakeUp, Speed, Loss, Marker, Other, Event, Said, Stamped, Lost, Nothing}
use Rattle.std.proofs.lemmas.Bool.{ltb-false}
use Rattle.yds_trace.specs.declared.job.End.{End}
use Rattle.yds_trace.specs.declared.job.End.TheVariants as ends
use Rattle.yds_trace.specs.Asked.{Asked, IsAsked, task_at, is_behind_from}
use Rattle.yds_trace.specs.Past.{first_time, last_time, is_loss, counts, up_to}
use Rattle.yds_trace.specs.Jobs.{Job, counted as counted_job, lost_end}
use Rattle.yds_trace.specs.Late.{last_asked, due, is_judged, is_open, lateness, late_by, shown_until}
use Rattle.yds_trace.specs.Document.{jobs_of, shares_of, reason_of, Judged, all_judged, stands}
use Rattle.yds_trace_laws.specs.Laws.{NoneBeginsBefore}
use Rattle.yds_trace_laws.proofs.Judging.{each_judged}
use Rattle.yds_trace_laws.proofs.Runs.{contained}
use Rattle.yds_trace_laws.proofs.Holding.{IsKept, Allows, EndsAt, AllowsEach, WhereCounts, counting_allows, each_job}
use Rattle.yds_trace_laws.proofs.Begins.{HasBegin, begin_kept, begin_allowed, begin_ends, up_to_allows}
use Rattle.yds_trace_laws.proofs.Sharing.{GoesOn, lines_go_on, counts_by}
use Rattle.yds_trace_laws.proofs.Faithful.{whole_job}
use Rattle.yds_trace_laws.proofs.Shares.{shares_kept}
use Rattle.yds_trace_laws.proofs.Units.{IsOne, all_are}

-- # Times of lines

-- none of these lines has its stamp before this time
abbrev AreFrom : ℕ → List Said → Type 0
AreFrom first [] = ⊤
AreFrom first (Stamped event ∷ past) = (first ≤ event.time) × AreFrom first past
AreFrom first (Lost processor reach ∷ past) = AreFrom first past
AreFrom first (Nothing ∷ past) = AreFrom first past

-- Without `to`: behind a line at `here` or later, the first is the earliest.
first_is_first : (here : ℕ) (past : List Said) → GoesOn None past → last_time past ≤ here → (first_time here past ≤ here) × AreFrom (first_time here past) past
first_is_first here [] goes last = (omega arith, tt)
first_is_first here (Stamped event ∷ past) goes last =
    let rest = first_is_first event.time past goes.1 (goes.0 refl) in
    (omega (arith, rest.0, last), (rest.0, rest.1))
first_is_first here (Lost processor reach ∷ past) goes last = first_is_first here past goes last
first_is_first here (Nothing ∷ past) goes last = first_is_first here past goes last

all_from_first : (past : List Said) → GoesOn None past → AreFrom (first_time 0 past) past
all_from_first [] goes = tt
all_from_first (Stamped event ∷ past) goes = first_is_first event.time past goes.1 (goes.0 refl)
all_from_first (Lost processor reach ∷ past) goes = all_from_first past goes
all_from_first (Nothing ∷ past) goes = all_from_first past goes

-- With `to`, up to which lines don't go back: none is before the first one, or else all are after `to`.
abbrev low : ℕ → ℕ → ℕ
low to first = min first (suc to)

low_is_low : (to here : ℕ) (past : List Said) → GoesOn (Some to) past → (here ≤ to → last_time past ≤ here) →
    (low to (first_time here past) ≤ here) × AreFrom (low to (first_time here past)) past
low_is_low to here [] goes last = (omega arith, tt)
low_is_low to here (Stamped event ∷ past) goes last =
    let rest = low_is_low to event.time past goes.1 (λ early. goes.0 (le-leb event.time to early)) in
    (not_above (cases_lt to here) rest.0, (rest.0, rest.1))
  where
    not_above : (to < here) ⊎ (here ≤ to) → low to (first_time event.time past) ≤ event.time → low to (first_time event.time past) ≤ here
    not_above (inl behind) first = omega (arith, behind)
    not_above (inr before) first = omega (arith, first, last before)
low_is_low to here (Lost processor reach ∷ past) goes last = low_is_low to here past goes last
low_is_low to here (Nothing ∷ past) goes last = low_is_low to here past goes last

all_from_low : (to : ℕ) (past : List Said) → GoesOn (Some to) past → AreFrom (low to (first_time 0 past)) past
all_from_low to [] goes = tt
all_from_low to (Stamped event ∷ past) goes = low_is_low to event.time past goes.1 (λ early. goes.0 (le-leb event.time to early))
all_from_low to (Lost processor reach ∷ past) goes = all_from_low to past goes
all_from_low to (Nothing ∷ past) goes = all_from_low to past goes

from_earlier : (one other : ℕ) (past : List Said) → one ≤ other → AreFrom other past → AreFrom one past
from_earlier one other [] order from = tt
from_earlier one other (Stamped event ∷ past) order from = (omega (arith, order, from.0), from_earlier one other past order from.1)
from_earlier one other (Lost processor reach ∷ past) order from = from_earlier one other past order from
from_earlier one other (Nothing ∷ past) order from = from_earlier one other past order from

-- # Where `to` isn't before the first line

abbrev IsBehind : ℕ → ℕ → Type 0
IsBehind first time = first ≤ time

allowed_from : (first : ℕ) (past : List Said) → AreFrom first past → AllowsEach (HasBegin (IsBehind first)) past
allowed_from first [] from = tt
allowed_from first (Stamped event ∷ past) from =
    ((λ loss. begin_allowed (IsBehind first) event.time from.0, begin_ends (IsBehind first) event.happening), allowed_from first past from.1)
allowed_from first (Lost processor reach ∷ past) from = (tt, allowed_from first past from)
allowed_from first (Nothing ∷ past) from = (tt, allowed_from first past from)

each_from : (asked : Asked) (past : List Said) (number : ℕ) → AreFrom (first_time 0 past) past → ((time : ℕ) → asked.to ≡ Some time → first_time 0 past ≤ time) →
    All (HasBegin (IsBehind (first_time 0 past))) (jobs_of asked past number)
each_from asked past number from reached =
    each_job (HasBegin (IsBehind (first_time 0 past))) (begin_kept (IsBehind (first_time 0 past))) asked past number
    (up_to_allows (HasBegin (IsBehind (first_time 0 past))) asked.to past
    (λ time is. begin_allowed (IsBehind (first_time 0 past)) time (reached time is)) (allowed_from (first_time 0 past) past from))

-- # Where it is

-- A line after `to` that counts tells of a loss.
is_lost_line : (to : ℕ) (event : Event) (past : List Said) → suc to ≤ event.time → counts to event past ≡ true → is_loss event.happening ≡ true
is_lost_line to event past later counting = elim (cases_Bool (is_loss event.happening)) [
  | inl loss ↦ loss
  | inr none ↦ absurd (omega (arith, later, counts_by to event past counting none))
]

ends_at_loss : (P : Job → Type 0) (happening : Happening) → is_loss happening ≡ true → EndsAt P happening
ends_at_loss P (Switch previous state next) loss = cc
ends_at_loss P (WakeUp thread starts) loss = tt
ends_at_loss P (Speed processor khz) loss = tt
ends_at_loss P Loss loss = tt
ends_at_loss P Marker loss = tt
ends_at_loss P Other loss = tt

where_lost : (P : Job → Type 0) (to : ℕ) (past : List Said) → AreFrom (suc to) past → WhereCounts P to past
where_lost P to [] from = tt
where_lost P to (Stamped event ∷ past) from = (
  λ counting.
      let loss = is_lost_line to event past from.0 counting in
      (λ none. absurd (true≢false (sym loss ∙ none)), ends_at_loss P event.happening loss),
  where_lost P to past from.1,
)
where_lost P to (Lost processor reach ∷ past) from = where_lost P to past from
where_lost P to (Nothing ∷ past) from = where_lost P to past from

-- So just what a job has that begins at `to` holds of each.
each_stayed : (P : Job → Type 0) → IsKept P → (asked : Asked) (past : List Said) (number to : ℕ) → asked.to ≡ Some to → Allows P to → AreFrom (suc to) past →
    All P (jobs_of asked past number)
each_stayed P kept asked past number to is now from =
    each_job P kept asked past number (subst (λ (o : Option ℕ). AllowsEach P (up_to o past)) (sym is) (counting_allows P to past now (where_lost P to past from)))

-- it hasn't ended
abbrev IsNotEnded : End → Type 0
IsNotEnded ends.Open = ⊤
IsNotEnded (ends.Ended time) = ⊥
IsNotEnded (ends.Lost time) = ⊤

abbrev GoesOnStill : Job → Type 0
GoesOnStill job = IsNotEnded job.end

still_kept : IsKept GoesOnStill
still_kept = record {
  open_again = λ job is. tt;
  slept = λ time job is. tt;
  unwoken = λ time job is. tt;
  woken = woken;
  torn = λ job is. is;
  longer = λ stretch job is. is;
  lost = λ time job is. lost time job.slept job.end is;
}
  where
    woken : (again : Bool) (job : Job) → GoesOnStill job → GoesOnStill (counted_job again job)
    woken true job is = is
    woken false job is = is

    lost : (time : ℕ) (slept : Option ℕ) (end : End) → IsNotEnded end → IsNotEnded (lost_end time slept end)
    lost time slept ends.Open is = tt
    lost time slept (ends.Ended end) is = absurd is
    lost time slept (ends.Lost last) is = tt

-- and a new job hasn't
still_allowed : (time : ℕ) → Allows GoesOnStill time
still_allowed time = record { new = λ due_from certain early. tt; by = λ job is. by job (nat_lt time job.begin) is }
  where
    by : (job : Job) (b : Bool) → GoesOnStill job → GoesOnStill (if b then record job { begin = time; begin_known = false; due_from = time } else job)
    by job true is = is
    by job false is = is

-- # Jobs that are judged

-- the jobs of its task have it
record IsOfJobs (asked : Asked) (past : List Said) (one : Judged) : Type 0 where
  due : one.due ≡ due (task_at asked one.task) one.job
  reason : one.reason ≡ reason_of asked past (task_at asked one.task) one.job

of_jobs : (asked : Asked) (past : List Said) → All (IsOfJobs asked past) (all_judged asked past)
of_jobs asked past =
    All-from_recursion (IsOfJobs asked past) (all_judged asked past)
    (each_judged (IsOfJobs asked past) asked past (λ number before numbered. record { due = refl; reason = refl }))

-- # A job that hasn't ended stands where it is late

open_still : (end : End) → IsNotEnded end → is_open end ≡ true
open_still ends.Open is = refl
open_still (ends.Ended time) is = absurd is
open_still (ends.Lost time) is = refl

not_none : (a b : Bool) → (a && b) ≡ false → a ≡ true → b ≡ false
not_none true b none so = none
not_none false b none so = cc

late_judged : (b : Bool) (time : ℕ) → is_none (if b then Some time else None) ≡ false → b ≡ true
late_judged true time late = refl
late_judged false time late = cc

late_within : (from : Option ℕ) (last deadline : ℕ) (end : End) → is_none (late_by from last deadline end) ≡ false → deadline ≤ last
late_within from last deadline end late =
    let shown : ℕ = shown_until last end in
    let known : (is_judged from last deadline shown && (nat_lt deadline shown || ((deadline == shown) && is_open end))) ≡ true =
    late_judged (is_judged from last deadline shown && (nat_lt deadline shown || ((deadline == shown) && is_open end))) (shown - deadline) late in
    leb-true deadline last (and_parts (is_behind_from from shown) (nat_le deadline last)
    (and_parts (is_judged from last deadline shown) (nat_lt deadline shown || ((deadline == shown) && is_open end)) known).0).1

last_within : (asked : Asked) (past : List Said) (to : ℕ) → asked.to ≡ Some to → last_asked asked past ≤ to
last_within asked past to is =
    subst (λ (o : Option ℕ). (elim o as (λ _. ℕ) [ None ↦ last_time past | Some to ↦ min to (last_time past) ]) ≤ to) (sym is) (omega arith)

-- So none stands that begins at `to` and hasn't ended: its deadline is later, as it isn't due before a unit of time behind its begin.
none_stands : (asked : Asked) (past : List Said) (to : ℕ) (one : Judged) → IsAsked asked → asked.to ≡ Some to → IsOfJobs asked past one →
    one.job.begin ≡ to → IsNotEnded one.job.end → stands one ≡ true → ⊥
none_stands asked past to one fit is of begin goes_on stand =
    let whole = whole_job asked past (task_at asked one.task) one.job (ap is_none (sym of.reason) ∙ stand) in
    let late = not_none (is_open one.job.end) (is_none (lateness asked (task_at asked one.task) (last_asked asked past) one.job)) whole.0 (open_still one.job.end goes_on) in
    let long : one.job.begin + asked.unit ≤ due (task_at asked one.task) one.job = ltb-false (due (task_at asked one.task) one.job) (one.job.begin + asked.unit) whole.1 in
    omega (
      arith,
      late_within asked.from (last_asked asked past) (due (task_at asked one.task) one.job) one.job.end late,
      last_within asked past to is,
      begin,
      long,
      fit.has_unit,
    )

-- # The law

-- what holds of the begin of each of a task's jobs
begin_of_share : (P : ℕ → Type 0) (asked : Asked) (past : List Said) (one : Judged) → IsOne asked past one → All (HasBegin P) (jobs_of asked past one.task) → P one.job.begin
begin_of_share P asked past one has all =
    contained (HasBegin P) (shares_of asked past one.task) one.job has.job (shares_kept (HasBegin P) (λ processor job begins. begins) asked past one.task all)

begins_behind : (asked : Asked) (past : List Said) (one : Judged) → IsAsked asked → IsOne asked past one → IsOfJobs asked past one → stands one ≡ true →
    (to : Option ℕ) → asked.to ≡ to → GoesOn to past → first_time 0 past ≤ one.job.begin
begins_behind asked past one fit has of stand None is goes =
    begin_of_share (IsBehind (first_time 0 past)) asked past one has
    (each_from asked past one.task (all_from_first past goes) (λ time other. let none : None ≡ Some time = sym is ∙ other in cc))
begins_behind asked past one fit has of stand (Some to) is goes = elim (cases_lt to (first_time 0 past)) [
  | inl before ↦
      let from : AreFrom (suc to) past = from_earlier (suc to) (low to (first_time 0 past)) past (omega (arith, before)) (all_from_low to past goes) in
      absurd (none_stands asked past to one fit is of
      (begin_of_share (λ time. time ≡ to) asked past one has
      (each_stayed (HasBegin (λ time. time ≡ to)) (begin_kept (λ time. time ≡ to)) asked past one.task to is (begin_allowed (λ time. time ≡ to) to refl) from))
      (contained GoesOnStill (shares_of asked past one.task) one.job has.job
      (shares_kept GoesOnStill (λ processor job still. still) asked past one.task
      (each_stayed GoesOnStill still_kept asked past one.task to is (still_allowed to) from)))
      stand)
  | inr reached ↦
      begin_of_share (IsBehind (first_time 0 past)) asked past one has
      (each_from asked past one.task (from_earlier (first_time 0 past) (low to (first_time 0 past)) past (omega (arith, reached)) (all_from_low to past goes))
      (λ time other. let same : Some to ≡ Some time = sym is ∙ other in let equal : to ≡ time = cc in omega (arith, reached, equal)))
]

pub none_begins_before : NoneBeginsBefore
none_begins_before asked past fit none k d within stand =
    begins_behind asked past (get_or (all_judged asked past) k d) fit (all_are asked past k d within) (of_jobs asked past k d within) stand asked.to refl (lines_go_on asked past none)
