-- Each job of a trace without a fault begins by the greatest time that a trace may have, and its deadline counts from no later one.
use Rattle.yds_model.proofs.Common.{◌≡◌, ℕ, ◌+◌, ◌≤◌, List, [], ◌∷◌, length, Bool, true, false, nat_lt, if◌then◌else◌, Option, Some, None, refl, subst, arith, All}
use Rattle.std.proofs.lemmas.Bool.{ltb-false}
use Rattle.yds_kernel.specs.declared.state.State.TheVariants as states
use Rattle.yds_kernel.specs.Parts.{or_else}
use Rattle.yds_kernel.specs.Event.{Happening, Switch, WakeUp, Speed, Loss, Marker, Other, Event, Said, Stamped, Lost, Nothing}
use Rattle.yds_trace.specs.declared.limits.TheConstants.{MAX_TIME}
use Rattle.yds_trace.specs.declared.fault.Cause.{Cause}
use Rattle.yds_trace.specs.declared.fault.Cause.TheVariants as causes
use Rattle.yds_trace.specs.Asked.{Asked}
use Rattle.yds_trace.specs.Past.{up_to}
use Rattle.yds_trace.specs.Jobs.{Job, counted as counted_job}
use Rattle.yds_trace.specs.Faults.{first_fault, numbered, said_fault, stamped_fault, behind_fault, place_fault, processors_fault, length_fault}
use Rattle.yds_trace.specs.Document.{jobs_of}
use Rattle.yds_trace_laws.specs.Laws.{IsReached}
use Rattle.yds_trace_laws.proofs.Holding.{IsKept, Allows, EndsAt, AllowsEach, WhereCounts, counting_allows, each_job}

-- # What is known of a job's begin

-- its begin, and where its deadline counts from, have this property
abbrev pub HasTimes : (ℕ → ℕ → Type 0) → Job → Type 0
HasTimes P job = P job.begin job.due_from

pub times_kept : (P : ℕ → ℕ → Type 0) → IsKept (HasTimes P)
times_kept P = record {
  open_again = λ job is. is;
  slept = λ time job is. is;
  unwoken = λ time job is. is;
  woken = woken;
  torn = λ job is. is;
  longer = λ stretch job is. is;
  lost = λ time job is. is;
}
  where
    woken : (again : Bool) (job : Job) → HasTimes P job → HasTimes P (counted_job again job)
    woken true job is = is
    woken false job is = is

pub times_allowed : (P : ℕ → ℕ → Type 0) (time : ℕ) → ((due_from : ℕ) → due_from ≤ time → P time due_from) → Allows (HasTimes P) time
times_allowed P time now = record { new = λ due_from certain early. now due_from early; by = λ job is. by job (nat_lt time job.begin) is }
  where
    by : (job : Job) (b : Bool) → HasTimes P job → HasTimes P (if b then record job { begin = time; begin_known = false; due_from = time } else job)
    by job true is = now time (omega arith)
    by job false is = is

pub times_end : (P : ℕ → ℕ → Type 0) (happening : Happening) → EndsAt (HasTimes P) happening
times_end P (Switch previous states.GoesOn next) = tt
times_end P (Switch previous states.Sleeps next) = λ time job is. is
times_end P (Switch previous states.Exits next) = λ time job is. is
times_end P (Switch previous states.Unknown next) = tt
times_end P (WakeUp thread starts) = tt
times_end P (Speed processor khz) = tt
times_end P Loss = tt
times_end P Marker = tt
times_end P Other = tt

-- its begin alone
abbrev pub HasBegin : (ℕ → Type 0) → Job → Type 0
HasBegin P job = HasTimes (λ begin due_from. P begin) job

pub begin_kept : (P : ℕ → Type 0) → IsKept (HasBegin P)
begin_kept P = times_kept (λ begin due_from. P begin)

pub begin_allowed : (P : ℕ → Type 0) (time : ℕ) → P time → Allows (HasBegin P) time
begin_allowed P time now = times_allowed (λ begin due_from. P begin) time (λ due_from early. now)

pub begin_ends : (P : ℕ → Type 0) (happening : Happening) → EndsAt (HasBegin P) happening
begin_ends P happening = times_end (λ begin due_from. P begin) happening

-- # A trace without a fault

pub or_none : {A : Type 0} (a b : Option A) → or_else a b ≡ None → (a ≡ None) × (b ≡ None)
or_none None b none = (refl, none)
or_none (Some x) b none = cc

pub numbered_none : (number : ℕ) (cause : Option Cause) → numbered number cause ≡ None → cause ≡ None
numbered_none number None none = refl
numbered_none number (Some cause) none = cc

not_later : (time : ℕ) (late : Bool) → nat_lt MAX_TIME time ≡ late → ◌≡◌ {A = Option Cause} (if late then Some causes.TimeTooGreat else None) None → time ≤ MAX_TIME
not_later time true is none = cc
not_later time false is none = ltb-false MAX_TIME time is

stamp_in_time : (asked : Asked) (past : List Said) (event : Event) → said_fault asked past (Stamped event) ≡ None → event.time ≤ MAX_TIME
stamp_in_time asked past event none =
    let stamped = or_none (stamped_fault asked past event) (length_fault asked (Stamped event ∷ past)) none in
    let placed = or_none (place_fault event) (behind_fault asked past event) stamped.0 in
    let timed = or_none (processors_fault event) (if nat_lt MAX_TIME event.time then Some causes.TimeTooGreat else None) placed.0 in
    not_later event.time (nat_lt MAX_TIME event.time) refl timed.1

-- neither is later than the greatest time
abbrev AreEarly : ℕ → ℕ → Type 0
AreEarly begin due_from = (begin ≤ MAX_TIME) × (due_from ≤ MAX_TIME)

early_allowed : (time : ℕ) → time ≤ MAX_TIME → Allows (HasTimes AreEarly) time
early_allowed time early = times_allowed AreEarly time (λ due_from before. (early, omega (arith, early, before)))

lines_in_time : (asked : Asked) (past : List Said) → first_fault asked past ≡ None → AllowsEach (HasTimes AreEarly) past
lines_in_time asked [] none = tt
lines_in_time asked (Stamped event ∷ past) none =
    let parts = or_none (first_fault asked past) (numbered (length past + 1) (said_fault asked past (Stamped event))) none in
    let early = stamp_in_time asked past event (numbered_none (length past + 1) (said_fault asked past (Stamped event)) parts.1) in
    ((λ loss. early_allowed event.time early, times_end AreEarly event.happening), lines_in_time asked past parts.0)
lines_in_time asked (Lost processor reach ∷ past) none =
    (tt, lines_in_time asked past (or_none (first_fault asked past) (numbered (length past + 1) (said_fault asked past (Lost processor reach))) none).0)
lines_in_time asked (Nothing ∷ past) none =
    (tt, lines_in_time asked past (or_none (first_fault asked past) (numbered (length past + 1) (said_fault asked past Nothing)) none).0)

-- each line is allowed, so each that counts
where_each : (P : Job → Type 0) (to : ℕ) (past : List Said) → AllowsEach P past → WhereCounts P to past
where_each P to [] each = tt
where_each P to (Stamped event ∷ past) each = (λ counting. each.0, where_each P to past each.1)
where_each P to (Lost processor reach ∷ past) each = where_each P to past each.1
where_each P to (Nothing ∷ past) each = where_each P to past each.1

pub up_to_allows : (P : Job → Type 0) (to : Option ℕ) (past : List Said) → ((time : ℕ) → to ≡ Some time → Allows P time) → AllowsEach P past → AllowsEach P (up_to to past)
up_to_allows P None past reached each = each
up_to_allows P (Some to) past reached each = counting_allows P to past (reached to refl) (where_each P to past each)

reached_early : (to : Option ℕ) → IsReached to → (time : ℕ) → to ≡ Some time → time ≤ MAX_TIME
reached_early None reached time is = cc
reached_early (Some to) reached time is = subst (λ (o : Option ℕ). IsReached o) is reached

-- Each job of a trace without a fault begins by the greatest time that a trace may have, and its deadline counts from no later one.
pub begins_in_time : (asked : Asked) (past : List Said) (number : ℕ) → IsReached asked.to → first_fault asked past ≡ None →
    All (λ (job : Job). (job.begin ≤ MAX_TIME) × (job.due_from ≤ MAX_TIME)) (jobs_of asked past number)
begins_in_time asked past number reached none =
    each_job (HasTimes AreEarly) (times_kept AreEarly) asked past number
    (up_to_allows (HasTimes AreEarly) asked.to past (λ time is. early_allowed time (reached_early asked.to reached time is)) (lines_in_time asked past none))
