-- A job as the documents of one processor have it: all of it but what it ran elsewhere.
use Rattle.yds_model.proofs.Common.{◌≡◌, ◌∙◌, ℕ, ◌==◌, ◌&&◌, List, [], ◌∷◌, map, Bool, true, false, nat_lt, if◌then◌else◌, refl, sym, ap, arith, length-map, get_or-map, All, All-from_recursion, recursion_from_All}
use Rattle.std.specs.List.{AllByRecursion, Contains, list_any}
use Rattle.yds_kernel.specs.declared.state.State.TheVariants as states
use Rattle.yds_kernel.specs.Event.{Happening, Switch, WakeUp, Speed, Loss, Marker, Other, Said, Stamped, Lost, Nothing}
use Rattle.yds_trace.specs.declared.job.Stretch.{Stretch}
use Rattle.yds_trace.specs.Asked.{Asked, on}
use Rattle.yds_trace.specs.Past.{up_to}
use Rattle.yds_trace.specs.Jobs.{Job, counted as counted_job}
use Rattle.yds_trace.specs.Document.{is_elsewhere, has_run_on, jobs_of, is_shared_by, share_on, share_of, shares_of}
use Rattle.yds_trace.proofs.Shares.{share_has_run_on, share_stays, share_keeps}
use Rattle.yds_trace_laws.specs.Sharing.{EachStretch}
use Rattle.yds_trace_laws.proofs.Ordered.{filter-all}
use Rattle.yds_trace_laws.proofs.Holding.{IsKept, Allows, EndsAt, AllowsEach, each_job}
use Rattle.yds_trace_laws.proofs.Sharing.{Ran}

-- # What a share keeps

abbrev pub share_if : Bool → ℕ → Job → Job
share_if moved processor job = if moved then share_on processor job else job

if_kept : (P : Job → Type 0) (moved : Bool) (processor : ℕ) (job : Job) → P (share_on processor job) → P job → P (share_if moved processor job)
if_kept P true processor job share whole = share
if_kept P false processor job share whole = whole

-- What a job and each share of it have, the job has as a processor's documents have it.
pub share_kept : (P : Job → Type 0) → ((processor : ℕ) (job : Job) → P job → P (share_on processor job)) → (asked : Asked) (job : Job) → P job → P (share_of asked job)
share_kept P kept asked job is =
    if_kept P (asked.moved_parts && is_shared_by asked.processor job) asked.processor job (kept asked.processor job is) is

all_shares : (P : Job → Type 0) → ((processor : ℕ) (job : Job) → P job → P (share_on processor job)) → (asked : Asked) (jobs : List Job) →
    AllByRecursion P jobs → AllByRecursion P (map (share_of asked) jobs)
all_shares P kept asked [] all = tt
all_shares P kept asked (job ∷ jobs) all = (share_kept P kept asked job all.0, all_shares P kept asked jobs all.1)

pub shares_kept : (P : Job → Type 0) → ((processor : ℕ) (job : Job) → P job → P (share_on processor job)) → (asked : Asked) (past : List Said) (number : ℕ) →
    All P (jobs_of asked past number) → All P (shares_of asked past number)
shares_kept P kept asked past number all =
    All-from_recursion P (shares_of asked past number)
    (all_shares P kept asked (jobs_of asked past number) (recursion_from_All P (jobs_of asked past number) all))

-- A share's stretches are some of the job's.
pub shares_ran : (P : Stretch → Type 0) (asked : Asked) (jobs : List Job) → Ran P jobs → Ran P (map (share_of asked) jobs)
shares_ran P asked jobs ran =
    all_shares (λ (job : Job). AllByRecursion P job.stretches)
    (λ processor job all. filter-all P (λ (stretch : Stretch). stretch.processor == processor) job.stretches all) asked jobs ran

pub shares_each : (P : Stretch → Type 0) (asked : Asked) (past : List Said) (number : ℕ) → EachStretch P (jobs_of asked past number) → EachStretch P (shares_of asked past number)
shares_each P asked past number each =
    shares_kept (λ (job : Job). All P job.stretches)
    (λ processor job all. All-from_recursion P (share_on processor job).stretches
    (filter-all P (λ (stretch : Stretch). stretch.processor == processor) job.stretches (recursion_from_All P job.stretches all))) asked past number each

-- # Whole jobs

-- No job that a trace shows is a share.
abbrev IsUnshared : Job → Type 0
IsUnshared job = job.shared ≡ false

unshared_kept : IsKept IsUnshared
unshared_kept = record {
  open_again = λ job is. is;
  slept = λ time job is. is;
  unwoken = λ time job is. is;
  woken = woken;
  torn = λ job is. is;
  longer = λ stretch job is. is;
  lost = λ time job is. is;
}
  where
    woken : (again : Bool) (job : Job) → IsUnshared job → IsUnshared (counted_job again job)
    woken true job is = is
    woken false job is = is

unshared_ends : (happening : Happening) → EndsAt IsUnshared happening
unshared_ends (Switch previous states.GoesOn next) = tt
unshared_ends (Switch previous states.Sleeps next) = λ time job is. is
unshared_ends (Switch previous states.Exits next) = λ time job is. is
unshared_ends (Switch previous states.Unknown next) = tt
unshared_ends (WakeUp thread starts) = tt
unshared_ends (Speed processor khz) = tt
unshared_ends Loss = tt
unshared_ends Marker = tt
unshared_ends Other = tt

unshared_allowed : (time : ℕ) → Allows IsUnshared time
unshared_allowed time = record { new = λ due_from certain early. refl; by = λ job is. by job (nat_lt time job.begin) is }
  where
    by : (job : Job) (b : Bool) → IsUnshared job → IsUnshared (if b then record job { begin = time; begin_known = false; due_from = time } else job)
    by job true is = is
    by job false is = is

unshared_each : (past : List Said) → AllowsEach IsUnshared past
unshared_each [] = tt
unshared_each (Stamped event ∷ past) =
    ((λ loss. unshared_allowed event.time, unshared_ends event.happening), unshared_each past)
unshared_each (Lost processor reach ∷ past) = (tt, unshared_each past)
unshared_each (Nothing ∷ past) = (tt, unshared_each past)

pub jobs_unshared : (asked : Asked) (past : List Said) (number : ℕ) → AllByRecursion (λ job. job.shared ≡ false) (jobs_of asked past number)
jobs_unshared asked past number =
    recursion_from_All IsUnshared (jobs_of asked past number) (each_job IsUnshared unshared_kept asked past number (unshared_each (up_to asked.to past)))

-- # Each stretch is in the share of its processor

map_contains : {A B : Type 0} (f : A → B) (xs : List A) (x : A) → Contains xs x → Contains (map f xs) (f x)
map_contains f xs x (k, within, is) = (k, omega (arith, within, length-map xs f), get_or-map f xs k x (f x) within ∙ ap f is)

pub in_shares : (asked : Asked) (processor : ℕ) (past : List Said) (number : ℕ) (job : Job) → Contains (jobs_of asked past number) job →
    Contains (map (share_of (on processor asked)) (jobs_of asked past number)) (share_of (on processor asked) job)
in_shares asked processor past number job has = map_contains (share_of (on processor asked)) (jobs_of asked past number) job has

pub share_has : (asked : Asked) (job : Job) (stretch : Stretch) → Contains job.stretches stretch → Contains (share_of (on stretch.processor asked) job).stretches stretch
share_has asked job stretch has = share_keeps (on stretch.processor asked) job stretch refl has

-- and in no other one, where shares are asked for
pub none_elsewhere : (asked : Asked) (job : Job) → asked.moved_parts ≡ true → has_run_on asked.processor (share_of asked job) ≡ true →
    list_any (is_elsewhere asked.processor) (share_of asked job).stretches ≡ false
none_elsewhere asked job parts ran = share_stays asked job parts (sym (share_has_run_on asked job) ∙ ran)
