-- No unit of time is in runs of two tasks: rounding down keeps stretches apart, and a run has no unit that none of its stretches has.
use Rattle.yds_model.proofs.Common.{◌≡◌, ◌∙◌, ℕ, ◌+◌, ◌<◌, ◌≤◌, ◌⊎◌, inl, inr, ◌==◌, List, [], ◌∷◌, map, reverse, length, Bool, false, None, sym, subst, arith, get_or, All, All-from_recursion, recursion_from_All, All-contains_itself, Contains, list_any, or_parts, eqb-true}
use Rattle.std.specs.List.{AllByRecursion, enumerate_from}
use Rattle.yds_kernel.specs.Event.{Said}
use Rattle.yds_trace.specs.declared.job.Stretch.{Stretch}
use Rattle.yds_trace.specs.Asked.{Task, Asked}
use Rattle.yds_trace.specs.Jobs.{Job}
use Rattle.yds_trace.specs.Faults.{first_fault}
use Rattle.yds_trace.specs.WrittenTime.{Units, Run, run_of, runs_of}
use Rattle.yds_trace.specs.Document.{is_elsewhere, Judged, judged, judged_of, judged_from, all_judged, began_before, jobs_of, shares_of, units_of}
use Rattle.yds_trace_laws.specs.Faithful.{IsRounded}
use Rattle.yds_trace_laws.specs.Sharing.{AreApart, EachStretch, RunsAreApart, HaveOwnUnits}
use Rattle.yds_trace_laws.specs.Laws.{UnitsAreOwn, RunsHaveOwnUnits}
use Rattle.yds_trace_laws.proofs.Ordered.{append-all, in_order-all}
use Rattle.yds_trace_laws.proofs.Times.{order_is_kept}
use Rattle.yds_trace_laws.proofs.Runs.{all_weaker, contained, reverse-all, IsForward, runs_forward, IsRunOf, WhereForward, runs_are_stretches}
use Rattle.yds_trace_laws.proofs.Faithful.{IsWhole, all_whole, same_processor}
use Rattle.yds_trace_laws.proofs.Shares.{shares_each}
use Rattle.yds_trace_laws.proofs.Sharing.{tasks_have_own_time}

-- # Runs of two lists of stretches

-- a run of stretches that are all apart from an interval of time is apart from it
run_apart : (units : Units) (run : Run) (stretches : List Stretch) (other : Run) → IsForward other → AllByRecursion (λ s. RunsAreApart (run_of units s) other) stretches →
    IsRounded units run stretches → RunsAreApart run other
run_apart units run [] other forward all rounded = absurd rounded
run_apart units run (stretch ∷ []) other forward all rounded = subst (λ (r : Run). RunsAreApart r other) rounded all.0
run_apart units run (stretch ∷ next ∷ more) other forward all rounded =
    joined (run_apart units (record { from = (run_of units stretch).to; to = run.to; speed = run.speed }) (next ∷ more) other forward all.1 rounded.2) all.0
  where
    joined : RunsAreApart (record { from = (run_of units stretch).to; to = run.to; speed = run.speed }) other → RunsAreApart (run_of units stretch) other → RunsAreApart run other
    joined (inl before) first = inl before
    joined (inr behind) (inl before) = absurd (omega (arith, forward, behind, before))
    joined (inr behind) (inr first) = inr (omega (arith, first, rounded.0))

turned : (run other : Run) → RunsAreApart run other → RunsAreApart other run
turned run other (inl before) = inr before
turned run other (inr behind) = inl behind

-- two stretches on one processor that are apart are written so
written_apart : (units : Units) (s t : Stretch) → 1 ≤ units.time → AreApart s t → s.processor ≡ t.processor → RunsAreApart (run_of units s) (run_of units t)
written_apart units s t positive apart same = by (apart same)
  where
    by : (s.to ≤ t.from) ⊎ (t.to ≤ s.from) → RunsAreApart (run_of units s) (run_of units t)
    by (inl before) = inl (order_is_kept units s.to t.from positive before)
    by (inr behind) = inr (order_is_kept units t.to s.from positive behind)

-- what is so of each of two lists, in the other order
abbrev Pairs : Units → List Stretch → List Stretch → Type 0
Pairs units ss ts = AllByRecursion (λ s. AllByRecursion (λ t. RunsAreApart (run_of units s) (run_of units t)) ts) ss

-- all of these are apart from this one
abbrev ApartFrom : Units → List Stretch → Stretch → Type 0
ApartFrom units ss t = AllByRecursion (λ s. RunsAreApart (run_of units s) (run_of units t)) ss

none_apart : (units : Units) (ts : List Stretch) → AllByRecursion (ApartFrom units []) ts
none_apart units [] = tt
none_apart units (t ∷ ts) = (tt, none_apart units ts)

one_apart : (units : Units) (s : Stretch) (ss ts : List Stretch) → AllByRecursion (λ t. RunsAreApart (run_of units s) (run_of units t)) ts → AllByRecursion (ApartFrom units ss) ts →
    AllByRecursion (ApartFrom units (s ∷ ss)) ts
one_apart units s ss [] first rest = tt
one_apart units s ss (t ∷ ts) first rest = ((first.0, rest.0), one_apart units s ss ts first.1 rest.1)

swapped : (units : Units) (ss ts : List Stretch) → Pairs units ss ts → AllByRecursion (ApartFrom units ss) ts
swapped units [] ts all = none_apart units ts
swapped units (s ∷ ss) ts all = one_apart units s ss ts all.0 (swapped units ss ts all.1)

-- one run of some stretches, and one of others
abbrev IsOther : Units → List Stretch → Stretch → Type 0
IsOther units ss t = IsForward (run_of units t) × ApartFrom units ss t

two_runs : (units : Units) (run other : Run) (stretches others : List Stretch) → IsForward run → AllByRecursion (IsOther units stretches) others →
    IsRounded units run stretches → IsRounded units other others → RunsAreApart run other
two_runs units run other stretches others forward all rounded also =
    turned other run (run_apart units other others run forward
    (all_weaker (IsOther units stretches) (λ t. RunsAreApart (run_of units t) run)
    (λ t is. turned run (run_of units t) (run_apart units run stretches (run_of units t) is.0 is.1 rounded)) others all) also)

-- all runs of two lists of stretches that are apart
abbrev IsFirst : Units → List Stretch → Stretch → Type 0
IsFirst units ts s = AllByRecursion (λ t. RunsAreApart (run_of units s) (run_of units t)) ts

all_runs_apart : (units : Units) (ss ts : List Stretch) → Pairs units ss ts → AllByRecursion (λ run. AllByRecursion (RunsAreApart run) (runs_of units ts)) (runs_of units ss)
all_runs_apart units ss ts all =
    both (runs_of units ss) (runs_are_stretches units (IsFirst units ts) ss (all_weaker (IsFirst units ts) (WhereForward units (IsFirst units ts)) (λ s is forward. is) ss all))
    (runs_forward units ss)
  where
    one : (run : Run) → IsRunOf units (IsFirst units ts) run → IsForward run → AllByRecursion (RunsAreApart run) (runs_of units ts)
    one run is forward =
        all_weaker (IsRunOf units (IsOther units is.stretches)) (RunsAreApart run)
        (λ other also. two_runs units run other is.stretches also.stretches forward also.each is.rounded also.rounded) (runs_of units ts)
        (runs_are_stretches units (IsOther units is.stretches) ts
        (all_weaker (ApartFrom units is.stretches) (WhereForward units (IsOther units is.stretches)) (λ t apart takes. (takes, apart)) ts (swapped units is.stretches ts is.each)))

    both : (runs : List Run) → AllByRecursion (IsRunOf units (IsFirst units ts)) runs → AllByRecursion IsForward runs →
        AllByRecursion (λ run. AllByRecursion (RunsAreApart run) (runs_of units ts)) runs
    both [] is forward = tt
    both (run ∷ runs) is forward = (one run is.0 forward.0, both runs is.1 forward.1)

-- # Jobs of two tasks

-- a job that is judged is one of its task's, as the processor's documents have it, and that is one of the tasks
pub record IsOne (asked : Asked) (past : List Said) (one : Judged) : Type 0 where
  pub known : one.task < length asked.tasks
  pub job : Contains (shares_of asked past one.task) one.job

numbered_are : (asked : Asked) (past : List Said) (number : ℕ) (before : Bool) (start : ℕ) (jobs : List Job) → number < length asked.tasks →
    AllByRecursion (Contains (shares_of asked past number)) jobs → AllByRecursion (IsOne asked past) (map (judged asked past number before) (enumerate_from start jobs))
numbered_are asked past number before start [] known all = tt
numbered_are asked past number before start (job ∷ jobs) known all =
    (record { known = known; job = all.0 }, numbered_are asked past number before (start + 1) jobs known all.1)

tasks_are : (asked : Asked) (past : List Said) (number : ℕ) (tasks : List Task) → number + length tasks ≤ length asked.tasks →
    AllByRecursion (IsOne asked past) (judged_from asked past number tasks)
tasks_are asked past number [] within = tt
tasks_are asked past number (task ∷ tasks) within =
    append-all (IsOne asked past) (judged_of asked past number) (judged_from asked past (number + 1) tasks)
    (numbered_are asked past number (began_before (jobs_of asked past number)) 0 (shares_of asked past number) (omega (arith, within))
    (recursion_from_All (Contains (shares_of asked past number)) (shares_of asked past number) (All-contains_itself (shares_of asked past number))))
    (tasks_are asked past (number + 1) tasks (omega (arith, within)))

pub all_are : (asked : Asked) (past : List Said) → All (IsOne asked past) (all_judged asked past)
all_are asked past =
    All-from_recursion (IsOne asked past) (all_judged asked past)
    (in_order-all (IsOne asked past) (λ one. one.job.begin) (judged_from asked past 0 asked.tasks) (tasks_are asked past 0 asked.tasks (omega arith)))

pub there : (processor : ℕ) (stretches : List Stretch) → list_any (is_elsewhere processor) stretches ≡ false → AllByRecursion (λ s. s.processor ≡ processor) stretches
there processor [] none = tt
there processor (stretch ∷ stretches) none =
    let parts = or_parts (is_elsewhere processor stretch) (list_any (is_elsewhere processor) stretches) none in
    (eqb-true stretch.processor processor (same_processor (stretch.processor == processor) parts.0), there processor stretches parts.1)

written_inner : (units : Units) (processor : ℕ) (s : Stretch) (ts : List Stretch) → 1 ≤ units.time → s.processor ≡ processor → AllByRecursion (AreApart s) ts →
    AllByRecursion (λ t. t.processor ≡ processor) ts → IsFirst units ts s
written_inner units processor s [] positive here apart all = tt
written_inner units processor s (t ∷ ts) positive here apart all =
    (written_apart units s t positive apart.0 (here ∙ sym all.0), written_inner units processor s ts positive here apart.1 all.1)

written_pairs : (units : Units) (processor : ℕ) (ss ts : List Stretch) → 1 ≤ units.time → AllByRecursion (λ s. AllByRecursion (AreApart s) ts) ss →
    AllByRecursion (λ s. s.processor ≡ processor) ss → AllByRecursion (λ t. t.processor ≡ processor) ts → Pairs units ss ts
written_pairs units processor [] ts positive apart here all = tt
written_pairs units processor (s ∷ ss) ts positive apart here all =
    (written_inner units processor s ts positive here.0 apart.0 all, written_pairs units processor ss ts positive apart.1 here.1 all)

own_units : (asked : Asked) (past : List Said) (units : Units) → 1 ≤ units.time → first_fault asked past ≡ None → (one other : Judged) → IsOne asked past one → IsOne asked past other →
    IsWhole asked one → IsWhole asked other → HaveOwnUnits units one other
own_units asked past units positive none one other first second whole whole_too stand stand_too apart =
    let theirs : List Stretch = other.job.stretches in
    let mine : List Stretch = one.job.stretches in
    let all : All (λ s. EachStretch (AreApart s) (jobs_of asked past other.task)) mine =
    contained (λ (job : Job). All (λ s. EachStretch (AreApart s) (jobs_of asked past other.task)) job.stretches) (shares_of asked past one.task) one.job first.job
    (shares_each (λ s. EachStretch (AreApart s) (jobs_of asked past other.task)) asked past one.task (tasks_have_own_time asked past none one.task other.task apart)) in
    let pairs : AllByRecursion (λ s. AllByRecursion (AreApart s) theirs) mine =
    all_weaker (λ s. EachStretch (AreApart s) (jobs_of asked past other.task)) (λ s. AllByRecursion (AreApart s) theirs)
    (λ s each. recursion_from_All (AreApart s) theirs (contained (λ (job : Job). All (AreApart s) job.stretches) (shares_of asked past other.task) other.job second.job
    (shares_each (AreApart s) asked past other.task each))) mine
    (recursion_from_All (λ s. EachStretch (AreApart s) (jobs_of asked past other.task)) mine all) in
    let written : Pairs units mine theirs =
    written_pairs units asked.processor mine theirs positive pairs (there asked.processor mine (whole.none_elsewhere stand)) (there asked.processor theirs (whole_too.none_elsewhere stand_too)) in
    let turned_around : Pairs units (reverse mine) (reverse theirs) =
    reverse-all (IsFirst units (reverse theirs)) mine (all_weaker (IsFirst units theirs) (IsFirst units (reverse theirs))
    (λ s each. reverse-all (λ t. RunsAreApart (run_of units s) (run_of units t)) theirs each) mine written) in
    let runs = all_runs_apart units (reverse mine) (reverse theirs) turned_around in
    All-from_recursion (λ run. All (RunsAreApart run) (runs_of units (reverse theirs))) (runs_of units (reverse mine))
    (all_weaker (λ run. AllByRecursion (RunsAreApart run) (runs_of units (reverse theirs))) (λ run. All (RunsAreApart run) (runs_of units (reverse theirs)))
    (λ run each. All-from_recursion (RunsAreApart run) (runs_of units (reverse theirs)) each) (runs_of units (reverse mine)) runs)

-- # The laws

pub units_are_own : UnitsAreOwn
units_are_own asked past units positive none i d within j e within_too =
    own_units asked past units positive none (get_or (all_judged asked past) i d) (get_or (all_judged asked past) j e) (all_are asked past i d within) (all_are asked past j e within_too)
    (all_whole asked past i d within) (all_whole asked past j e within_too)

pub runs_have_own_units : RunsHaveOwnUnits
runs_have_own_units asked past fit none = units_are_own asked past (units_of asked past) fit.has_unit none
