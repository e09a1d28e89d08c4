-- A job that is late by a unit or more makes the document infeasible; so do work without a slot, and a front that misses a run.
use Rattle.yds_model.proofs.Common.{◌≡◌, ◌∙◌, ◌≢◌, ℕ, zero, suc, ◌+◌, ◌-◌, ◌<◌, ◌≤◌, ◌==◌, ◌&&◌, ◌||◌, List, [], ◌∷◌, map, length, take, drop, Bool, true, false, nat_lt, nat_le, if◌then◌else◌, Option, Some, None, is_some, refl, sym, ap, subst, arith, inl, inr, cases_Bool, cases_lt, or_parts, lt-ltb, leb-false, All, All-contains_itself, sum_by, sum_by-cons, sum_by-take-drop, drop-cons, ne_eqb, recursion_from_All, All-from_recursion, Job, job_at}
use Rattle.std.specs.List.{AllByRecursion, flat_map, enumerate_from, slice_index_or}
use Rattle.yds_kernel.specs.Event.{Said}
use Rattle.yds_model.specs.Feasible.{IsFeasible}
use Rattle.yds_trace.specs.declared.job.End.{End}
use Rattle.yds_trace.specs.declared.job.End.TheVariants as ends
use Rattle.yds_trace.specs.Asked.{Asked}
use Rattle.yds_trace.specs.Late.{last_asked, is_judged, is_open, late_by}
use Rattle.yds_trace.specs.WrittenTime.{Units, Run, written_time, work_of_run, work_of_runs, runs_end}
use Rattle.yds_trace.specs.Document.{Judged, Written, Placed, stands, written_end, written_runs, is_hidden, with_runs, without_runs, written_of, all_judged, all_runs, units_of, placed_runs}
use Rattle.yds_trace_laws.specs.AsSlots.{job_read, jobs_read, slots_read}
use Rattle.yds_trace_laws.specs.InUnits.{document_in, AreOf, NoneBefore}
use Rattle.yds_trace_laws.specs.Laws.{SomeAreInTime, FeasibleMeansInTime, WorkNeedsASlot, FrontsAreInfeasible}
use Rattle.base.proofs.Sums.{part_own}
use Rattle.yds_trace_laws.proofs.Ordered.{in_order-sum, in_order-all, in_order-all_back, append-all, map-all}
use Rattle.yds_trace_laws.proofs.Runs.{each_of_these}
use Rattle.yds_trace_laws.proofs.Times.{lateness_is_kept}
use Rattle.yds_trace_laws.proofs.Placing.{IsAt, found, mine, place, if_other, given_at, IsWithin, within_at}
use Rattle.yds_trace_laws.proofs.AsRead.{deadline_of, runs_within, gets}
use Rattle.yds_trace_laws.proofs.Judging.{IsJudged, all_are_judged, zero_before}

-- # A job at a place among those written

at_within : (jobs : List Written) (n : ℕ) (job : Written) → IsAt jobs n job → n < length (jobs_read jobs)
at_within [] n job at = absurd at
at_within (first ∷ jobs) zero job at = omega arith
at_within (first ∷ jobs) (suc n) job at = omega (arith, at_within jobs n job at)

at_job : (jobs : List Written) (n : ℕ) (job : Written) → IsAt jobs n job → job_at (jobs_read jobs) n ≡ job_read job
at_job [] n job at = absurd at
at_job (first ∷ jobs) zero job at = ap job_read at
at_job (first ∷ jobs) (suc n) job at = at_job jobs n job at

abbrev as_they_stand : List Written → List Placed
as_they_stand jobs = flat_map placed_runs (enumerate_from 0 jobs)

-- In a feasible document a job's runs give it its work.
pub gets_its_work : (jobs : List Written) (n : ℕ) (job : Written) → IsAt jobs n job → IsFeasible (jobs_read jobs) (slots_read (all_runs jobs)) →
    work_of_runs job.runs ≡ job.work
gets_its_work jobs n job at feasible =
    omega (
      arith,
      gets (jobs_read jobs) (all_runs jobs) n feasible (at_within jobs n job at),
      in_order-sum (mine n) (λ (placed : Placed). placed.run.from) (as_they_stand jobs),
      given_at 0 n n jobs job (omega arith) at,
      ap (λ (read : Job). read.work) (at_job jobs n job at),
    )

-- And each ends by its deadline.
pub ends_in_time : (jobs : List Written) (n : ℕ) (job : Written) → IsAt jobs n job → IsFeasible (jobs_read jobs) (slots_read (all_runs jobs)) →
    AllByRecursion (λ run. run.to ≤ deadline_of (jobs_read jobs) n) job.runs
ends_in_time jobs n job at feasible =
    within_at (deadline_of (jobs_read jobs)) 0 n n jobs job (omega arith) at
    (in_order-all_back (IsWithin (deadline_of (jobs_read jobs))) (λ (placed : Placed). placed.run.from) (as_they_stand jobs)
    (runs_within (jobs_read jobs) (all_runs jobs) feasible))

last_end : (bound : ℕ) (runs : List Run) → AllByRecursion (λ run. run.to ≤ bound) runs → runs_end runs ≤ bound
last_end bound [] all = omega arith
last_end bound (run ∷ []) all = all.0
last_end bound (run ∷ next ∷ runs) all = last_end bound (next ∷ runs) all.1

pub last_in_time : (jobs : List Written) (n : ℕ) (job : Written) → IsAt jobs n job → IsFeasible (jobs_read jobs) (slots_read (all_runs jobs)) →
    runs_end job.runs ≤ job.deadline
last_in_time jobs n job at feasible =
    omega (
      arith,
      last_end (deadline_of (jobs_read jobs) n) job.runs (ends_in_time jobs n job at feasible),
      ap (λ (read : Job). read.deadline) (at_job jobs n job at),
    )

-- # What is written of a job

-- One that stands is written with its runs.
pub stands_written : (units : Units) (one : Judged) → stands one ≡ true → written_of units one ≡ Some (with_runs units one)
stands_written units one whole = rw whole

late_written : (units : Units) (one : Judged) (by : ℕ) → stands one ≡ false → one.late ≡ Some by → written_of units one ≡ Some (without_runs units one)
late_written units one by not_whole late = rw (not_whole, late)

-- # Lateness that shows

owes_none : (a b : Bool) → ◌≡◌ {A = ℕ} (if a && b then 1 else 0) 0 → a ≡ true → b ≡ false
owes_none true true none so = absurd (omega arith)
owes_none true false none so = refl
owes_none false b none so = cc

second_fails : (a b : Bool) → (a && b) ≡ false → a ≡ true → b ≡ false
second_fails true b none so = none
second_fails false b none so = cc

ended_at : (end : End) → is_open end ≡ false → (time : ℕ) × (end ≡ ends.Ended time)
ended_at ends.Open closed = cc
ended_at (ends.Ended time) closed = (time, refl)
ended_at (ends.Lost since) closed = cc

some_if : (b : Bool) (x y : ℕ) → (if b then Some x else None) ≡ Some y → x ≡ y
some_if true x y given = cc
some_if false x y given = cc

-- one that ended late by so much
by_after : (from : Option ℕ) (last due time by : ℕ) → late_by from last due (ends.Ended time) ≡ Some by → time - due ≡ by
by_after from last due time by late =
    some_if (is_judged from last due time && (nat_lt due time || ((due == time) && false))) (time - due) by late

-- The end of a late job that isn't hidden is in its last run, after the deadline.
shows : (units : Units) (asked : Asked) (last : ℕ) (one : Judged) (by : ℕ) → 1 ≤ units.time → units.zero ≤ one.due → IsJudged asked last one →
    one.late ≡ Some by → units.time ≤ by → is_hidden units one ≡ false → written_time units one.due < runs_end (written_runs units one.job)
shows units asked last one by positive zero_first is late much shown =
    let parts = or_parts (is_open one.job.end)
    (nat_lt (written_time units one.due) (written_end units one.job.end) && nat_le (runs_end (written_runs units one.job)) (written_time units one.due)) shown in
    let ended = ended_at one.job.end parts.0 in
    let IsOf : End → Type 0 = λ end. late_by asked.from last one.due end ≡ Some by in
    let gap : ended.0 - one.due ≡ by = by_after asked.from last one.due ended.0 by (subst IsOf ended.1 (sym is.late ∙ late)) in
    let later : written_time units one.due < written_time units ended.0 = lateness_is_kept units one.due ended.0 positive zero_first (omega arith) in
    let same : written_end units one.job.end ≡ written_time units ended.0 = ap (written_end units) ended.1 in
    leb-false (runs_end (written_runs units one.job)) (written_time units one.due)
    (second_fails (nat_lt (written_time units one.due) (written_end units one.job.end)) (nat_le (runs_end (written_runs units one.job)) (written_time units one.due)) parts.1
    (lt-ltb (written_time units one.due) (written_end units one.job.end) (omega arith)))

-- # Feasible means in time

late_is_seen : (asked : Asked) (past : List Said) (units : Units) (ones : List Judged) → 1 ≤ units.time → AreOf asked past ones → NoneBefore units ones →
    IsFeasible (jobs_read (document_in units ones).jobs) (slots_read (document_in units ones).runs) →
    (i : ℕ) (d : Judged) → i < length ones → (by : ℕ) → (slice_index_or ones i d).late ≡ Some by → units.time ≤ by → ⊥
late_is_seen asked past units ones positive are none_before feasible i d within by late much =
    elim (cases_Bool (stands (slice_index_or ones i d))) [
      | inl whole ↦
          let one : Judged = slice_index_or ones i d in
          let jobs : List Written = (document_in units ones).jobs in
          let place = found (written_of units) ones i d (with_runs units one) within (stands_written units one whole) in
          let work = gets_its_work jobs place.0 (with_runs units one) place.1 feasible in
          let ending = last_in_time jobs place.0 (with_runs units one) place.1 feasible in
          let is = each_of_these (IsJudged asked (last_asked asked past)) (all_judged asked past) ones are (all_are_judged asked past) i d within in
          let not_before = none_before i d within whole in
          let hidden : is_hidden units one ≡ false = owes_none (is_some one.late) (is_hidden units one) (omega (arith, work)) (ap is_some late) in
          let shown = shows units asked (last_asked asked past) one by positive (omega (arith, is.begun whole, not_before)) is late much hidden in
          absurd (omega (arith, shown, ending))
      | inr not_whole ↦
          let one : Judged = slice_index_or ones i d in
          let place = found (written_of units) ones i d (without_runs units one) within (late_written units one by not_whole late) in
          let work = gets_its_work (document_in units ones).jobs place.0 (without_runs units one) place.1 feasible in
          absurd (omega (arith, work))
    ]

pub some_are_in_time : SomeAreInTime
some_are_in_time asked past units ones positive are none_before feasible i d within by late =
    elim (cases_lt by units.time) [
      | inl less ↦ less
      | inr much ↦ absurd (late_is_seen asked past units ones positive are none_before feasible i d within by late much)
    ]

pub feasible_means_in_time : FeasibleMeansInTime
feasible_means_in_time asked past fit feasible =
    some_are_in_time asked past (units_of asked past) (all_judged asked past) fit.has_unit (All-contains_itself (all_judged asked past)) (zero_before asked past) feasible

-- # Work without a slot

none_given : (number : ℕ) (runs : List Placed) → AllByRecursion (λ placed. placed.job ≢ number) runs → sum_by (mine number) runs ≡ 0
none_given number [] all = refl
none_given number (placed ∷ runs) all =
    let other : mine number placed ≡ 0 = if_other (number == placed.job) (work_of_run placed.run) (ne_eqb number placed.job (λ same. all.0 (sym same))) in
    omega (arith, sum_by-cons (mine number) placed runs, other, none_given number runs all.1)

pub work_needs_a_slot : WorkNeedsASlot
work_needs_a_slot jobs runs number within positive all feasible =
    omega (
      arith,
      gets jobs runs number feasible within,
      none_given number runs (recursion_from_All (λ placed. placed.job ≢ number) runs all),
    )

-- # Fronts

at_get : (jobs : List Written) (n : ℕ) (d : Written) → n < length jobs → IsAt jobs n (slice_index_or jobs n d)
at_get [] n d within = absurd (omega arith)
at_get (job ∷ jobs) zero d within = refl
at_get (job ∷ jobs) (suc n) d within = at_get jobs n d (omega arith)

known_jobs : (start bound : ℕ) (jobs : List Written) → start + length jobs ≤ bound →
    AllByRecursion (λ placed. placed.job < bound) (flat_map placed_runs (enumerate_from start jobs))
known_jobs start bound [] within = tt
known_jobs start bound (job ∷ jobs) within =
    append-all (λ placed. placed.job < bound) (map (place start) job.runs) (flat_map placed_runs (enumerate_from (start + 1) jobs))
    (map-all (λ placed. placed.job < bound) (place start) job.runs (λ run. omega arith))
    (known_jobs (start + 1) bound jobs (omega arith))

-- each run is one of a job of the document
runs_of_known : (jobs : List Written) → All (λ placed. placed.job < length jobs) (all_runs jobs)
runs_of_known jobs =
    All-from_recursion (λ placed. placed.job < length jobs) (all_runs jobs)
    (in_order-all (λ placed. placed.job < length jobs) (λ (placed : Placed). placed.run.from) (as_they_stand jobs)
    (known_jobs 0 (length jobs) jobs (omega arith)))

pub fronts_are_infeasible : FrontsAreInfeasible
fronts_are_infeasible jobs count enough positive within feasible =
    let d : Placed = record { job = 0; run = record { from = 0; to = 0; speed = 0 } } in
    let e : Written = record { name = []; release = 0; deadline = 0; work = 0; runs = [] } in
    let missing : Placed = slice_index_or (all_runs jobs) count d in
    let known : missing.job < length jobs = runs_of_known jobs count d within in
    let job : Written = slice_index_or jobs missing.job e in
    let at : IsAt jobs missing.job job = at_get jobs missing.job e known in
    let rest : drop count (all_runs jobs) ≡ missing ∷ drop (suc count) (all_runs jobs) = drop-cons (all_runs jobs) count d within in
    absurd (omega (
      arith,
      gets (jobs_read jobs) (take count (all_runs jobs)) missing.job feasible (at_within jobs missing.job job at),
      ap (λ (read : Job). read.work) (at_job jobs missing.job job at),
      enough missing.job e known,
      positive count d within,
      sum_by-take-drop (mine missing.job) (all_runs jobs) count,
      ap (λ runs. sum_by (mine missing.job) runs) rest,
      sum_by-cons (mine missing.job) missing (drop (suc count) (all_runs jobs)),
      part_own missing.job missing.job (work_of_run missing.run) refl,
      in_order-sum (mine missing.job) (λ (placed : Placed). placed.run.from) (as_they_stand jobs),
      given_at 0 missing.job missing.job jobs job (omega arith) at,
    ))
