-- What feasibility says of a trace's document: at the scale 1, where a slot is just its run.
use Rattle.yds_model.proofs.Common.{◌≡◌, ℕ, ◌+◌, ◌*◌, ◌<◌, ◌==◌, List, [], ◌∷◌, ◌∙◌, length, if◌then◌else◌, refl, sym, ap, arith, sum_by, sum_by-cons, recursion_from_All, All-map, one-dvd, Job, job_at, WholeSlot, IsScale, IsDivided, slots_at, slot_at_scale, work_given}
use Rattle.std.specs.List.{AllByRecursion}
use Rattle.yds_model.specs.Feasible.{IsInWindow, IsFeasibleAt, IsFeasible}
use Rattle.yds_trace.specs.WrittenTime.{work_of_run}
use Rattle.yds_trace.specs.Document.{Placed}
use Rattle.yds_trace_laws.specs.AsSlots.{slot_read, slots_read}
use Rattle.yds_trace_laws.proofs.Placing.{mine, IsWithin}

whole : (runs : List Placed) → IsScale 1 (slots_read runs)
whole runs = record {
  positive = omega arith;
  divided = All-map (IsDivided 1) slot_read runs (λ k d within. record { from = one-dvd 1; to = one-dvd 1; work = one-dvd 1 });
}

-- its slots at the scale 1
abbrev pub read_at_one : List Placed → List WholeSlot
read_at_one runs = slots_at 1 (slots_read runs)

pub feasible_at_one : (jobs : List Job) (runs : List Placed) → IsFeasible jobs (slots_read runs) → IsFeasibleAt jobs 1 (read_at_one runs)
feasible_at_one jobs runs feasible = feasible.holds 1 (whole runs)

-- What the slots give a job are the works of its runs.
pub given_is : (number : ℕ) (runs : List Placed) → work_given (read_at_one runs) number ≡ sum_by (mine number) runs
given_is number [] = refl
given_is number (placed ∷ runs) =
    let work : work_of_run placed.run * 1 + 0 ≡ work_of_run placed.run = omega arith in
    sum_by-cons (λ (slot : WholeSlot). if number == slot.job then slot.work else 0) (slot_at_scale 1 (slot_read placed)) (read_at_one runs)
    ∙ ap (λ n. (if number == placed.job then n else 0) + work_given (read_at_one runs) number) work
    ∙ ap (λ n. mine number placed + n) (given_is number runs)
    ∙ sym (sum_by-cons (mine number) placed runs)

abbrev pub deadline_of : List Job → ℕ → ℕ
deadline_of jobs number = (job_at jobs number).deadline

within_by : (jobs : List Job) (runs : List Placed) → AllByRecursion (IsInWindow jobs 1) (read_at_one runs) → AllByRecursion (IsWithin (deadline_of jobs)) runs
within_by jobs [] all = tt
within_by jobs (placed ∷ runs) all = (omega (arith, all.0.due), within_by jobs runs all.1)

-- Each run ends by its job's deadline.
pub runs_within : (jobs : List Job) (runs : List Placed) → IsFeasible jobs (slots_read runs) → AllByRecursion (IsWithin (deadline_of jobs)) runs
runs_within jobs runs feasible =
    within_by jobs runs (recursion_from_All (IsInWindow jobs 1) (read_at_one runs) (feasible_at_one jobs runs feasible).in_windows)

-- Each job gets its work.
pub gets : (jobs : List Job) (runs : List Placed) (number : ℕ) → IsFeasible jobs (slots_read runs) → number < length jobs →
    sum_by (mine number) runs ≡ (job_at jobs number).work
gets jobs runs number feasible within =
    omega (arith, given_is number runs, (feasible_at_one jobs runs feasible).served number within)
