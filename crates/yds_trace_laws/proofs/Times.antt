-- Written times keep order, ends and lateness.
use Rattle.yds_model.proofs.Common.{ℕ, ◌+◌, ◌-◌, ◌/◌, ◌<◌, ◌≤◌, ◌==◌, ◌&&◌, List, [], ◌∷◌, nat_lt, arith, recursion_from_All, All-from_recursion, le-div_iff_mul-le, div-mul-le_self}
use Rattle.std.specs.List.{AllByRecursion}
use Rattle.yds_trace.specs.declared.job.Stretch.{Stretch}
use Rattle.yds_trace.specs.WrittenTime.{Units, Run, written_time, run_of, before, runs_of}
use Rattle.yds_trace_laws.specs.Laws.{OrderIsKept, EndsAreKept, LatenessIsKept}
use Rattle.yds_trace_laws.proofs.Ordered.{either_all}

div_monotone : (k x y : ℕ) → 1 ≤ k → x ≤ y → x / k ≤ y / k
div_monotone k x y positive order = (le-div_iff_mul-le {k = k} {x = x / k} {y = y} (omega arith)).1 (omega (arith, div-mul-le_self x k))

pub order_is_kept : OrderIsKept
order_is_kept units a b positive order = div_monotone units.time (a - units.zero) (b - units.zero) positive (omega arith)

abbrev IsBy : ℕ → Run → Type 0
IsBy time run = run.to ≤ time

before_by : (time : ℕ) (run : Run) (runs : List Run) → IsBy time run → AllByRecursion (IsBy time) runs → AllByRecursion (IsBy time) (before run runs)
before_by time run [] here all = (here, tt)
before_by time run (next ∷ runs) here all =
    either_all (IsBy time) ((run.to == next.from) && (run.speed == next.speed)) (record { from = run.from; to = next.to; speed = run.speed } ∷ runs)
    (run ∷ next ∷ runs) all (here, all)

runs_by : (units : Units) (stretches : List Stretch) (time : ℕ) → 1 ≤ units.time →
    AllByRecursion (λ stretch. stretch.to ≤ time) stretches → AllByRecursion (IsBy (written_time units time)) (runs_of units stretches)
runs_by units [] time positive all = tt
runs_by units (stretch ∷ stretches) time positive all =
    either_all (IsBy (written_time units time)) (nat_lt (run_of units stretch).from (run_of units stretch).to)
    (before (run_of units stretch) (runs_of units stretches)) (runs_of units stretches)
    (before_by (written_time units time) (run_of units stretch) (runs_of units stretches) (order_is_kept units stretch.to time positive all.0) (runs_by units stretches time positive all.1))
    (runs_by units stretches time positive all.1)

pub ends_are_kept : EndsAreKept
ends_are_kept units stretches time positive all =
    All-from_recursion (λ run. run.to ≤ written_time units time) (runs_of units stretches)
    (runs_by units stretches time positive (recursion_from_All (λ stretch. stretch.to ≤ time) stretches all))

-- a unit more of time is a unit more when it is divided
div_more : (k x y : ℕ) → 1 ≤ k → x + k ≤ y → x / k < y / k
div_more k x y positive order =
    let more : x / k + 1 ≤ y / k = (le-div_iff_mul-le {k = k} {x = x / k + 1} {y = y} (omega arith)).1 (omega (arith, div-mul-le_self x k)) in omega arith

pub lateness_is_kept : LatenessIsKept
lateness_is_kept units due end positive zero_before order = div_more units.time (due - units.zero) (end - units.zero) positive (omega arith)
