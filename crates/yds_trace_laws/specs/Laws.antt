-- What follows from the definitions of a trace's document.
use Rattle.std.specs.Prelude.{◌≡◌, ◌≢◌, ℕ, ◌+◌, ◌<◌, ◌≤◌, List, length, take, true, Option, Some, None, ⊤}
use Rattle.std.specs.List.{All}
use Rattle.yds_kernel.specs.Event.{Said}
use Rattle.yds_model.specs.Job.{Job, job_at}
use Rattle.yds_model.specs.Feasible.{IsFeasible}
use Rattle.yds_trace.specs.declared.limits.TheConstants.{MAX_TIME}
use Rattle.yds_trace.specs.declared.job.Stretch.{Stretch}
use Rattle.yds_trace.specs.Faults.{first_fault}
use Rattle.yds_trace.specs.Asked.{Asked, IsAsked}
use Rattle.yds_trace.specs.Past.{first_time}
use Rattle.yds_trace.specs.WrittenTime.{Units, written_time, runs_of, work_of_run, work_of_runs}
use Rattle.yds_trace.specs.Document.{Judged, stands, Written, Placed, all_runs, all_judged, jobs_of, units_of, document_of}
use Rattle.yds_trace_laws.specs.AsSlots.{jobs_read, slots_read}
use Rattle.yds_trace_laws.specs.Faithful.{AreFaithful, IsFaithful}
use Rattle.yds_trace_laws.specs.InUnits.{document_in, AreOf, NoneBefore}
use Rattle.yds_trace_laws.specs.Sharing.{HaveOwnTime, HaveOwnUnits}

-- # Written times

-- Order is kept.
abbrev pub OrderIsKept : Type 0
OrderIsKept = (units : Units) (a b : ℕ) → 1 ≤ units.time → a ≤ b → written_time units a ≤ written_time units b

-- Who ends by a time is written to end by it.
abbrev pub EndsAreKept : Type 0
EndsAreKept = (units : Units) (stretches : List Stretch) (time : ℕ) → 1 ≤ units.time →
    All (λ stretch. stretch.to ≤ time) stretches → All (λ run. run.to ≤ written_time units time) (runs_of units stretches)

-- Who is late by a unit or more is written late.
abbrev pub LatenessIsKept : Type 0
LatenessIsKept = (units : Units) (due end : ℕ) →
    1 ≤ units.time → units.zero ≤ due → due + units.time ≤ end → written_time units due < written_time units end

-- # Begins

-- `to`, where it is given, is a time that a trace may have
abbrev pub IsReached : Option ℕ → Type 0
IsReached None = ⊤
IsReached (Some to) = to ≤ MAX_TIME

-- Each job of a trace without a fault begins by the greatest time that a trace may have, and its deadline counts from no later one. So that fits
-- 64 bits.
abbrev pub BeginsAreInTime : Type 0
BeginsAreInTime = (asked : Asked) (past : List Said) (number : ℕ) → IsReached asked.to → first_fault asked past ≡ None →
    All (λ job. (job.begin ≤ MAX_TIME) × (job.due_from ≤ MAX_TIME)) (jobs_of asked past number)

-- None that stands as it is begins before the trace's first line.
abbrev pub NoneBeginsBefore : Type 0
NoneBeginsBefore = (asked : Asked) (past : List Said) → IsAsked asked → first_fault asked past ≡ None →
    All (λ one. stands one ≡ true → first_time 0 past ≤ one.job.begin) (all_judged asked past)

-- # Feasible documents

-- A job with work and without a run, as a late one that can't stand as it is, makes a document infeasible.
abbrev pub WorkNeedsASlot : Type 0
WorkNeedsASlot = (jobs : List Job) (runs : List Placed) (number : ℕ) →
    number < length jobs → 1 ≤ (job_at jobs number).work → All (λ placed. placed.job ≢ number) runs → IsFeasible jobs (slots_read runs) → ⊥

-- A front of a document that misses a run which does work isn't feasible.
abbrev pub FrontsAreInfeasible : Type 0
FrontsAreInfeasible = (jobs : List Written) (count : ℕ) →
    All (λ job. work_of_runs job.runs ≤ job.work) jobs → All (λ placed. 1 ≤ work_of_run placed.run) (all_runs jobs) → count < length (all_runs jobs) →
    IsFeasible (jobs_read jobs) (slots_read (take count (all_runs jobs))) → ⊥

-- Where the document of some of a trace's jobs is feasible, in units of its own, each of them that is known to be late is late by less than
-- a unit of time.
abbrev pub SomeAreInTime : Type 0
SomeAreInTime = (asked : Asked) (past : List Said) (units : Units) (ones : List Judged) → 1 ≤ units.time → AreOf asked past ones → NoneBefore units ones →
    IsFeasible (jobs_read (document_in units ones).jobs) (slots_read (document_in units ones).runs) →
    All (λ judged. (by : ℕ) → judged.late ≡ Some by → by < units.time) ones

-- So where a trace's document is feasible, that holds of each job of the tasks.
abbrev pub FeasibleMeansInTime : Type 0
FeasibleMeansInTime = (asked : Asked) (past : List Said) → IsAsked asked →
    IsFeasible (jobs_read (document_of asked past).jobs) (slots_read (document_of asked past).runs) →
    All (λ judged. (by : ℕ) → judged.late ≡ Some by → by < asked.unit) (all_judged asked past)

-- # Runs and stretches

-- Each job and each run of the document of some of a trace's jobs is one that the trace shows. Each of them that stands as it is or is late is
-- there, and so is each run that the trace shows of one that stands as it is.
abbrev pub SomeAreFaithful : Type 0
SomeAreFaithful = (asked : Asked) (past : List Said) (units : Units) (ones : List Judged) → 1 ≤ units.time → AreOf asked past ones →
    AreFaithful asked units ones (document_in units ones)

-- So it is of the trace's document.
abbrev pub DocumentsAreFaithful : Type 0
DocumentsAreFaithful = (asked : Asked) (past : List Said) → IsAsked asked → IsFaithful asked past

-- # Processors

-- No two tasks of a trace without a fault have a processor at the same time.
abbrev pub TasksHaveOwnTime : Type 0
TasksHaveOwnTime = (asked : Asked) (past : List Said) → first_fault asked past ≡ None → (number other : ℕ) → number ≢ other → HaveOwnTime asked past number other

-- Nor do their runs, as they are written in any units.
abbrev pub UnitsAreOwn : Type 0
UnitsAreOwn = (asked : Asked) (past : List Said) (units : Units) → 1 ≤ units.time → first_fault asked past ≡ None →
    All (λ one. All (HaveOwnUnits units one) (all_judged asked past)) (all_judged asked past)

-- So it is of those of the trace's document.
abbrev pub RunsHaveOwnUnits : Type 0
RunsHaveOwnUnits = (asked : Asked) (past : List Said) → IsAsked asked → first_fault asked past ≡ None →
    All (λ one. All (HaveOwnUnits (units_of asked past) one) (all_judged asked past)) (all_judged asked past)
