-- The document of one processor: which jobs of the tasks it has, with their windows, works and runs, and which are left out.
use Rattle.std.specs.Prelude.{ℕ, zero, suc, ◌+◌, List, [], ◌∷◌, ◌++◌, map, filter, reverse, max, min, codes, decimal, Bool, true, false, not, ◌==◌, ◌&&◌, ◌||◌, nat_le, nat_lt, if◌then◌else◌, Option, Some, None, is_some, is_none}
use Rattle.std.specs.List.{list_any, flat_map, filter_map, enumerate_from}
use Rattle.yds_kernel.specs.Event.{Said}
use Rattle.yds_trace.specs.declared.job.End.{End}
use Rattle.yds_trace.specs.declared.job.End.TheVariants as ends
use Rattle.yds_trace.specs.declared.job.Stretch.{Stretch}
use Rattle.yds_trace.specs.declared.reason.Reason.{Reason}
use Rattle.yds_trace.specs.declared.reason.Reason.TheVariants as reasons
use Rattle.yds_trace.specs.Asked.{Task, Asked, task_at, is_after_from}
use Rattle.yds_trace.specs.Past.{first_time, last_time, up_to, speed_after}
use Rattle.yds_trace.specs.Jobs.{Job, Known, changed_last, ran, known_after}
use Rattle.yds_trace.specs.Late.{last_asked, due, is_open, lateness, is_unsure}
use Rattle.yds_trace.specs.WrittenTime.{Units, Run, written_time, runs_of, work_of_runs, runs_end}

-- # The jobs of a task at the end of what is asked for

-- what still has the processor then, has had it until then
abbrev pub closed : Asked → List Said → Known → List Job
closed asked past known = elim known.on [
  | None ↦ known.jobs
  | Some standing ↦ changed_last (ran (record {
    processor = standing.processor;
    from = standing.since;
    to = last_asked asked past;
    khz = speed_after asked.start standing.processor (up_to asked.to past);
  })) known.jobs
]

-- in order of their begins
abbrev pub jobs_of : Asked → List Said → ℕ → List Job
jobs_of asked past number = reverse (closed asked past (known_after asked number (up_to asked.to past)))

-- # What becomes of a job

abbrev pub is_lost : ℕ → End → Bool
is_lost last (ends.Lost since) = nat_lt since last
is_lost last _ = false

abbrev pub is_elsewhere : ℕ → Stretch → Bool
is_elsewhere processor stretch = not (stretch.processor == processor)

-- The job has run on this processor.
abbrev pub has_run_on : ℕ → Job → Bool
has_run_on processor job = list_any (λ stretch. stretch.processor == processor) job.stretches

abbrev pub is_of_unknown_speed : Stretch → Bool
is_of_unknown_speed stretch = nat_lt stretch.from stretch.to && is_none stretch.khz

-- `to` is given, and the trace goes on to it
abbrev pub reaches_to : Asked → List Said → Bool
reaches_to asked past = elim asked.to [ None ↦ false | Some to ↦ nat_le to (last_time past) ]

-- Why the job isn't written with its window and its runs, if it isn't: the first of these reasons.
abbrev pub reason_of : Asked → List Said → Task → Job → Option Reason
reason_of asked past task job =
    if not (is_after_from asked.from job.begin) then Some reasons.BeforeFrom
    else (if is_lost (last_asked asked past) job.end then Some reasons.EventsLost
    else (if job.switch_missing then Some reasons.SwitchMissing
    else (if is_open job.end && is_none (lateness asked task (last_asked asked past) job)
    then Some (if reaches_to asked past then reasons.AfterTo else reasons.NotEnded)
    else (if not job.begin_known then Some reasons.BeginUnseen
    else (if nat_lt (due task job) (job.begin + asked.unit) then Some reasons.DueBefore
    else (if list_any (is_elsewhere asked.processor) job.stretches then Some reasons.Moved
    else (if list_any is_of_unknown_speed job.stretches then Some reasons.SpeedUnknown else None)))))))

-- # Jobs that moved

-- It ran on this processor, and on another one.
abbrev pub is_shared_by : ℕ → Job → Bool
is_shared_by processor job = has_run_on processor job && list_any (is_elsewhere processor) job.stretches

-- what it ran on this processor, in the window of the whole job
abbrev pub share_on : ℕ → Job → Job
share_on processor job = record job { stretches = filter (λ stretch. stretch.processor == processor) job.stretches; shared = true }

-- the job as the documents of the processor that is asked for have it
abbrev pub share_of : Asked → Job → Job
share_of asked job = if asked.moved_parts && is_shared_by asked.processor job then share_on asked.processor job else job

-- a task's jobs so, in order of their begins
abbrev pub shares_of : Asked → List Said → ℕ → List Job
shares_of asked past number = map (share_of asked) (jobs_of asked past number)

-- # Names

-- The k-th job of a task is LABEL.k, counted from 0. Where its first began before the trace, that is LABEL.before, and the next one is LABEL.0.
abbrev pub named : List ℕ → Bool → ℕ → List ℕ
named label true zero = label ++ codes ".before"
named label true (suc k) = label ++ codes "." ++ decimal k
named label false k = label ++ codes "." ++ decimal k

abbrev pub began_before : List Job → Bool
began_before [] = false
began_before (job ∷ jobs) = not job.begin_known

-- # The jobs of all tasks

-- a job, of which task, with its name, how late it is and why it isn't written as it stands
pub record Judged : Type 0 where
  pub task : ℕ
  pub name : List ℕ
  -- of a job that moved and is told in parts: this one is what it ran on this processor
  pub part : Option ℕ
  pub job : Job
  -- nanoseconds
  pub due : ℕ
  pub late : Option ℕ
  -- the lines don't tell whether it is late
  pub unsure : Bool
  pub reason : Option Reason

abbrev pub judged : Asked → List Said → ℕ → Bool → ℕ × Job → Judged
judged asked past number before numbered = record {
  task = number;
  name = named (task_at asked number).label before numbered.0;
  part = if numbered.1.shared then Some asked.processor else None;
  job = numbered.1;
  due = due (task_at asked number) numbered.1;
  late = lateness asked (task_at asked number) (last_asked asked past) numbered.1;
  unsure = is_unsure asked (task_at asked number) (first_time 0 past) (last_asked asked past) numbered.1;
  reason = reason_of asked past (task_at asked number) numbered.1;
}

abbrev pub judged_of : Asked → List Said → ℕ → List Judged
judged_of asked past number =
    map (judged asked past number (began_before (jobs_of asked past number))) (enumerate_from 0 (shares_of asked past number))

-- these tasks', from this number on
abbrev pub judged_from : Asked → List Said → ℕ → List Task → List Judged
judged_from asked past number [] = []
judged_from asked past number (task ∷ tasks) = judged_of asked past number ++ judged_from asked past (number + 1) tasks

-- in order of a number, equal ones as they stand
abbrev pub put_in : {A : Type 0} → (A → ℕ) → A → List A → List A
put_in key x [] = x ∷ []
put_in key x (y ∷ ys) = if nat_le (key x) (key y) then x ∷ y ∷ ys else y ∷ put_in key x ys

abbrev pub in_order : {A : Type 0} → (A → ℕ) → List A → List A
in_order key [] = []
in_order key (x ∷ xs) = put_in key x (in_order key xs)

-- each job of each task, in order of begin
abbrev pub all_judged : Asked → List Said → List Judged
all_judged asked past = in_order (λ judged. judged.job.begin) (judged_from asked past 0 asked.tasks)

-- # Time 0

abbrev pub stands : Judged → Bool
stands judged = is_none judged.reason

-- the least begin of these jobs that stand as they are
abbrev pub least_of : Option ℕ → ℕ → ℕ
least_of None time = time
least_of (Some least) time = min least time

abbrev pub least_begin : List Judged → Option ℕ
least_begin [] = None
least_begin (judged ∷ more) = if stands judged then Some (least_of (least_begin more) judged.job.begin) else least_begin more

-- Time 0 is `from`, or else the first begin of a job that stands as it is, or else that of the trace.
abbrev pub time_zero : Asked → List Said → ℕ
time_zero asked past = elim asked.from [
  | Some from ↦ from
  | None ↦ elim (least_begin (all_judged asked past)) [ Some begin ↦ begin | None ↦ first_time 0 past ]
]

abbrev pub units_of : Asked → List Said → Units
units_of asked past = record { zero = time_zero asked past; time = asked.unit; speed = asked.khz }

-- # What is written of a job

pub record Written : Type 0 where
  pub name : List ℕ
  pub release : ℕ
  pub deadline : ℕ
  pub work : ℕ
  -- in order of time
  pub runs : List Run

-- the unit of time in which a job ended; 0 where it hasn't
abbrev pub written_end : Units → End → ℕ
written_end units (ends.Ended end) = written_time units end
written_end units _ = 0

-- its runs as they are written
abbrev pub written_runs : Units → Job → List Run
written_runs units job = runs_of units (reverse job.stretches)

-- A late job's runs don't show that it is late: it hasn't ended, or it ended in a later unit than its deadline's, and its last run didn't.
abbrev pub is_hidden : Units → Judged → Bool
is_hidden units judged =
    is_open judged.job.end
    || (nat_lt (written_time units judged.due) (written_end units judged.job.end)
    && nat_le (runs_end (written_runs units judged.job)) (written_time units judged.due))

-- Then its work is one unit above what its runs give.
abbrev pub owed : Units → Judged → ℕ
owed units judged = if is_some judged.late && is_hidden units judged then 1 else 0

-- Of a job that moved, what it ran on processor P is called NAME@P.
abbrev pub name_in_parts : List ℕ → Option ℕ → List ℕ
name_in_parts name None = name
name_in_parts name (Some processor) = name ++ codes "@" ++ decimal processor

abbrev pub written_name : Judged → List ℕ
written_name judged = name_in_parts judged.name judged.part

-- a job as it stands
abbrev pub with_runs : Units → Judged → Written
with_runs units judged = record {
  name = written_name judged;
  release = written_time units judged.job.begin;
  deadline = written_time units judged.due;
  work = work_of_runs (written_runs units judged.job) + owed units judged;
  runs = written_runs units judged.job;
}

-- A late job that can't stand as it is has a work of 1 and no run. It is released at 0 where its begin isn't known.
abbrev pub release_without_runs : Units → Job → ℕ
release_without_runs units job = if job.begin_known then written_time units job.begin else 0

abbrev pub without_runs : Units → Judged → Written
without_runs units judged = record {
  name = written_name judged;
  release = release_without_runs units judged.job;
  deadline = max (release_without_runs units judged.job + 1) (written_time units judged.due);
  work = 1;
  runs = [];
}

-- A late job is always written.
abbrev pub written_of : Units → Judged → Option Written
written_of units judged =
    if stands judged then Some (with_runs units judged)
    else (if is_some judged.late then Some (without_runs units judged) else None)

abbrev pub written_jobs : Asked → List Said → List Written
written_jobs asked past = filter_map (written_of (units_of asked past)) (all_judged asked past)

abbrev pub is_left_out : Judged → Bool
is_left_out judged = not (stands judged) && is_none judged.late

-- # Runs

-- a run of the job at this place among those written
pub record Placed : Type 0 where
  pub job : ℕ
  pub run : Run

abbrev pub placed_runs : ℕ × Written → List Placed
placed_runs numbered = map (λ run. record { job = numbered.0; run = run }) numbered.1.runs

-- the runs of these jobs in order of time
abbrev pub all_runs : List Written → List Placed
all_runs jobs = in_order (λ placed. placed.run.from) (flat_map placed_runs (enumerate_from 0 jobs))

-- the document: its jobs in order of begin, and their runs in order of time
pub record Document : Type 0 where
  pub jobs : List Written
  pub runs : List Placed

abbrev pub document_of : Asked → List Said → Document
document_of asked past = record { jobs = written_jobs asked past; runs = all_runs (written_jobs asked past) }
