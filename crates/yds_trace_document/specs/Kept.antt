-- The definitions of a document by what is kept at a trace's end: its first and its last time stand in the place of its lines.
use Rattle.std.specs.Prelude.{◌≡◌, ◌≤◌, ℕ, ◌+◌, List, [], ◌∷◌, map, filter, max, min, length, decimal, not, Bool, false, ◌&&◌, ◌||◌, nat_lt, nat_le, if◌then◌else◌, Option, Some, None, is_none, unwrap_or, Vec}
use Rattle.std.specs.List.{list_any, filter_map, flat_map, enumerate_from, All}
use Rattle.std.specs.declared.alloc.Global.{Global}
use Rattle.yds_kernel.specs.declared.limits.TheConstants.{MAX_U64}
use Rattle.yds_trace.specs.declared.limits.TheConstants.{MAX_TIME, MAX_DEADLINE}
use Rattle.yds_trace.specs.declared.asked.Asked.{Asked as AskedKept}
use Rattle.yds_trace.specs.declared.shown.ShownTask.{ShownTask as ShownTaskKept}
use Rattle.yds_trace.specs.declared.shown.Shown.{Shown as ShownKept}
use Rattle.yds_trace.specs.declared.job.End.{End}
use Rattle.yds_trace.specs.declared.job.Job.{Job as JobKept}
use Rattle.yds_trace.specs.declared.ended.Ended.{Ended as EndedKept}
use Rattle.yds_trace.specs.declared.reason.Reason.{Reason}
use Rattle.yds_trace.specs.declared.reason.Reason.TheVariants as reasons
use Rattle.yds_trace.specs.Asked.{Task, Asked, is_after_from}
use Rattle.yds_trace.specs.Jobs.{Job}
use Rattle.yds_trace.specs.Views.{job_read}
use Rattle.yds_trace.specs.Others.{Span, spans_within}
use Rattle.yds_trace.specs.declared.tally.Tally.{Tally}
use Rattle.yds_trace.specs.Parts.{begins_from}
use Rattle.yds_trace.specs.Late.{due, is_open, late_by, over_by}
use Rattle.yds_trace.specs.WrittenTime.{Units, Run, before}
use Rattle.yds_trace.specs.Document.{is_lost, is_elsewhere, is_of_unknown_speed, named, began_before, Judged, in_order, stands, least_of, least_begin, Written, written_of, Placed, all_runs}
use Rattle.yds_trace_document.specs.Settled.{Settled, with_capped_work}

-- its begin isn't above its limit, nor is the time from which its deadline counts
pub record IsPlainJob (job : JobKept) : Type 0 where
  pub begin : job.begin ≤ MAX_TIME
  pub due_from : job.due_from ≤ MAX_TIME

abbrev pub HaveBegins : List (Vec JobKept Global) → Type 0
HaveBegins by_task = All (λ (jobs : Vec JobKept Global). All IsPlainJob jobs.items) by_task

-- what a call needs to know of what is kept
pub record IsPlain (ended : EndedKept) : Type 0 where
  pub has_unit : 1 ≤ ended.asked.unit
  pub has_speed_unit : 1 ≤ ended.asked.khz
  pub deadlines : All (λ task. task.deadline ≤ MAX_DEADLINE) ended.asked.tasks.items
  pub begins : HaveBegins ended.jobs.items
  pub of_each_task : length ended.jobs.items ≡ length ended.asked.tasks.items

-- what a call needs to know of what is shown of a task: its jobs are plain, and can be numbered
pub record IsPlainTask (shown : ShownTaskKept) : Type 0 where
  pub begins : All IsPlainJob shown.jobs.items
  pub numbers : shown.forgotten + length shown.jobs.items ≤ MAX_U64

-- and of all tasks
pub record IsPlainShown (asked : AskedKept) (shown : ShownKept) : Type 0 where
  pub has_unit : 1 ≤ asked.unit
  pub has_speed_unit : 1 ≤ asked.khz
  pub deadlines : All (λ task. task.deadline ≤ MAX_DEADLINE) asked.tasks.items
  pub tasks : All IsPlainTask shown.tasks.items
  pub of_each_task : length shown.tasks.items ≡ length asked.tasks.items

-- # Names

-- so many bytes tell the processor
abbrev pub part_len : Option ℕ → ℕ
part_len None = 0
part_len (Some processor) = 1 + length (decimal processor)

-- # Jobs

abbrev pub last_of : Option ℕ → ℕ → ℕ
last_of None last = last
last_of (Some to) last = min to last

abbrev pub is_to_reached : Option ℕ → ℕ → Bool
is_to_reached None last = false
is_to_reached (Some to) last = nat_le to last

-- an open job that isn't known to be late
abbrev pub open_reason : Option ℕ → ℕ → Reason
open_reason to last = if is_to_reached to last then reasons.AfterTo else reasons.NotEnded

-- what is asked for, beside the tasks
pub record Within : Type 0 where
  pub processor : ℕ
  pub from : Option ℕ
  pub to : Option ℕ
  pub unit : ℕ
  pub begin_at_run : Bool
  pub cut_losses : Bool
  -- the trace's first and its last time
  pub first : ℕ
  pub last : ℕ

-- a job that is due at this time
abbrev pub run_reason : Within → ℕ → Job → Option Reason
run_reason within deadline job =
    if not job.begin_known then Some reasons.BeginUnseen
    else (if nat_lt deadline (job.begin + within.unit) then Some reasons.DueBefore
    else (if list_any (is_elsewhere within.processor) job.stretches then Some reasons.Moved
    else (if list_any is_of_unknown_speed job.stretches then Some reasons.SpeedUnknown else None)))

abbrev pub reason_at : Within → ℕ → Option ℕ → Job → Option Reason
reason_at within deadline late job =
    if not (is_after_from within.from job.begin) then Some reasons.BeforeFrom
    else (if is_lost (last_of within.to within.last) job.end then Some reasons.EventsLost
    else (if job.switch_missing then Some reasons.SwitchMissing
    else (if is_open job.end && is_none late then Some (open_reason within.to within.last) else run_reason within deadline job)))

abbrev pub late_at : Within → Task → Job → Option ℕ
late_at within task job = late_by within.from (last_of within.to within.last) (due task job) job.end

-- the earliest that its deadline may count from
abbrev pub earliest_at : Within → Job → ℕ
earliest_at within job = if job.begin_known || within.begin_at_run then job.due_from else max within.first (unwrap_or within.from 0)

-- Its earliest deadline is no later than this time, and it isn't known to be over by then.
abbrev pub may_be_late_by : ℕ → ℕ → End → Bool
may_be_late_by last earliest end = nat_le earliest last && not (over_by earliest end)

-- whether it isn't known if it is late
abbrev pub unsure_at : Within → Task → Option ℕ → Job → Bool
unsure_at within task late job =
    not within.cut_losses && is_after_from within.from job.begin && is_none late
    && may_be_late_by (last_of within.to within.last) (earliest_at within job + task.deadline) job.end

abbrev pub judged_at : Within → ℕ → Task → Bool → ℕ × Job → Judged
judged_at within number task before numbered = record {
  task = number;
  name = named task.label before numbered.0;
  part = if numbered.1.shared then Some within.processor else None;
  job = numbered.1;
  due = due task numbered.1;
  late = late_at within task numbered.1;
  unsure = unsure_at within task (late_at within task numbered.1) numbered.1;
  reason = reason_at within (due task numbered.1) (late_at within task numbered.1) numbered.1;
}

-- a task's jobs behind so many first ones; `before` says whether the first of all began before the trace
abbrev pub judged_jobs : Within → ℕ → Task → Bool → ℕ → List Job → List Judged
judged_jobs within number task before first jobs = map (judged_at within number task before) (enumerate_from first jobs)

abbrev pub judged_task : Within → ℕ → Task → List Job → List Judged
judged_task within number task jobs = judged_jobs within number task (began_before jobs) 0 jobs

-- these tasks' jobs, from this number on
abbrev pub judged_tasks : Within → ℕ → List Task → List (List Job) → List (List Judged)
judged_tasks within number [] jobs = []
judged_tasks within number (task ∷ tasks) [] = []
judged_tasks within number (task ∷ tasks) (jobs ∷ more) = judged_task within number task jobs ∷ judged_tasks within (number + 1) tasks more

-- Of what is shown of a task: its jobs that begin at the boundary or later.
abbrev pub shown_task : Within → ℕ → ℕ → Task → ShownTaskKept → List Judged
shown_task within boundary number task shown =
    filter (begins_from boundary) (judged_jobs within number task shown.before shown.forgotten (map job_read shown.jobs.items))

abbrev pub shown_tasks : Within → ℕ → ℕ → List Task → List ShownTaskKept → List (List Judged)
shown_tasks within boundary number [] shown = []
shown_tasks within boundary number (task ∷ tasks) [] = []
shown_tasks within boundary number (task ∷ tasks) (one ∷ shown) =
    shown_task within boundary number task one ∷ shown_tasks within boundary (number + 1) tasks shown

abbrev pub begin_of : Judged → ℕ
begin_of judged = judged.job.begin

abbrev pub together : List (List Judged) → List Judged
together by_task = flat_map (λ judged. judged) by_task

-- # Time 0, jobs and runs

abbrev pub least_with : Judged → Option ℕ → Option ℕ
least_with judged least = if stands judged then Some (least_of least judged.job.begin) else least

abbrev pub zero_of : Option ℕ → ℕ → List Judged → ℕ
zero_of None first judged = unwrap_or (least_begin judged) first
zero_of (Some from) first judged = from

abbrev pub units_at : Asked → ℕ → List Judged → Units
units_at asked first judged = record { zero = zero_of asked.from first judged; time = asked.unit; speed = asked.khz }

-- a run before others, where it is in a line
abbrev pub taken : Run → List Run → List Run
taken run runs = if nat_lt run.from run.to then before run runs else runs

abbrev pub capped_option : Option Written → Option Written
capped_option None = None
capped_option (Some job) = Some (with_capped_work job)

abbrev pub capped_of : Units → Judged → Option Written
capped_of units judged = capped_option (written_of units judged)

abbrev pub capped_jobs : Units → List Judged → List Written
capped_jobs units judged = filter_map (capped_of units) judged

-- What is kept of these jobs in these units: of each task, and in order of begin; who else had the processor, and what the trace lacks.
abbrev pub capped_in : Units → List (List Judged) → List Judged → List Span → Tally → Settled
capped_in units by_task judged others tally = record {
  units = units;
  by_task = by_task;
  judged = judged;
  document = record { jobs = capped_jobs units judged; runs = all_runs (capped_jobs units judged) };
  others = others;
  tally = tally;
}

-- of these spans those from time 0 on
abbrev pub capped_from : Units → List (List Judged) → List Judged → List Span → Tally → Settled
capped_from units by_task judged others tally = capped_in units by_task judged (spans_within units.zero None others) tally

-- what is kept of these judged jobs and spans
abbrev pub settled_at : Asked → ℕ → List (List Judged) → List Span → Tally → Settled
settled_at asked first by_task others tally =
    capped_from (units_at asked first (in_order begin_of (together by_task))) by_task (in_order begin_of (together by_task)) others tally

abbrev pub within_of : Asked → ℕ → ℕ → Within
within_of asked first last = record {
  processor = asked.processor;
  from = asked.from;
  to = asked.to;
  unit = asked.unit;
  begin_at_run = asked.begin_at_run;
  cut_losses = asked.cut_losses;
  first = first;
  last = last;
}

-- the runs of the job at this place
abbrev pub placed_of : ℕ → List Run → List Placed
placed_of place runs = map (λ run. record { job = place; run = run }) runs
