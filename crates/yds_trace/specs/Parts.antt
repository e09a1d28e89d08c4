-- The parts of a trace: documents one after another, each written as soon as nothing that still comes can change its jobs.
--
-- A part has the waiting jobs that begin before a quiet instant: each of them is settled, and none of their runs comes after it. So all runs of
-- the parts behind come after those of this one.
use Rattle.std.specs.Prelude.{ℕ, zero, suc, ◌+◌, ◌%◌, List, [], ◌∷◌, ◌++◌, map, filter, length, sum_by, count_by, max, Bool, true, false, not, ◌==◌, ◌&&◌, ◌||◌, nat_lt, nat_le, if◌then◌else◌, Option, Some, None, is_some, is_none}
use Rattle.std.specs.List.{list_any, list_all}
use Rattle.yds_kernel.specs.declared.loss.Since.TheVariants as since
use Rattle.yds_kernel.specs.Event.{Said, Stamped, Lost, Nothing, Event, Happening, Switch, WakeUp, Thread}
use Rattle.yds_kernel.specs.Parts.{or_else, capped}
use Rattle.yds_trace.specs.declared.cut.Cut.{Cut}
use Rattle.yds_trace.specs.declared.fault.Cause.{Cause}
use Rattle.yds_trace.specs.declared.fault.Cause.TheVariants as causes
use Rattle.yds_trace.specs.declared.job.End.{End}
use Rattle.yds_trace.specs.declared.job.End.TheVariants as ends
use Rattle.yds_trace.specs.declared.limits.TheConstants.{LOOK_EVERY, PART_JOBS, PART_STRETCHES, PART_OTHERS, WAITING_JOBS, WAITING_STRETCHES, WAITING_OTHERS}
use Rattle.yds_trace.specs.Asked.{Asked, task_at, task_of, on, is_before_to}
use Rattle.yds_trace.specs.Past.{processor_count, last_time, lost_since, is_loss, lines_since, has_switched, up_to}
use Rattle.yds_trace.specs.Jobs.{Job, Known, known_after}
use Rattle.yds_trace.specs.Late.{last_asked}
use Rattle.yds_trace.specs.Document.{Judged, all_judged, has_run_on, stands}
use Rattle.yds_trace.specs.Faults.{missing_at}
use Rattle.yds_trace.specs.Others.{Span, others_from}

-- # Which jobs a document has

-- Where each processor has documents of its own, they have the jobs that ran on it, and those of processor 0 also the jobs that ran on none.
abbrev pub belongs : Asked → Judged → Bool
belongs asked judged =
    not asked.everywhere || has_run_on asked.processor judged.job || (asked.processor == 0 && length judged.job.stretches == 0)

-- # Which jobs wait

abbrev pub begin_of : Judged → ℕ
begin_of judged = judged.job.begin

-- Those that begin before this time are in the parts before.
abbrev pub begins_from : ℕ → Judged → Bool
begins_from time judged = nat_le time judged.job.begin

abbrev pub begins_before : ℕ → Judged → Bool
begins_before time judged = nat_lt judged.job.begin time

-- in order of begin
abbrev pub waiting_from : Asked → List Said → ℕ → List Judged
waiting_from asked past boundary = filter (begins_from boundary) (all_judged asked past)

-- # Settled jobs

-- the begin of a task's last job
abbrev pub last_begin : List Job → ℕ
last_begin [] = 0
last_begin (job ∷ jobs) = job.begin

-- Its end is known, or nothing more will be known of it: events were lost, and its deadline is over.
abbrev pub is_over : ℕ → ℕ → End → Bool
is_over last due ends.Open = false
is_over last due (ends.Ended end) = true
is_over last due (ends.Lost since) = nat_lt since last && nat_le due last

-- It is over, and no wake-up can go on with it.
abbrev pub is_settled : Asked → List Said → Judged → Bool
is_settled asked past judged =
    is_over (last_asked asked past) judged.due judged.job.end
    && nat_le (judged.job.begin + (task_at asked judged.task).apart) (last_time past)

-- # Where a part may end

abbrev pub ended_by : ℕ → End → Bool
ended_by time (ends.Ended end) = nat_le end time
ended_by time _ = false

-- It is settled, and it has no run after this time.
abbrev pub is_done_by : Asked → List Said → ℕ → Judged → Bool
is_done_by asked past time judged = is_settled asked past judged && (not (stands judged) || ended_by time judged.job.end)

abbrev pub is_written : Judged → Bool
is_written judged = stands judged || is_some judged.late

-- the job is to be written here
abbrev pub is_own : Asked → Judged → Bool
is_own asked judged = belongs asked judged && is_written judged

-- Its window, if it is written here, is over by this time.
abbrev pub is_closed_by : Asked → ℕ → Judged → Bool
is_closed_by asked time judged = not (is_own asked judged) || nat_le judged.due time

-- the test holds for each of these jobs that begins before this time
abbrev pub each_before : (Judged → Bool) → ℕ → List Judged → Bool
each_before test time jobs = list_all (λ judged. begins_from time judged || test judged) jobs

-- A job begins before this time; with one processor it is to be written.
abbrev pub has_job : Asked → ℕ → List Judged → Bool
has_job asked time jobs = list_any (λ judged. begins_before time judged && (asked.everywhere || is_written judged)) jobs

-- at this time the processor is quiet: the waiting jobs that begin before it may be a part
abbrev pub is_quiet : Asked → List Said → List Judged → ℕ → Bool
is_quiet asked past waiting time = has_job asked time waiting && each_before (is_done_by asked past time) time waiting

-- Of the jobs that are to be written here, one begins before this time, or there is none.
abbrev pub has_own_job : Asked → ℕ → List Judged → Bool
has_own_job asked time waiting = list_any (λ judged. begins_before time judged && is_own asked judged) waiting || not (list_any (is_own asked) waiting)

-- and no window is open
abbrev pub is_closed : Asked → List Said → List Judged → ℕ → Bool
is_closed asked past waiting time =
    is_quiet asked past waiting time && has_own_job asked time waiting && each_before (is_closed_by asked time) time waiting

-- the last of these times for which the test holds
abbrev pub last_where : (ℕ → Bool) → List ℕ → Option ℕ
last_where test [] = None
last_where test (time ∷ times) = or_else (last_where test times) (if test time then Some time else None)

-- The last quiet begin of a waiting job at which no window is open; or else the last quiet one.
abbrev pub place_among : Asked → List Said → List Judged → Option ℕ
place_among asked past waiting =
    or_else (last_where (is_closed asked past waiting) (map begin_of waiting)) (last_where (is_quiet asked past waiting) (map begin_of waiting))

-- # When a part is written

abbrev pub stretches_of : List Judged → ℕ
stretches_of jobs = sum_by (λ judged. length judged.job.stretches) jobs

-- so many jobs, stretches or spans of other threads that a part is to be written
abbrev pub is_much : List Judged → List Span → Bool
is_much waiting others =
    nat_lt PART_JOBS (length waiting) || nat_lt PART_STRETCHES (stretches_of waiting) || nat_lt PART_OTHERS (length others)

-- more than may wait
abbrev pub is_too_much : List Judged → List Span → Bool
is_too_much waiting others =
    nat_lt WAITING_JOBS (length waiting) || nat_lt WAITING_STRETCHES (stretches_of waiting) || nat_lt WAITING_OTHERS (length others)

-- Behind each line of this number it is looked whether a part is to be written.
abbrev pub is_due : List Said → Bool
is_due past = length past % LOOK_EVERY == 0

-- before the first part
abbrev pub no_cut : Cut
no_cut = record { boundary = 0; decided = 0; parts = 0; jobs = 0; due = 0 }

-- those that wait behind these parts
abbrev pub waiting : Asked → List Said → Cut → List Judged
waiting asked past cut = waiting_from asked past cut.boundary

-- The jobs of the part that ends at this time; without one it is the last part.
abbrev pub is_before_end : Option ℕ → Judged → Bool
is_before_end None judged = true
is_before_end (Some time) judged = begins_before time judged

-- those of these jobs that the part has
abbrev pub of_part : Asked → Option ℕ → List Judged → List Judged
of_part asked until jobs = filter (belongs asked) (filter (is_before_end until) jobs)

abbrev pub part_until : Asked → List Said → Cut → Option ℕ → List Judged
part_until asked past cut until = of_part asked until (waiting asked past cut)

-- where the part ends that is written behind these lines, if one is
abbrev pub place_of : Asked → List Said → Cut → Option ℕ
place_of asked past cut =
    if is_due past && is_much (waiting asked past cut) (others_from asked past cut.boundary)
    then place_among asked past (waiting asked past cut) else None

abbrev pub greatest_due : ℕ → List Judged → ℕ
greatest_due due [] = due
greatest_due due (judged ∷ jobs) = greatest_due (if is_written judged then max due judged.due else due) jobs

-- A part that has no job isn't written: the jobs behind it are just those that begin at its end or later.
abbrev pub parts_with : ℕ → List Judged → ℕ
parts_with parts [] = parts
parts_with parts (judged ∷ jobs) = capped (parts + 1)

abbrev pub with_part : List Said → ℕ → List Judged → Cut → Cut
with_part past time part cut = record {
  boundary = time;
  decided = last_time past;
  parts = parts_with cut.parts part;
  jobs = capped (cut.jobs + count_by is_written part);
  due = greatest_due cut.due part;
}

abbrev pub cut_at : Asked → List Said → Cut → Option ℕ → Cut
cut_at asked past cut None = cut
cut_at asked past cut (Some time) = with_part past time (part_until asked past cut (Some time)) cut

-- what was written up to the last of these lines
abbrev pub cut_after : Asked → List Said → Cut
cut_after asked [] = no_cut
cut_after asked (said ∷ past) = cut_at asked (said ∷ past) (cut_after asked past) (place_of asked (said ∷ past) (cut_after asked past))

-- # What a line behind a written part is refused for

-- Events were lost since a time before the last part was written.
abbrev pub reaches_back : Cut → ℕ → Bool
reaches_back cut time = nat_lt time cut.decided

-- A listed thread leaves a processor that hasn't switched since a time before the jobs that wait: it may have had a job since then.
abbrev pub was_there_before : Asked → List Said → Cut → Event → Happening → Bool
was_there_before asked past cut event (Switch previous state next) =
    is_some (task_of asked.tasks previous) && not (has_switched event.processor (up_to asked.to past))
    && nat_lt (lines_since event.processor event.time (up_to asked.to past)) cut.boundary
was_there_before asked past cut event _ = false

abbrev pub has_ended : List Job → Bool
has_ended [] = false
has_ended (job ∷ jobs) = elim job.end [
  | ends.Open ↦ false
  | ends.Ended end ↦ true
  | ends.Lost last ↦ false
]

-- Its last job began before those that wait, and its thread left to sleep, without a wake-up since.
abbrev pub sleeps_before : ℕ → Known → Bool
sleeps_before boundary known = known.woken.seen && has_ended known.jobs && nat_lt (last_begin known.jobs) boundary

-- And a wake-up was started before it left.
abbrev pub woken_before : ℕ → Known → Bool
woken_before boundary known = is_some known.woken.started && sleeps_before boundary known

-- whether what is known of the task that the thread is meets a test
abbrev pub is_known_so : Asked → List Said → Thread → (Known → Bool) → Bool
is_known_so asked past thread test = elim (task_of asked.tasks thread) [
  | None ↦ false
  | Some number ↦ test (known_after asked number (up_to asked.to past))
]

-- The event counts, and jobs begin at wake-ups.
abbrev pub wakes_at : Asked → Event → Bool
wakes_at asked event = is_before_to asked.to event.time && not asked.begin_at_run

-- Jobs begin at wake-ups, and a switch counts for who leaves by it: it isn't behind `to`, or it is its processor's first one.
abbrev pub leaves_at : Asked → List Said → Event → Bool
leaves_at asked past event =
    not asked.begin_at_run && (is_before_to asked.to event.time || not (has_switched event.processor (up_to asked.to past)))

-- The same of a thread that isn't seen to have a processor.
abbrev pub came_before : ℕ → Known → Bool
came_before boundary known = is_none known.on && woken_before boundary known

-- Such a thread comes, or leaves without having come, or that wake-up is done: its last job goes on, or another one began before that end.
abbrev pub came_back : Asked → List Said → Cut → Event → Happening → Bool
came_back asked past cut event (Switch previous state next) =
    (leaves_at asked past event && is_known_so asked past previous (came_before cut.boundary))
    || (wakes_at asked event && is_known_so asked past next (sleeps_before cut.boundary))
came_back asked past cut event (WakeUp thread starts) =
    wakes_at asked event && (not starts && is_known_so asked past thread (woken_before cut.boundary))
came_back asked past cut event _ = false

-- Switches are missing since a time before the last part was written.
abbrev pub reaches_back_so : Cut → Option ℕ → Bool
reaches_back_so cut None = false
reaches_back_so cut (Some time) = reaches_back cut time

abbrev pub changes_parts : Asked → List Said → Cut → Said → Bool
changes_parts asked past cut (Stamped event) =
    (is_loss event.happening && reaches_back cut (lost_since event.processor since.ItsLastLine past))
    || (reaches_back_so cut (missing_at asked past event)
    || (was_there_before asked past cut event event.happening || came_back asked past cut event event.happening))
changes_parts asked past cut (Lost processor reach) = reaches_back cut (lost_since processor reach past)
changes_parts asked past cut Nothing = false

-- Behind both of these: a line changes its parts where it changes those of one of them.
abbrev pub later : Cut → Cut → Cut
later cut other = record cut { boundary = max cut.boundary other.boundary; decided = max cut.decided other.decided }

-- what a line is refused for, behind these parts
abbrev pub part_fault : Asked → List Said → Cut → Said → Option Cause
part_fault asked past cut said = if changes_parts asked past cut said then Some causes.PartWritten else None

-- # Processors

-- 0, 1, .., so many of them
abbrev pub first_numbers : ℕ → List ℕ
first_numbers zero = []
first_numbers (suc n) = first_numbers n ++ n ∷ []

-- the processors that have documents
abbrev pub processors_of : Asked → List Said → List ℕ
processors_of asked past = if asked.everywhere then first_numbers (processor_count past) else asked.processor ∷ []

-- these, and one of which no line tells yet: all such are alike
abbrev pub watched_of : Asked → List Said → List ℕ
watched_of asked past = if asked.everywhere then first_numbers (processor_count past + 1) else asked.processor ∷ []

-- The line changes a part that was written, of one of these processors.
abbrev pub changes_one : Asked → List Said → Said → List ℕ → Bool
changes_one asked past said processors =
    list_any (λ processor. changes_parts (on processor asked) past (cut_after (on processor asked) past) said) processors

-- what a line is refused for, behind the parts of all processors
abbrev pub parts_fault : Asked → List Said → Said → Option Cause
parts_fault asked past said = if changes_one asked past said (watched_of asked (said ∷ past)) then Some causes.PartWritten else None
