-- The text of a trace's document: jobs, runs, and comments that tell what the document hasn't. Lines, fields and numbers are those of documents.
use Rattle.std.specs.Prelude.{ℕ, ◌+◌, ◌-◌, ◌*◌, ◌/◌, ◌%◌, List, [], ◌∷◌, ◌++◌, length, drop, map, filter, reverse, codes, decimal, sum_by, count_by, Bool, true, not, ◌==◌, ◌&&◌, ◌||◌, nat_lt, nat_le, if◌then◌else◌, Option, Some, None, is_some}
use Rattle.std.specs.List.{flat_map, slice_index_or, zip}
use Rattle.base.specs.Lines.{line}
use Rattle.yds_kernel.specs.declared.limits.TheConstants.{MAX_U64}
use Rattle.yds_kernel.specs.Event.{Said}
use Rattle.yds_kernel.specs.Parts.{capped}
use Rattle.yds_trace.specs.declared.job.Stretch.{Stretch}
use Rattle.yds_trace.specs.declared.reason.Reason.{Reason}
use Rattle.yds_trace.specs.declared.reason.Reason.TheVariants as reasons
use Rattle.yds_trace.specs.declared.tally.Pause.{Pause}
use Rattle.yds_trace.specs.declared.tally.Silence.{Silence}
use Rattle.yds_trace.specs.declared.tally.Tally.{Tally}
use Rattle.yds_trace.specs.Asked.{Task, Asked}
use Rattle.yds_trace.specs.Jobs.{Job}
use Rattle.yds_trace.specs.Late.{is_open}
use Rattle.yds_trace.specs.Others.{Span}
use Rattle.yds_trace.specs.WrittenTime.{Units, Run, written_time, is_short, runs_end}
use Rattle.yds_trace.specs.Document.{Judged, stands, Written, Placed, in_order, written_end, written_name, written_runs, is_left_out}
use Rattle.yds_trace_document.specs.LeftOut.{is_for}
use Rattle.yds_trace_document.specs.Settled.{Settled, settled_of}

-- # Numbers

-- these texts, one behind the other
abbrev pub told : List (List ℕ) → List ℕ
told texts = flat_map (λ text. text) texts

-- a line of a comment
unfoldable pub comment : List (List ℕ) → List ℕ
comment texts = told (codes "# " ∷ texts) ++ 10 ∷ []

-- a number below 1,000,000,000 with nine digits, and one below 1,000,000 with six
abbrev pub nine_digits : ℕ → List ℕ
nine_digits number = drop 1 (decimal (1000000000 + number))

abbrev pub six_digits : ℕ → List ℕ
six_digits number = drop 1 (decimal (1000000 + number))

-- nanoseconds, told in seconds and in milliseconds; both are exact
abbrev pub in_seconds : ℕ → List ℕ
in_seconds time = told (decimal (time / 1000000000) ∷ codes "." ∷ nine_digits (time % 1000000000) ∷ [])

abbrev pub in_milliseconds : ℕ → List ℕ
in_milliseconds time = told (decimal (time / 1000000) ∷ codes "." ∷ six_digits (time % 1000000) ∷ [])

-- thousandths, without zeros at the end
abbrev pub behind_point : ℕ → List ℕ
behind_point thousandths =
    if thousandths == 0 then []
    else (if thousandths % 100 == 0 then codes "." ++ drop 1 (decimal (10 + thousandths / 100))
    else (if thousandths % 10 == 0 then codes "." ++ drop 1 (decimal (100 + thousandths / 10))
    else codes "." ++ drop 1 (decimal (1000 + thousandths))))

-- a number that counts something: `1 job`, `2 jobs`
abbrev pub counted : ℕ → List ℕ → List ℕ → List ℕ
counted number one several = told (decimal number ∷ codes " " ∷ (if number == 1 then one else several) ∷ [])

-- # The first lines

abbrev pub head_line : ℕ → Units → List ℕ
head_line processor units =
    comment (codes "CPU " ∷ decimal processor ∷ codes " of a kernel trace; time 0 is " ∷ in_seconds units.zero ∷ codes " s" ∷ [])

-- The unit of time is whole microseconds. That of work is what is done in one at one unit of speed; beyond 64 bits it isn't told exactly.
abbrev pub cycles : ℕ → List ℕ
cycles thousandths = told (decimal (thousandths / 1000) ∷ behind_point (thousandths % 1000) ∷ [])

abbrev pub units_line : Units → List ℕ
units_line units =
    comment (codes "time unit " ∷ decimal (units.time / 1000) ∷ codes " us, speed unit " ∷ decimal units.speed ∷ codes " kHz, work unit "
    ∷ cycles (capped (units.time / 1000 * units.speed)) ∷ codes " cycles" ∷ [])

-- # Jobs and runs

abbrev pub job_text : Written → List ℕ
job_text job = line (codes "job" ∷ job.name ∷ decimal job.release ∷ decimal job.deadline ∷ decimal job.work ∷ [])

abbrev pub ticks_text : List ℕ
ticks_text = line (codes "ticks" ∷ codes "1" ∷ [])

abbrev pub name_of : Written → List ℕ
name_of job = job.name

abbrev pub run_line : List ℕ → Run → List ℕ
run_line name run = line (codes "run" ∷ name ∷ decimal run.from ∷ decimal run.to ∷ decimal run.speed ∷ [])

abbrev pub run_text : List (List ℕ) → Placed → List ℕ
run_text names placed = run_line (slice_index_or names placed.job []) placed.run

-- # Late jobs

-- why a job doesn't stand as it is
abbrev pub reason_text : Option Reason → List ℕ
reason_text None = []
reason_text (Some reasons.BeforeFrom) = codes "before from"
reason_text (Some reasons.AfterTo) = codes "after to"
reason_text (Some reasons.NotEnded) = codes "not ended"
reason_text (Some reasons.EventsLost) = codes "events lost"
reason_text (Some reasons.SwitchMissing) = codes "a switch is missing"
reason_text (Some reasons.BeginUnseen) = codes "its begin isn't in the trace"
reason_text (Some reasons.DueBefore) = codes "due before it begins"
reason_text (Some reasons.Moved) = codes "ran on another processor"
reason_text (Some reasons.SpeedUnknown) = codes "frequency not known"

abbrev pub behind_deadline : ℕ → List ℕ
behind_deadline late = told (in_milliseconds late ∷ codes " ms after its deadline" ∷ [])

-- a time in units from time 0, rounded down; before time 0 it has a minus
abbrev pub signed_time : Units → ℕ → List ℕ
signed_time units time =
    if nat_lt time units.zero then codes "-" ++ decimal ((units.zero - time - 1) / units.time + 1) else decimal (written_time units time)

-- its window, where its begin is known
abbrev pub window_text : Units → Judged → List ℕ
window_text units judged =
    if judged.job.begin_known then told (codes "; window " ∷ signed_time units judged.job.begin ∷ codes " " ∷ signed_time units judged.due ∷ []) else []

-- It hadn't ended then; or it was so late or later, since its deadline isn't known but that it is no later.
abbrev pub how_late : Job → List ℕ
how_late job = if is_open job.end then codes "not ended " else (if job.begin_known then [] else codes "at least ")

abbrev pub without_runs_comment : Units → Judged → ℕ → List ℕ
without_runs_comment units judged late =
    comment (codes "late, without its runs: " ∷ written_name judged ∷ codes " (" ∷ reason_text judged.reason ∷ codes "), " ∷ how_late judged.job
    ∷ behind_deadline late ∷ window_text units judged ∷ [])

-- Of a late job that stands as it is: whether its work or its runs show it. One that ended in its deadline's unit of time is written in time.
-- What a job ran on one of its processors may be over by its deadline; then it went on on another one.
abbrev pub late_kind : Units → Judged → List ℕ
late_kind units judged =
    if is_open judged.job.end then codes "not ended: "
    else (if nat_le (written_end units judged.job.end) (written_time units judged.due) then codes "late by less than a unit of time: "
    else (if nat_le (runs_end (written_runs units judged.job)) (written_time units judged.due)
    then (if is_some judged.part then codes "late on another processor: " else codes "late in a run within one tick: ")
    else codes "late: "))

abbrev pub standing_comment : Units → Judged → ℕ → List ℕ
standing_comment units judged late = comment (late_kind units judged ∷ written_name judged ∷ codes ", " ∷ behind_deadline late ∷ [])

-- just one for each late job
abbrev pub late_comment : Units → Judged → List ℕ
late_comment units judged = elim judged.late [
  | None ↦ []
  | Some late ↦ if stands judged then standing_comment units judged late else without_runs_comment units judged late
]

-- # Begins and ends that no run shows

-- the begin of the first stretch that takes time
abbrev pub first_begin : List Stretch → Option ℕ
first_begin [] = None
first_begin (stretch ∷ stretches) = if nat_lt stretch.from stretch.to then Some stretch.from else first_begin stretches

-- the runs begin later than this, or there is none
abbrev pub begin_later : ℕ → List Run → Bool
begin_later time [] = true
begin_later time (run ∷ runs) = nat_lt time run.from

-- what is told of a job's begin or end, in units of time
abbrev pub end_comment : List ℕ → List ℕ → ℕ → List ℕ
end_comment what name time = comment (what ∷ name ∷ codes " " ∷ decimal time ∷ [])

abbrev pub begins_comment : Units → Judged → List ℕ
begins_comment units judged = elim (first_begin (reverse judged.job.stretches)) [
  | None ↦ []
  | Some begin ↦ if begin_later (written_time units begin) (written_runs units judged.job)
      then end_comment (codes "begins: ") (written_name judged) (written_time units begin) else []
]

-- the runs end before this, or there is none
abbrev pub end_earlier : ℕ → List Run → Bool
end_earlier time runs = (length runs == 0) || nat_lt (runs_end runs) time

-- its lateness is told, and its runs don't show it
abbrev pub end_is_told : Units → Judged → Bool
end_is_told units judged =
    is_some judged.late && (is_open judged.job.end
    || nat_le (written_end units judged.job.end) (written_time units judged.due)
    || nat_le (runs_end (written_runs units judged.job)) (written_time units judged.due))

abbrev pub ends_comment : Units → Judged → List ℕ
ends_comment units judged =
    if not (is_open judged.job.end) && not (end_is_told units judged)
    && end_earlier (written_end units judged.job.end) (written_runs units judged.job)
    then end_comment (codes "ends: ") (written_name judged) (written_end units judged.job.end) else []

-- of a job that stands as it is
abbrev pub standing_comments : Units → Judged → List ℕ
standing_comments units judged = if stands judged then begins_comment units judged ++ ends_comment units judged else []

-- its thread was over with it
abbrev pub exited_comment : Judged → List ℕ
exited_comment judged = if judged.job.exited then comment (codes "exited: " ∷ written_name judged ∷ []) else []

-- its thread left to sleep within it, and didn't
abbrev pub slept_comment : Judged → List ℕ
slept_comment judged =
    if is_some judged.job.slept then comment (codes "went on behind a sleep without a wake-up: " ∷ written_name judged ∷ []) else []

-- of a job that isn't left out
abbrev pub thread_comments : Judged → List ℕ
thread_comments judged = if is_left_out judged then [] else exited_comment judged ++ slept_comment judged

abbrev pub shown_comments : Units → Judged → List ℕ
shown_comments units judged = standing_comments units judged ++ thread_comments judged

-- # Jobs that are left out

-- in the order in which equal counts are told
abbrev pub every_reason : List Reason
every_reason =
    reasons.NotEnded ∷ reasons.EventsLost ∷ reasons.SwitchMissing ∷ reasons.BeginUnseen ∷ reasons.DueBefore ∷ reasons.Moved ∷ reasons.SpeedUnknown ∷ []

abbrev pub is_left_out_for : Reason → Judged → Bool
is_left_out_for reason judged = is_left_out judged && is_for reason judged.reason

abbrev pub first_name : List Judged → List ℕ
first_name [] = []
first_name (judged ∷ more) = written_name judged

abbrev pub last_name : List Judged → List ℕ
last_name [] = []
last_name (judged ∷ []) = written_name judged
last_name (judged ∷ next ∷ more) = last_name (next ∷ more)

-- the jobs of one task that are left out for one reason: how many, and the names of the first and the last
pub record Group : Type 0 where
  pub label : List ℕ
  pub reason : Reason
  pub count : ℕ
  pub first : List ℕ
  pub last : List ℕ

abbrev pub group_of : List ℕ → Reason → List Judged → Group
group_of label reason jobs = record { label = label; reason = reason; count = length jobs; first = first_name jobs; last = last_name jobs }

abbrev pub group_for : List ℕ → List Judged → Reason → Group
group_for label judged reason = group_of label reason (filter (is_left_out_for reason) judged)

abbrev pub groups_of_task : List ℕ → List Judged → List Group
groups_of_task label judged = map (group_for label judged) every_reason

abbrev pub has_jobs : Group → Bool
has_jobs group = nat_lt 0 group.count

-- of each task with its jobs
abbrev pub groups_of : Task × List Judged → List Group
groups_of (task, judged) = filter has_jobs (groups_of_task task.label judged)

abbrev pub all_groups : List Task → List (List Judged) → List Group
all_groups tasks by_task = flat_map groups_of (zip tasks by_task)

-- the most jobs first, and as many as another in order of tasks and of reasons
abbrev pub most_first : List Group → List Group
most_first groups = in_order (λ group. MAX_U64 - group.count) groups

abbrev pub one_left_out : Group → List ℕ
one_left_out group = comment (codes "left out: " ∷ group.first ∷ codes " (" ∷ reason_text (Some group.reason) ∷ codes ")" ∷ [])

abbrev pub some_left_out : Group → List ℕ
some_left_out group =
    comment (codes "left out: " ∷ decimal group.count ∷ codes " jobs of " ∷ group.label ∷ codes " (" ∷ reason_text (Some group.reason)
    ∷ codes "), the first " ∷ group.first ∷ codes ", the last " ∷ group.last ∷ [])

abbrev pub group_comment : Group → List ℕ
group_comment group = if group.count == 1 then one_left_out group else some_left_out group

-- What `from` and `to` cut off is one line for all tasks.
abbrev pub is_cut_off : Judged → Bool
is_cut_off judged = is_left_out_for reasons.BeforeFrom judged || is_left_out_for reasons.AfterTo judged

abbrev pub cut_off_comment : ℕ → List ℕ
cut_off_comment number =
    if number == 0 then [] else comment (codes "left out: " ∷ counted number (codes "job") (codes "jobs") ∷ codes " before from or after to" ∷ [])

abbrev pub left_out_comments : List Task → List (List Judged) → List Judged → List ℕ
left_out_comments tasks by_task judged =
    flat_map group_comment (most_first (all_groups tasks by_task)) ++ cut_off_comment (count_by is_cut_off judged)

-- # Stretches and wake-ups

abbrev pub short_of : Units → Judged → List Stretch
short_of units judged = if stands judged then filter (is_short units) (reverse judged.job.stretches) else []

abbrev pub short_stretches : Units → List Judged → List Stretch
short_stretches units judged = flat_map (short_of units) judged

abbrev pub length_of : Stretch → ℕ
length_of stretch = stretch.to - stretch.from

abbrev pub is_or_are : ℕ → List ℕ
is_or_are number = if number == 1 then codes "is" else codes "are"

abbrev pub some_short : List Stretch → List ℕ
some_short stretches =
    comment (counted (length stretches) (codes "stretch within one unit of time, ") (codes "stretches within one unit of time, ")
    ∷ in_milliseconds (capped (sum_by length_of stretches)) ∷ codes " ms together, "
    ∷ is_or_are (length stretches) ∷ codes " in no run" ∷ [])

abbrev pub short_comment : List Stretch → List ℕ
short_comment stretches = if length stretches == 0 then [] else some_short stretches

-- the wake-ups that came while a job was open which stands as it is
abbrev pub wake_ups_of : Judged → ℕ
wake_ups_of judged = if stands judged then judged.job.wake_ups else 0

-- the first job that has the most of them
abbrev pub most_woken : List Judged → ℕ → List ℕ → ℕ × List ℕ
most_woken [] most name = (most, name)
most_woken (judged ∷ more) most name =
    if nat_lt most (wake_ups_of judged) then most_woken more (wake_ups_of judged) (written_name judged) else most_woken more most name

abbrev pub woken_comment : ℕ → ℕ × List ℕ → List ℕ
woken_comment all most =
    comment (counted all (codes "wake-up came while its job was open, the most of ") (codes "wake-ups came while their job was open, the most of ")
    ∷ most.1 ∷ codes ": " ∷ decimal most.0 ∷ [])

abbrev pub wake_up_comment : List Judged → List ℕ
wake_up_comment judged =
    if capped (sum_by wake_ups_of judged) == 0 then [] else woken_comment (capped (sum_by wake_ups_of judged)) (most_woken judged 0 [])

-- # Units that are likely wrong

-- the begins that are known
abbrev pub known_begins : List Judged → List ℕ
known_begins judged = map (λ one. one.job.begin) (filter (λ one. one.job.begin_known) judged)

abbrev pub last_of : ℕ → List ℕ → ℕ
last_of number [] = number
last_of number (next ∷ numbers) = last_of next numbers

-- the mean distance of begins, rounded down, where there are two at different times
abbrev pub mean_behind : ℕ → List ℕ → Option ℕ
mean_behind begin begins =
    if nat_lt begin (last_of begin begins) then Some ((last_of begin begins - begin) / length begins) else None

abbrev pub mean_distance : List ℕ → Option ℕ
mean_distance [] = None
mean_distance (begin ∷ begins) = mean_behind begin begins

abbrev pub distance_comment : List ℕ → List ℕ → ℕ → List ℕ → ℕ → List ℕ
distance_comment what label value how mean =
    comment (what ∷ label ∷ codes ", " ∷ in_milliseconds value ∷ codes " ms, is " ∷ how ∷ codes " the mean distance of its jobs' begins, "
    ∷ in_milliseconds mean ∷ codes " ms: is it in another unit?" ∷ [])

unfoldable pub unit_comment : List ℕ → List ℕ → ℕ → Option ℕ → List ℕ
unit_comment what label value None = []
unit_comment what label value (Some mean) =
    if nat_lt (100 * mean) value then distance_comment what label value (codes "more than 100 times") mean
    else (if nat_lt (100 * value) mean then distance_comment what label value (codes "less than a hundredth of") mean else [])

abbrev pub deadline_comment : Task → Option ℕ → List ℕ
deadline_comment task mean = unit_comment (codes "the deadline of ") task.label task.deadline mean

abbrev pub apart_comment : Task → Option ℕ → List ℕ
apart_comment task mean = if task.apart == 0 then [] else unit_comment (codes "APART of ") task.label task.apart mean

abbrev pub both_comments : Task → Option ℕ → List ℕ
both_comments task mean = deadline_comment task mean ++ apart_comment task mean

-- It has no period, and its jobs begin farther apart than its deadline: by more than a hundredth of it, and by no more than a hundred times.
abbrev pub lacks_period : Task → ℕ → Bool
lacks_period task mean =
    (task.period == 0) && nat_lt task.deadline (100 * (mean - task.deadline)) && not (nat_lt (100 * task.deadline) mean)

abbrev pub without_period_comment : Task → ℕ → ℕ → List ℕ
without_period_comment task number mean =
    comment (task.label ∷ codes ": " ∷ decimal number ∷ codes " begins, " ∷ in_milliseconds mean ∷ codes " ms apart in the mean, a deadline of "
    ∷ in_milliseconds task.deadline ∷ codes " ms: a period would tell frames that fall behind" ∷ [])

-- so many begins are known
unfoldable pub period_comment : Task → ℕ → Option ℕ → List ℕ
period_comment task number None = []
period_comment task number (Some mean) = if lacks_period task mean then without_period_comment task number mean else []

abbrev pub begins_comments : Task → List ℕ → List ℕ
begins_comments task begins = both_comments task (mean_distance begins) ++ period_comment task (length begins) (mean_distance begins)

abbrev pub unit_comments : Task → List Judged → List ℕ
unit_comments task judged = begins_comments task (known_begins judged)

abbrev pub task_unit_comments : Task × List Judged → List ℕ
task_unit_comments (task, judged) = unit_comments task judged

abbrev pub all_unit_comments : List Task → List (List Judged) → List ℕ
all_unit_comments tasks by_task = flat_map task_unit_comments (zip tasks by_task)

-- # Who else had the processor

-- A name may have any bytes; what would move a terminal's cursor isn't written.
abbrev pub shown_byte : ℕ → ℕ
shown_byte byte = if nat_lt byte 32 || (byte == 127) then 63 else byte

-- whose span it is, from one unit of time to another
abbrev pub span_comment : Span → ℕ → ℕ → List ℕ
span_comment span from to =
    comment (codes "other " ∷ map shown_byte span.name ∷ codes "-" ∷ decimal span.pid ∷ codes " " ∷ decimal from ∷ codes " " ∷ decimal to ∷ [])

-- a span within one unit of time isn't told
abbrev pub other_comment : Units → Span → List ℕ
other_comment units span =
    if nat_lt (written_time units span.from) (written_time units span.to)
    then span_comment span (written_time units span.from) (written_time units span.to) else []

-- # What the trace lacks

-- Told in parts, each part tells what was counted from the trace's begin up to the line behind which it was written.
abbrev pub up_to_here : Bool → List ℕ
up_to_here in_parts = if in_parts then codes ", up to here" else []

abbrev pub lack_comment : Bool → List ℕ → ℕ → List ℕ
lack_comment in_parts what number =
    if number == 0 then [] else comment (what ∷ up_to_here in_parts ∷ codes ": " ∷ decimal number ∷ [])

abbrev pub no_line_text : Bool → List ℕ
no_line_text in_parts = if in_parts then codes "up to here, no line for " else codes "no line for "

-- more than a second
abbrev pub is_long : Pause → Bool
is_long pause = nat_lt 1000000000 pause.lasted

abbrev pub long_comment : Bool → Pause → List ℕ
long_comment in_parts pause =
    comment (no_line_text in_parts ∷ in_seconds pause.lasted ∷ codes " s, from " ∷ in_seconds pause.since ∷ codes " s on: did the clock jump?" ∷ [])

abbrev pub pause_comment : Bool → Pause → List ℕ
pause_comment in_parts pause = if is_long pause then long_comment in_parts pause else []

-- Of one processor, and up to the end where no part follows.
abbrev pub no_line_of_text : Bool → List ℕ
no_line_of_text in_parts = if in_parts then codes "up to here, no line of CPU " else codes "no line of CPU "

abbrev pub on_to_the_end : Bool → List ℕ
on_to_the_end in_parts = if in_parts then codes " s on" else codes " s on to the end"

-- more than a second
abbrev pub is_silent : Silence → Bool
is_silent silence = nat_lt 1000000000 silence.lasted

abbrev pub silent_comment : Bool → Silence → List ℕ
silent_comment in_parts silence =
    comment (no_line_of_text in_parts ∷ decimal silence.processor ∷ codes " for " ∷ in_seconds silence.lasted ∷ codes " s, from "
    ∷ in_seconds silence.since ∷ on_to_the_end in_parts ∷ codes ": what it did then isn't known" ∷ [])

abbrev pub silence_comment : Bool → Silence → List ℕ
silence_comment in_parts silence = if is_silent silence then silent_comment in_parts silence else []

abbrev pub tally_comments : Bool → Tally → List ℕ
tally_comments in_parts tally =
    lack_comment in_parts (codes "places where events were lost") tally.losses
    ++ lack_comment in_parts (codes "switches of other threads that are missing") tally.missing
    ++ lack_comment in_parts (codes "lines that programs wrote into the trace") tally.markers
    ++ pause_comment in_parts tally.pause
    ++ silence_comment in_parts tally.silence

-- # The last line

abbrev pub is_without_runs : Judged → Bool
is_without_runs judged = not (stands judged) && is_some judged.late

abbrev pub left_out_text : ℕ → List ℕ
left_out_text number = if number == 0 then codes "none left out" else told (decimal number ∷ codes " left out" ∷ [])

abbrev pub its_or_their : ℕ → List ℕ
its_or_their number = if number == 1 then codes "its" else codes "their"

abbrev pub late_without : ℕ → List ℕ
late_without number =
    told (codes ", " ∷ decimal number ∷ codes " late without " ∷ its_or_their number ∷ codes " runs" ∷ [])

abbrev pub without_runs_text : ℕ → List ℕ
without_runs_text number = if number == 0 then [] else late_without number

abbrev pub last_line : Settled → List ℕ
last_line settled =
    comment (counted (length settled.document.jobs) (codes "job") (codes "jobs") ∷ codes " written, "
    ∷ left_out_text (count_by is_left_out settled.judged) ∷ without_runs_text (count_by is_without_runs settled.judged) ∷ [])

-- # The text

abbrev pub document_text : Settled → List ℕ
document_text settled =
    flat_map job_text settled.document.jobs ++ ticks_text ++ flat_map (run_text (map name_of settled.document.jobs)) settled.document.runs

abbrev pub comments_text : Asked → Settled → List ℕ
comments_text asked settled =
    flat_map (late_comment settled.units) settled.judged
    ++ flat_map (shown_comments settled.units) settled.judged
    ++ left_out_comments asked.tasks settled.by_task settled.judged
    ++ short_comment (short_stretches settled.units settled.judged)
    ++ wake_up_comment settled.judged
    ++ all_unit_comments asked.tasks settled.by_task
    ++ flat_map (other_comment settled.units) settled.others
    ++ tally_comments asked.in_parts settled.tally
    ++ last_line settled

abbrev pub settled_text : Asked → Settled → List ℕ
settled_text asked settled = head_line asked.processor settled.units ++ units_line settled.units ++ document_text settled ++ comments_text asked settled

abbrev pub text_of : Asked → List Said → List ℕ
text_of asked past = settled_text asked (settled_of asked past)
