-- The texts of a run that tells no document: one comment with the place, the cause and what to do, and a line that no reader of documents takes.
use Rattle.std.specs.Prelude.{ℕ, ◌+◌, List, [], ◌++◌, codes, decimal, nat_lt, if◌then◌else◌, Option, Some, None}
use Rattle.yds_kernel.specs.declared.fault.Reason.{Reason}
use Rattle.yds_kernel.specs.declared.fault.Reason.TheVariants as reasons
use Rattle.yds_trace.specs.declared.fault.Cause.{Cause}
use Rattle.yds_trace.specs.declared.fault.Cause.TheVariants as causes
use Rattle.yds_trace.specs.declared.reason.Reason.{Reason as Left}
use Rattle.yds_trace.specs.declared.reason.Reason.TheVariants as lefts
use Rattle.yds_trace_document.specs.declared.fault.LeftOut.{LeftOut}
use Rattle.yds_trace_document.specs.declared.fault.DocumentFault.{DocumentFault}
use Rattle.yds_trace_document.specs.declared.fault.DocumentFault.TheVariants as faults
use Rattle.yds_trace_reading.specs.LineFault.{LineFault, InForm, AtLine}
use Rattle.yds_trace_text.specs.Limit.{Limit, Beyond, NotKnown}
use Rattle.yds_trace_text.specs.Text.{in_seconds, in_milliseconds, reason_text}
use Rattle.yds_trace_parts.specs.Told as told
use Rattle.yds_trace_words.specs.declared.limits.TheConstants.{MAX_UNIT}
use Rattle.yds_trace_words.specs.Texts.{shown_word}
use Rattle.yds_trace_run.specs.Fault.{TraceFault, OfLine, OfDocument, OfText}

-- a comment, and the last line
abbrev pub failed : List ℕ → List ℕ
failed comment = codes "# " ++ comment ++ codes "\nfailed\n"

-- # Lines

abbrev pub form_text : Reason → List ℕ
form_text reasons.Processor = codes "the number of the processor is above 4294967295; leave the line out"
form_text reasons.Time = codes "the time has more than nine digits behind the point, or is too great; leave the line out"
form_text reasons.UnknownSwitch = codes "a switch in an unknown form, or cut short; leave the line out, or write the trace anew"
form_text reasons.UnknownWakeUp = codes "a wake-up in an unknown form, or cut short; leave the line out, or write the trace anew"
form_text reasons.UnknownSpeed = codes "a cpu_frequency line in an unknown form, or cut short; leave the line out, or write the trace anew"
form_text reasons.Long = codes "the line is longer than 65536 bytes; leave it out"
form_text reasons.Cut = codes "the last line is cut short; leave it out, or write the trace anew"

-- A task is told by its place in --tasks, counted from 1.
abbrev pub cause_text : Cause → List ℕ
cause_text causes.ProcessorTooGreat = codes "the number of the processor is above 8191; leave the line out"
cause_text causes.TimeTooGreat = codes "the time is above 9223372036.854775807 seconds; leave the line out"
cause_text causes.TimeGoesBack = codes "its time is before that of an earlier line, by more than a millisecond, behind more than 64 lines, or over lost events; sort the lines by their times"
cause_text causes.EventsLost = codes "events were lost before it; record with a larger buffer, choose --from and --to around it, or go on by --lost cut"
cause_text causes.LineMissing = codes "a switch of a task is missing before it; record with a larger buffer, or go on by --lost cut"
cause_text causes.SpeedChanged = codes "it tells another speed than --fixed does; leave out --fixed, or give --start"
cause_text causes.UnknownState = codes "a task leaves in a state that the kernel doesn't have; write the trace anew"
cause_text causes.TwoThreads = codes "a task's name is that of another thread before; threads are renamed at their start, too: give the number, which stays, by PID=NAME:DEADLINE"
cause_text causes.Exited = codes "a task's thread was over before, and its number is that of another thread now; choose --from and --to around it"
cause_text causes.Renamed = codes "a task's thread has another name here, so it isn't followed; give its number, which stays, by PID=NAME:DEADLINE"
cause_text causes.TwoTasks = codes "one thread is two tasks, by its number and by its name; leave one out"
cause_text causes.TooLong = codes "more than 250000 lines tell of the tasks; choose a shorter time by --from and --to, or fewer tasks"
cause_text causes.NoLine = codes "no line of a kernel's trace; write it as text, by trace-cmd report or perf script with cpu and time among its fields: a line has a processor as [001] and a time with a point as 12.345678: before its event's name"
cause_text (causes.Unseen number) = codes "no line names task " ++ decimal (number + 1) ++ codes " of --tasks; write its name as the trace has it, a * isn't taken; --tasks '?' lists the threads of the trace"
cause_text causes.NotWoken = codes "a task comes behind a sleep without a wake-up, twice in one job or before any of it; record sched_waking, sched_wakeup and sched_wakeup_new, let jobs begin at their first run by --begin run, or go on by --lost cut"
cause_text causes.PartWritten = codes "it changes jobs of a part that was written; choose --from and --to around it"

-- # Documents

-- A job is told by its place among those that are written, or among all that were found, in order of begin and counted from 1.
abbrev pub written_job : ℕ → List ℕ → List ℕ
written_job place text = codes "written job " ++ decimal (place + 1) ++ text

abbrev pub found_job : ℕ → List ℕ → List ℕ
found_job place text = codes "found job " ++ decimal (place + 1) ++ text

-- The job's place stays the same.
abbrev pub us_text : ℕ → List ℕ
us_text us = codes "give --us " ++ decimal us ++ codes " and keep --khz, here and for yds-points: then it is the job line of that number"

-- how much greater the units have to be
abbrev pub units_text : ℕ → List ℕ
units_text us =
    if nat_lt MAX_UNIT us then codes "choose greater units by --us and --khz, and the points in the same --khz" else us_text us

abbrev pub work_text : ℕ → ℕ → ℕ → List ℕ
work_text place work us = written_job place (codes ": its work is " ++ decimal work ++ codes ", above 1000000; " ++ units_text us)

-- what to do where most jobs are left out for this reason
abbrev pub remedy : Left → List ℕ
remedy lefts.BeforeFrom = codes "choose an earlier --from"
remedy lefts.AfterTo = codes "choose a later --to"
remedy lefts.NotEnded = codes "record longer"
remedy lefts.EventsLost = codes "record with a larger buffer, or choose --from and --to around the loss"
remedy lefts.SwitchMissing = codes "record the switches of all threads, without a filter"
remedy lefts.BeginUnseen = codes "record sched_waking, and longer, or give --begin run"
remedy lefts.DueBefore = codes "choose a smaller unit by --us, or leave PERIOD out"
remedy lefts.Moved = codes "choose another processor by --cpu, or give --moved parts"
remedy lefts.SpeedUnknown = codes "give the speed by --start"

abbrev pub counts_text : LeftOut → List ℕ
counts_text left = codes "no job can be written: " ++ decimal left.count ++ codes " of " ++ decimal left.all

-- The reason is told in the words of the comments on jobs that are left out.
abbrev pub why_text : Left → List ℕ
why_text reason = codes " left out (" ++ reason_text (Some reason) ++ codes "); " ++ remedy reason

abbrev pub no_job_text : Option LeftOut → List ℕ
no_job_text None = codes "no job of the tasks is found; choose a later --to, or record longer"
no_job_text (Some left) = counts_text left ++ why_text left.reason

abbrev pub document_text : DocumentFault → List ℕ
document_text faults.TooManyJobs = codes "more than 4000 jobs; choose a shorter time by --from and --to"
document_text faults.TooManyRuns = codes "more than 100000 runs; choose a shorter time by --from and --to, or a greater unit by --us"
document_text (faults.NameTooLong place) = written_job place (codes ": its name is longer than 64 bytes; choose a shorter time by --from and --to")
document_text (faults.TimeTooGreat place) = written_job place (codes ": its times are above 1000000000 units; choose a greater unit by --us, or a later --from")
document_text (faults.WorkTooGreat place work us) = work_text place work us
document_text (faults.SpeedTooCoarse place) = found_job place (codes ": it ran at a speed that is 0, or off by more than a twentieth in its unit; choose a smaller unit by --khz")
document_text (faults.SpeedTooGreat place) = found_job place (codes ": it ran at a speed above 1000000 units; choose a greater unit by --khz")
document_text (faults.NoJob left) = no_job_text left
document_text faults.NoJobAnywhere = codes "no job can be written of any processor; choose one of them by --cpu, and the reason is told"
document_text (faults.NotKnown place) = found_job place (codes ": it isn't known whether it is late; record longer")
document_text (faults.Missed place) = found_job place (codes ": it doesn't stand as it is, or its thread was over with it, and --strict is given; leave that out, or choose --from and --to around the job")

-- why it isn't known whether a job is late, and what to do; one that stands has just no end in the trace
abbrev pub unsure_text : Option Left → List ℕ
unsure_text None = codes "its end isn't in the trace); record longer"
unsure_text (Some reason) = reason_text (Some reason) ++ codes "); " ++ remedy reason

-- A job is told by its name, too, as a comment shows the bytes of a word.
abbrev pub not_known_text : ℕ → List ℕ → Option Left → List ℕ
not_known_text place name reason =
    found_job place (codes ": it isn't known whether " ++ shown_word name ++ codes " is late (" ++ unsure_text reason)

abbrev pub limit_text : Limit → List ℕ
limit_text (Beyond fault) = document_text fault
limit_text (NotKnown place name reason) = not_known_text place name reason

abbrev pub line_text : LineFault → List ℕ
line_text (InForm fault) = codes "line " ++ decimal fault.line ++ codes ", column " ++ decimal fault.column ++ codes ": " ++ form_text fault.reason
line_text (AtLine number cause) = codes "line " ++ decimal number ++ codes ": " ++ cause_text cause

abbrev pub fault_text : TraceFault → List ℕ
fault_text (OfLine fault) = failed (line_text fault)
fault_text (OfDocument limit) = failed (limit_text limit)
fault_text OfText = failed (codes "the document is longer than 8388608 bytes; choose a shorter time by --from and --to")

-- # Parts

-- where each processor has documents of its own, whose part it is
abbrev pub on_processor : Option ℕ → List ℕ
on_processor None = []
on_processor (Some processor) = codes " of processor " ++ decimal processor

abbrev pub of_part : Option ℕ → ℕ → List ℕ → List ℕ
of_part processor part text = codes "part " ++ decimal part ++ on_processor processor ++ codes ": " ++ text

-- by how much a job is known to be late
abbrev pub late_text : Option ℕ → List ℕ
late_text None = codes "not known to be late"
late_text (Some late) = codes "known to be late by " ++ in_milliseconds late ++ codes " ms"

-- A job is told by its name, as a comment shows the bytes of a word, and by its begin on the trace's clock.
abbrev pub no_place_text : List ℕ → ℕ → Option ℕ → List ℕ
no_place_text name begin late =
    codes "no part can end, since the processor is never quiet; look at job " ++ shown_word name ++ codes ", begun at " ++ in_seconds begin
    ++ codes " s, " ++ late_text late ++ codes ": choose --from and --to around it, or leave its task out"

-- why a trace isn't told further in parts
abbrev pub halt_text : told.Halt → List ℕ
halt_text (told.InForm fault) = failed (line_text (InForm fault))
halt_text (told.AtLine number cause) = failed (line_text (AtLine number cause))
halt_text (told.OfDocument processor part limit) = failed (of_part processor part (limit_text limit))
halt_text (told.OfText processor part) = failed (of_part processor part (codes "the document is longer than 8388608 bytes; choose fewer tasks, or greater units by --us and --khz"))
halt_text (told.NoPlace name begin late) = failed (no_place_text name begin late)

-- # Other ends

-- the trace has as many bytes or lines as can be counted
abbrev pub too_long_text : List ℕ
too_long_text = failed (codes "the trace has more bytes or lines than are counted; give a part of it")

-- bounds count from a first event that was lost
abbrev pub no_first_text : List ℕ
no_first_text = failed (codes "events were lost before the first one; give --from and --to as times of the trace's clock")

abbrev pub memory_text : List ℕ
memory_text = failed (codes "out of memory; ask for fewer tasks, or choose a shorter time by --from and --to")
