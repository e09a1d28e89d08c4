-- For which small traces no document is written, and what is told of that. A job is due 100 after its begin.
use Rattle.base.proofs.Common.{◌≡◌, List, [], ◌∷◌, reverse, false, Option, Some, None, refl}
use Rattle.std.specs.Fmt.{digits}
use Rattle.yds_kernel.specs.Event.{Said}
use Rattle.yds_trace.specs.declared.reason.Reason.TheVariants as reasons
use Rattle.yds_trace.specs.Asked.{Same, Listed, Asked}
use Rattle.yds_trace_document.specs.declared.fault.DocumentFault.{DocumentFault}
use Rattle.yds_trace_document.specs.declared.fault.DocumentFault.TheVariants as faults
use Rattle.yds_trace_document.specs.Settled.{settled_of}
use Rattle.yds_trace_document.specs.Limits.{limit_fault}
use Rattle.yds_trace_examples.proofs.Lines.{woken, comes, sleeps, marker, task, of_task, asked, at_run}

abbrev fault : Asked → List Said → Option DocumentFault
fault asked lines = limit_fault false (settled_of asked (reverse lines))

-- # No job

-- no speed is told
abbrev without_start : Asked
without_start = record asked { start = Listed [] }

-- The first job was there when the trace began, and two ran at a speed that isn't known.
abbrev three_jobs : List Said
three_jobs = sleeps 0 1000 ∷ woken 1100 ∷ comes 0 1120 ∷ sleeps 0 1140 ∷ woken 1200 ∷ comes 0 1210 ∷ sleeps 0 1230 ∷ []

most_at_unknown_speed : fault without_start three_jobs ≡ Some (faults.NoJob (Some (record { reason = reasons.SpeedUnknown; count = 2; all = 3 })))
most_at_unknown_speed = refl

-- Of reasons that are equally frequent that of the job that began first is told.
first_of_two : fault without_start (sleeps 0 1000 ∷ woken 1100 ∷ comes 0 1120 ∷ sleeps 0 1140 ∷ []) ≡
    Some (faults.NoJob (Some (record { reason = reasons.BeginUnseen; count = 1; all = 2 })))
first_of_two = refl

-- A thread that is only woken, where jobs begin at their first run.
no_job_at_all : fault at_run (woken 1000 ∷ []) ≡ Some (faults.NoJob None)
no_job_at_all = refl

-- Near miss: a speed is told.
with_start : fault asked three_jobs ≡ None
unfolding digits
with_start = refl

-- Near miss: it ran at a speed that isn't known, and is late. So it is written.
late_at_unknown_speed : fault without_start (woken 1000 ∷ comes 0 1020 ∷ sleeps 0 1200 ∷ []) ≡ None
unfolding digits
late_at_unknown_speed = refl

-- # Not known to be late

-- The first job may have begun when the trace did, at 1000. It ended at 1110.
not_known : fault asked (marker 0 1000 ∷ comes 0 1020 ∷ sleeps 0 1110 ∷ woken 1200 ∷ comes 0 1210 ∷ sleeps 0 1230 ∷ []) ≡ Some (faults.NotKnown 0)
unfolding digits
not_known = refl

-- Near miss: it ended 100 behind that.
in_time_in_any_case : fault asked (marker 0 1000 ∷ comes 0 1020 ∷ sleeps 0 1100 ∷ woken 1200 ∷ comes 0 1210 ∷ sleeps 0 1230 ∷ []) ≡ None
unfolding digits
in_time_in_any_case = refl

-- # Too much work

-- a job that runs for 2 microseconds, until its deadline, at 1,000,000 units of speed
abbrev long_job : List Said
long_job = woken 1000 ∷ comes 0 1000 ∷ sleeps 0 3000 ∷ []

too_much_work : fault (record (of_task (record task { deadline = 2000 })) { unit = 1000; start = Same 1000000 }) long_job ≡ Some (faults.WorkTooGreat 0 2000000 2)
unfolding digits
too_much_work = refl

-- Near miss: in the unit that is told the work is the greatest that a job may have.
in_that_unit : fault (record (of_task (record task { deadline = 2000 })) { unit = 2000; start = Same 1000000 }) long_job ≡ None
unfolding digits
in_that_unit = refl
