-- When a job is known to be late, and by how much. All times are nanoseconds.
use Rattle.std.specs.Prelude.{ℕ, ◌+◌, ◌-◌, List, min, max, Bool, true, false, not, ◌==◌, ◌&&◌, ◌||◌, nat_le, nat_lt, if◌then◌else◌, Option, Some, None, is_none, unwrap_or}
use Rattle.yds_kernel.specs.Event.{Said}
use Rattle.yds_trace.specs.declared.job.End.{End}
use Rattle.yds_trace.specs.declared.job.End.TheVariants as ends
use Rattle.yds_trace.specs.Asked.{Task, Asked, is_behind_from, is_after_from}
use Rattle.yds_trace.specs.Past.{last_time}
use Rattle.yds_trace.specs.Jobs.{Job}

-- the end of what is asked for and shown
abbrev pub last_asked : Asked → List Said → ℕ
last_asked asked past = elim asked.to [ None ↦ last_time past | Some to ↦ min to (last_time past) ]

-- The job's deadline. Where its begin isn't known, but that it isn't later, the latest that its deadline can be.
abbrev pub due : Task → Job → ℕ
due task job = job.due_from + task.deadline

-- up to when it is known of a job whether it has ended
abbrev pub shown_until : ℕ → End → ℕ
shown_until last ends.Open = last
shown_until last (ends.Ended end) = end
shown_until last (ends.Lost since) = min last since

-- whether it was still open then
abbrev pub is_open : End → Bool
is_open ends.Open = true
is_open (ends.Ended end) = false
is_open (ends.Lost since) = true

-- It was open behind `from`, and its deadline isn't after the end of what is asked for.
abbrev pub is_judged : Option ℕ → ℕ → ℕ → ℕ → Bool
is_judged from last deadline shown = is_behind_from from shown && nat_le deadline last

-- A job is late where it ended after its deadline, or hadn't ended when that came: by the time from the deadline to its end, or to where
-- it was last seen open. `None` where that isn't known of it. What ended by `from` is of the time before it.
abbrev pub late_by : Option ℕ → ℕ → ℕ → End → Option ℕ
late_by from last deadline end =
    if is_judged from last deadline (shown_until last end)
    && (nat_lt deadline (shown_until last end) || ((deadline == shown_until last end) && is_open end))
    then Some (shown_until last end - deadline)
    else None

abbrev pub lateness : Asked → Task → ℕ → Job → Option ℕ
lateness asked task last job = late_by asked.from last (due task job) job.end

-- # Where it isn't known

abbrev pub over_by : ℕ → End → Bool
over_by time ends.Open = false
over_by time (ends.Ended end) = nat_le end time
over_by time (ends.Lost since) = false

-- The earliest that a deadline may count from, for all that is shown from `from` on: where its begin isn't known, from the trace's first line.
abbrev pub earliest : Asked → ℕ → Job → ℕ
earliest asked first job = if job.begin_known || asked.begin_at_run then job.due_from else max first (unwrap_or asked.from 0)

-- Its earliest deadline lies in what is asked for and shown, and the job isn't known to be over by then.
abbrev pub may_be_late : Asked → Task → ℕ → ℕ → Job → Bool
may_be_late asked task first last job =
    nat_le (earliest asked first job + task.deadline) last && not (over_by (earliest asked first job + task.deadline) job.end)

-- It begins where that is asked for, isn't known to be late, and may be. Where losses are cut out, such jobs are left out.
abbrev pub is_unsure : Asked → Task → ℕ → ℕ → Job → Bool
is_unsure asked task first last job =
    not asked.cut_losses && is_after_from asked.from job.begin && is_none (lateness asked task last job) && may_be_late asked task first last job
