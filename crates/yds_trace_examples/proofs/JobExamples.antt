-- The jobs of a task, by lines of a trace.
use Rattle.base.proofs.Common.{◌≡◌, List, [], ◌∷◌, reverse, true, false, Some, None, refl}
use Rattle.yds_kernel.specs.declared.state.State.TheVariants as states
use Rattle.yds_kernel.specs.declared.loss.Since.TheVariants as since
use Rattle.yds_kernel.specs.Event.{Switch, WakeUp, Said, Lost}
use Rattle.yds_trace.specs.declared.job.End.TheVariants as ends
use Rattle.yds_trace.specs.Asked.{Asked}
use Rattle.yds_trace.specs.Jobs.{Job}
use Rattle.yds_trace.specs.Document.{jobs_of}
use Rattle.yds_trace_examples.proofs.Lines.{t, other, idle, line, woken, is_awake, comes, sleeps, exits, preempted, back, other_comes, other_leaves, speed, marker, lost, asked, with_apart, with_period, at_run, up_to, stretch, job, begun_by}

-- the task's jobs by these lines, which stand in order of time
abbrev jobs : Asked → List Said → List Job
jobs asked lines = jobs_of asked (reverse lines) 0

-- # A job begins and ends

-- It is woken, comes to a processor, and leaves it to sleep.
a_job : jobs asked (woken 10 ∷ comes 0 12 ∷ sleeps 0 40 ∷ []) ≡ job 10 (ends.Ended 40) (stretch 0 12 40 ∷ []) ∷ []
a_job = refl

-- It is preempted, and goes on. The same is so of one that waits for a disk.
a_preemption : jobs asked (woken 10 ∷ comes 0 12 ∷ preempted 0 20 ∷ back 0 30 ∷ sleeps 0 40 ∷ []) ≡
    job 10 (ends.Ended 40) (stretch 0 30 40 ∷ stretch 0 12 20 ∷ []) ∷ []
a_preemption = refl

-- It moves to another processor.
a_move : jobs asked (woken 10 ∷ comes 0 12 ∷ preempted 0 20 ∷ comes 1 30 ∷ sleeps 1 40 ∷ []) ≡
    job 10 (ends.Ended 40) (stretch 1 30 40 ∷ stretch 0 12 20 ∷ []) ∷ []
a_move = refl

-- Near miss: it leaves to sleep, and a wake-up begins another job.
two_jobs : jobs asked (woken 10 ∷ comes 0 12 ∷ sleeps 0 20 ∷ woken 25 ∷ comes 0 30 ∷ sleeps 0 40 ∷ []) ≡
    job 10 (ends.Ended 20) (stretch 0 12 20 ∷ []) ∷ job 25 (ends.Ended 40) (stretch 0 30 40 ∷ []) ∷ []
two_jobs = refl

-- A wake-up less than 50 after the job's begin goes on with it.
a_sleep_within_a_job : jobs with_apart (woken 10 ∷ comes 0 12 ∷ sleeps 0 20 ∷ woken 59 ∷ comes 0 60 ∷ sleeps 0 70 ∷ []) ≡
    job 10 (ends.Ended 70) (stretch 0 60 70 ∷ stretch 0 12 20 ∷ []) ∷ []
a_sleep_within_a_job = refl

-- Near miss: 50 after it, another job begins.
a_sleep_between_jobs : jobs with_apart (woken 10 ∷ comes 0 12 ∷ sleeps 0 20 ∷ woken 60 ∷ comes 0 60 ∷ sleeps 0 70 ∷ []) ≡
    job 10 (ends.Ended 20) (stretch 0 12 20 ∷ []) ∷ job 60 (ends.Ended 70) (stretch 0 60 70 ∷ []) ∷ []
a_sleep_between_jobs = refl

-- Where the first job's begin isn't known, it isn't known either whether the wake-up begins another one: it may have begun long before.
a_sleep_after_an_unknown_begin : jobs with_apart (comes 0 12 ∷ sleeps 0 20 ∷ woken 59 ∷ comes 0 60 ∷ sleeps 0 70 ∷ []) ≡
    begun_by 12 (ends.Ended 20) (stretch 0 12 20 ∷ []) ∷ begun_by 59 (ends.Ended 70) (stretch 0 60 70 ∷ []) ∷ []
a_sleep_after_an_unknown_begin = refl

-- # Due by a period

-- The second job begins 250 behind the first, and is due as one that begins 200 behind it; so is the third by that.
fallen_behind : jobs with_period (woken 1000 ∷ comes 0 1002 ∷ sleeps 0 1010 ∷ woken 1250 ∷ comes 0 1252 ∷ sleeps 0 1260 ∷ woken 1410 ∷ comes 0 1412 ∷ sleeps 0 1420 ∷ []) ≡
    job 1000 (ends.Ended 1010) (stretch 0 1002 1010 ∷ [])
    ∷ record (job 1250 (ends.Ended 1260) (stretch 0 1252 1260 ∷ [])) { due_from = 1200 }
    ∷ record (job 1410 (ends.Ended 1420) (stretch 0 1412 1420 ∷ [])) { due_from = 1400 } ∷ []
fallen_behind = refl

-- Near misses: it begins in time; and the begin of the one before it isn't known.
in_time_again : jobs with_period (woken 1000 ∷ comes 0 1002 ∷ sleeps 0 1010 ∷ woken 1200 ∷ comes 0 1202 ∷ sleeps 0 1210 ∷ []) ≡
    job 1000 (ends.Ended 1010) (stretch 0 1002 1010 ∷ []) ∷ job 1200 (ends.Ended 1210) (stretch 0 1202 1210 ∷ []) ∷ []
in_time_again = refl

behind_an_unknown_begin : jobs with_period (comes 0 1002 ∷ sleeps 0 1010 ∷ woken 1250 ∷ comes 0 1252 ∷ sleeps 0 1260 ∷ []) ≡
    begun_by 1002 (ends.Ended 1010) (stretch 0 1002 1010 ∷ []) ∷ job 1250 (ends.Ended 1260) (stretch 0 1252 1260 ∷ []) ∷ []
behind_an_unknown_begin = refl

-- # Wake-ups while a job is open

-- A wake-up while it runs is counted.
a_second_wake_up : jobs asked (woken 10 ∷ comes 0 12 ∷ woken 20 ∷ sleeps 0 40 ∷ []) ≡
    record (job 10 (ends.Ended 40) (stretch 0 12 40 ∷ [])) { wake_ups = 1 } ∷ []
a_second_wake_up = refl

-- Near miss: two lines tell of one wake-up, before it runs.
one_wake_up_twice : jobs asked (woken 10 ∷ woken 11 ∷ comes 0 12 ∷ sleeps 0 40 ∷ []) ≡ job 10 (ends.Ended 40) (stretch 0 12 40 ∷ []) ∷ []
one_wake_up_twice = refl

-- A thread that is new is woken the first time, and ends its last job when it exits.
a_fork_and_an_exit : jobs asked (line 2 10 (WakeUp t false) ∷ comes 0 12 ∷ exits 0 40 ∷ []) ≡
    record (job 10 (ends.Ended 40) (stretch 0 12 40 ∷ [])) { exited = true } ∷ []
a_fork_and_an_exit = refl

-- # Woken while it goes to sleep

-- A wake-up that was started before it left to sleep, and wasn't done by then, begins a job: the next one.
woken_going_to_sleep : jobs asked (woken 10 ∷ comes 0 12 ∷ woken 38 ∷ sleeps 0 40 ∷ comes 0 50 ∷ sleeps 0 60 ∷ []) ≡
    record (job 10 (ends.Ended 40) (stretch 0 12 40 ∷ [])) { wake_ups = 1 } ∷ job 38 (ends.Ended 60) (stretch 0 50 60 ∷ []) ∷ []
woken_going_to_sleep = refl

-- So it is where its second half is told behind the sleep.
woken_in_halves : jobs asked (woken 10 ∷ is_awake 11 ∷ comes 0 12 ∷ woken 38 ∷ sleeps 0 40 ∷ is_awake 45 ∷ comes 0 50 ∷ sleeps 0 60 ∷ []) ≡
    record (job 10 (ends.Ended 40) (stretch 0 12 40 ∷ [])) { wake_ups = 1 } ∷ job 38 (ends.Ended 60) (stretch 0 50 60 ∷ []) ∷ []
woken_in_halves = refl

-- Less than 50 after the job's begin it goes on with that.
woken_going_to_sleep_within : jobs with_apart (woken 10 ∷ comes 0 12 ∷ woken 38 ∷ sleeps 0 40 ∷ comes 0 70 ∷ sleeps 0 80 ∷ []) ≡
    record (job 10 (ends.Ended 80) (stretch 0 70 80 ∷ stretch 0 12 40 ∷ [])) { wake_ups = 1 } ∷ []
woken_going_to_sleep_within = refl

-- Near miss: it was done before that, so it was taken up while the thread ran.
woken_while_it_runs : jobs asked (woken 10 ∷ comes 0 12 ∷ woken 30 ∷ is_awake 31 ∷ sleeps 0 40 ∷ woken 45 ∷ comes 0 50 ∷ sleeps 0 60 ∷ []) ≡
    record (job 10 (ends.Ended 40) (stretch 0 12 40 ∷ [])) { wake_ups = 1 } ∷ job 45 (ends.Ended 60) (stretch 0 50 60 ∷ []) ∷ []
woken_while_it_runs = refl

-- # A sleep that was none

-- Without a wake-up it hasn't slept, as where a signal was pending: the job goes on.
never_slept : jobs asked (woken 10 ∷ comes 0 12 ∷ sleeps 0 20 ∷ comes 0 30 ∷ sleeps 0 40 ∷ []) ≡
    record (job 10 (ends.Ended 40) (stretch 0 30 40 ∷ stretch 0 12 20 ∷ [])) { slept = Some 20 } ∷ []
never_slept = refl

-- Near misses: events were lost in between; and a second such sleep, from the first one on.
lost_in_between : jobs asked (woken 10 ∷ comes 0 12 ∷ sleeps 0 20 ∷ marker 1 25 ∷ lost 1 ∷ comes 0 30 ∷ sleeps 0 40 ∷ []) ≡
    job 10 (ends.Ended 20) (stretch 0 12 20 ∷ []) ∷ begun_by 30 (ends.Ended 40) (record (stretch 0 30 40) { khz = None } ∷ []) ∷ []
lost_in_between = refl

-- Where a loss that is told later began before it came back, its wake-up may be among what was lost: it is known open up to that sleep alone.
lost_over_a_sleep : jobs asked (woken 10 ∷ comes 0 12 ∷ marker 1 15 ∷ sleeps 0 20 ∷ marker 1 25 ∷ comes 0 30 ∷ lost 1 ∷ sleeps 0 40 ∷ []) ≡
    record (job 10 (ends.Lost 20) (stretch 0 12 20 ∷ [])) { slept = Some 20 } ∷ begun_by 40 (ends.Ended 40) (record (stretch 0 40 40) { khz = None } ∷ []) ∷ []
lost_over_a_sleep = refl

never_woken : jobs asked (woken 10 ∷ comes 0 12 ∷ sleeps 0 20 ∷ comes 0 30 ∷ sleeps 0 40 ∷ comes 0 50 ∷ sleeps 0 60 ∷ []) ≡
    record (job 10 (ends.Lost 20) (stretch 0 30 40 ∷ stretch 0 12 20 ∷ [])) { slept = Some 20 } ∷ begun_by 50 (ends.Ended 60) (stretch 0 50 60 ∷ []) ∷ []
never_woken = refl

-- # Order

-- Of a wake-up and a switch of one time the order of lines decides.
a_wake_up_first : jobs asked (woken 10 ∷ comes 0 10 ∷ sleeps 0 40 ∷ []) ≡ job 10 (ends.Ended 40) (stretch 0 10 40 ∷ []) ∷ []
a_wake_up_first = refl

a_switch_first : jobs asked (comes 0 10 ∷ woken 10 ∷ sleeps 0 40 ∷ []) ≡
    record (begun_by 10 (ends.Ended 40) (stretch 0 10 40 ∷ [])) { wake_ups = 1 } ∷ []
a_switch_first = refl

-- A marker of an application is nothing, and neither is another thread.
a_marker : jobs asked (woken 10 ∷ comes 0 12 ∷ marker 0 20 ∷ line 0 30 (WakeUp other true) ∷ sleeps 0 40 ∷ []) ≡
    job 10 (ends.Ended 40) (stretch 0 12 40 ∷ []) ∷ []
a_marker = refl

-- # Begins that aren't seen

-- It comes without a wake-up: its job began before, or just here.
an_unseen_begin : jobs asked (comes 0 12 ∷ sleeps 0 40 ∷ []) ≡ begun_by 12 (ends.Ended 40) (stretch 0 12 40 ∷ []) ∷ []
an_unseen_begin = refl

-- It leaves as the first on its processor: it was there at that one's first line, at 5.
there_from_the_begin : jobs asked (marker 0 5 ∷ sleeps 0 40 ∷ []) ≡ begun_by 5 (ends.Ended 40) (stretch 0 5 40 ∷ []) ∷ []
there_from_the_begin = refl

-- So it was where a wake-up came meanwhile: that begins no job.
woken_while_there : jobs asked (marker 0 5 ∷ woken 10 ∷ sleeps 0 40 ∷ []) ≡ begun_by 5 (ends.Ended 40) (stretch 0 5 40 ∷ []) ∷ []
woken_while_there = refl

-- Near misses: a line of another processor tells nothing of its own; it ran elsewhere before, so it came at a time that isn't told; and the
-- processor has switched before.
there_since_its_line : jobs asked (marker 1 5 ∷ sleeps 0 40 ∷ []) ≡ begun_by 40 (ends.Ended 40) (stretch 0 40 40 ∷ []) ∷ []
there_since_its_line = refl

not_there_since_it_ran : jobs asked (woken 10 ∷ comes 0 12 ∷ sleeps 0 20 ∷ woken 30 ∷ sleeps 3 40 ∷ []) ≡
    job 10 (ends.Ended 20) (stretch 0 12 20 ∷ []) ∷ record (job 30 (ends.Ended 40) []) { switch_missing = true } ∷ []
not_there_since_it_ran = refl

not_there_from_the_begin : jobs asked (other_leaves 0 5 ∷ sleeps 0 40 ∷ []) ≡ record (begun_by 40 (ends.Ended 40) []) { switch_missing = true } ∷ []
not_there_from_the_begin = refl

-- Jobs that begin at their first run, where wake-ups aren't read. Whether the thread's first job in the trace ran before isn't known.
begins_at_its_run : jobs at_run (woken 10 ∷ comes 0 12 ∷ preempted 0 20 ∷ back 0 30 ∷ sleeps 0 40 ∷ comes 0 50 ∷ sleeps 0 60 ∷ []) ≡
    begun_by 12 (ends.Ended 40) (stretch 0 30 40 ∷ stretch 0 12 20 ∷ []) ∷ job 50 (ends.Ended 60) (stretch 0 50 60 ∷ []) ∷ []
begins_at_its_run = refl

-- # Missing switches

-- It came at 12, and another thread leaves there at 30: what is missing was lost since 12, and nothing is known of the job after that.
left_unseen : jobs asked (woken 10 ∷ comes 0 12 ∷ other_leaves 0 30 ∷ []) ≡ job 10 (ends.Lost 12) [] ∷ []
left_unseen = refl

-- It comes again without a wake-up: that may be missing, so another job begins, by then.
seen_again : jobs asked (woken 10 ∷ comes 0 12 ∷ other_leaves 0 30 ∷ comes 0 50 ∷ sleeps 0 60 ∷ []) ≡
    job 10 (ends.Lost 12) [] ∷ begun_by 50 (ends.Ended 60) (stretch 0 50 60 ∷ []) ∷ []
seen_again = refl

-- With a wake-up between, its begin is known.
woken_again : jobs asked (woken 10 ∷ comes 0 12 ∷ other_leaves 0 30 ∷ woken 40 ∷ comes 0 50 ∷ sleeps 0 60 ∷ []) ≡
    job 10 (ends.Lost 12) [] ∷ job 40 (ends.Ended 60) (stretch 0 50 60 ∷ []) ∷ []
woken_again = refl

-- Its coming is missing: it is woken, and leaves a processor that another thread had. Its end is known.
came_unseen : jobs asked (woken 10 ∷ line 0 12 (Switch idle states.GoesOn other) ∷ sleeps 0 40 ∷ []) ≡
    record (job 10 (ends.Ended 40) []) { switch_missing = true } ∷ []
came_unseen = refl

-- It leaves another processor than that to which it came: the switches between were lost since 12. It is found awake at 40.
left_elsewhere : jobs asked (woken 10 ∷ comes 0 12 ∷ line 1 15 (Switch idle states.GoesOn other) ∷ sleeps 1 40 ∷ []) ≡
    job 10 (ends.Lost 12) [] ∷ record (begun_by 40 (ends.Ended 40) []) { switch_missing = true } ∷ []
left_elsewhere = refl

-- Near miss: a missing switch of other threads is none of it.
missing_of_others : jobs asked (woken 10 ∷ comes 0 12 ∷ other_leaves 1 20 ∷ other_leaves 1 30 ∷ sleeps 0 40 ∷ []) ≡
    job 10 (ends.Ended 40) (stretch 0 12 40 ∷ []) ∷ []
missing_of_others = refl

-- It has slept on processor 0 when it leaves 1, by the first switch of that one, behind `to`: it had 1 until then, and came there unseen. What is missing
-- was lost since the first line of 1, at 5, and its job that ended behind that has no known end.
there_until_to : jobs (record (up_to 100) { cut_losses = true }) (line 1 5 (WakeUp other true) ∷ woken 10 ∷ comes 0 20 ∷ sleeps 0 50 ∷ other_comes 0 120 ∷ sleeps 1 150 ∷ []) ≡
    job 10 (ends.Lost 5) (stretch 0 20 50 ∷ []) ∷ record (begun_by 100 ends.Open (stretch 1 100 100 ∷ [])) { switch_missing = true } ∷ []
there_until_to = refl

-- Near miss: another thread leaves there.
another_there_until_to : jobs (record (up_to 100) { cut_losses = true }) (line 1 5 (WakeUp other true) ∷ woken 10 ∷ comes 0 20 ∷ sleeps 0 50 ∷ other_comes 0 120 ∷ other_leaves 1 150 ∷ []) ≡
    job 10 (ends.Ended 50) (stretch 0 20 50 ∷ []) ∷ []
another_there_until_to = refl

-- A state that the kernel doesn't have is no end: nothing is known of it after that.
a_strange_state : jobs asked (woken 10 ∷ comes 0 12 ∷ line 0 40 (Switch t states.Unknown idle) ∷ []) ≡
    job 10 (ends.Lost 40) (stretch 0 12 40 ∷ []) ∷ []
a_strange_state = refl

-- # Lost events

-- Events of processor 1 were lost since its last line, at 5: nothing is known of the job after that, nor of the speed. It is found awake at 40.
a_loss : jobs asked (marker 1 5 ∷ woken 10 ∷ comes 0 12 ∷ lost 1 ∷ sleeps 0 40 ∷ []) ≡
    job 10 (ends.Lost 5) [] ∷ begun_by 40 (ends.Ended 40) (record (stretch 0 40 40) { khz = None } ∷ []) ∷ []
a_loss = refl

-- A job that ended after the loss began has no known end either. One that ended before it has.
a_loss_over_an_end : jobs asked (woken 10 ∷ comes 0 12 ∷ sleeps 0 20 ∷ marker 1 25 ∷ woken 30 ∷ comes 0 30 ∷ sleeps 0 40 ∷ lost 1 ∷ []) ≡
    job 10 (ends.Ended 20) (stretch 0 12 20 ∷ []) ∷ job 30 (ends.Lost 25) (stretch 0 30 40 ∷ []) ∷ []
a_loss_over_an_end = refl

-- A buffer that starts here has lost everything since the trace's begin.
a_buffer_that_starts : jobs asked (woken 10 ∷ comes 0 12 ∷ sleeps 0 20 ∷ Lost 1 since.TheBegin ∷ []) ≡ job 10 (ends.Lost 10) (stretch 0 12 20 ∷ []) ∷ []
a_buffer_that_starts = refl

-- # Speeds

-- A change of its processor's speed cuts a stretch.
a_change_of_speed : jobs asked (woken 10 ∷ comes 0 12 ∷ speed 0 20 8 ∷ sleeps 0 40 ∷ []) ≡
    job 10 (ends.Ended 40) (record (stretch 0 20 40) { khz = Some 8 } ∷ stretch 0 12 20 ∷ []) ∷ []
a_change_of_speed = refl

-- One with the stamp of the switch before it counts from that stamp on: the stretch before it takes no time.
a_change_at_a_switch : jobs asked (woken 10 ∷ comes 0 12 ∷ speed 0 12 8 ∷ sleeps 0 40 ∷ []) ≡
    job 10 (ends.Ended 40) (record (stretch 0 12 40) { khz = Some 8 } ∷ stretch 0 12 12 ∷ []) ∷ []
a_change_at_a_switch = refl

-- Near miss: that of another processor.
a_change_elsewhere : jobs asked (woken 10 ∷ comes 0 12 ∷ speed 1 20 8 ∷ sleeps 0 40 ∷ []) ≡ job 10 (ends.Ended 40) (stretch 0 12 40 ∷ []) ∷ []
a_change_elsewhere = refl

-- Lost events may tell of a change: the speed isn't known after them.
a_speed_after_a_loss : jobs asked (marker 1 5 ∷ lost 1 ∷ woken 10 ∷ comes 0 12 ∷ sleeps 0 40 ∷ []) ≡
    job 10 (ends.Ended 40) (record (stretch 0 12 40) { khz = None } ∷ []) ∷ []
a_speed_after_a_loss = refl

-- # Up to a time

-- What it has at the end is a stretch up to there.
still_running : jobs (up_to 30) (woken 10 ∷ comes 0 12 ∷ sleeps 0 40 ∷ []) ≡ job 10 ends.Open (stretch 0 12 30 ∷ []) ∷ []
still_running = refl

-- A loss told after it counts where it reaches back before it.
a_loss_told_later : jobs (up_to 30) (marker 1 5 ∷ woken 10 ∷ comes 0 12 ∷ sleeps 0 40 ∷ lost 1 ∷ []) ≡ job 10 (ends.Lost 5) [] ∷ []
a_loss_told_later = refl

-- Near miss: nothing before it was lost, and the speed of later is none of it.
a_loss_of_later : jobs (up_to 30) (woken 10 ∷ comes 0 12 ∷ marker 1 35 ∷ speed 0 36 8 ∷ sleeps 0 40 ∷ lost 1 ∷ []) ≡
    job 10 ends.Open (stretch 0 12 30 ∷ []) ∷ []
a_loss_of_later = refl

-- A thread that had its processor at that one's first line, at 5, and leaves it after 30: it was there until then, and is there then.
there_until_after : jobs (up_to 30) (marker 0 5 ∷ sleeps 0 40 ∷ []) ≡ begun_by 5 ends.Open (stretch 0 30 30 ∷ stretch 0 5 30 ∷ []) ∷ []
there_until_after = refl

-- The same where jobs begin at their first run.
there_at_run : jobs (record at_run { to = Some 30 }) (marker 0 5 ∷ sleeps 0 40 ∷ []) ≡ begun_by 5 ends.Open (stretch 0 30 30 ∷ stretch 0 5 30 ∷ []) ∷ []
there_at_run = refl

-- Near misses: the second switch of a processor after it is none of it, and neither is what is told after a first one.
second_after_to : jobs (up_to 30) (marker 1 5 ∷ other_leaves 0 40 ∷ comes 0 50 ∷ sleeps 0 60 ∷ []) ≡ []
second_after_to = refl

first_and_more_after_to : jobs (up_to 30) (marker 0 5 ∷ sleeps 0 40 ∷ woken 45 ∷ comes 0 50 ∷ sleeps 0 60 ∷ []) ≡
    begun_by 5 ends.Open (stretch 0 30 30 ∷ stretch 0 5 30 ∷ []) ∷ []
first_and_more_after_to = refl
