-- The jobs of a task: when each began and ended, and where its thread ran, by the lines of a trace.
--
-- A job begins where its thread is woken, and ends where that leaves a processor to sleep, or is over. Being preempted, waiting for a disk,
-- being stopped or traced go on with it. Who comes without a wake-up hasn't slept. Of a job whose begin or end the trace doesn't show it is
-- said what is known.
use Rattle.std.specs.Prelude.{ℕ, ◌+◌, List, [], ◌∷◌, map, min, Bool, true, false, not, ◌==◌, ◌&&◌, ◌||◌, nat_lt, if◌then◌else◌, Option, Some, None, is_some, is_none, unwrap_or}
use Rattle.yds_kernel.specs.declared.state.State.{State}
use Rattle.yds_kernel.specs.declared.state.State.TheVariants as states
use Rattle.yds_kernel.specs.declared.loss.Since.TheVariants as since
use Rattle.yds_kernel.specs.Parts.{capped}
use Rattle.yds_kernel.specs.Event.{Thread, Happening, Switch, WakeUp, Speed, Loss, Marker, Other, Event, Said, Stamped, Lost, Nothing}
use Rattle.yds_trace.specs.declared.job.End.{End}
use Rattle.yds_trace.specs.declared.job.End.TheVariants as ends
use Rattle.yds_trace.specs.declared.job.Stretch.{Stretch}
use Rattle.yds_trace.specs.declared.job.Standing.{Standing}
use Rattle.yds_trace.specs.declared.job.Leaving.{Leaving}
use Rattle.yds_trace.specs.declared.job.Woken.{Woken}
use Rattle.yds_trace.specs.declared.job.Pace.{Pace}
use Rattle.yds_trace.specs.Asked.{Task, Asked, task_at, task_of, pace_of, is_of}
use Rattle.yds_trace.specs.Past.{lost_since, lines_since, last_switch, who_has, speed_after}

pub record Job : Type 0 where
  -- its begin; where that isn't known, a time before which it began, or at which
  pub begin : ℕ
  pub begin_known : Bool
  -- Its deadline counts from here: from its begin, or from a period behind where that of the job before counts from, if that is earlier.
  pub due_from : ℕ
  pub end : End
  -- in which its thread ran, the last one first
  pub stretches : List Stretch
  -- how many wake-ups came while it was open
  pub wake_ups : ℕ
  -- its thread's coming to a processor is missing, so not all that it ran is known
  pub switch_missing : Bool
  -- its thread left to sleep at this time, and came back without a wake-up: it hasn't slept
  pub slept : Option ℕ
  -- its thread was over with it
  pub exited : Bool
  -- it ran on several processors, and these are its stretches on one of them
  pub shared : Bool

-- what is known of a task's thread after some lines
pub record Known : Type 0 where
  -- its jobs, the last one first; no other is open
  pub jobs : List Job
  -- where it runs
  pub on : Option Standing
  -- the wake-ups since its last switch
  pub woken : Woken

-- nothing was seen of it, since the trace's begin or since events were lost
abbrev pub not_seen : Woken
not_seen = record { came = false; started = None; seen = false; ever = false }

abbrev pub unknown : Known
unknown = record { jobs = []; on = None; woken = not_seen }

-- # A job begins, goes on, or ends

abbrev pub new_job : ℕ → ℕ → Bool → Job
new_job time due_from certain =
    record {
      begin = time;
      begin_known = certain;
      due_from = due_from;
      end = ends.Open;
      stretches = [];
      wake_ups = 0;
      switch_missing = false;
      slept = None;
      exited = false;
      shared = false;
    }

abbrev pub began : ℕ → Bool → List Job → List Job
began time certain jobs = new_job time time certain ∷ jobs

-- With a period a job is due no later than a period behind the one before it, however late it begins. Where that one's begin isn't known, or there
-- is no period, it is due by its own begin.
abbrev pub due_behind : ℕ → ℕ → Job → ℕ
due_behind period time before =
    if before.begin_known && not (period == 0) then min time (before.due_from + period) else time

-- a job begins behind one that has ended
abbrev pub began_behind : ℕ → ℕ → Job → List Job → List Job
began_behind period time before jobs = new_job time (due_behind period time before) true ∷ before ∷ jobs

-- open again, and its end forgotten
abbrev pub reopened : Job → Job
reopened job = record job { end = ends.Open }

-- A wake-up less than `apart` after the last job's begin goes on with it. Where that begin isn't known, neither is whether another job begins here.
abbrev pub woken_after : Pace → ℕ → Job → List Job → List Job
woken_after pace time job jobs =
    if not (nat_lt time (job.begin + pace.apart)) then began_behind pace.period time job jobs
    else (if job.begin_known then reopened job ∷ jobs else began time false (job ∷ jobs))

-- A wake-up is counted where it isn't the second of one. Beyond 64 bits none is.
abbrev pub counted : Bool → Job → Job
counted again job = if again then job else record job { wake_ups = capped (job.wake_ups + 1) }

-- A wake-up begins a job where none is open. Where one is, it counts it, the first time since the thread's last switch.
abbrev pub woken_jobs : Pace → ℕ → Bool → List Job → List Job
woken_jobs pace time again [] = began time true []
woken_jobs pace time again (job ∷ jobs) = elim job.end [
  | ends.Open ↦ counted again job ∷ jobs
  | ends.Ended end ↦ woken_after pace time job jobs
  | ends.Lost last ↦ began time true (job ∷ jobs)
]

-- Where events were lost after a time, a wake-up may be among them. So one that went on behind a sleep may have slept there.
abbrev pub open_until : ℕ → Option ℕ → ℕ
open_until time slept = min time (unwrap_or slept time)

-- Events were lost after this time: a job that was open then, or ended since, has no known end.
abbrev pub lost_end : ℕ → Option ℕ → End → End
lost_end time slept ends.Open = ends.Lost (open_until time slept)
lost_end time slept (ends.Ended end) = if nat_lt time end then ends.Lost (open_until time slept) else ends.Ended end
lost_end time slept (ends.Lost last) = ends.Lost (min time last)

abbrev pub lost_job : ℕ → Job → Job
lost_job time job = record job { end = lost_end time job.slept job.end }

-- open again, where its thread left to sleep, and didn't
abbrev pub went_on : ℕ → Job → Job
went_on time job = record job { end = ends.Open; slept = Some time }

-- nothing is known of its end since its first sleep without a wake-up, or since this one
abbrev pub unended : ℕ → Job → Job
unended end job = record job { end = ends.Lost (unwrap_or job.slept end) }

-- Its thread left to sleep at a time, and comes back without a wake-up since: it hasn't slept. If that is so a second time, or no wake-up of it was
-- ever seen, wake-ups aren't recorded.
abbrev pub unwoken_jobs : ℕ → ℕ → Bool → Job → List Job → List Job
unwoken_jobs time end ever job jobs =
    if ever && is_none job.slept then went_on end job ∷ jobs else began time false (unended end job ∷ jobs)

-- With a wake-up before it left, it was woken while it went to sleep: that counts as one behind it.
abbrev pub back_jobs : Pace → ℕ → ℕ → Bool → Option ℕ → Job → List Job → List Job
back_jobs pace time end ever (Some woken) job jobs = woken_after pace woken job jobs
back_jobs pace time end ever None job jobs = unwoken_jobs time end ever job jobs

-- A thread comes. Where events were lost since its last switch, it may have slept in between.
abbrev pub come_jobs : Pace → ℕ → Woken → List Job → List Job
come_jobs pace time woken [] = began time false []
come_jobs pace time woken (job ∷ jobs) = elim job.end [
  | ends.Open ↦ job ∷ jobs
  | ends.Ended end ↦ if woken.seen then back_jobs pace time end woken.ever woken.started job jobs else began time false (job ∷ jobs)
  | ends.Lost last ↦ began time false (job ∷ jobs)
]

-- The same where jobs begin at their first run: what is open goes on, and else a job begins here as by a wake-up. Of a thread's first run in the
-- trace, and of its first after a loss, it isn't known whether the job ran before.
abbrev pub running_jobs : Pace → ℕ → List Job → List Job
running_jobs pace time [] = began time false []
running_jobs pace time (job ∷ jobs) = elim job.end [
  | ends.Open ↦ job ∷ jobs
  | ends.Ended end ↦ woken_after pace time job jobs
  | ends.Lost last ↦ began time false (job ∷ jobs)
]

-- A thread is found to run, and wasn't seen to come: its open job goes on, and else one begins, here or before.
abbrev pub found_jobs : ℕ → Bool → List Job → List Job
found_jobs time certain [] = began time certain []
found_jobs time certain (job ∷ jobs) = elim job.end [
  | ends.Open ↦ job ∷ jobs
  | ends.Ended end ↦ began time certain (job ∷ jobs)
  | ends.Lost last ↦ began time certain (job ∷ jobs)
]

-- the last job, changed
abbrev pub changed_last : (Job → Job) → List Job → List Job
changed_last change [] = []
changed_last change (job ∷ jobs) = change job ∷ jobs

abbrev pub ended : ℕ → Job → Job
ended time job = record job { end = ends.Ended time }

abbrev pub exits : ℕ → Job → Job
exits time job = record job { end = ends.Ended time; exited = true }

abbrev pub missing : Job → Job
missing job = record job { switch_missing = true }

-- a stretch more
abbrev pub ran : Stretch → Job → Job
ran stretch job = record job { stretches = stretch ∷ job.stretches }

-- # Losses

abbrev pub loses : ℕ → Known → Known
loses time known = record {
  jobs = map (lost_job time) known.jobs;
  on = None;
  woken = not_seen;
}

abbrev pub has_open_job : List Job → Bool
has_open_job [] = false
has_open_job (job ∷ jobs) = elim job.end [
  | ends.Open ↦ true
  | ends.Ended end ↦ false
  | ends.Lost last ↦ false
]

-- # Switches that are missing

abbrev pub stands_on : ℕ → Option Standing → Bool
stands_on processor None = false
stands_on processor (Some standing) = standing.processor == processor

abbrev pub is_open_or_woken : Woken → End → Bool
is_open_or_woken woken ends.Open = true
is_open_or_woken woken (ends.Ended end) = woken.seen && is_some woken.started
is_open_or_woken woken (ends.Lost last) = false

-- Its last job is open, or it was woken while it went to sleep.
abbrev pub is_awake : Known → Bool
is_awake known = elim known.jobs [ [] ↦ false | job ∷ jobs ↦ is_open_or_woken known.woken job.end ]

-- Where a thread that leaves a processor has none, it needn't have come in a line that is missing: it came there under another name, or it was
-- there when the trace began, or events were last lost. Where it was awake, its coming alone is missing: that is no loss. Without wake-ups it isn't
-- known who was.
abbrev pub is_there : Bool → Leaving → Known → Bool
is_there wakes leaving known = leaving.renamed || (is_none leaving.switched && not known.woken.seen) || not wakes || is_awake known

-- since when switches of its processor may be missing: since its last one, or since its first line behind a loss
abbrev pub last_told : Leaving → ℕ
last_told leaving = unwrap_or leaving.switched leaving.lines_since

-- A thread stands on this processor and doesn't leave it, or on another one and leaves this one or comes to it.
abbrev pub is_displaced : Bool → Bool → ℕ → Standing → Bool
is_displaced left came processor standing = if standing.processor == processor then not left else left || came

-- Since when a switch of the thread is missing, before one of a processor, if one is.
abbrev pub missing_since : Bool → Bool → Bool → Leaving → Known → Option ℕ
missing_since wakes left came leaving known = elim known.on [
  | None ↦ if left && not (is_there wakes leaving known) then Some (last_told leaving) else None
  | Some standing ↦ if is_displaced left came leaving.processor standing then Some (min standing.came (last_told leaving)) else None
]

-- A thread that has another processor came there, whatever is missing before.
abbrev pub torn_jobs : ℕ → ℕ → List Job → List Job
torn_jobs since came jobs = if nat_lt since came then began came false (map (lost_job since) jobs) else jobs

-- Switches are missing since this time: that is a loss, but to a thread that has another processor.
abbrev pub torn : Bool → Bool → ℕ → ℕ → Known → Known
torn left came processor since known = elim known.on [
  | None ↦ loses since known
  | Some standing ↦ if left || came || (standing.processor == processor) then loses since known
      else record known { jobs = torn_jobs since standing.came known.jobs }
]

abbrev pub torn_if : Bool → Bool → ℕ → Option ℕ → Known → Known
torn_if left came processor None known = known
torn_if left came processor (Some since) known = torn left came processor since known

-- # A thread's switches

-- it comes to a processor, at a time
abbrev pub comes : Pace → Bool → ℕ → ℕ → Known → Known
comes pace wakes processor time known = record {
  jobs = if wakes then come_jobs pace time known.woken known.jobs else running_jobs pace time known.jobs;
  on = Some (record { processor = processor; came = time; since = time });
  woken = record { came = false; started = None; seen = true; ever = known.woken.ever };
}

-- It was open by this time: where its wake-up came later, that isn't its begin.
abbrev pub begun_at_most : ℕ → Job → Job
begun_at_most time job = if nat_lt time job.begin then record job { begin = time; begin_known = false; due_from = time } else job

-- the open job began by this time, or one did
abbrev pub begun_by : ℕ → List Job → List Job
begun_by time [] = began time false []
begun_by time (job ∷ jobs) = elim job.end [
  | ends.Open ↦ begun_at_most time job ∷ jobs
  | _ ↦ began time false (job ∷ jobs)
]

abbrev pub stretch_of : Leaving → ℕ → Stretch
stretch_of leaving from = record { processor = leaving.processor; from = from; to = leaving.time; khz = leaving.khz }

-- Its jobs where it leaves a processor to which it wasn't seen to come. Under another name it came as none of the task's: from here on it is.
-- It was there when the processor's lines began, or began again behind a loss; or its coming is missing.
abbrev pub left_unseen : Pace → Bool → Bool → Leaving → Known → List Job
left_unseen pace wakes torn leaving known =
    if leaving.renamed then found_jobs leaving.time true known.jobs
    else (if not torn && is_none leaving.switched && not known.woken.seen
    then changed_last (ran (stretch_of leaving leaving.lines_since)) (begun_by leaving.lines_since known.jobs)
    else changed_last missing (if wakes then come_jobs pace leaving.time known.woken known.jobs else found_jobs leaving.time false known.jobs))

-- where it leaves a processor
abbrev pub left_from : Pace → Bool → Bool → Leaving → Known → List Job
left_from pace wakes torn leaving known = elim known.on [
  | None ↦ left_unseen pace wakes torn leaving known
  | Some standing ↦ changed_last (ran (stretch_of leaving standing.since)) known.jobs
]

-- Who is preempted, waits for a disk, is stopped or traced goes on with its job, and who sleeps or is over ends it. In a state that the kernel
-- doesn't have, which is a fault of the trace for a listed thread, nothing is known of its end.
abbrev pub left_in : State → ℕ → List Job → List Job
left_in states.GoesOn time jobs = jobs
left_in states.Sleeps time jobs = changed_last (ended time) jobs
left_in states.Exits time jobs = changed_last (exits time) jobs
left_in states.Unknown time jobs = changed_last (lost_job time) jobs

-- A wake-up that was started while it ran isn't done yet where it goes to sleep.
abbrev pub left_started : State → Option ℕ → Option ℕ
left_started states.Sleeps started = started
left_started _ started = None

abbrev pub leaves : Pace → Bool → Bool → State → Leaving → Known → Known
leaves pace wakes torn state leaving known = record {
  jobs = left_in state leaving.time (left_from pace wakes torn leaving known);
  on = None;
  woken = record { came = false; started = left_started state known.woken.started; seen = true; ever = known.woken.ever };
}

-- # Other events

-- A thread is awake from when its wake-up was started. A line that tells that one was done, which was started before, is its second half.
abbrev pub woken_at : Bool → ℕ → Option ℕ → ℕ
woken_at true time started = time
woken_at false time started = unwrap_or started time

-- It may have come while the thread ran: a job was open, or nothing of the thread was seen before.
abbrev pub may_run : Known → Bool
may_run known = has_open_job known.jobs || not known.woken.seen

abbrev pub wakes_up : Pace → Bool → ℕ → Known → Known
wakes_up pace starts time known = record {
  jobs = woken_jobs pace (woken_at starts time known.woken.started) known.woken.came known.jobs;
  on = known.on;
  woken = record { came = true; started = if starts && may_run known then Some time else None; seen = known.woken.seen; ever = true };
}

-- the speed of its processor changes: what it ran at the speed before is a stretch
abbrev pub speeds : ℕ → ℕ → Option ℕ → Known → Known
speeds processor time khz known = elim known.on [
  | None ↦ known
  | Some standing ↦ if standing.processor == processor then record {
    jobs = changed_last (ran (record { processor = processor; from = standing.since; to = time; khz = khz })) known.jobs;
    on = Some (record standing { since = time });
    woken = known.woken;
  } else known
]

-- # The lines of a trace

-- who has a processor by its last switch has this number
abbrev pub is_pid : ℕ → Option Thread → Bool
is_pid pid None = false
is_pid pid (Some thread) = thread.pid == pid

-- The thread came to the processor by its last switch, and was no task then.
abbrev pub came_unlisted : Asked → Thread → Option Thread → Bool
came_unlisted asked thread None = false
came_unlisted asked thread (Some came) = (came.pid == thread.pid) && is_none (task_of asked.tasks came)

abbrev pub leaving_at : Asked → List Said → Event → Thread → Leaving
leaving_at asked past event previous = record {
  processor = event.processor;
  time = event.time;
  khz = speed_after asked.start event.processor past;
  switched = last_switch event.processor past;
  lines_since = lines_since event.processor event.time past;
  renamed = came_unlisted asked previous (who_has event.processor past);
}

-- Of a switch, first who leaves: this thread, or another one. Then who comes.
abbrev pub left_if : Pace → Bool → Bool → Bool → State → Leaving → Known → Known
left_if pace wakes torn mine state leaving known = if mine then leaves pace wakes torn state leaving known else known

abbrev pub came_if : Pace → Bool → Bool → Leaving → Known → Known
came_if pace wakes mine leaving known = if mine then comes pace wakes leaving.processor leaving.time known else known

-- Before both, what the switches say that are missing before, if some are, and since when.
abbrev pub after_switch : Pace → Bool → Bool → Bool → State → Leaving → Option ℕ → Known → Known
after_switch pace wakes left came state leaving since known =
    came_if pace wakes came leaving (left_if pace wakes (is_some since) left state leaving (torn_if left came leaving.processor since known))

-- the earlier one
abbrev pub earlier : Option ℕ → Option ℕ → Option ℕ
earlier None other = other
earlier (Some time) None = Some time
earlier (Some time) (Some other) = Some (min time other)

-- Since when switches of these tasks' threads are missing, from this number on, of which so much is known: before one where this thread leaves,
-- and that one comes.
abbrev pub missing_of : Asked → Thread → Thread → Leaving → (ℕ → Known) → ℕ → List Task → Option ℕ
missing_of asked previous next leaving known number [] = None
missing_of asked previous next leaving known number (task ∷ tasks) = earlier
    (missing_since (not asked.begin_at_run) (is_of asked number previous) (is_of asked number next) leaving (known number))
    (missing_of asked previous next leaving known (number + 1) tasks)

-- what is known of the task's thread after an event
abbrev pub after_event : Asked → ℕ → List Said → Event → Happening → (ℕ → Known) → Known
after_event asked number past event (Switch previous state next) known =
    after_switch (pace_of (task_at asked number)) (not asked.begin_at_run) (is_of asked number previous) (is_of asked number next) state
    (leaving_at asked past event previous) (missing_of asked previous next (leaving_at asked past event previous) known 0 asked.tasks) (known number)
after_event asked number past event (WakeUp thread starts) known =
    if is_of asked number thread && not asked.begin_at_run then wakes_up (pace_of (task_at asked number)) starts event.time (known number)
    else known number
after_event asked number past event (Speed processor khz) known =
    speeds processor event.time (speed_after asked.start processor past) (known number)
after_event asked number past event Loss known = loses (lost_since event.processor since.ItsLastLine past) (known number)
after_event asked number past event Marker known = known number
after_event asked number past event Other known = known number

-- what is known of each task after these lines, of which the last one stands first
abbrev pub all_known : Asked → List Said → ℕ → Known
all_known asked [] number = unknown
all_known asked (Stamped event ∷ past) number = after_event asked number past event event.happening (all_known asked past)
all_known asked (Lost processor reach ∷ past) number = loses (lost_since processor reach past) (all_known asked past number)
all_known asked (Nothing ∷ past) number = all_known asked past number

-- what is known of the task of this number
abbrev pub known_after : Asked → ℕ → List Said → Known
known_after asked number past = all_known asked past number
