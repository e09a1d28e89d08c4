-- What is told of each thread of a trace, by what it did: the last act stands first.
use Rattle.std.specs.Prelude.{ℕ, suc, List, [], ◌∷◌, length, take, filter, sum_by, count_by, Bool, true, false, not, ◌==◌, ◌&&◌, nat_eq, nat_lt, if◌then◌else◌}
use Rattle.indexmap.specs.IndexSet.{insert_key}
use Rattle.yds_trace_threads.specs.declared.limits.TheConstants.{MOST_COUNTED, MOST_NAME}
use Rattle.yds_trace_threads.specs.declared.act.Deed.{Deed}
use Rattle.yds_trace_threads.specs.declared.act.Deed.TheVariants as deeds
use Rattle.yds_trace_threads.specs.Acts.{Act}

-- # Which threads there are

-- a thread more, if it is new and so many are not counted yet
abbrev pub with_thread : ℕ → List ℕ → List ℕ
with_thread pid pids = if nat_lt (length pids) MOST_COUNTED then insert_key nat_eq pids pid else pids

-- the threads' numbers, in the order in which the trace first tells of them
abbrev pub threads_of : List Act → List ℕ
threads_of [] = []
threads_of (act ∷ acts) = with_thread act.thread.pid (threads_of acts)

-- # What one thread did

-- its own acts
abbrev pub own : ℕ → List Act → List Act
own pid acts = filter (λ act. act.thread.pid == pid) acts

-- the name that it had last, as much of it as is kept
abbrev pub name_of : List Act → List ℕ
name_of [] = []
name_of (act ∷ acts) = take MOST_NAME act.thread.name

abbrev pub time_in : Deed → ℕ
time_in (deeds.Leaves time) = time
time_in _ = 0

-- how long it had processors, each time from coming to leaving, in nanoseconds
abbrev pub ran_in : List Act → ℕ
ran_in acts = sum_by (λ act. time_in act.deed) acts

abbrev pub is_coming : Deed → Bool
is_coming deeds.Comes = true
is_coming _ = false

-- how often it came to a processor
abbrev pub switches_in : List Act → ℕ
switches_in acts = count_by (λ act. is_coming act.deed) acts

abbrev pub is_waking : Deed → Bool
is_waking deeds.Wakes = true
is_waking _ = false

-- It was woken, and neither came to a processor nor left one since then.
abbrev pub is_woken : List Act → Bool
is_woken [] = false
is_woken (act ∷ acts) = is_waking act.deed

-- How often it was woken. One wake-up may stand on two lines, so those behind each other count once.
abbrev pub wake_ups_in : List Act → ℕ
wake_ups_in [] = 0
wake_ups_in (act ∷ acts) = if is_waking act.deed && not (is_woken acts) then suc (wake_ups_in acts) else wake_ups_in acts
