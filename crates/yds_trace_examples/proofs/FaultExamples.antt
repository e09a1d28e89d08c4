-- Faults of a trace: the number of the line, and why.
use Rattle.base.proofs.Common.{◌≡◌, ℕ, List, [], ◌∷◌, ◌++◌, codes, reverse, true, Option, Some, None, refl}
use Rattle.yds_kernel.specs.declared.state.State.TheVariants as states
use Rattle.yds_kernel.specs.declared.loss.Since.TheVariants as since
use Rattle.yds_kernel.specs.Event.{Thread, Loss, Speed, Switch, WakeUp, Said, Lost, Nothing}
use Rattle.yds_trace.specs.declared.fault.Cause.{Cause}
use Rattle.yds_trace.specs.declared.fault.Cause.TheVariants as causes
use Rattle.yds_trace.specs.Asked.{Numbered, Fixed, Asked}
use Rattle.yds_trace.specs.Faults.{first_fault, trace_fault, missing_at, touched, touched_fault}
use Rattle.yds_trace_examples.proofs.Lines.{t, other, idle, line, woken, comes, sleeps, exits, gives_way, other_comes, other_leaves, speed, marker, lost, task, asked, at_run, up_to, from}

abbrev fault : Asked → List Said → Option (ℕ × Cause)
fault asked lines = first_fault asked (reverse lines)

none : fault asked (woken 10 ∷ comes 0 12 ∷ sleeps 0 40 ∷ []) ≡ None
none = refl

-- The time goes back at the third line.
back_in_time : fault asked (woken 10 ∷ Nothing ∷ comes 0 9 ∷ sleeps 0 40 ∷ []) ≡ Some (3, causes.TimeGoesBack)
back_in_time = refl

-- near misses: it stays, and what is after `to` isn't read
at_one_time : fault asked (woken 10 ∷ comes 0 10 ∷ []) ≡ None
at_one_time = refl

after_to : fault (up_to 30) (woken 10 ∷ comes 0 41 ∷ marker 1 40 ∷ []) ≡ None
after_to = refl

-- A listed thread leaves in a state that the kernel doesn't have.
a_strange_state : fault asked (woken 10 ∷ comes 0 12 ∷ line 0 40 (Switch t states.Unknown idle) ∷ []) ≡ Some (3, causes.UnknownState)
a_strange_state = refl

-- near miss: another one does
a_strange_state_of_others : fault asked (line 0 40 (Switch other states.Unknown t) ∷ []) ≡ None
a_strange_state_of_others = refl

-- Two threads have the task's name.
abbrev twin : Thread
twin = record { name = codes "t"; pid = 8 }

two_threads : fault asked (woken 10 ∷ line 0 12 (WakeUp twin true) ∷ []) ≡ Some (2, causes.TwoThreads)
two_threads = refl

-- near miss: the task is given by its number
one_by_its_number : fault (record asked { tasks = record task { thread = Numbered 7 } ∷ [] }) (woken 10 ∷ line 0 12 (WakeUp twin true) ∷ []) ≡ None
one_by_its_number = refl

-- A thread is one task by its number, and another by its name.
two_tasks : fault (record asked { tasks = record task { thread = Numbered 7 } ∷ task ∷ [] }) (woken 10 ∷ []) ≡ Some (1, causes.TwoTasks)
two_tasks = refl

-- The same within one line: one of the two leaves, and the other comes.
two_at_once : fault asked (line 0 12 (Switch t states.Sleeps twin) ∷ []) ≡ Some (1, causes.TwoThreads)
two_at_once = refl

-- near miss: it gives the processor to itself
one_at_once : fault asked (line 0 12 (Switch t states.GoesOn t) ∷ []) ≡ None
one_at_once = refl

-- Another thread of that name had its processor until after `to`.
twin_stayed : fault (up_to 30) (woken 10 ∷ line 0 40 (Switch twin states.Sleeps idle) ∷ []) ≡ Some (2, causes.TwoThreads)
twin_stayed = refl

-- Near misses: it came after `to`, or is woken after it, and then its task has had its processor until then.
twin_came_later : fault (up_to 30) (woken 10 ∷ comes 0 12 ∷ sleeps 0 20 ∷ line 0 40 (Switch twin states.Sleeps idle) ∷ []) ≡ None
twin_came_later = refl

twin_woken_later : fault (up_to 30) (line 1 5 (WakeUp other true) ∷ line 1 40 (WakeUp twin true) ∷ sleeps 0 50 ∷ []) ≡ None
twin_woken_later = refl

-- # Threads that get another name

-- The task's thread has another name from 12 on.
abbrev renamed : Thread
renamed = record { name = codes "t2"; pid = 7 }

another_name : fault asked (woken 10 ∷ line 0 12 (Switch idle states.GoesOn renamed) ∷ []) ≡ Some (2, causes.Renamed)
another_name = refl

another_name_asleep : fault asked (woken 10 ∷ comes 0 12 ∷ sleeps 0 40 ∷ line 3 50 (WakeUp renamed true) ∷ []) ≡ Some (4, causes.Renamed)
another_name_asleep = refl

-- Near misses: it got the task's name; it is given by its number; and it is another thread.
got_its_name : fault asked (line 3 5 (WakeUp renamed true) ∷ woken 10 ∷ comes 0 12 ∷ []) ≡ None
got_its_name = refl

by_its_number : fault (record asked { tasks = record task { thread = Numbered 7 } ∷ [] }) (woken 10 ∷ line 0 12 (Switch idle states.GoesOn renamed) ∷ []) ≡ None
by_its_number = refl

other_of_that_name : fault asked (woken 10 ∷ line 0 12 (Switch idle states.GoesOn (record renamed { pid = 8 })) ∷ []) ≡ None
other_of_that_name = refl

-- # Threads that were over, and wake-ups that aren't recorded

-- A thread that was over has lines of another one.
a_number_used_again : fault asked (woken 10 ∷ comes 0 12 ∷ exits 0 40 ∷ woken 50 ∷ []) ≡ Some (4, causes.Exited)
a_number_used_again = refl

-- Also where events were lost in between; near miss: it has no line more.
used_again_behind_a_loss : fault (record asked { cut_losses = true }) (woken 10 ∷ comes 0 12 ∷ exits 0 40 ∷ lost 0 ∷ woken 50 ∷ []) ≡ Some (5, causes.Exited)
used_again_behind_a_loss = refl

over_for_good : fault asked (woken 10 ∷ comes 0 12 ∷ exits 0 40 ∷ marker 0 50 ∷ []) ≡ None
over_for_good = refl

-- It comes behind a second sleep without a wake-up.
never_woken : fault asked (woken 10 ∷ comes 0 12 ∷ sleeps 0 20 ∷ comes 0 30 ∷ sleeps 0 40 ∷ comes 0 50 ∷ []) ≡ Some (6, causes.NotWoken)
never_woken = refl

-- It comes behind a sleep, and no wake-up of it was ever seen. Near misses: one was; and jobs begin at their first run.
never_woken_at_all : fault asked (comes 0 12 ∷ sleeps 0 40 ∷ comes 0 50 ∷ []) ≡ Some (3, causes.NotWoken)
never_woken_at_all = refl

woken_before : fault asked (woken 10 ∷ comes 0 12 ∷ sleeps 0 40 ∷ comes 0 50 ∷ []) ≡ None
woken_before = refl

at_its_first_run : fault at_run (comes 0 12 ∷ sleeps 0 40 ∷ comes 0 50 ∷ []) ≡ None
at_its_first_run = refl

-- Near misses: it was so once; a wake-up came in between, while it went to sleep; jobs begin at their first run; it is gone on with.
not_woken_once : fault asked (woken 10 ∷ comes 0 12 ∷ sleeps 0 20 ∷ comes 0 30 ∷ sleeps 0 40 ∷ woken 45 ∷ comes 0 50 ∷ []) ≡ None
not_woken_once = refl

woken_going_to_sleep : fault asked (woken 10 ∷ comes 0 12 ∷ sleeps 0 20 ∷ comes 0 30 ∷ woken 39 ∷ sleeps 0 40 ∷ comes 0 50 ∷ []) ≡ None
woken_going_to_sleep = refl

needs_no_wake_up : fault at_run (woken 10 ∷ comes 0 12 ∷ sleeps 0 20 ∷ comes 0 30 ∷ sleeps 0 40 ∷ comes 0 50 ∷ []) ≡ None
needs_no_wake_up = refl

gone_on_with : fault (record asked { cut_losses = true }) (woken 10 ∷ comes 0 12 ∷ sleeps 0 20 ∷ comes 0 30 ∷ sleeps 0 40 ∷ comes 0 50 ∷ []) ≡ None
gone_on_with = refl

-- # Losses

-- Events of processor 3 were lost from 10 to 60, within what is asked for.
a_loss : fault (from 50) (woken 10 ∷ lost 3 ∷ woken 60 ∷ []) ≡ Some (3, causes.EventsLost)
a_loss = refl

a_loss_with_a_stamp : fault (from 50) (woken 10 ∷ line 3 60 Loss ∷ []) ≡ Some (2, causes.EventsLost)
a_loss_with_a_stamp = refl

-- near misses: it ends before `from`; it begins at `to`; it may be cut out
a_loss_before_from : fault (from 60) (woken 10 ∷ lost 3 ∷ woken 60 ∷ woken 70 ∷ []) ≡ None
a_loss_before_from = refl

a_loss_at_to : fault (up_to 30) (woken 10 ∷ marker 1 30 ∷ lost 1 ∷ marker 1 40 ∷ []) ≡ None
a_loss_at_to = refl

a_loss_cut_out : fault (record asked { cut_losses = true }) (woken 10 ∷ lost 3 ∷ woken 60 ∷ []) ≡ None
a_loss_cut_out = refl

-- A buffer that starts after `to` has lost what was before, too.
a_buffer_that_starts : fault (up_to 30) (woken 10 ∷ marker 1 35 ∷ Lost 1 since.TheBegin ∷ marker 1 40 ∷ []) ≡ Some (4, causes.EventsLost)
a_buffer_that_starts = refl

-- # Switches that are missing

-- It came at 12, and another thread leaves there at 30.
a_missing_switch : fault asked (woken 10 ∷ comes 0 12 ∷ other_leaves 0 30 ∷ []) ≡ Some (3, causes.LineMissing)
a_missing_switch = refl

-- Near misses: the other one leaves another processor; losses may be cut out; and that is after `to`, or not behind `from`.
none_missing_there : fault asked (woken 10 ∷ comes 0 12 ∷ other_leaves 1 30 ∷ []) ≡ None
none_missing_there = refl

missing_cut_out : fault (record asked { cut_losses = true }) (woken 10 ∷ comes 0 12 ∷ other_leaves 0 30 ∷ []) ≡ None
missing_cut_out = refl

missing_after_to : fault (up_to 20) (woken 10 ∷ comes 0 12 ∷ other_leaves 0 30 ∷ []) ≡ None
missing_after_to = refl

missing_at_from : fault (from 30) (woken 10 ∷ comes 0 12 ∷ other_leaves 0 30 ∷ []) ≡ None
missing_at_from = refl

-- It has slept on processor 0 when it leaves 1, by the first switch of that one, behind `to`: it had 1 until then, and came there unseen, since the first
-- line of 1, at 5.
abbrev until_to : List Said
until_to = line 1 5 (WakeUp other true) ∷ woken 10 ∷ comes 0 20 ∷ sleeps 0 50 ∷ other_comes 0 120 ∷ []

had_it_until_to : fault (up_to 100) (until_to ++ sleeps 1 150 ∷ []) ≡ Some (6, causes.LineMissing)
had_it_until_to = refl

since_its_first_line : missing_at (up_to 100) (reverse until_to) (record { processor = 1; time = 150; happening = Switch t states.Sleeps idle }) ≡ Some 5
since_its_first_line = refl

-- Near misses: another thread leaves there; processor 1 has switched before; and it was awake, so its coming alone is missing.
another_had_it : fault (up_to 100) (until_to ++ other_leaves 1 150 ∷ []) ≡ None
another_had_it = refl

switched_before : fault (up_to 100) (line 1 4 (Switch other states.Sleeps idle) ∷ until_to ++ sleeps 1 150 ∷ []) ≡ None
switched_before = refl

was_awake : fault (up_to 100) (line 1 5 (WakeUp other true) ∷ woken 10 ∷ comes 0 20 ∷ gives_way 0 50 ∷ other_comes 0 120 ∷ sleeps 1 150 ∷ []) ≡ None
was_awake = refl

-- # Speeds

-- Each processor is said to have 5 kHz throughout. Near miss: that is told.
another_speed : fault (record asked { start = Fixed 5 }) (woken 10 ∷ speed 0 12 5 ∷ speed 1 20 6 ∷ []) ≡ Some (3, causes.SpeedChanged)
another_speed = refl

the_same_speed : fault (record asked { start = Fixed 5 }) (woken 10 ∷ speed 0 12 5 ∷ []) ≡ None
the_same_speed = refl

-- # Places

a_great_processor : fault asked (marker 8192 5 ∷ []) ≡ Some (1, causes.ProcessorTooGreat)
a_great_processor = refl

a_speed_of_a_great_processor : fault asked (marker 0 5 ∷ line 0 6 (Speed 8192 1000) ∷ []) ≡ Some (2, causes.ProcessorTooGreat)
a_speed_of_a_great_processor = refl

a_loss_of_a_great_processor : fault asked (lost 8192 ∷ []) ≡ Some (1, causes.ProcessorTooGreat)
a_loss_of_a_great_processor = refl

-- near miss: the greatest one
the_greatest_processor : fault asked (marker 8191 5 ∷ []) ≡ None
the_greatest_processor = refl

a_great_time : fault asked (marker 0 9223372036854775808 ∷ []) ≡ Some (1, causes.TimeTooGreat)
a_great_time = refl

-- near miss: the greatest one
the_greatest_time : fault asked (marker 0 9223372036854775807 ∷ []) ≡ None
the_greatest_time = refl

-- # How much is told of the tasks

abbrev touches : Asked → List Said → ℕ
touches asked lines = touched asked (reverse lines)

-- Its wake-up, its switches, and a change of its processor's speed tell of it.
four_touches : touches asked (woken 10 ∷ comes 0 12 ∷ speed 0 15 8 ∷ sleeps 0 40 ∷ []) ≡ 4
four_touches = refl

-- near misses: other threads, another processor, and its own where it doesn't run
two_touches : touches asked (line 1 5 (WakeUp other true) ∷ speed 0 6 8 ∷ comes 0 12 ∷ speed 1 15 8 ∷ other_leaves 1 20 ∷ marker 0 25 ∷ sleeps 0 40 ∷ []) ≡ 2
two_touches = refl

-- Many lines tell too much.
too_many : (lines : List Said) → touched asked lines ≡ 250001 → touched_fault asked lines ≡ Some causes.TooLong
too_many lines many = rw many

-- near miss: one less doesn't
not_too_many : (lines : List Said) → touched asked lines ≡ 250000 → touched_fault asked lines ≡ None
not_too_many lines many = rw many

-- # The whole trace

abbrev whole : Asked → List Said → Option (ℕ × Cause)
whole asked lines = trace_fault asked (reverse lines)

sound : whole asked (woken 10 ∷ comes 0 12 ∷ sleeps 0 40 ∷ []) ≡ None
sound = refl

-- The first line that is refused comes before all that the whole trace is refused for.
a_line_first : whole asked (marker 8192 5 ∷ []) ≡ Some (1, causes.ProcessorTooGreat)
a_line_first = refl

no_line : whole asked (Nothing ∷ []) ≡ Some (1, causes.NoLine)
no_line = refl

-- Its last line says that events were lost.
a_loss_at_the_end : whole asked (woken 10 ∷ comes 0 12 ∷ lost 0 ∷ Nothing ∷ []) ≡ Some (4, causes.EventsLost)
a_loss_at_the_end = refl

-- near misses: they may be cut out, or were lost after `to`
a_loss_cut_at_the_end : whole (record asked { cut_losses = true }) (woken 10 ∷ comes 0 12 ∷ lost 0 ∷ []) ≡ None
a_loss_cut_at_the_end = refl

a_loss_after_to_at_the_end : whole (up_to 30) (woken 10 ∷ comes 0 12 ∷ marker 0 30 ∷ lost 0 ∷ []) ≡ None
a_loss_after_to_at_the_end = refl

-- No line names a task.
unseen : whole asked (marker 0 5 ∷ line 0 10 (WakeUp other true) ∷ []) ≡ Some (2, causes.Unseen 0)
unseen = refl

the_second_unseen : whole (record asked { tasks = task ∷ record task { thread = Numbered 8 } ∷ [] }) (woken 10 ∷ []) ≡ Some (1, causes.Unseen 1)
the_second_unseen = refl

-- near miss: one after `to` does
seen_after_to : whole (up_to 30) (marker 0 5 ∷ woken 40 ∷ []) ≡ None
seen_after_to = refl
