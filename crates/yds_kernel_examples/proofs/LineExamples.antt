-- Lines of a trace and what they say. Each is as the kernel's `trace` file, `trace-cmd report`, `perf script` or Perfetto's export has it.
use Rattle.base.proofs.Common.{◌≡◌, ℕ, List, [], ◌∷◌, ◌++◌, codes, Bool, true, false, Option, Some, None, Result, Ok, Err, refl}
use Rattle.base.specs.Fields.{Spot, refuse}
use Rattle.yds_kernel.specs.declared.state.State.TheVariants as states
use Rattle.yds_kernel.specs.declared.loss.Since.TheVariants as since
use Rattle.yds_kernel.specs.declared.fault.Reason.{Reason}
use Rattle.yds_kernel.specs.declared.fault.Reason.TheVariants as reasons
use Rattle.yds_kernel.specs.Parts.{number, small_number, after_priority}
use Rattle.yds_kernel.specs.Stamp.{word_at, timed, flagged, stamp_at, first_stamp}
use Rattle.yds_kernel.specs.Event.{Thread, Happening, Switch, WakeUp, Speed, Loss, Marker, Other, Event, Said, Stamped, Lost, Nothing}
use Rattle.yds_kernel.specs.Form.{leaves, comes, wakes, short, short_leaves, short_comes, first_marked, last_marked, thread_at, switch_by, switch_in, woken_by, wake_up_in, speed_in}
use Rattle.yds_kernel.specs.Line.{event_of, after_number, after_lost, tells_loss, dropped, started, loss_of, short_line, long_line, line_of, opens, ends_in_stamp, last_line_of}

abbrev thread : List ℕ → ℕ → Thread
thread name pid = record { name = name; pid = pid }

-- an event on this processor, at so many nanoseconds
abbrev event : ℕ → ℕ → Happening → Result Said (Spot Reason)
event processor time happening = Ok (Stamped (record { processor = processor; time = time; happening = happening }))

abbrev refused : ℕ → Reason → Result Said (Spot Reason)
refused column reason = refuse column reason

-- # The ten lines

-- 1. A processor's new speed, in kilohertz. The task's name has a blank, and isn't read.
a_speed : line_of (codes "     Web Content-1301    [001] d..2.   5123.400123: cpu_frequency: state=600000 cpu_id=0") ≡ event 1 5123400123000 (Speed 0 600000)
unfolding number small_number after_priority word_at timed flagged stamp_at first_stamp leaves comes wakes short short_leaves short_comes first_marked last_marked thread_at switch_by switch_in woken_by wake_up_in speed_in event_of after_number after_lost tells_loss dropped started loss_of short_line long_line line_of opens ends_in_stamp last_line_of
a_speed = refl

-- 2. A thread is woken: its job begins.
a_wake_up : line_of (codes "          <idle>-0       [000] d..2.   5123.400624: sched_wakeup: comm=audio pid=1202 prio=98 target_cpu=000") ≡ event 0 5123400624000 (WakeUp (thread (codes "audio") 1202) false)
unfolding number small_number after_priority word_at timed flagged stamp_at first_stamp leaves comes wakes short short_leaves short_comes first_marked last_marked thread_at switch_by switch_in woken_by wake_up_in speed_in event_of after_number after_lost tells_loss dropped started loss_of short_line long_line line_of opens ends_in_stamp last_line_of
a_wake_up = refl

-- 3. It comes to the processor, which was idle.
a_switch : line_of (codes "          <idle>-0       [000] d..2.   5123.400630: sched_switch: prev_comm=swapper/0 prev_pid=0 prev_prio=120 prev_state=R ==> next_comm=audio next_pid=1202 next_prio=120") ≡ event 0 5123400630000 (Switch (thread (codes "swapper/0") 0) states.GoesOn (thread (codes "audio") 1202))
unfolding number small_number after_priority word_at timed flagged stamp_at first_stamp leaves comes wakes short short_leaves short_comes first_marked last_marked thread_at switch_by switch_in woken_by wake_up_in speed_in event_of after_number after_lost tells_loss dropped started loss_of short_line long_line line_of opens ends_in_stamp last_line_of
a_switch = refl

-- 4. It leaves to sleep: its job ends.
a_sleep : line_of (codes "           audio-1202    [000] d..2.   5123.402630: sched_switch: prev_comm=audio prev_pid=1202 prev_prio=120 prev_state=S ==> next_comm=decode next_pid=1201 next_prio=120") ≡ event 0 5123402630000 (Switch (thread (codes "audio") 1202) states.Sleeps (thread (codes "decode") 1201))
unfolding number small_number after_priority word_at timed flagged stamp_at first_stamp leaves comes wakes short short_leaves short_comes first_marked last_marked thread_at switch_by switch_in woken_by wake_up_in speed_in event_of after_number after_lost tells_loss dropped started loss_of short_line long_line line_of opens ends_in_stamp last_line_of
a_sleep = refl

-- 5. The short spelling of trace-cmd, without flags, in nanoseconds.
a_short_switch : line_of (codes "           audio-1202  [000]  5123.402629706: sched_switch:         audio:1202 [98] S ==> decode:1201 [120]") ≡ event 0 5123402629706 (Switch (thread (codes "audio") 1202) states.Sleeps (thread (codes "decode") 1201))
unfolding number small_number after_priority word_at timed flagged stamp_at first_stamp leaves comes wakes short short_leaves short_comes first_marked last_marked thread_at switch_by switch_in woken_by wake_up_in speed_in event_of after_number after_lost tells_loss dropped started loss_of short_line long_line line_of opens ends_in_stamp last_line_of
a_short_switch = refl

-- 6. Its raw spelling: the state is a number, and there is no arrow.
a_raw_switch : line_of (codes "           audio-1202  [000]  5123.402629706: sched_switch:         prev_comm=audio prev_pid=1202 prev_prio=98 prev_state=1 next_comm=decode next_pid=1201 next_prio=120") ≡ event 0 5123402629706 (Switch (thread (codes "audio") 1202) states.Sleeps (thread (codes "decode") 1201))
unfolding number small_number after_priority word_at timed flagged stamp_at first_stamp leaves comes wakes short short_leaves short_comes first_marked last_marked thread_at switch_by switch_in woken_by wake_up_in speed_in event_of after_number after_lost tells_loss dropped started loss_of short_line long_line line_of opens ends_in_stamp last_line_of
a_raw_switch = refl

-- 7. The line of perf, with the system before the event's name.
a_switch_of_perf : line_of (codes "          :16128 16128 [003]  1660.970619979:  sched:sched_switch: prev_comm=audio prev_pid=16128 prev_prio=120 prev_state=S ==> next_comm=sh next_pid=16122 next_prio=139") ≡ event 3 1660970619979 (Switch (thread (codes "audio") 16128) states.Sleeps (thread (codes "sh") 16122))
unfolding number small_number after_priority word_at timed flagged stamp_at first_stamp leaves comes wakes short short_leaves short_comes first_marked last_marked thread_at switch_by switch_in woken_by wake_up_in speed_in event_of after_number after_lost tells_loss dropped started loss_of short_line long_line line_of opens ends_in_stamp last_line_of
a_switch_of_perf = refl

-- 8. The line of Perfetto, with a field more before the processor and one in the text.
a_wake_up_of_perfetto : line_of (codes "          <idle>-0        (-----) [000] d..3   5123.400624: sched_wakeup: comm=audio pid=1202 prio=98 success=1 target_cpu=000") ≡ event 0 5123400624000 (WakeUp (thread (codes "audio") 1202) false)
unfolding number small_number after_priority word_at timed flagged stamp_at first_stamp leaves comes wakes short short_leaves short_comes first_marked last_marked thread_at switch_by switch_in woken_by wake_up_in speed_in event_of after_number after_lost tells_loss dropped started loss_of short_line long_line line_of opens ends_in_stamp last_line_of
a_wake_up_of_perfetto = refl

-- 9. Three events of a processor were lost.
a_loss : line_of (codes "CPU:0 [3 EVENTS DROPPED]") ≡ Ok (Lost 0 since.ItsLastLine)
unfolding number small_number after_priority word_at timed flagged stamp_at first_stamp leaves comes wakes short short_leaves short_comes first_marked last_marked thread_at switch_by switch_in woken_by wake_up_in speed_in event_of after_number after_lost tells_loss dropped started loss_of short_line long_line line_of opens ends_in_stamp last_line_of
a_loss = refl

-- 10. A marker that an application writes holds the words of a switch, and is none.
a_marker : line_of (codes "             app-9     [001] .....   100.001500: tracing_mark_write: note [000] d..2. 100.001400: sched_switch: prev_comm=t prev_pid=7 prev_prio=120 prev_state=S ==> next_comm=swapper/0 next_pid=0 next_prio=120") ≡ event 1 100001500000 Marker
unfolding number small_number after_priority word_at timed flagged stamp_at first_stamp leaves comes wakes short short_leaves short_comes first_marked last_marked thread_at switch_by switch_in woken_by wake_up_in speed_in event_of after_number after_lost tells_loss dropped started loss_of short_line long_line line_of opens ends_in_stamp last_line_of
a_marker = refl

-- # More that are read

-- A name may hold a bracket, an arrow and a colon.
an_odd_name : line_of (codes "         a [1] =-7       [000] d..2.   1.5: sched_switch: prev_comm=x ==> y:1 [2 prev_pid=7 prev_prio=120 prev_state=R+ ==> next_comm=kworker/0:1 next_pid=57 next_prio=120") ≡ event 0 1500000000 (Switch (thread (codes "x ==> y:1 [2") 7) states.GoesOn (thread (codes "kworker/0:1") 57))
unfolding number small_number after_priority word_at timed flagged stamp_at first_stamp leaves comes wakes short short_leaves short_comes first_marked last_marked thread_at switch_by switch_in woken_by wake_up_in speed_in event_of after_number after_lost tells_loss dropped started loss_of short_line long_line line_of opens ends_in_stamp last_line_of
an_odd_name = refl

-- In the short spelling, too.
a_colon_in_a_short_name : line_of (codes "           x-57  [000]  1.5: sched_switch:         kworker/0:1:57 [120] D ==> audio:1202 [98]") ≡ event 0 1500000000 (Switch (thread (codes "kworker/0:1") 57) states.GoesOn (thread (codes "audio") 1202))
unfolding number small_number after_priority word_at timed flagged stamp_at first_stamp leaves comes wakes short short_leaves short_comes first_marked last_marked thread_at switch_by switch_in woken_by wake_up_in speed_in event_of after_number after_lost tells_loss dropped started loss_of short_line long_line line_of opens ends_in_stamp last_line_of
a_colon_in_a_short_name = refl

-- A thread that is new.
a_fork : line_of (codes "              sh-9     [002] d..2.     7.000000001: sched_wakeup_new: comm=sh pid=10 prio=120 target_cpu=002") ≡ event 2 7000000001 (WakeUp (thread (codes "sh") 10) false)
unfolding number small_number after_priority word_at timed flagged stamp_at first_stamp leaves comes wakes short short_leaves short_comes first_marked last_marked thread_at switch_by switch_in woken_by wake_up_in speed_in event_of after_number after_lost tells_loss dropped started loss_of short_line long_line line_of opens ends_in_stamp last_line_of
a_fork = refl

-- A thread that exits.
an_exit : line_of (codes "              sh-9     [002] d..2.     0.25: sched_switch: prev_comm=sh prev_pid=9 prev_prio=120 prev_state=X ==> next_comm=swapper/2 next_pid=0 next_prio=120") ≡ event 2 250000000 (Switch (thread (codes "sh") 9) states.Exits (thread (codes "swapper/2") 0))
unfolding number small_number after_priority word_at timed flagged stamp_at first_stamp leaves comes wakes short short_leaves short_comes first_marked last_marked thread_at switch_by switch_in woken_by wake_up_in speed_in event_of after_number after_lost tells_loss dropped started loss_of short_line long_line line_of opens ends_in_stamp last_line_of
an_exit = refl

-- So does one that its parent hasn't waited for yet.
a_zombie : line_of (codes "              sh-9     [002] d..2.     0.25: sched_switch: prev_comm=sh prev_pid=9 prev_prio=120 prev_state=Z ==> next_comm=swapper/2 next_pid=0 next_prio=120") ≡ event 2 250000000 (Switch (thread (codes "sh") 9) states.Exits (thread (codes "swapper/2") 0))
unfolding number small_number after_priority word_at timed flagged stamp_at first_stamp leaves comes wakes short short_leaves short_comes first_marked last_marked thread_at switch_by switch_in woken_by wake_up_in speed_in event_of after_number after_lost tells_loss dropped started loss_of short_line long_line line_of opens ends_in_stamp last_line_of
a_zombie = refl

-- A thread that is stopped goes on later, and one that is traced.
a_stop : line_of (codes "              sh-9     [002] d..2.     0.25: sched_switch: prev_comm=sh prev_pid=9 prev_prio=120 prev_state=T ==> next_comm=swapper/2 next_pid=0 next_prio=120") ≡ event 2 250000000 (Switch (thread (codes "sh") 9) states.GoesOn (thread (codes "swapper/2") 0))
unfolding number small_number after_priority word_at timed flagged stamp_at first_stamp leaves comes wakes short short_leaves short_comes first_marked last_marked thread_at switch_by switch_in woken_by wake_up_in speed_in event_of after_number after_lost tells_loss dropped started loss_of short_line long_line line_of opens ends_in_stamp last_line_of
a_stop = refl

-- In a raw trace the number 8 is that of one that is traced.
a_traced_thread : line_of (codes "              sh-9     [002]     0.25: sched_switch:         prev_comm=sh prev_pid=9 prev_prio=120 prev_state=8 next_comm=swapper/2 next_pid=0 next_prio=120") ≡ event 2 250000000 (Switch (thread (codes "sh") 9) states.GoesOn (thread (codes "swapper/2") 0))
unfolding number small_number after_priority word_at timed flagged stamp_at first_stamp leaves comes wakes short short_leaves short_comes first_marked last_marked thread_at switch_by switch_in woken_by wake_up_in speed_in event_of after_number after_lost tells_loss dropped started loss_of short_line long_line line_of opens ends_in_stamp last_line_of
a_traced_thread = refl

-- A parked thread sleeps, as P has it.
a_parked_thread : line_of (codes "              sh-9     [002] d..2.     0.25: sched_switch: prev_comm=sh prev_pid=9 prev_prio=120 prev_state=P ==> next_comm=swapper/2 next_pid=0 next_prio=120") ≡ event 2 250000000 (Switch (thread (codes "sh") 9) states.Sleeps (thread (codes "swapper/2") 0))
unfolding number small_number after_priority word_at timed flagged stamp_at first_stamp leaves comes wakes short short_leaves short_comes first_marked last_marked thread_at switch_by switch_in woken_by wake_up_in speed_in event_of after_number after_lost tells_loss dropped started loss_of short_line long_line line_of opens ends_in_stamp last_line_of
a_parked_thread = refl

-- Behind the name of a thread that is woken no other stands, so its last mark ends it: the number of `x pid=7 prio=` is 9.
a_name_with_a_mark : line_of (codes "              sh-1     [002] d..2.     0.25: sched_waking: comm=x pid=7 prio= pid=9 prio=120 target_cpu=002") ≡ event 2 250000000 (WakeUp (thread (codes "x pid=7 prio=") 9) true)
unfolding number small_number after_priority word_at timed flagged stamp_at first_stamp leaves comes wakes short short_leaves short_comes first_marked last_marked thread_at switch_by switch_in woken_by wake_up_in speed_in event_of after_number after_lost tells_loss dropped started loss_of short_line long_line line_of opens ends_in_stamp last_line_of
a_name_with_a_mark = refl

-- Leading zeros are read as they stand.
leading_zeros : line_of (codes "              sh-9     [0010] 0007.0: cpu_frequency: state=0600000 cpu_id=010") ≡ event 10 7000000000 (Speed 10 600000)
unfolding number small_number after_priority word_at timed flagged stamp_at first_stamp leaves comes wakes short short_leaves short_comes first_marked last_marked thread_at switch_by switch_in woken_by wake_up_in speed_in event_of after_number after_lost tells_loss dropped started loss_of short_line long_line line_of opens ends_in_stamp last_line_of
leading_zeros = refl

-- The kernel's own words for lost events.
a_loss_of_the_kernel : line_of (codes "CPU:12 [LOST 345 EVENTS]") ≡ Ok (Lost 12 since.ItsLastLine)
unfolding number small_number after_priority word_at timed flagged stamp_at first_stamp leaves comes wakes short short_leaves short_comes first_marked last_marked thread_at switch_by switch_in woken_by wake_up_in speed_in event_of after_number after_lost tells_loss dropped started loss_of short_line long_line line_of opens ends_in_stamp last_line_of
a_loss_of_the_kernel = refl

-- The same without their number.
a_loss_without_a_number : line_of (codes "CPU:12 [LOST EVENTS]") ≡ Ok (Lost 12 since.ItsLastLine)
unfolding number small_number after_priority word_at timed flagged stamp_at first_stamp leaves comes wakes short short_leaves short_comes first_marked last_marked thread_at switch_by switch_in woken_by wake_up_in speed_in event_of after_number after_lost tells_loss dropped started loss_of short_line long_line line_of opens ends_in_stamp last_line_of
a_loss_without_a_number = refl

-- A buffer that starts here: what was before is lost.
a_buffer : line_of (codes "##### CPU 2 buffer started ####") ≡ Ok (Lost 2 since.TheBegin)
unfolding number small_number after_priority word_at timed flagged stamp_at first_stamp leaves comes wakes short short_leaves short_comes first_marked last_marked thread_at switch_by switch_in woken_by wake_up_in speed_in event_of after_number after_lost tells_loss dropped started loss_of short_line long_line line_of opens ends_in_stamp last_line_of
a_buffer = refl

-- The words of perf.
a_loss_of_perf : line_of (codes "              sh 16122 [003]  1660.973472452: PERF_RECORD_LOST lost 12") ≡ event 3 1660973472452 Loss
unfolding number small_number after_priority word_at timed flagged stamp_at first_stamp leaves comes wakes short short_leaves short_comes first_marked last_marked thread_at switch_by switch_in woken_by wake_up_in speed_in event_of after_number after_lost tells_loss dropped started loss_of short_line long_line line_of opens ends_in_stamp last_line_of
a_loss_of_perf = refl

-- An event of another kind has its processor and its time.
another_event : line_of (codes "              sh-9     [002] d..2.     7.5: irq_handler_entry: irq=1 name=x") ≡ event 2 7500000000 Other
unfolding number small_number after_priority word_at timed flagged stamp_at first_stamp leaves comes wakes short short_leaves short_comes first_marked last_marked thread_at switch_by switch_in woken_by wake_up_in speed_in event_of after_number after_lost tells_loss dropped started loss_of short_line long_line line_of opens ends_in_stamp last_line_of
another_event = refl

-- A state that the kernel doesn't have.
a_strange_state : line_of (codes "              sh-9     [002] d..2.     7.5: sched_switch: prev_comm=sh prev_pid=9 prev_prio=120 prev_state=Q ==> next_comm=swapper/2 next_pid=0 next_prio=120") ≡ event 2 7500000000 (Switch (thread (codes "sh") 9) states.Unknown (thread (codes "swapper/2") 0))
unfolding number small_number after_priority word_at timed flagged stamp_at first_stamp leaves comes wakes short short_leaves short_comes first_marked last_marked thread_at switch_by switch_in woken_by wake_up_in speed_in event_of after_number after_lost tells_loss dropped started loss_of short_line long_line line_of opens ends_in_stamp last_line_of
a_strange_state = refl

-- # Near misses

-- A line without a stamp says nothing.
a_comment : line_of (codes "#           TASK-PID     CPU#  |||||  TIMESTAMP  FUNCTION") ≡ Ok Nothing
unfolding number small_number after_priority word_at timed flagged stamp_at first_stamp leaves comes wakes short short_leaves short_comes first_marked last_marked thread_at switch_by switch_in woken_by wake_up_in speed_in event_of after_number after_lost tells_loss dropped started loss_of short_line long_line line_of opens ends_in_stamp last_line_of
a_comment = refl

-- A name without a colon is no event's.
no_colon : line_of (codes "              sh-9     [002] d..2.     7.5: sched_switch prev_comm=sh") ≡ Ok Nothing
unfolding number small_number after_priority word_at timed flagged stamp_at first_stamp leaves comes wakes short short_leaves short_comes first_marked last_marked thread_at switch_by switch_in woken_by wake_up_in speed_in event_of after_number after_lost tells_loss dropped started loss_of short_line long_line line_of opens ends_in_stamp last_line_of
no_colon = refl

-- Ten digits behind the point.
ten_digits : line_of (codes "              sh-9     [002] d..2.     7.0123456789: sched_waking: comm=sh pid=10 prio=120 target_cpu=002") ≡ refused 40 reasons.Time
unfolding number small_number after_priority word_at timed flagged stamp_at first_stamp leaves comes wakes short short_leaves short_comes first_marked last_marked thread_at switch_by switch_in woken_by wake_up_in speed_in event_of after_number after_lost tells_loss dropped started loss_of short_line long_line line_of opens ends_in_stamp last_line_of
ten_digits = refl

-- A time of more than 64 bits.
too_late : line_of (codes "              sh-9     [002] 18446744073.709551616: sched_waking: comm=sh pid=10 prio=120 target_cpu=002") ≡ refused 30 reasons.Time
unfolding number small_number after_priority word_at timed flagged stamp_at first_stamp leaves comes wakes short short_leaves short_comes first_marked last_marked thread_at switch_by switch_in woken_by wake_up_in speed_in event_of after_number after_lost tells_loss dropped started loss_of short_line long_line line_of opens ends_in_stamp last_line_of
too_late = refl

-- The last time of 64 bits.
the_last_time : line_of (codes "              sh-9     [002] 18446744073.709551615: sched_waking: comm=sh pid=10 prio=120 target_cpu=002") ≡ event 2 18446744073709551615 (WakeUp (thread (codes "sh") 10) true)
unfolding number small_number after_priority word_at timed flagged stamp_at first_stamp leaves comes wakes short short_leaves short_comes first_marked last_marked thread_at switch_by switch_in woken_by wake_up_in speed_in event_of after_number after_lost tells_loss dropped started loss_of short_line long_line line_of opens ends_in_stamp last_line_of
the_last_time = refl

-- A processor's number of more than 32 bits.
a_great_processor : line_of (codes "              sh-9     [4294967296] 7.5: irq_handler_entry: irq=1") ≡ refused 37 reasons.Processor
unfolding number small_number after_priority word_at timed flagged stamp_at first_stamp leaves comes wakes short short_leaves short_comes first_marked last_marked thread_at switch_by switch_in woken_by wake_up_in speed_in event_of after_number after_lost tells_loss dropped started loss_of short_line long_line line_of opens ends_in_stamp last_line_of
a_great_processor = refl

-- A switch that is cut short.
half_a_switch : line_of (codes "              sh-9     [002] 7.5: sched_switch: prev_comm=sh prev_pid=9 prev_prio=120 prev_state=S ==> next_comm=swapp") ≡ refused 49 reasons.UnknownSwitch
unfolding number small_number after_priority word_at timed flagged stamp_at first_stamp leaves comes wakes short short_leaves short_comes first_marked last_marked thread_at switch_by switch_in woken_by wake_up_in speed_in event_of after_number after_lost tells_loss dropped started loss_of short_line long_line line_of opens ends_in_stamp last_line_of
half_a_switch = refl

-- A speed without a number.
a_speed_of_nothing : line_of (codes "              sh-9     [002] 7.5: cpu_frequency: state= cpu_id=0") ≡ refused 50 reasons.UnknownSpeed
unfolding number small_number after_priority word_at timed flagged stamp_at first_stamp leaves comes wakes short short_leaves short_comes first_marked last_marked thread_at switch_by switch_in woken_by wake_up_in speed_in event_of after_number after_lost tells_loss dropped started loss_of short_line long_line line_of opens ends_in_stamp last_line_of
a_speed_of_nothing = refl

-- # A last line without a line feed

-- Within the time.
cut_in_its_time : last_line_of (codes "              sh-9     [002] d..2.     7.") ≡ refused 42 reasons.Cut
unfolding number small_number after_priority word_at timed flagged stamp_at first_stamp leaves comes wakes short short_leaves short_comes first_marked last_marked thread_at switch_by switch_in woken_by wake_up_in speed_in event_of after_number after_lost tells_loss dropped started loss_of short_line long_line line_of opens ends_in_stamp last_line_of
cut_in_its_time = refl

-- Within the event's name.
cut_in_its_name : last_line_of (codes "              sh-9     [002] d..2.     7.5: sched_swi") ≡ refused 54 reasons.Cut
unfolding number small_number after_priority word_at timed flagged stamp_at first_stamp leaves comes wakes short short_leaves short_comes first_marked last_marked thread_at switch_by switch_in woken_by wake_up_in speed_in event_of after_number after_lost tells_loss dropped started loss_of short_line long_line line_of opens ends_in_stamp last_line_of
cut_in_its_name = refl

-- Behind the system that perf writes.
cut_behind_its_system : last_line_of (codes "              sh 9     [002]     7.5:  sched:") ≡ refused 46 reasons.Cut
unfolding number small_number after_priority word_at timed flagged stamp_at first_stamp leaves comes wakes short short_leaves short_comes first_marked last_marked thread_at switch_by switch_in woken_by wake_up_in speed_in event_of after_number after_lost tells_loss dropped started loss_of short_line long_line line_of opens ends_in_stamp last_line_of
cut_behind_its_system = refl

-- It may be whole.
whole_all_the_same : last_line_of (codes "              sh-9     [002] 7.5: sched_waking: comm=sh pid=10 prio=120 target_cpu=002") ≡ event 2 7500000000 (WakeUp (thread (codes "sh") 10) true)
unfolding number small_number after_priority word_at timed flagged stamp_at first_stamp leaves comes wakes short short_leaves short_comes first_marked last_marked thread_at switch_by switch_in woken_by wake_up_in speed_in event_of after_number after_lost tells_loss dropped started loss_of short_line long_line line_of opens ends_in_stamp last_line_of
whole_all_the_same = refl
