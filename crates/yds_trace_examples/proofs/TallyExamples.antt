-- What small traces lack.
use Rattle.base.proofs.Common.{◌≡◌, ℕ, List, [], ◌∷◌, codes, reverse, true, false, refl}
use Rattle.std.specs.Fmt.{digits}
use Rattle.yds_kernel.specs.declared.state.State.TheVariants as states
use Rattle.yds_kernel.specs.Event.{Thread, Loss, Switch, WakeUp, Said}
use Rattle.yds_trace.specs.declared.tally.Pause.{Pause}
use Rattle.yds_trace.specs.declared.tally.Silence.{Silence}
use Rattle.yds_trace.specs.declared.tally.Tally.{Tally}
use Rattle.yds_trace.specs.Asked.{Asked}
use Rattle.yds_trace.specs.Tally.{losses, missing_switches, markers, longest_pause, no_silence, silence, tally_of}
use Rattle.yds_trace_text.specs.Text.{comment, unit_comment, period_comment, silence_comment, tally_comments, text_of}
use Rattle.yds_trace_examples.proofs.Lines.{other, idle, line, woken, comes, sleeps, preempted, other_comes, other_leaves, speed, marker, lost, asked, up_to, from}

-- # Places where events were lost

abbrev places : Asked → List Said → ℕ
places asked lines = losses asked (reverse lines)

-- Two lines say so behind the same line: that is one place.
one_place : places asked (woken 10 ∷ comes 0 12 ∷ lost 0 ∷ lost 1 ∷ sleeps 0 40 ∷ []) ≡ 1
one_place = refl

-- an event with a stamp says so; and the end of the trace is a place
two_places : places asked (woken 10 ∷ comes 0 12 ∷ line 0 20 Loss ∷ sleeps 0 40 ∷ lost 0 ∷ []) ≡ 2
two_places = refl

-- Switches of a task are missing: it came, and another thread leaves there; and it leaves where another one came.
a_task_came_there : places asked (woken 10 ∷ comes 0 12 ∷ other_leaves 0 20 ∷ []) ≡ 1
a_task_came_there = refl

a_task_leaves_there : places asked (other_comes 0 10 ∷ sleeps 0 20 ∷ []) ≡ 1
a_task_leaves_there = refl

-- near misses: the loss is behind `to`, or before `from`
a_loss_behind_to : places (up_to 30) (woken 10 ∷ comes 0 12 ∷ sleeps 0 40 ∷ lost 0 ∷ woken 50 ∷ []) ≡ 0
a_loss_behind_to = refl

a_loss_before_from : places (from 45) (woken 10 ∷ lost 3 ∷ comes 0 45 ∷ sleeps 0 50 ∷ []) ≡ 0
a_loss_before_from = refl

-- It is one where the processor's last line is before `to`.
a_loss_over_to : places (up_to 30) (woken 10 ∷ lost 3 ∷ comes 0 50 ∷ []) ≡ 1
a_loss_over_to = refl

-- # Switches that are missing

abbrev third : Thread
third = record { name = codes "third"; pid = 11 }

abbrev lacking : Asked → List Said → ℕ
lacking asked lines = missing_switches asked.from asked.to asked.tasks (reverse lines)

-- Another thread came to the processor than the one that leaves it.
one_missing : lacking asked (other_comes 0 10 ∷ line 0 20 (Switch third states.Sleeps idle) ∷ []) ≡ 1
one_missing = refl

-- near misses: the listed task came, or leaves, and that is a place where events were lost
a_task_came : lacking asked (woken 10 ∷ comes 0 12 ∷ other_leaves 0 20 ∷ []) ≡ 0
a_task_came = refl

a_task_leaves : lacking asked (other_comes 0 10 ∷ sleeps 0 20 ∷ []) ≡ 0
a_task_leaves = refl

-- nothing is known of who came: it is the processor's first switch, or its first one since a loss, also on another processor
first_switch : lacking asked (other_comes 1 10 ∷ line 0 20 (Switch third states.Sleeps idle) ∷ []) ≡ 0
first_switch = refl

first_since_a_loss : lacking asked (other_comes 0 10 ∷ lost 1 ∷ line 0 20 (Switch third states.Sleeps idle) ∷ []) ≡ 0
first_since_a_loss = refl

-- threads are compared by their numbers: one may be renamed
renamed : lacking asked (other_comes 0 10 ∷ line 0 20 (Switch (record other { name = codes "new" }) states.Sleeps idle) ∷ []) ≡ 0
renamed = refl

missing_behind_to : lacking (up_to 19) (other_comes 0 10 ∷ line 0 20 (Switch third states.Sleeps idle) ∷ []) ≡ 0
missing_behind_to = refl

-- # Lines that programs wrote

abbrev written : Asked → List Said → ℕ
written asked lines = markers asked.from asked.to (reverse lines)

a_marker : written asked (marker 1 10 ∷ woken 11 ∷ []) ≡ 1
a_marker = refl

-- near miss: it is before `from`
a_marker_before_from : written (from 11) (marker 1 10 ∷ woken 11 ∷ []) ≡ 0
a_marker_before_from = refl

-- # The longest time without a line

abbrev pause : Asked → List Said → Pause
pause asked lines = longest_pause asked.from asked.to (reverse lines)

-- of equal ones the first, on whichever processors the lines are
the_first_pause : pause asked (woken 10 ∷ comes 0 40 ∷ lost 1 ∷ sleeps 0 70 ∷ []) ≡ record { since = 10; lasted = 30 }
the_first_pause = refl

-- near misses: the line before is before `from`, and the next one behind `to`
a_pause_over_from : pause (from 20) (woken 10 ∷ comes 0 40 ∷ sleeps 0 45 ∷ []) ≡ record { since = 40; lasted = 5 }
a_pause_over_from = refl

a_pause_over_to : pause (up_to 42) (woken 10 ∷ comes 0 12 ∷ sleeps 0 45 ∷ []) ≡ record { since = 10; lasted = 2 }
a_pause_over_to = refl

-- # Silence

abbrev silent : Asked → List Said → Silence
silent asked lines = silence asked (reverse lines)

-- Processor 0 was left by `t` to another thread, and 1 has no switch: of both the one that tells nothing longer.
the_longest : silent asked (woken 10 ∷ marker 1 11 ∷ comes 0 12 ∷ preempted 0 30 ∷ line 3 90 (WakeUp other true) ∷ []) ≡ record { processor = 1; since = 11; lasted = 79 }
the_longest = refl

-- Near miss: one that was left idle isn't silent.
left_idle : silent asked (woken 10 ∷ comes 0 12 ∷ sleeps 0 30 ∷ line 3 90 (WakeUp other true) ∷ []) ≡ no_silence
left_idle = refl

-- It is told up to where the part was written, and without parts to the end.
abbrev a_long_silence : Silence
a_long_silence = record { processor = 2; since = 6; lasted = 1000000001 }

silence_in_parts : silence_comment true a_long_silence ≡ codes "# up to here, no line of CPU 2 for 1.000000001 s, from 0.000000006 s on: what it did then isn't known\n"
unfolding digits comment
silence_in_parts = refl

silence_to_the_end : silence_comment false a_long_silence ≡ codes "# no line of CPU 2 for 1.000000001 s, from 0.000000006 s on to the end: what it did then isn't known\n"
unfolding digits comment
silence_to_the_end = refl

-- # What is told of them

abbrev lines : List Said
lines = other_comes 0 2 ∷ line 0 5 (Switch third states.Sleeps idle) ∷ marker 1 6 ∷ lost 3 ∷ woken 1000 ∷ speed 0 1010 5 ∷ comes 0 1020 ∷ sleeps 0 1040 ∷ []

abbrev all_five : Tally
all_five = tally_of asked (reverse lines)

lacks_all_five : all_five
    ≡ record { losses = 1; missing = 1; markers = 1; pause = record { since = 6; lasted = 994 }; silence = record { processor = 1; since = 6; lasted = 1034 } }
lacks_all_five = refl

-- They stand behind all other comments. No one has to be told of so short a pause, or of so short a silence.
told_in_one : text_of (record asked { cut_losses = true }) (reverse lines) ≡ codes "# CPU 0 of a kernel trace; time 0 is 0.000001000 s\n# time unit 0 us, speed unit 1 kHz, work unit 0 cycles\njob t.0 0 10 10\nticks 1\nrun t.0 2 4 5\n# places where events were lost: 1\n# switches of other threads that are missing: 1\n# lines that programs wrote into the trace: 1\n# 1 job written, none left out\n"
unfolding digits comment unit_comment period_comment
told_in_one = refl

-- In parts more may follow.
told_in_parts : tally_comments true (record all_five { pause = record { since = 100001000000; lasted = 60001000000 } }) ≡ codes "# places where events were lost, up to here: 1\n# switches of other threads that are missing, up to here: 1\n# lines that programs wrote into the trace, up to here: 1\n# up to here, no line for 60.001000000 s, from 100.001000000 s on: did the clock jump?\n"
unfolding digits comment
told_in_parts = refl

-- near miss: a second is not long, and a nanosecond more is
a_second : tally_comments true (record { losses = 0; missing = 0; markers = 0; pause = record { since = 6; lasted = 1000000000 }; silence = no_silence }) ≡ []
a_second = refl

more_than_a_second : tally_comments true (record { losses = 0; missing = 0; markers = 0; pause = record { since = 6; lasted = 1000000001 }; silence = no_silence })
    ≡ codes "# up to here, no line for 1.000000001 s, from 0.000000006 s on: did the clock jump?\n"
unfolding digits comment
more_than_a_second = refl
