-- What small traces are told as. A unit of time is 10 nanoseconds, and a job is due 100 after its begin.
use Rattle.base.proofs.Common.{◌≡◌, ℕ, List, [], ◌∷◌, ◌++◌, codes, flat_map, reverse, Bool, true, false, Option, Some, None, refl}
use Rattle.std.specs.Fmt.{digits}
use Rattle.yds_kernel.specs.declared.fault.Reason.TheVariants as forms
use Rattle.yds_kernel.specs.Event.{Said}
use Rattle.yds_trace.specs.declared.cut.Cut.{Cut}
use Rattle.yds_trace.specs.declared.fault.Cause.TheVariants as causes
use Rattle.yds_trace.specs.declared.reason.Reason.TheVariants as reasons
use Rattle.yds_trace.specs.Asked.{Asked}
use Rattle.yds_trace.specs.Parts.{no_cut, cut_at, part_fault}
use Rattle.yds_trace_document.specs.declared.fault.DocumentFault.TheVariants as faults
use Rattle.yds_trace_text.specs.Limit.{Beyond, NotKnown}
use Rattle.yds_trace_text.specs.Text.{comment, unit_comment, period_comment}
use Rattle.yds_trace_text.specs.PartText.{part_text}
use Rattle.yds_trace_parts.specs.Told.{InForm, AtLine, OfDocument, Told, told_of}
use Rattle.yds_trace_examples.proofs.Lines.{woken, is_awake, comes, sleeps, preempted, back, other_leaves, marker, lost, asked, up_to, of_each, in_shares, with_others}

abbrev two_jobs : List Said
two_jobs = woken 1000 ∷ comes 0 1020 ∷ sleeps 0 1040 ∷ woken 1200 ∷ comes 0 1210 ∷ sleeps 0 1230 ∷ []

-- # The texts of two parts

-- what is written when the first part is
abbrev cut : Cut
cut = record { boundary = 1200; decided = 1230; parts = 1; jobs = 1; due = 1100 }

cut_behind_the_first : cut_at asked (reverse two_jobs) no_cut (Some 1200) ≡ cut
cut_behind_the_first = refl

abbrev lines : List (List ℕ) → List ℕ
lines texts = flat_map (λ text. text ++ 10 ∷ []) texts

first_part : part_text asked (reverse two_jobs) no_cut (Some 1200) ≡ lines (codes "# part 1: jobs 1 to 1, from 0 to 10, shift 0"
    ∷ codes "# CPU 0 of a kernel trace; time 0 is 0.000001000 s"
    ∷ codes "# time unit 0 us, speed unit 1 kHz, work unit 0 cycles"
    ∷ codes "job t.0 0 10 10"
    ∷ codes "ticks 1"
    ∷ codes "run t.0 2 4 5"
    ∷ codes "# 1 job written, none left out" ∷ [])
unfolding digits comment unit_comment period_comment
first_part = refl

last_part : part_text asked (reverse two_jobs) cut None ≡ lines (codes "# part 2: jobs 2 to 2, from 20 to 30, shift 20, the last"
    ∷ codes "# CPU 0 of a kernel trace; time 0 is 0.000001200 s"
    ∷ codes "# time unit 0 us, speed unit 1 kHz, work unit 0 cycles"
    ∷ codes "job t.1 0 10 10"
    ∷ codes "ticks 1"
    ∷ codes "run t.1 1 3 5"
    ∷ codes "# 1 job written, none left out" ∷ [])
unfolding digits comment unit_comment period_comment
last_part = refl

-- Where each processor has documents of its own, no job of these lines is one of processor 1: its boundary moves, and nothing is written.
silent_cut : cut_at (of_each 1) (reverse two_jobs) no_cut (Some 1200) ≡ record { boundary = 1200; decided = 1230; parts = 0; jobs = 0; due = 0 }
silent_cut = refl

-- near miss: so few lines are one part
abbrev whole_text : List ℕ
whole_text = lines (codes "# part 1: jobs 1 to 2, from 0 to 30, shift 0, the last"
    ∷ codes "# CPU 0 of a kernel trace; time 0 is 0.000001000 s"
    ∷ codes "# time unit 0 us, speed unit 1 kHz, work unit 0 cycles"
    ∷ codes "job t.0 0 10 10"
    ∷ codes "job t.1 20 30 10"
    ∷ codes "ticks 1"
    ∷ codes "run t.0 2 4 5"
    ∷ codes "run t.1 21 23 5"
    ∷ codes "# t: 2 begins, 0.000200 ms apart in the mean, a deadline of 0.000100 ms: a period would tell frames that fall behind"
    ∷ codes "# 2 jobs written, none left out" ∷ [])

told_as_one : told_of asked false (record { said = two_jobs; fault = None }) ≡ record { text = whole_text; halt = None }
unfolding digits comment unit_comment period_comment
told_as_one = refl

-- # Halts

abbrev told : Asked → Bool → List Said → Told
told asked strict lines = told_of asked strict (record { said = lines; fault = None })

-- No part is whole before the line whose form is refused.
in_form : told_of asked false (record { said = two_jobs; fault = Some (record { line = 7; column = 3; reason = forms.Time }) })
    ≡ record { text = []; halt = Some (InForm (record { line = 7; column = 3; reason = forms.Time })) }
in_form = refl

-- A line that is refused comes before it, and lines behind one aren't looked at.
at_a_line : told_of asked false (record { said = woken 1000 ∷ woken 900 ∷ woken 800 ∷ []; fault = Some (record { line = 4; column = 3; reason = forms.Time }) })
    ≡ record { text = []; halt = Some (AtLine 2 causes.TimeGoesBack) }
at_a_line = refl

-- Where no line names the task, the trace as a whole is refused, at its last line.
unseen_task : told asked false (marker 0 1000 ∷ marker 0 1010 ∷ []) ≡ record { text = []; halt = Some (AtLine 2 (causes.Unseen 0)) }
unseen_task = refl

no_line_at_all : told asked false [] ≡ record { text = []; halt = Some (AtLine 0 causes.NoLine) }
no_line_at_all = refl

-- The first job ran on another processor, and was in time: with `strict` it may not be missed.
abbrev one_moved : List Said
one_moved = woken 1000 ∷ comes 1 1020 ∷ sleeps 1 1030 ∷ woken 1200 ∷ comes 0 1210 ∷ sleeps 0 1230 ∷ []

one_missed : told asked true one_moved ≡ record { text = []; halt = Some (OfDocument None 1 (Beyond (faults.Missed 0))) }
unfolding digits
one_missed = refl

-- near miss: without `strict` it may
abbrev one_halt : Told → Option ℕ
one_halt told = elim told.halt [ None ↦ None | Some halt ↦ Some 1 ]

one_left_out : one_halt (told asked false one_moved) ≡ None
unfolding digits comment unit_comment period_comment
one_left_out = refl

-- The first job came without a wake-up, and ended more than 100 behind the trace's begin: its name and its reason are told.
not_known : told asked false (marker 0 1000 ∷ comes 0 1020 ∷ sleeps 0 1110 ∷ woken 1200 ∷ comes 0 1210 ∷ sleeps 0 1230 ∷ [])
    ≡ record { text = []; halt = Some (OfDocument None 1 (NotKnown 0 (codes "t.before") (Some reasons.BeginUnseen))) }
unfolding digits
not_known = refl

-- # Each processor

-- Each processor up to 3, on which the wake-ups are, has a document, and each of the two jobs is in that of the processor on which it ran.
abbrev texts_of_each : List ℕ
texts_of_each = lines (codes "# part 1: jobs 1 to 1, from 20 to 30, shift 20, cpu 0, the last"
    ∷ codes "# CPU 0 of a kernel trace; time 0 is 0.000001200 s"
    ∷ codes "# time unit 0 us, speed unit 1 kHz, work unit 0 cycles"
    ∷ codes "job t.1 0 10 10"
    ∷ codes "ticks 1"
    ∷ codes "run t.1 1 3 5"
    ∷ codes "# 1 job written, none left out"
    ∷ codes "# part 1: jobs 1 to 1, from 0 to 10, shift 0, cpu 1, the last"
    ∷ codes "# CPU 1 of a kernel trace; time 0 is 0.000001000 s"
    ∷ codes "# time unit 0 us, speed unit 1 kHz, work unit 0 cycles"
    ∷ codes "job t.0 0 10 5"
    ∷ codes "ticks 1"
    ∷ codes "run t.0 2 3 5"
    ∷ codes "# 1 job written, none left out"
    ∷ codes "# part 1: jobs 1 to 0, from 0 to 0, shift 0, cpu 2, the last"
    ∷ codes "# CPU 2 of a kernel trace; time 0 is 0.000001000 s"
    ∷ codes "# time unit 0 us, speed unit 1 kHz, work unit 0 cycles"
    ∷ codes "ticks 1"
    ∷ codes "# 0 jobs written, none left out"
    ∷ codes "# part 1: jobs 1 to 0, from 0 to 0, shift 0, cpu 3, the last"
    ∷ codes "# CPU 3 of a kernel trace; time 0 is 0.000001000 s"
    ∷ codes "# time unit 0 us, speed unit 1 kHz, work unit 0 cycles"
    ∷ codes "ticks 1"
    ∷ codes "# 0 jobs written, none left out" ∷ [])

told_of_each : told (of_each 0) false one_moved ≡ record { text = texts_of_each; halt = None }
unfolding digits comment unit_comment period_comment
told_of_each = refl

-- Near miss: the only job began before what is asked for. A part without a job is no fault, but no document at all would have one.
none_of_each : told (record (of_each 0) { from = Some 1100 }) false (woken 1000 ∷ comes 0 1020 ∷ sleeps 0 1040 ∷ []) ≡ record { text = []; halt = Some (OfDocument None 1 (Beyond faults.NoJobAnywhere)) }
unfolding digits comment unit_comment period_comment
none_of_each = refl

-- A limit that a document of one of them passes is told with its processor: with `strict` the job that ran on 0 and on 1 may not be missed.
abbrev ran_on_both : List Said
ran_on_both = woken 1000 ∷ comes 0 1020 ∷ preempted 0 1040 ∷ comes 1 1050 ∷ sleeps 1 1080 ∷ []

missed_on_the_first : told (of_each 0) true ran_on_both ≡ record { text = []; halt = Some (OfDocument (Some 0) 1 (Beyond (faults.Missed 0))) }
unfolding digits
missed_on_the_first = refl

-- near miss: where each has what it ran there, none is missed
none_missed : one_halt (told (in_shares 0) true ran_on_both) ≡ None
unfolding digits comment unit_comment period_comment
none_missed = refl

-- # What moved

-- On 0 the job ran until 1040, and on 1 until 1130, after its deadline: its document on 0 has more work than its run gives, and says why.
moved_and_late : part_text (in_shares 0) (reverse (woken 1000 ∷ comes 0 1020 ∷ preempted 0 1040 ∷ comes 1 1050 ∷ sleeps 1 1130 ∷ [])) no_cut None ≡ lines (
    codes "# part 1: jobs 1 to 1, from 0 to 10, shift 0, cpu 0, the last"
    ∷ codes "# CPU 0 of a kernel trace; time 0 is 0.000001000 s"
    ∷ codes "# time unit 0 us, speed unit 1 kHz, work unit 0 cycles"
    ∷ codes "job t.0@0 0 10 11"
    ∷ codes "ticks 1"
    ∷ codes "run t.0@0 2 4 5"
    ∷ codes "# late on another processor: t.0@0, 0.000030 ms after its deadline"
    ∷ codes "# 1 job written, none left out" ∷ [])
unfolding digits comment unit_comment period_comment
moved_and_late = refl

-- near miss: in time, its end is told
moved_in_time : part_text (in_shares 0) (reverse ran_on_both) no_cut None ≡ lines (
    codes "# part 1: jobs 1 to 1, from 0 to 10, shift 0, cpu 0, the last"
    ∷ codes "# CPU 0 of a kernel trace; time 0 is 0.000001000 s"
    ∷ codes "# time unit 0 us, speed unit 1 kHz, work unit 0 cycles"
    ∷ codes "job t.0@0 0 10 10"
    ∷ codes "ticks 1"
    ∷ codes "run t.0@0 2 4 5"
    ∷ codes "# ends: t.0@0 8"
    ∷ codes "# 1 job written, none left out" ∷ [])
unfolding digits comment unit_comment period_comment
moved_in_time = refl

-- # Who was in the way

-- Another thread has the processor from 1020 to 1040, while the job waits. It stands just before the last line.
in_the_way : part_text (with_others 0) (reverse (woken 1000 ∷ comes 0 1010 ∷ preempted 0 1020 ∷ back 0 1040 ∷ sleeps 0 1050 ∷ [])) no_cut None ≡ lines (
    codes "# part 1: jobs 1 to 1, from 0 to 10, shift 0, the last"
    ∷ codes "# CPU 0 of a kernel trace; time 0 is 0.000001000 s"
    ∷ codes "# time unit 0 us, speed unit 1 kHz, work unit 0 cycles"
    ∷ codes "job t.0 0 10 10"
    ∷ codes "ticks 1"
    ∷ codes "run t.0 1 2 5"
    ∷ codes "run t.0 4 5 5"
    ∷ codes "# other other-9 2 4"
    ∷ codes "# 1 job written, none left out" ∷ [])
unfolding digits comment unit_comment period_comment
in_the_way = refl

-- # Behind a written part

-- A line of another processor came before the part was written. Events that were lost since the last line of processor 0 reach back before that.
reaches_back : part_fault asked (reverse (two_jobs ++ marker 1 1240 ∷ [])) (record cut { decided = 1240 }) (lost 0) ≡ Some causes.PartWritten
reaches_back = refl

-- near miss: the part was written at that last line
begins_there : part_fault asked (reverse (two_jobs ++ marker 1 1240 ∷ [])) cut (lost 0) ≡ None
begins_there = refl

-- A thread comes behind the end of a written job without a wake-up: that job goes on.
comes_back : part_fault asked (reverse two_jobs) (record cut { boundary = 1201 }) (comes 0 1310) ≡ Some causes.PartWritten
comes_back = refl

-- So it is where its wake-up is done that was started before it left to sleep.
woken_back : part_fault asked (reverse (two_jobs ++ woken 1240 ∷ comes 0 1250 ∷ woken 1259 ∷ sleeps 0 1260 ∷ [])) (record cut { boundary = 1241 }) (is_awake 1310) ≡ Some causes.PartWritten
woken_back = refl

-- And where it leaves a processor to which it wasn't seen to come, also by that one's first switch, behind `to`.
abbrev woken_asleep : List Said
woken_asleep = two_jobs ++ woken 1240 ∷ comes 0 1250 ∷ woken 1259 ∷ sleeps 0 1260 ∷ []

leaves_unseen : part_fault asked (reverse woken_asleep) (record cut { boundary = 1241 }) (sleeps 1 1310) ≡ Some causes.PartWritten
leaves_unseen = refl

leaves_behind_to : part_fault (up_to 1300) (reverse woken_asleep) (record cut { boundary = 1241 }) (sleeps 1 1310) ≡ Some causes.PartWritten
leaves_behind_to = refl

-- Near misses: that processor has switched before; and no wake-up was started before it left to sleep: a switch is missing, but none before 1310.
switched_before : part_fault (up_to 1300) (reverse (woken_asleep ++ other_leaves 1 1270 ∷ [])) (record cut { boundary = 1241 }) (sleeps 1 1310) ≡ None
switched_before = refl

leaves_unwoken : part_fault asked (reverse (two_jobs ++ woken 1240 ∷ comes 0 1250 ∷ sleeps 0 1260 ∷ [])) (record cut { boundary = 1241 }) (sleeps 1 1310) ≡ None
leaves_unwoken = refl

-- Near misses: the job isn't written; or it was woken since.
comes_back_later : part_fault asked (reverse two_jobs) cut (comes 0 1310) ≡ None
comes_back_later = refl

woken_since : part_fault asked (reverse (two_jobs ++ woken 1300 ∷ [])) (record cut { boundary = 1300 }) (comes 0 1310) ≡ None
woken_since = refl
