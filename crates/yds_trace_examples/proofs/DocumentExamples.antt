-- The documents of small traces. A unit of time is 10 nanoseconds, a job is due 100 after its begin, and time 0 is where the first whole job begins.
use Rattle.base.proofs.Common.{◌≡◌, ℕ, ◌≤◌, All, List, [], ◌∷◌, map, codes, reverse, Bool, true, false, Option, Some, None, refl, arith, All-cons, All-nil}
use Rattle.std.specs.Fmt.{digits}
use Rattle.yds_kernel.specs.Event.{Said}
use Rattle.yds_trace.specs.declared.reason.Reason.{Reason}
use Rattle.yds_trace.specs.declared.reason.Reason.TheVariants as reasons
use Rattle.yds_trace.specs.declared.limits.TheConstants.{MAX_DEADLINE}
use Rattle.yds_trace.specs.Asked.{Task, Listed, Asked, IsAsked, IsWithin, no_task}
use Rattle.yds_trace.specs.WrittenTime.{Run}
use Rattle.yds_trace.specs.Document.{Written, Document, document_of, all_judged, Judged}
use Rattle.yds_trace_examples.proofs.Lines.{woken, comes, sleeps, preempted, back, other_leaves, marker, lost, task, of_task, asked, with_period, up_to, from}

abbrev document : Asked → List Said → Document
document asked lines = document_of asked (reverse lines)

-- of each job, how late it is and why it isn't written as it stands
abbrev told : Judged → Option ℕ × Option Reason
told judged = (judged.late, judged.reason)

abbrev judgements : Asked → List Said → List (Option ℕ × Option Reason)
judgements asked lines = map told (all_judged asked (reverse lines))

-- with these processors' speeds before the first change
abbrev begun : List (ℕ × ℕ) → Asked
begun speeds = record asked { start = Listed (map (λ (speed : ℕ × ℕ). record { processor = speed.0; khz = speed.1 }) speeds) }

abbrev run : ℕ → ℕ → Run
run from to = record { from = from; to = to; speed = 5 }

abbrev written : List ℕ → ℕ → ℕ → ℕ → List Run → Written
written name release deadline work runs = record { name = name; release = release; deadline = deadline; work = work; runs = runs }

-- A job in time, from 1000 to 1040.
in_time : document asked (woken 1000 ∷ comes 0 1020 ∷ sleeps 0 1040 ∷ []) ≡
    record { jobs = written (codes "t.0") 0 10 10 (run 2 4 ∷ []) ∷ []; runs = record { job = 0; run = run 2 4 } ∷ [] }
unfolding digits
in_time = refl

-- It ends in the unit after its deadline's: its run does, and so it is late in the document.
late_by_a_unit : document asked (woken 1000 ∷ comes 0 1020 ∷ sleeps 0 1110 ∷ []) ≡
    record { jobs = written (codes "t.0") 0 10 45 (run 2 11 ∷ []) ∷ []; runs = record { job = 0; run = run 2 11 } ∷ [] }
unfolding digits
late_by_a_unit = refl

-- Near miss: late by a unit less a nanosecond, which the document can't show.
late_by_less : document asked (woken 1000 ∷ comes 0 1020 ∷ sleeps 0 1109 ∷ []) ≡
    record { jobs = written (codes "t.0") 0 10 40 (run 2 10 ∷ []) ∷ []; runs = record { job = 0; run = run 2 10 } ∷ [] }
unfolding digits
late_by_less = refl

but_it_is_known : judgements asked (woken 1000 ∷ comes 0 1020 ∷ sleeps 0 1109 ∷ []) ≡ (Some 9, None) ∷ []
but_it_is_known = refl

-- Late in a run within one unit, from 1112 to 1118: that isn't written, so the work is one unit above what the runs give.
late_in_a_short_run : document asked (woken 1000 ∷ comes 0 1020 ∷ preempted 0 1030 ∷ back 0 1112 ∷ sleeps 0 1118 ∷ []) ≡
    record { jobs = written (codes "t.0") 0 10 6 (run 2 3 ∷ []) ∷ []; runs = record { job = 0; run = run 2 3 } ∷ [] }
unfolding digits
late_in_a_short_run = refl

-- It hasn't ended, and its deadline is over when the trace ends.
never_ended : document asked (woken 1000 ∷ comes 0 1020 ∷ preempted 0 1030 ∷ marker 1 1200 ∷ []) ≡
    record { jobs = written (codes "t.0") 0 10 6 (run 2 3 ∷ []) ∷ []; runs = record { job = 0; run = run 2 3 } ∷ [] }
unfolding digits
never_ended = refl

-- It starves: it never ran, on any processor.
starved : document asked (woken 1000 ∷ marker 1 1200 ∷ []) ≡ record { jobs = written (codes "t.0") 0 10 1 [] ∷ []; runs = [] }
unfolding digits
starved = refl

-- Near miss: its deadline isn't over when the trace ends, so it is left out.
not_due_yet : document asked (woken 1000 ∷ marker 1 1099 ∷ []) ≡ record { jobs = []; runs = [] }
unfolding digits
not_due_yet = refl

its_reason : judgements asked (woken 1000 ∷ marker 1 1099 ∷ []) ≡ (None, Some reasons.NotEnded) ∷ []
its_reason = refl

-- It moved, and was late: its work is 1, and it has no run. Time 0 is the trace's begin, as no job is whole.
moved_and_late : document asked (woken 1000 ∷ comes 1 1020 ∷ sleeps 1 1111 ∷ []) ≡ record { jobs = written (codes "t.0") 0 10 1 [] ∷ []; runs = [] }
unfolding digits
moved_and_late = refl

-- Near miss: it moved, and was in time. It is left out.
moved_in_time : document asked (woken 1000 ∷ comes 1 1020 ∷ sleeps 1 1040 ∷ []) ≡ record { jobs = []; runs = [] }
unfolding digits
moved_in_time = refl

why_moved : judgements asked (woken 1000 ∷ comes 1 1020 ∷ sleeps 1 1040 ∷ []) ≡ (None, Some reasons.Moved) ∷ []
why_moved = refl

-- A begin that isn't known, and late: it is released at 0, and due as late as can be.
unseen_and_late : document asked (marker 0 1000 ∷ comes 0 1020 ∷ sleeps 0 1131 ∷ []) ≡ record { jobs = written (codes "t.before") 0 12 1 [] ∷ []; runs = [] }
unfolding digits
unseen_and_late = refl

-- Begun before `from`, and late. The next one is in time.
begun_before_from : document (from 1050) (woken 1000 ∷ comes 0 1020 ∷ sleeps 0 1150 ∷ woken 1200 ∷ comes 0 1210 ∷ sleeps 0 1220 ∷ []) ≡
    record { jobs = written (codes "t.0") 0 5 1 [] ∷ written (codes "t.1") 15 25 5 (run 16 17 ∷ []) ∷ []; runs = record { job = 1; run = run 16 17 } ∷ [] }
unfolding digits
begun_before_from = refl

-- Due before `from` too, and open behind it: it's late.
due_before_from : judgements (from 1120) (woken 1000 ∷ comes 0 1020 ∷ sleeps 0 1150 ∷ []) ≡ (Some 50, Some reasons.BeforeFrom) ∷ []
due_before_from = refl

-- Near miss: it ended at `from`, so it's of the time before it.
ended_at_from : judgements (from 1150) (woken 1000 ∷ comes 0 1020 ∷ sleeps 0 1150 ∷ []) ≡ (None, Some reasons.BeforeFrom) ∷ []
ended_at_from = refl

-- Events were lost over its end, after its deadline: it is known to be late, and has no run.
lost_and_late : document asked (woken 1000 ∷ comes 0 1020 ∷ marker 1 1110 ∷ sleeps 0 1120 ∷ lost 1 ∷ marker 0 1200 ∷ []) ≡
    record { jobs = written (codes "t.0") 0 10 1 [] ∷ []; runs = [] }
unfolding digits
lost_and_late = refl

-- Near miss: lost before its deadline. Nothing is known.
lost_in_time : judgements asked (woken 1000 ∷ comes 0 1020 ∷ marker 1 1099 ∷ sleeps 0 1120 ∷ lost 1 ∷ marker 0 1200 ∷ []) ≡
    (None, Some reasons.EventsLost) ∷ []
lost_in_time = refl

-- A switch is missing, and its end is known: in time, and late.
missing_in_time : judgements asked (woken 1000 ∷ other_leaves 0 1010 ∷ sleeps 0 1040 ∷ []) ≡ (None, Some reasons.SwitchMissing) ∷ []
missing_in_time = refl

missing_and_late : document asked (woken 1000 ∷ other_leaves 0 1010 ∷ sleeps 0 1140 ∷ []) ≡ record { jobs = written (codes "t.0") 0 10 1 [] ∷ []; runs = [] }
unfolding digits
missing_and_late = refl

-- Its processor is one of those whose speed before the first change is given.
listed_speed : document (begun ((1, 7) ∷ (0, 5) ∷ [])) (woken 1000 ∷ comes 0 1020 ∷ sleeps 0 1040 ∷ []) ≡
    record { jobs = written (codes "t.0") 0 10 10 (run 2 4 ∷ []) ∷ []; runs = record { job = 0; run = run 2 4 } ∷ [] }
unfolding digits
listed_speed = refl

-- Near misses: no speed is given, or that of another processor alone. It isn't known.
unknown_speed : judgements (begun []) (woken 1000 ∷ comes 0 1020 ∷ sleeps 0 1040 ∷ []) ≡ (None, Some reasons.SpeedUnknown) ∷ []
unknown_speed = refl

speed_of_another : judgements (begun ((1, 5) ∷ [])) (woken 1000 ∷ comes 0 1020 ∷ sleeps 0 1040 ∷ []) ≡ (None, Some reasons.SpeedUnknown) ∷ []
speed_of_another = refl

-- Nor is it after lost events, as a change may be among them.
speed_lost : judgements (begun ((0, 5) ∷ [])) (lost 0 ∷ woken 1000 ∷ comes 0 1020 ∷ sleeps 0 1040 ∷ []) ≡ (None, Some reasons.SpeedUnknown) ∷ []
speed_lost = refl

-- Up to a time at which it runs, before its deadline.
cut_off : judgements (up_to 1030) (woken 1000 ∷ comes 0 1020 ∷ sleeps 0 1040 ∷ []) ≡ (None, Some reasons.AfterTo) ∷ []
cut_off = refl

-- # Due before it begins

-- The second job is due 200 behind the first one's begin and 100 more, and begins less than a unit of time before that. Near miss: just a unit.
due_before : judgements with_period (woken 1000 ∷ comes 0 1002 ∷ sleeps 0 1010 ∷ woken 1291 ∷ comes 0 1291 ∷ sleeps 0 1300 ∷ []) ≡
    (None, None) ∷ (None, Some reasons.DueBefore) ∷ []
due_before = refl

due_a_unit_behind : judgements with_period (woken 1000 ∷ comes 0 1002 ∷ sleeps 0 1010 ∷ woken 1290 ∷ comes 0 1290 ∷ sleeps 0 1300 ∷ []) ≡
    (None, None) ∷ (None, None) ∷ []
due_a_unit_behind = refl

-- Where it begins after that, it is late by then.
begun_too_late : judgements with_period (woken 1000 ∷ comes 0 1002 ∷ sleeps 0 1010 ∷ woken 1301 ∷ comes 0 1302 ∷ sleeps 0 1310 ∷ []) ≡
    (None, None) ∷ (Some 10, Some reasons.DueBefore) ∷ []
begun_too_late = refl

-- # Not known to be late

-- of each job, whether it isn't known if it is late
abbrev unsure : Asked → List Said → List Bool
unsure asked lines = map (λ judged. judged.unsure) (all_judged asked (reverse lines))

-- It came without a wake-up, so it may have begun when the trace did, at 1000. It ended more than 100 behind that.
may_be_late : unsure asked (marker 0 1000 ∷ comes 0 1020 ∷ sleeps 0 1110 ∷ []) ≡ true ∷ []
may_be_late = refl

-- Near misses: it ended by then; losses are cut out; and it began before what is asked for.
ended_by_then : unsure asked (marker 0 1000 ∷ comes 0 1020 ∷ sleeps 0 1100 ∷ []) ≡ false ∷ []
ended_by_then = refl

left_out_with_losses : unsure (record asked { cut_losses = true }) (marker 0 1000 ∷ comes 0 1020 ∷ sleeps 0 1110 ∷ []) ≡ false ∷ []
left_out_with_losses = refl

of_the_time_before : unsure (from 1030) (marker 0 1000 ∷ comes 0 1020 ∷ sleeps 0 1110 ∷ []) ≡ false ∷ []
of_the_time_before = refl

-- # From the begin until after what is asked for

-- A task that hangs: it had its processor at that one's first line, at 1000, and leaves it after 1300. It is late.
hangs : document (up_to 1300) (marker 0 1000 ∷ sleeps 0 1400 ∷ []) ≡ record { jobs = written (codes "t.before") 0 10 1 [] ∷ []; runs = [] }
unfolding digits
hangs = refl

so_late : judgements (up_to 1300) (marker 0 1000 ∷ sleeps 0 1400 ∷ []) ≡ (Some 200, Some reasons.BeginUnseen) ∷ []
so_late = refl

-- near misses: its deadline isn't over; its processor has switched before, so it came there unseen, perhaps after that; another one leaves there
hangs_not_due : judgements (up_to 1099) (marker 0 1000 ∷ sleeps 0 1400 ∷ []) ≡ (None, Some reasons.AfterTo) ∷ []
hangs_not_due = refl

came_unseen : judgements (up_to 1300) (marker 1 1000 ∷ other_leaves 0 1010 ∷ sleeps 0 1400 ∷ []) ≡ []
came_unseen = refl

another_hangs : judgements (up_to 1300) (marker 1 1000 ∷ other_leaves 1 1400 ∷ sleeps 1 1500 ∷ []) ≡ []
another_hangs = refl

-- It had it when a loss ended, at 1100.
hangs_after_a_loss : judgements (up_to 1300) (marker 1 1000 ∷ lost 1 ∷ marker 0 1100 ∷ sleeps 0 1400 ∷ []) ≡ (Some 100, Some reasons.BeginUnseen) ∷ []
hangs_after_a_loss = refl

-- A wake-up while it hangs doesn't hide it.
woken_while_it_hangs : judgements (up_to 1300) (marker 0 1000 ∷ woken 1250 ∷ sleeps 0 1400 ∷ []) ≡ (Some 200, Some reasons.BeginUnseen) ∷ []
woken_while_it_hangs = refl

-- # What is asked for

-- A deadline of a unit of time is one.
a_unit_each : All (λ (each : Task). 10 ≤ each.deadline) (record task { deadline = 10 } ∷ [])
a_unit_each = All-cons (λ (each : Task). 10 ≤ each.deadline) (record task { deadline = 10 }) [] (omega arith) (All-nil (λ (each : Task). 10 ≤ each.deadline))

a_deadline_of_a_unit : IsAsked (of_task (record task { deadline = 10 }))
a_deadline_of_a_unit = record { has_unit = omega arith; has_speed_unit = omega arith; deadlines = λ i default within. a_unit_each i default within }

-- Near miss: a shorter one isn't.
a_shorter_deadline : IsAsked (of_task (record task { deadline = 9 })) → ⊥
a_shorter_deadline is_asked = absurd (omega (arith, is_asked.deadlines 0 no_task (omega arith)))

-- The longest deadline is within the limit.
the_longest : All (λ (each : Task). each.deadline ≤ MAX_DEADLINE) (record task { deadline = 9223372036854775807 } ∷ [])
the_longest =
    All-cons (λ (each : Task). each.deadline ≤ MAX_DEADLINE) (record task { deadline = 9223372036854775807 }) [] (omega arith)
    (All-nil (λ (each : Task). each.deadline ≤ MAX_DEADLINE))

the_longest_deadline : IsWithin (of_task (record task { deadline = 9223372036854775807 }))
the_longest_deadline = record { deadlines = λ i default within. the_longest i default within }

-- Near miss: a longer one isn't.
a_longer_deadline : IsWithin (of_task (record task { deadline = 9223372036854775808 })) → ⊥
a_longer_deadline is_within = absurd (omega (arith, is_within.deadlines 0 no_task (omega arith)))
