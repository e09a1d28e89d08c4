-- Where a part of a trace may end. Jobs of `t` and of another thread wait; each is due 100 after its begin.
use Rattle.base.proofs.Common.{◌≡◌, ℕ, ◌<◌, ◌≤◌, length, List, [], ◌∷◌, map, filter, list_any, codes, reverse, Bool, true, false, Option, Some, None, refl}
use Rattle.std.proofs.lemmas.Bool.{lt-ltb, le-ltb}
use Rattle.yds_kernel.specs.Event.{WakeUp, Said}
use Rattle.yds_trace.specs.declared.fault.Cause.{Cause}
use Rattle.yds_trace.specs.declared.fault.Cause.TheVariants as causes
use Rattle.yds_trace.specs.Asked.{Named, Task, Asked}
use Rattle.yds_trace.specs.Document.{Judged, all_judged}
use Rattle.yds_trace.specs.Others.{Span}
use Rattle.yds_trace.specs.Parts.{belongs, waiting_from, is_settled, place_among, is_much, no_cut, cut_at, part_fault}
use Rattle.yds_trace_examples.proofs.Lines.{other, line, woken, comes, sleeps, preempted, gives_way, other_leaves, marker, lost, task, asked, up_to, of_each, in_shares}

-- # Which documents have a job

-- those of these processors that have the job of these lines
abbrev documents_with : List Said → List ℕ
documents_with lines = filter (λ processor. list_any (belongs (of_each processor)) (all_judged (of_each processor) (reverse lines))) (0 ∷ 1 ∷ 2 ∷ 3 ∷ [])

-- The job ran on 1 and then on 2.
abbrev ran_on_both : List Said
ran_on_both = woken 1000 ∷ comes 1 1020 ∷ preempted 1 1030 ∷ comes 2 1040 ∷ sleeps 2 1050 ∷ []

on_both : documents_with ran_on_both ≡ 1 ∷ 2 ∷ []
on_both = refl

-- So have both shares of it theirs, and no third processor has one.
shares_on_both : filter (λ processor. list_any (belongs (in_shares processor)) (all_judged (in_shares processor) (reverse ran_on_both))) (0 ∷ 1 ∷ 2 ∷ 3 ∷ []) ≡ 1 ∷ 2 ∷ []
shares_on_both = refl

-- One that ran nowhere has its place in the documents of 0.
ran_nowhere : documents_with (woken 1000 ∷ marker 1 1200 ∷ []) ≡ 0 ∷ []
ran_nowhere = refl

-- Near miss: it ran, if only on 1.
not_of_the_first : documents_with (woken 1000 ∷ comes 1 1020 ∷ sleeps 1 1030 ∷ []) ≡ 1 ∷ []
not_of_the_first = refl

-- Where one processor is asked for, its documents have each job.
of_one_processor : map (belongs asked) (all_judged asked (reverse (woken 1000 ∷ comes 1 1020 ∷ sleeps 1 1030 ∷ woken 1200 ∷ []))) ≡ true ∷ true ∷ []
of_one_processor = refl

-- # Two tasks

abbrev other_task : Task
other_task = record { label = codes "other"; thread = Named (codes "other"); deadline = 100; apart = 0; period = 0 }

-- wake-ups of `t` less than so long after its job's begin go on with that job
abbrev both_tasks : ℕ → Asked
both_tasks apart = record asked { tasks = record task { apart = apart } ∷ other_task ∷ [] }

abbrev other_woken : ℕ → Said
other_woken time = line 3 time (WakeUp other true)

-- # Tests

abbrev waiting : Asked → List Said → List Judged
waiting asked lines = waiting_from asked (reverse lines) 0

abbrev place : Asked → List Said → Option ℕ
place asked lines = place_among asked (reverse lines) (waiting asked lines)

-- of each job that waits, whether it is settled
abbrev settled : Asked → List Said → List Bool
settled asked lines = map (is_settled asked (reverse lines)) (waiting asked lines)

-- # A place

-- The job of `t` has ended, and its window is over, when the next one begins: the part ends there.
at_the_next_begin : place asked (woken 1000 ∷ comes 0 1020 ∷ sleeps 0 1040 ∷ woken 1200 ∷ []) ≡ Some 1200
at_the_next_begin = refl

-- Near miss: no job begins behind it.
no_begin_behind : place asked (woken 1000 ∷ comes 0 1020 ∷ sleeps 0 1040 ∷ marker 0 1200 ∷ []) ≡ None
no_begin_behind = refl

-- # A wake-up may still go on with it

-- A wake-up from 1050 on begins another job. The trace has come that far, so what is known of this one stays.
over_apart : place (both_tasks 50) (woken 1000 ∷ comes 0 1002 ∷ sleeps 0 1010 ∷ other_woken 1020 ∷ marker 0 1050 ∷ []) ≡ Some 1020
over_apart = refl

-- Near miss: a nanosecond earlier it has ended, and isn't settled.
within_apart : settled (both_tasks 50) (woken 1000 ∷ comes 0 1002 ∷ sleeps 0 1010 ∷ other_woken 1020 ∷ marker 0 1049 ∷ []) ≡ false ∷ false ∷ []
within_apart = refl

no_place_within_apart : place (both_tasks 50) (woken 1000 ∷ comes 0 1002 ∷ sleeps 0 1010 ∷ other_woken 1020 ∷ marker 0 1049 ∷ []) ≡ None
no_place_within_apart = refl

-- For a wake-up then goes on with it.
goes_on : settled (both_tasks 50) (woken 1000 ∷ comes 0 1002 ∷ sleeps 0 1010 ∷ other_woken 1020 ∷ woken 1049 ∷ marker 0 1200 ∷ []) ≡ false ∷ false ∷ []
goes_on = refl

-- # Its end isn't known

-- Events were lost behind 1030. When its deadline has come, at 1100, nothing more will be known of it.
settled_by_its_deadline : settled asked (woken 1000 ∷ comes 0 1020 ∷ marker 1 1030 ∷ lost 1 ∷ marker 0 1100 ∷ []) ≡ true ∷ []
settled_by_its_deadline = refl

-- Near misses: a nanosecond earlier; and a job that is open.
before_its_deadline : settled asked (woken 1000 ∷ comes 0 1020 ∷ marker 1 1030 ∷ lost 1 ∷ marker 0 1099 ∷ []) ≡ false ∷ []
before_its_deadline = refl

open_at_its_deadline : settled asked (woken 1000 ∷ comes 0 1020 ∷ marker 1 1030 ∷ marker 0 1100 ∷ []) ≡ false ∷ []
open_at_its_deadline = refl

-- # An open job before it

-- Near miss: `t` is preempted before the other's job begins, and may run again.
open_before : place (both_tasks 0) (woken 1000 ∷ comes 0 1002 ∷ gives_way 0 1010 ∷ other_woken 1020 ∷ marker 0 1200 ∷ []) ≡ None
open_before = refl

-- Nor does it serve that the job ends later: it has a run behind the place.
ended_behind : place (both_tasks 0) (woken 1000 ∷ comes 0 1002 ∷ gives_way 0 1010 ∷ other_woken 1020 ∷ comes 0 1030 ∷ sleeps 0 1040 ∷ []) ≡ None
ended_behind = refl

-- # An open window before it

-- Behind the job from 1200 to 1240 the processor is quiet at 1250, but its window is open until 1300: the part ends before it.
at_the_closed_one : place (both_tasks 0) (woken 1000 ∷ comes 0 1020 ∷ sleeps 0 1040 ∷ woken 1200 ∷ comes 0 1220 ∷ sleeps 0 1240 ∷ other_woken 1250 ∷ []) ≡ Some 1200
at_the_closed_one = refl

-- A window of a job that only 0 has isn't open for 1.
closed_elsewhere : place (record (both_tasks 0) { processor = 1; everywhere = true }) (woken 1000 ∷ comes 0 1020 ∷ sleeps 0 1040 ∷ woken 1200 ∷ comes 0 1220 ∷ sleeps 0 1240 ∷ other_woken 1250 ∷ []) ≡ Some 1250
closed_elsewhere = refl

-- Without a closed place a quiet one serves.
at_the_quiet_one : place (both_tasks 0) (woken 1200 ∷ comes 0 1220 ∷ sleeps 0 1240 ∷ other_woken 1250 ∷ []) ≡ Some 1250
at_the_quiet_one = refl

-- # Jobs that aren't written here

-- The job from 1000 to 1040 ran on 0 and on 1, in time: it is left out. No window is open at 1200, but no job of the documents' own begins before that.
-- So the part goes on to where one does.
abbrev left_out_first : List Said
left_out_first = woken 1000 ∷ comes 0 1010 ∷ gives_way 0 1015 ∷ comes 1 1020 ∷ sleeps 1 1040 ∷ woken 1200 ∷ comes 0 1220 ∷ sleeps 0 1240 ∷ other_woken 1250 ∷ []

left_out_alone : place (record (both_tasks 0) { everywhere = true }) left_out_first ≡ Some 1250
left_out_alone = refl

-- Near miss: where each processor has what it ran there, it is one of their own.
its_share : place (record (both_tasks 0) { everywhere = true; moved_parts = true }) left_out_first ≡ Some 1200
its_share = refl

-- # A first switch behind `to`

-- The part with the job of 1000 is written behind the line at 1240, and what is asked for ends at 1300.
abbrev as_written : List Said
as_written = woken 1000 ∷ comes 0 1020 ∷ sleeps 0 1040 ∷ woken 1200 ∷ marker 1 1210 ∷ comes 0 1220 ∷ sleeps 0 1240 ∷ []

abbrev behind_to : Said → Option Cause
behind_to said = part_fault (up_to 1300) (reverse as_written) (cut_at (up_to 1300) (reverse as_written) no_cut (Some 1200)) said

-- `t` has slept on 0 when it leaves 1, by the first switch of that one: it had 1 until 1300, and came there unseen, since the first line of 1, at 1210. So a
-- switch may be missing before the part was written.
had_it_until_to : behind_to (sleeps 1 1350) ≡ Some causes.PartWritten
had_it_until_to = refl

-- Near misses: another thread leaves there; and 2 has no line before it.
another_had_it : behind_to (other_leaves 1 1350) ≡ None
another_had_it = refl

without_a_line : behind_to (sleeps 2 1350) ≡ None
without_a_line = refl

-- # When a part is written

-- More spans of other threads than 12500 are enough for one, without any job.
many_spans : (others : List Span) → 12500 < length others → is_much [] others ≡ true
many_spans others many = lt-ltb 12500 (length others) many

-- near miss: just as many aren't
few_spans : (others : List Span) → length others ≤ 12500 → is_much [] others ≡ false
few_spans others few = le-ltb 12500 (length others) few
