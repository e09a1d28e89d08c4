-- Who else had a processor while a job of `t` waited.
use Rattle.base.proofs.Common.{◌≡◌, ℕ, List, [], ◌∷◌, ◌++◌, codes, flat_map, replicate, reverse, Some, None, refl}
use Rattle.std.specs.Fmt.{digits}
use Rattle.yds_kernel.specs.declared.state.State.TheVariants as states
use Rattle.yds_kernel.specs.Event.{Thread, Switch, Said}
use Rattle.yds_trace.specs.Asked.{Named}
use Rattle.yds_trace.specs.Faults.{touched}
use Rattle.yds_trace.specs.Others.{Span, shortened, others_of, spans_within}
use Rattle.yds_trace.specs.WrittenTime.{Units}
use Rattle.yds_trace_document.specs.Settled.{settled_of}
use Rattle.yds_trace_text.specs.Text.{comment, other_comment}
use Rattle.yds_trace_examples.proofs.Lines.{t, other, line, woken, comes, sleeps, preempted, back, gives_way, other_comes, other_leaves, marker, lost, task, asked, with_others}

-- the spans on processor 0 by these lines
abbrev spans : List Said → List Span
spans lines = others_of (with_others 0) (reverse lines)

abbrev span : ℕ → ℕ → Span
span from to = record { name = codes "other"; pid = 9; from = from; to = to }

-- # A job waits

-- It is woken at 1000, and the other thread has the processor until 1030.
behind_another : spans (other_comes 0 990 ∷ woken 1000 ∷ back 0 1030 ∷ sleeps 0 1040 ∷ []) ≡ span 1000 1030 ∷ []
behind_another = refl

-- It is preempted, twice.
preempted_twice : spans (woken 1000 ∷ comes 0 1002 ∷ preempted 0 1010 ∷ back 0 1020 ∷ preempted 0 1025 ∷ back 0 1030 ∷ sleeps 0 1040 ∷ [])
    ≡ span 1010 1020 ∷ span 1025 1030 ∷ []
preempted_twice = refl

-- Two threads have it one after the other.
abbrev third : Thread
third = record { name = codes "third"; pid = 11 }

one_by_one : spans (other_comes 0 990 ∷ woken 1000 ∷ line 0 1010 (Switch other states.GoesOn third) ∷ line 0 1030 (Switch third states.Sleeps t) ∷ sleeps 0 1040 ∷ [])
    ≡ span 1000 1010 ∷ record { name = codes "third"; pid = 11; from = 1010; to = 1030 } ∷ []
one_by_one = refl

-- Of a long name 64 bytes are kept.
a_long_name : shortened (record third { name = replicate 65 97 }) ≡ record third { name = replicate 64 97 }
a_long_name = refl

-- The job comes to another processor at 1015: it doesn't wait any more.
goes_elsewhere : spans (other_comes 0 990 ∷ woken 1000 ∷ comes 1 1015 ∷ sleeps 1 1020 ∷ other_leaves 0 1030 ∷ []) ≡ span 1000 1015 ∷ []
goes_elsewhere = refl

-- What goes on when the trace ends, has gone on until then; and so it is with `to`.
until_the_end : spans (other_comes 0 990 ∷ woken 1000 ∷ marker 1 1050 ∷ []) ≡ span 1000 1050 ∷ []
until_the_end = refl

until_to : others_of (record (with_others 0) { to = Some 1020 }) (reverse (other_comes 0 990 ∷ woken 1000 ∷ marker 1 1050 ∷ [])) ≡ span 1000 1020 ∷ []
until_to = refl

-- Events were lost: who has the processor then isn't known, nor whether the job waits.
until_a_loss : spans (other_comes 0 990 ∷ woken 1000 ∷ marker 1 1010 ∷ lost 1 ∷ marker 1 1050 ∷ []) ≡ span 1000 1010 ∷ []
until_a_loss = refl

-- # Near misses

-- The job runs, on another processor.
while_it_runs : spans (woken 1000 ∷ comes 1 1000 ∷ other_comes 0 1005 ∷ other_leaves 0 1020 ∷ sleeps 1 1040 ∷ []) ≡ []
while_it_runs = refl

-- It has ended, and sleeps.
while_it_sleeps : spans (woken 1000 ∷ comes 0 1000 ∷ sleeps 0 1010 ∷ other_comes 0 1020 ∷ other_leaves 0 1030 ∷ []) ≡ []
while_it_sleeps = refl

-- The idle thread has the processor.
the_idle_one : spans (woken 1000 ∷ comes 0 1002 ∷ gives_way 0 1010 ∷ comes 0 1030 ∷ sleeps 0 1040 ∷ []) ≡ []
the_idle_one = refl

-- The other thread is a task too.
a_listed_one : others_of (record (with_others 0) { tasks = task ∷ record task { label = codes "other"; thread = Named (codes "other") } ∷ [] })
    (reverse (other_comes 0 990 ∷ woken 1000 ∷ back 0 1030 ∷ sleeps 0 1040 ∷ [])) ≡ []
a_listed_one = refl

-- It has another processor than the one that is asked for.
on_another : others_of (with_others 1) (reverse (other_comes 0 990 ∷ woken 1000 ∷ back 0 1030 ∷ sleeps 0 1040 ∷ [])) ≡ []
on_another = refl

-- It had the processor before the trace's first switch there, which isn't known before that.
before_the_first_switch : spans (woken 1000 ∷ back 0 1030 ∷ sleeps 0 1040 ∷ []) ≡ []
before_the_first_switch = refl

-- It takes no time.
at_one_time : spans (other_comes 0 990 ∷ woken 1000 ∷ back 0 1000 ∷ sleeps 0 1040 ∷ []) ≡ []
at_one_time = refl

-- Nothing is asked about others.
not_asked_for : others_of asked (reverse (other_comes 0 990 ∷ woken 1000 ∷ back 0 1030 ∷ sleeps 0 1040 ∷ [])) ≡ []
not_asked_for = refl

-- # What a document has

-- Time 0 is the begin of the first whole job, at 1000: the spans are told from then on. What the job waited before that, whose begin isn't in the trace, isn't.
from_time_zero : (settled_of (with_others 0) (reverse (comes 0 900 ∷ preempted 0 910 ∷ back 0 920 ∷ sleeps 0 930
    ∷ woken 1000 ∷ comes 0 1002 ∷ preempted 0 1010 ∷ back 0 1030 ∷ sleeps 0 1040 ∷ []))).others ≡ span 1010 1030 ∷ []
from_time_zero = refl

-- those of a part that ends at 1030, behind a boundary at 1010
abbrev some : List Span
some = span 1000 1010 ∷ span 1005 1020 ∷ span 1025 1040 ∷ span 1030 1050 ∷ []

within_a_part : spans_within 1010 (Some 1030) some ≡ span 1010 1020 ∷ span 1025 1030 ∷ []
within_a_part = refl

-- near miss: the last part has all behind its boundary
within_the_last : spans_within 1010 None some ≡ span 1010 1020 ∷ span 1025 1040 ∷ span 1030 1050 ∷ []
within_the_last = refl

-- # Text

abbrev units : Units
units = record { zero = 1000; time = 10; speed = 5 }

-- With a unit of 10, what lies within one unit isn't told: from 1030 to 1039.
their_comments : flat_map (other_comment units) (span 1000 1030 ∷ span 1030 1039 ∷ span 1039 1041 ∷ []) ≡
    comment (codes "other other-9 0 3" ∷ []) ++ comment (codes "other other-9 3 4" ∷ [])
unfolding digits comment
their_comments = refl

-- # How many lines tell of the tasks

-- Where it is told who was in the way, each switch does while a job waits: at 1010 other threads come and leave on 1.
abbrev passes_by : List Said
passes_by = woken 1000 ∷ other_leaves 1 1010 ∷ comes 0 1020 ∷ other_comes 1 1030 ∷ sleeps 0 1040 ∷ other_leaves 1 1050 ∷ []

while_it_waits : touched (with_others 0) (reverse passes_by) ≡ 4
while_it_waits = refl

-- near miss: without that, it isn't one of the tasks'
not_of_a_task : touched asked (reverse passes_by) ≡ 3
not_of_a_task = refl
