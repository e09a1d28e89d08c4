-- Jobs that moved: each processor's documents have what they ran there, where that is asked for. A unit of time is 10 nanoseconds, and a job is due 100
-- after its begin.
use Rattle.base.proofs.Common.{◌≡◌, ℕ, List, [], ◌∷◌, map, codes, reverse, Option, Some, None, refl}
use Rattle.std.specs.Fmt.{digits}
use Rattle.yds_kernel.specs.Event.{Said}
use Rattle.yds_trace.specs.declared.job.End.TheVariants as ends
use Rattle.yds_trace.specs.declared.reason.Reason.{Reason}
use Rattle.yds_trace.specs.declared.reason.Reason.TheVariants as reasons
use Rattle.yds_trace.specs.Asked.{Asked}
use Rattle.yds_trace.specs.Jobs.{Job}
use Rattle.yds_trace.specs.WrittenTime.{Run}
use Rattle.yds_trace.specs.Document.{shares_of, all_judged, written_name, Document, document_of}
use Rattle.yds_trace_examples.proofs.Lines.{woken, comes, sleeps, preempted, marker, of_each, in_shares, stretch, job, share}

-- it runs on 0 from 1020 to 1040, and on 1 from 1050 to 1080, in time
abbrev in_time : List Said
in_time = woken 1000 ∷ comes 0 1020 ∷ preempted 0 1040 ∷ comes 1 1050 ∷ sleeps 1 1080 ∷ []

-- the same, until 1130
abbrev late : List Said
late = woken 1000 ∷ comes 0 1020 ∷ preempted 0 1040 ∷ comes 1 1050 ∷ sleeps 1 1130 ∷ []

-- # Shares

abbrev shares : Asked → List Said → List Job
shares asked lines = shares_of asked (reverse lines) 0

-- Each processor has what it ran there, in the window of the whole job.
on_the_first : shares (in_shares 0) in_time ≡ share 1000 (ends.Ended 1080) (stretch 0 1020 1040 ∷ []) ∷ []
on_the_first = refl

on_the_second : shares (in_shares 1) in_time ≡ share 1000 (ends.Ended 1080) (stretch 1 1050 1080 ∷ []) ∷ []
on_the_second = refl

-- Near misses: it never ran on 2, and without being asked for there are no shares.
on_neither : shares (in_shares 2) in_time ≡ job 1000 (ends.Ended 1080) (stretch 1 1050 1080 ∷ stretch 0 1020 1040 ∷ []) ∷ []
on_neither = refl

not_asked_for : shares (of_each 0) in_time ≡ job 1000 (ends.Ended 1080) (stretch 1 1050 1080 ∷ stretch 0 1020 1040 ∷ []) ∷ []
not_asked_for = refl

-- Near miss: one that ran on one processor alone is no share.
on_one_alone : shares (in_shares 0) (woken 1000 ∷ comes 0 1020 ∷ preempted 0 1040 ∷ comes 0 1050 ∷ sleeps 0 1080 ∷ []) ≡
    job 1000 (ends.Ended 1080) (stretch 0 1050 1080 ∷ stretch 0 1020 1040 ∷ []) ∷ []
on_one_alone = refl

-- # What is said of them

abbrev names : Asked → List Said → List (List ℕ)
names asked lines = map written_name (all_judged asked (reverse lines))

-- A share is called after its processor, and other jobs as ever.
names_of_shares : names (in_shares 1) (woken 1000 ∷ comes 0 1020 ∷ preempted 0 1040 ∷ comes 1 1050 ∷ sleeps 1 1080 ∷ woken 1200 ∷ comes 1 1210 ∷ sleeps 1 1220 ∷ [])
    ≡ codes "t.0@1" ∷ codes "t.1" ∷ []
unfolding digits
names_of_shares = refl

-- of each job, how late it is and why it isn't written as it stands
abbrev judgements : Asked → List Said → List (Option ℕ × Option Reason)
judgements asked lines = map (λ judged. (judged.late, judged.reason)) (all_judged asked (reverse lines))

-- Each stands as it is, in time or late as a whole.
each_stands : judgements (in_shares 0) in_time ≡ (None, None) ∷ []
each_stands = refl

each_is_late : judgements (in_shares 0) late ≡ (Some 30, None) ∷ []
each_is_late = refl

-- Near misses: where it never ran it is left out, and without being asked for everywhere.
left_out_elsewhere : judgements (in_shares 2) in_time ≡ (None, Some reasons.Moved) ∷ []
left_out_elsewhere = refl

left_out_unasked : judgements (of_each 0) in_time ≡ (None, Some reasons.Moved) ∷ []
left_out_unasked = refl

-- # Their documents

abbrev document : Asked → List Said → Document
document asked lines = document_of asked (reverse lines)

abbrev run : ℕ → ℕ → Run
run from to = record { from = from; to = to; speed = 5 }

-- In time, each in the window of the whole job, with the work of its own run.
first_in_time : document (in_shares 0) in_time ≡
    record { jobs = record { name = codes "t.0@0"; release = 0; deadline = 10; work = 10; runs = run 2 4 ∷ [] } ∷ []; runs = record { job = 0; run = run 2 4 } ∷ [] }
unfolding digits
first_in_time = refl

second_in_time : document (in_shares 1) in_time ≡
    record { jobs = record { name = codes "t.0@1"; release = 0; deadline = 10; work = 15; runs = run 5 8 ∷ [] } ∷ []; runs = record { job = 0; run = run 5 8 } ∷ [] }
unfolding digits
second_in_time = refl

-- Late: on 1 the run shows it. That on 0 doesn't, so its work there is one unit above what it gives.
second_is_late : document (in_shares 1) late ≡
    record { jobs = record { name = codes "t.0@1"; release = 0; deadline = 10; work = 40; runs = run 5 13 ∷ [] } ∷ []; runs = record { job = 0; run = run 5 13 } ∷ [] }
unfolding digits
second_is_late = refl

first_is_late : document (in_shares 0) late ≡
    record { jobs = record { name = codes "t.0@0"; release = 0; deadline = 10; work = 11; runs = run 2 4 ∷ [] } ∷ []; runs = record { job = 0; run = run 2 4 } ∷ [] }
unfolding digits
first_is_late = refl

-- One that hasn't ended by its deadline shows it on neither.
never_ended : document (in_shares 1) (woken 1000 ∷ comes 0 1020 ∷ preempted 0 1040 ∷ comes 1 1050 ∷ preempted 1 1060 ∷ marker 2 1200 ∷ []) ≡
    record { jobs = record { name = codes "t.0@1"; release = 0; deadline = 10; work = 6; runs = run 5 6 ∷ [] } ∷ []; runs = record { job = 0; run = run 5 6 } ∷ [] }
unfolding digits
never_ended = refl

-- Near miss: without being asked for, one in time is left out, and a late one has no run.
unasked_in_time : document (of_each 0) in_time ≡ record { jobs = []; runs = [] }
unfolding digits
unasked_in_time = refl

unasked_and_late : document (of_each 0) late ≡ record { jobs = record { name = codes "t.0"; release = 0; deadline = 10; work = 1; runs = [] } ∷ []; runs = [] }
unfolding digits
unasked_and_late = refl
