-- Small traces in parts, put together, and near misses. A job is due 100 nanoseconds after its begin.
use Rattle.yds_model.proofs.Common.{◌≡◌, ◌≢◌, ℕ, List, [], ◌∷◌, map, codes, reverse, true, false, Some, None, refl, ap, get_or}
use Rattle.std.specs.Fmt.{digits}
use Rattle.yds_kernel.specs.declared.state.State.TheVariants as states
use Rattle.yds_kernel.specs.declared.loss.Since.TheVariants as since
use Rattle.yds_kernel.specs.Event.{Thread, Happening, Switch, WakeUp, Marker, Said, Lost}
use Rattle.yds_trace.specs.declared.cut.Cut.{Cut}
use Rattle.yds_trace.specs.declared.fault.Cause.TheVariants as causes
use Rattle.yds_trace.specs.Asked.{Asked}
use Rattle.yds_trace.specs.Faults.{first_fault}
use Rattle.yds_trace.specs.Document.{Document}
use Rattle.yds_trace.specs.Parts.{no_cut, waiting, part_until, is_quiet, with_part, part_fault}
use Rattle.yds_trace_whole.specs.Parts.{Part, made, KeepsParts}
use Rattle.yds_trace_whole.specs.Whole.{release_later, whole_document, put_together}
use Rattle.yds_trace_whole.proofs.Traces.{thread, t, idle, line_of, task_due, asked_of}

-- # Lines

abbrev u : Thread
u = thread (codes "u") 8

abbrev line : ℕ → Happening → Said
line = line_of 0

abbrev woken : ℕ → Thread → Said
woken time who = line time (WakeUp who true)

-- one thread goes to sleep, or is preempted, and another one comes
abbrev sleeps : ℕ → Thread → Thread → Said
sleeps time who next = line time (Switch who states.Sleeps next)

abbrev preempted : ℕ → Thread → Thread → Said
preempted time who next = line time (Switch who states.GoesOn next)

abbrev asked : Asked
asked = asked_of (task_due 100 (codes "t") ∷ task_due 100 (codes "u") ∷ [])

-- # Two parts

-- the trace in two parts, of which the first ends at this time
abbrev cut_by : List Said → ℕ → Cut
cut_by past time = with_part past time (part_until asked past no_cut (Some time)) no_cut

abbrev in_two : List Said → ℕ → List Part
in_two past time = made asked past no_cut (Some time) ∷ made asked past (cut_by past time) None ∷ []

-- Two jobs of `t`, from 1000 to 1040 and from 2000 to 2040.
abbrev apart : List Said
apart = reverse
    (woken 1000 t ∷ preempted 1020 idle t ∷ sleeps 1040 t idle ∷ woken 2000 t ∷ preempted 2020 idle t ∷ sleeps 2040 t idle ∷ line 2300 Marker ∷ [])

quiet_between : is_quiet asked apart (waiting asked apart no_cut) 2000 ≡ true
quiet_between = refl

-- The second part's times are 100 units less than those of the whole.
second_shifted : map (λ part. part.shift) (in_two apart 2000) ≡ 0 ∷ 100 ∷ []
second_shifted = refl

put_together_again : put_together (in_two apart 2000) ≡ whole_document asked apart
unfolding digits
put_together_again = refl

-- Near miss: while `t` waits, `u` has a job and runs; `t` goes on after it. At the begin of `u`'s job nothing is quiet.
abbrev across : List Said
across = reverse
    (woken 1000 t ∷ preempted 1020 idle t ∷ woken 1025 u ∷ preempted 1030 t u ∷ sleeps 1050 u t ∷ sleeps 1070 t idle ∷ line 1300 Marker ∷ [])

never_quiet : is_quiet asked across (waiting asked across no_cut) 1025 ≡ false
never_quiet = refl

-- whose run is the second one
abbrev second_run : Document → ℕ
second_run document = (get_or document.runs 1 (record { job = 9; run = record { from = 0; to = 0; speed = 0 } })).job

-- Cut there all the same, the parts put together are another document: in the whole `u` runs between the runs of `t`.
cut_across : put_together (in_two across 1025) ≢ whole_document asked across
unfolding digits
cut_across same = let runs : 0 ≡ 1 = ap second_run same in cc runs

-- # A begin that isn't known

-- The wake-up of `u` is missing, so its job began by 2000; and it was late. It can't stand as it is.
abbrev unseen : List Said
unseen = reverse
    (woken 1000 t ∷ preempted 1020 idle t ∷ sleeps 1040 t idle ∷ preempted 2000 idle u ∷ sleeps 2150 u idle ∷ line 2300 Marker ∷ [])

-- Its part releases it at 0, and so does the whole.
released_at_zero : map (λ job. job.release) (put_together (in_two unseen 2000)).jobs ≡ 0 ∷ 0 ∷ []
unfolding digits
released_at_zero = refl

unseen_together : put_together (in_two unseen 2000) ≡ whole_document asked unseen
unfolding digits
unseen_together = refl

-- Near miss: moved as a known begin is, it would be released where its part begins.
not_moved : release_later 100 false 0 ≢ release_later 100 true 0
not_moved same = cc same

-- # No line is refused

taken : first_fault asked apart ≡ None
taken = refl

kept : KeepsParts asked apart
kept = (refl, (refl, (refl, (refl, (refl, (refl, (refl, tt)))))))

-- Behind a part that was written at 2300 events may be lost since then: what the part says of its jobs stays so.
lost_since_then : part_fault asked apart (cut_by apart 2000) (Lost 0 since.ItsLastLine) ≡ None
unfolding digits
lost_since_then = refl

-- Near miss: they were lost since 1040. The first job's end isn't known then.
not_kept : part_fault asked (reverse (woken 1000 t ∷ preempted 1020 idle t ∷ sleeps 1040 t idle ∷ line_of 1 2300 Marker ∷ []))
    (cut_by apart 2000) (Lost 0 since.ItsLastLine) ≡ Some causes.PartWritten
unfolding digits
not_kept = refl
