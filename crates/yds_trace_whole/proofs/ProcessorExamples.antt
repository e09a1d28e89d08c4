-- Small traces of two processors, each with documents of its own. A job is due 100 nanoseconds after its begin.
use Rattle.yds_model.proofs.Common.{◌≡◌, ◌≢◌, ◌∙◌, ℕ, List, [], ◌∷◌, ◌++◌, append-nil, map, codes, reverse, true, Some, None, refl, ap, subst, arith, get_or, IsFeasible}
use Rattle.std.specs.Fmt.{digits}
use Rattle.std.proofs.lemmas.List.{append_cancel_left}
use Rattle.yds_kernel.specs.declared.state.State.TheVariants as states
use Rattle.yds_kernel.specs.declared.loss.Since.TheVariants as since
use Rattle.yds_kernel.specs.Event.{Happening, Switch, WakeUp, Marker, Said, Lost}
use Rattle.yds_trace.specs.declared.cut.Cut.{Cut}
use Rattle.yds_trace.specs.declared.fault.Cause.TheVariants as causes
use Rattle.yds_trace.specs.Asked.{Asked, on}
use Rattle.yds_trace.specs.Document.{Document}
use Rattle.yds_trace.specs.Parts.{no_cut, waiting, is_quiet, cut_at, part_fault, processors_of}
use Rattle.yds_trace_laws.specs.AsSlots.{jobs_read, slots_read}
use Rattle.yds_trace_laws.proofs.AsRead.{gets}
use Rattle.yds_trace_text.specs.Text.{comment}
use Rattle.yds_trace_whole.specs.Parts.{made, made_at, parts_of, last_made, written_parts, judged_in_parts}
use Rattle.yds_trace_whole.specs.Whole.{whole_document, put_together}
use Rattle.yds_trace_whole.specs.Worth.{IsPartFeasible, IsOfParts}
use Rattle.yds_trace_whole.proofs.Traces.{t, idle, line_of, task_due, asked_of}

abbrev comes : Happening
comes = Switch idle states.GoesOn t

abbrev sleeps : Happening
sleeps = Switch t states.Sleeps idle

-- each processor has documents of its own
abbrev asked : Asked
asked = record (asked_of (task_due 100 (codes "t") ∷ [])) { everywhere = true }

-- the names of the jobs that the parts of a processor have
abbrev names_on : ℕ → List Said → List (List ℕ)
names_on processor past = map (λ one. one.name) (judged_in_parts (parts_of (on processor asked) past))

-- # One job on each

-- From 1000 to 1040 a job runs on processor 0, and from 2000 to 2040 the next one on processor 1.
abbrev one_each : List Said
one_each = reverse
    (line_of 0 1000 (WakeUp t true) ∷ line_of 0 1020 comes ∷ line_of 0 1040 sleeps ∷ line_of 0 2000 (WakeUp t true) ∷ line_of 1 2020 comes ∷ line_of 1 2040 sleeps ∷ line_of 0 2300 Marker ∷ [])

-- Each has its own, under the name that it has in the whole trace; and the last part of each is written.
first_on_0 : names_on 0 one_each ≡ codes "t.0" ∷ []
unfolding digits
first_on_0 = refl

second_on_1 : names_on 1 one_each ≡ codes "t.1" ∷ []
unfolding digits
second_on_1 = refl

two_last_parts : map (λ part. part.processor) (written_parts asked one_each) ≡ 0 ∷ 1 ∷ []
two_last_parts = refl

-- Near miss: the text of the first of them alone isn't that of all parts.
last_part_dropped : IsOfParts (written_parts asked one_each) (last_made asked one_each 0).text → ⊥
unfolding comment
last_part_dropped says =
    let text : List ℕ = (last_made asked one_each 0).text in
    let more : List ℕ = (last_made asked one_each 1).text in
    let none : [] ≡ more ++ [] = append_cancel_left text [] (more ++ []) (append-nil text ∙ says) in
    let first : 0 ≡ 35 = ap (λ (codes : List ℕ). get_or codes 0 0) none in omega (arith, first)

-- At 2000 processor 1 is quiet, and nothing before it belongs to it: no part is written, and the cut moves.
quiet_on_1 : is_quiet (on 1 asked) one_each (waiting (on 1 asked) one_each no_cut) 2000 ≡ true
quiet_on_1 = refl

nothing_written : made_at (on 1 asked) one_each no_cut (Some 2000) ≡ []
nothing_written = refl

abbrev silent : Cut
silent = cut_at (on 1 asked) one_each no_cut (Some 2000)

cut_moves : silent ≡ record { boundary = 2000; decided = 2300; parts = 0; jobs = 0; due = 0 }
cut_moves = refl

-- Near miss: on processor 0 a part is written there.
written_on_0 : map (λ part. part.processor) (made_at asked one_each no_cut (Some 2000)) ≡ 0 ∷ []
written_on_0 = refl

-- What is written behind the silent cut is all that belongs to processor 1, in the times of the whole trace.
whole_on_1 : put_together (made (on 1 asked) one_each silent None ∷ []) ≡ whole_document (on 1 asked) one_each
unfolding digits
whole_on_1 = refl

-- when the first job is released
abbrev first_release : Document → ℕ
first_release document = (get_or document.jobs 0 (record { name = []; release = 7; deadline = 0; work = 0; runs = [] })).release

-- Near miss: that of processor 0 is another one.
other_on_0 : whole_document (on 1 asked) one_each ≢ whole_document asked one_each
unfolding digits
other_on_0 same = let release : 100 ≡ 0 = ap first_release same in cc release

-- # One job on both

-- It runs on processor 0 until 1040, and goes on on processor 1 until 1160, 60 after its deadline.
abbrev moved : List Said
moved = reverse
    (line_of 0 1000 (WakeUp t true) ∷ line_of 0 1020 comes ∷ line_of 0 1040 (Switch t states.GoesOn idle) ∷ line_of 1 1050 comes ∷ line_of 1 1160 sleeps ∷ line_of 0 1300 Marker ∷ [])

-- Each processor has the late job, with the work 1 and without its runs.
late_on_both : map (λ part. map (λ job. job.work) part.settled.document.jobs) (written_parts asked moved) ≡ (1 ∷ []) ∷ (1 ∷ []) ∷ []
unfolding digits
late_on_both = refl

no_runs : map (λ part. part.settled.document.runs) (written_parts asked moved) ≡ [] ∷ [] ∷ []
unfolding digits
no_runs = refl

-- So a document of it isn't feasible, and its reader sees that the job was late: no slot gives it its work.
abbrev late_document : Document
late_document = record { jobs = record { name = codes "t.0"; release = 0; deadline = 10; work = 1; runs = [] } ∷ []; runs = [] }

document_on_1 : (last_made asked moved 1).settled.document ≡ late_document
unfolding digits
document_on_1 = refl

not_feasible : IsPartFeasible (last_made asked moved 1) → ⊥
not_feasible is =
    let feasible = subst (λ (document : Document). IsFeasible (jobs_read document.jobs) (slots_read document.runs)) document_on_1 is in
    let given : 0 ≡ 1 = gets (jobs_read late_document.jobs) [] 0 feasible (omega arith) in
    cc given

-- # What it ran on each

abbrev in_shares : Asked
in_shares = record asked { moved_parts = true }

-- Told so, each processor has the job with what it ran there. On processor 0 its runs don't show that it was late, and its work is a unit above them.
shares_on_both : map (λ part. map (λ job. job.work) part.settled.document.jobs) (written_parts in_shares moved) ≡ (11 ∷ []) ∷ (55 ∷ []) ∷ []
unfolding digits
shares_on_both = refl

abbrev share_document : Document
share_document = record {
  jobs = record { name = codes "t.0@0"; release = 0; deadline = 10; work = 11; runs = record { from = 2; to = 4; speed = 5 } ∷ [] } ∷ [];
  runs = record { job = 0; run = record { from = 2; to = 4; speed = 5 } } ∷ [];
}

share_on_0 : (last_made in_shares moved 0).settled.document ≡ share_document
unfolding digits
share_on_0 = refl

-- So it isn't feasible: its runs give the job one unit less.
share_not_feasible : IsPartFeasible (last_made in_shares moved 0) → ⊥
share_not_feasible is =
    let feasible = subst (λ (document : Document). IsFeasible (jobs_read document.jobs) (slots_read document.runs)) share_on_0 is in
    let given : 10 ≡ 11 = gets (jobs_read share_document.jobs) share_document.runs 0 feasible (omega arith) in
    cc given

-- # Which processors

-- Of these two processors a line tells. Where events are lost on processor 3, each one up to it has documents.
two_processors : processors_of asked moved ≡ 0 ∷ 1 ∷ []
two_processors = refl

four_processors : processors_of asked (Lost 3 since.ItsLastLine ∷ moved) ≡ 0 ∷ 1 ∷ 2 ∷ 3 ∷ []
four_processors = refl

-- # A processor of which no line tells

-- Behind a silent cut events are lost on it: they may have been so since the trace's begin, and a job before the cut have run there.
lost_unseen : part_fault (on 7 asked) one_each (cut_at (on 7 asked) one_each no_cut (Some 2000)) (Lost 7 since.ItsLastLine) ≡ Some causes.PartWritten
lost_unseen = refl

-- Near miss: on processor 0 they are lost since its last line.
lost_on_0 : part_fault (on 7 asked) one_each (cut_at (on 7 asked) one_each no_cut (Some 2000)) (Lost 0 since.ItsLastLine) ≡ None
lost_on_0 = refl
