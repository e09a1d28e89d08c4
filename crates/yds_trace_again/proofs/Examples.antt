-- A trace's text that is read again, and near misses.
use Rattle.yds_model.proofs.Common.{◌≡◌, ℕ, true, false, List, [], ◌∷◌, ◌++◌, reverse, codes, Some, None, Ok, Err, refl, digits, flat_map, of_whole, Document, no_document, reading, ap, arith, ◌≤◌}
use Rattle.yds_model.specs.declared.reason.Reason.TheVariants as reasons
use Rattle.yds_kernel.specs.declared.state.State.TheVariants as states
use Rattle.yds_kernel.specs.Event.{Thread, Happening, Switch, WakeUp, Said, Stamped}
use Rattle.yds_trace.specs.Tally.{tally_of}
use Rattle.yds_trace.specs.Asked.{Asked, Named, Same}
use Rattle.yds_trace.specs.declared.job.Stretch.{Stretch}
use Rattle.yds_trace.specs.WrittenTime.{Units, Run, written_time}
use Rattle.yds_trace.specs.Document.{named, name_in_parts, Written, Placed, document_of}
use Rattle.yds_trace_laws.specs.Faithful.{IsRounded, IsWithinRun}
use Rattle.yds_trace_text.specs.Text.{comment, unit_comment, period_comment, job_text, ticks_text, run_text, other_comment, settled_text, text_of}
use Rattle.yds_trace_text.specs.PartText.{part_text}
use Rattle.yds_trace.specs.Parts.{no_cut}
use Rattle.yds_trace_again.specs.Again.{document_read}
use Rattle.yds_trace_again.specs.Laws.{settled_where}

-- # A small trace

abbrev thread : Thread
thread = record { name = codes "t"; pid = 7 }

abbrev idle : Thread
idle = record { name = codes "swapper"; pid = 0 }

abbrev line_of : ℕ → ℕ → Happening → Said
line_of processor time happening = Stamped (record { processor = processor; time = time; happening = happening })

abbrev at : ℕ → Happening → Said
at = line_of 0

-- it is woken, comes, and sleeps
abbrev lines : List Said
lines = reverse (at 1000 (WakeUp thread true) ∷ at 1020 (Switch idle states.GoesOn thread) ∷ at 1040 (Switch thread states.Sleeps idle) ∷ [])

-- A unit of time is 10 nanoseconds, one of speed 1 kilohertz.
abbrev asked : Asked
asked = record {
  tasks = record { label = codes "t"; thread = Named (codes "t"); deadline = 100; apart = 0; period = 0 } ∷ [];
  processor = 0;
  unit = 10;
  khz = 1;
  start = Same 5;
  from = None;
  to = None;
  begin_at_run = false;
  cut_losses = false;
  in_parts = false;
  everywhere = false;
  moved_parts = false;
  others = None;
}

abbrev just_this : Document
just_this = record no_document {
  names = codes "t.0" ∷ [];
  jobs = record { release = 0; deadline = 10; work = 10 } ∷ [];
  slots = record { job = 0; from = of_whole 2; to = of_whole 4; work = of_whole 10 } ∷ [];
}

its_document : document_read (document_of asked lines) ≡ just_this
unfolding digits
its_document = refl

-- The text of its document, comments and all, is read as that.
it_is_read : reading (text_of asked lines) ≡ Ok just_this
unfolding digits comment unit_comment period_comment
it_is_read = refl

-- So is the text of its one part, with the line that says which part it is.
its_part_is_read : reading (part_text asked lines no_cut None) ≡ Ok just_this
unfolding digits comment unit_comment period_comment
its_part_is_read = refl

-- And that of a processor on which nothing ran, as a document without a job.
abbrev asked_elsewhere : Asked
asked_elsewhere = record asked { processor = 3; everywhere = true }

empty_part_is_read : reading (part_text asked_elsewhere lines no_cut None) ≡ Ok no_document
unfolding digits comment unit_comment period_comment
empty_part_is_read = refl

-- # A job that moved

-- It runs on processor 0 until 1040, and goes on on processor 1.
abbrev moved : List Said
moved = reverse
    (at 1000 (WakeUp thread true) ∷ at 1020 (Switch idle states.GoesOn thread) ∷ at 1040 (Switch thread states.GoesOn idle) ∷ line_of 1 1045 (Switch idle states.GoesOn thread)
    ∷ line_of 1 1060 (Switch thread states.Sleeps idle) ∷ [])

-- Of each processor, what it ran there is read under a name of its own.
share_on_0 : reading (text_of (record asked { moved_parts = true }) moved) ≡ Ok (record just_this { names = codes "t.0@0" ∷ [] })
unfolding digits comment unit_comment period_comment
share_on_0 = refl

share_on_1 : reading (text_of (record asked { moved_parts = true; processor = 1 }) moved) ≡ Ok (record no_document {
  names = codes "t.0@1" ∷ [];
  jobs = record { release = 0; deadline = 10; work = 10 } ∷ [];
  slots = record { job = 0; from = of_whole 4; to = of_whole 6; work = of_whole 10 } ∷ [];
})
unfolding digits comment unit_comment period_comment
share_on_1 = refl

-- Near miss: where that isn't asked for, it is left out.
left_out_on_0 : reading (text_of asked moved) ≡ Ok no_document
unfolding digits comment unit_comment period_comment
left_out_on_0 = refl

-- # Near misses

-- Time 0 is after the job's deadline: both of its times are 0.
abbrev late_units : Units
late_units = record { zero = 2000; time = 10; speed = 1 }

begun_before : reading (settled_text asked (settled_where asked lines late_units (λ one. true) [] (tally_of asked lines))) ≡ Err (record { line = 3; column = 11; reason = reasons.EmptyWindow })
unfolding digits comment unit_comment period_comment
begun_before = refl

-- So an end that is four units after a deadline is written in its unit.
late_in_no_unit : written_time late_units 1140 ≡ written_time late_units 1100
late_in_no_unit = refl

-- A second line of ticks is refused.
ticks_twice : reading (ticks_text ++ ticks_text) ≡ Err (record { line = 2; column = 1; reason = reasons.Misplaced })
unfolding digits
ticks_twice = refl

abbrev job : Written
job = record { name = codes "t.0"; release = 0; deadline = 10; work = 10; runs = record { from = 2; to = 4; speed = 5 } ∷ [] }

abbrev runs : List Placed
runs = record { job = 0; run = record { from = 2; to = 4; speed = 5 } } ∷ []

-- Without its line of ticks no run is read.
without_ticks : reading (flat_map job_text (job ∷ []) ++ flat_map (run_text (codes "t.0" ∷ [])) runs) ≡ Err (record { line = 2; column = 1; reason = reasons.Misplaced })
unfolding digits
without_ticks = refl

-- Two jobs of one name are refused: labels differ.
one_name_twice : reading (flat_map job_text (job ∷ job ∷ []) ++ ticks_text) ≡ Err (record { line = 2; column = 5; reason = reasons.DuplicateName })
unfolding digits
one_name_twice = refl

-- A line feed in a label would end a comment, and what comes after it would be read.
line_feed : reading (comment (codes "left out: a\njob b 0 5 1" ∷ [])) ≡
    Ok (record no_document { names = codes "b" ∷ []; jobs = record { release = 0; deadline = 5; work = 1 } ∷ [] })
unfolding digits comment
line_feed = refl

-- A carriage return in one doesn't.
carriage_return : reading (comment (codes "left out: a\rjob b 0 5 1\r" ∷ [])) ≡ Ok no_document
unfolding comment
carriage_return = refl

-- So it is not in the name of another thread: it is told without its line feeds.
other_thread : reading (other_comment (record { zero = 1000; time = 10; speed = 1 }) (record { name = codes "a\njob b 0 5 1"; pid = 9; from = 1000; to = 1030 }))
    ≡ Ok no_document
unfolding digits comment
other_thread = refl

-- # Names

-- A label may have a dot and a number in it, and be another's with one more: the last dot parts it from the job's number.
second_of_a : named (codes "a") false 1 ≡ codes "a.1"
unfolding digits
second_of_a = refl

first_of_a_1 : named (codes "a.1") false 0 ≡ codes "a.1.0"
unfolding digits
first_of_a_1 = refl

-- The first job that began before the trace has a word in the number's place.
before_the_trace : named (codes "a") true 0 ≡ codes "a.before"
before_the_trace = refl

-- What a job that moved ran on processor 3. A label may have that in it: the last dot parts it from the number.
on_3 : name_in_parts (named (codes "a") false 1) (Some 3) ≡ codes "a.1@3"
unfolding digits
on_3 = refl

first_of_a_1_3 : named (codes "a.1@3") false 0 ≡ codes "a.1@3.0"
unfolding digits
first_of_a_1_3 = refl

-- Near miss: numbers of more digits than are told have one name. None is so long within 64 bytes.
too_long : named (codes "a") false 10000000000000000000000000000000000000000000000000000000000000000 ≡ named (codes "a") false 20000000000000000000000000000000000000000000000000000000000000000
unfolding digits
too_long = refl

-- # Runs and stretches

-- Time 0 is 1000, a unit of time 10.
abbrev units : Units
units = record { zero = 1000; time = 10; speed = 1 }

abbrev stretch : ℕ → ℕ → ℕ → Stretch
stretch from to khz = record { processor = 0; from = from; to = to; khz = Some khz }

-- Two stretches that meet in a unit, at one speed, are one run.
meet : IsRounded units (record { from = 0; to = 4; speed = 5 }) (stretch 1002 1022 5 ∷ stretch 1027 1041 5 ∷ [])
meet = (refl, refl, refl)

-- Near miss: a whole unit is between them.
apart : IsRounded units (record { from = 0; to = 4; speed = 5 }) (stretch 1002 1019 5 ∷ stretch 1027 1041 5 ∷ []) → ⊥
apart is = let from : 2 ≡ 1 = ap (λ (run : Run). run.from) is.2 in omega (arith, from)

-- Near miss: the second is faster.
faster : IsRounded units (record { from = 0; to = 4; speed = 5 }) (stretch 1002 1022 5 ∷ stretch 1027 1041 6 ∷ []) → ⊥
faster is = let speed : 6 ≡ 5 = ap (λ (run : Run). run.speed) is.2 in omega (arith, speed)

-- So each stretch is within the run; near miss: one that ends in a unit after it.
second_within : IsWithinRun units (stretch 1027 1041 5) (record { from = 0; to = 4; speed = 5 })
second_within = record { not_before = omega arith; not_after = omega arith; same_speed = refl }

too_late : IsWithinRun units (stretch 1027 1051 5) (record { from = 0; to = 4; speed = 5 }) → ⊥
too_late within = let end : 5 ≤ 4 = within.not_after in omega (arith, end)
