-- When jobs are late, and times as a document has them.
use Rattle.base.proofs.Common.{◌≡◌, [], ◌∷◌, true, false, Some, None, refl}
use Rattle.yds_trace.specs.declared.job.End.TheVariants as ends
use Rattle.yds_trace.specs.Late.{late_by}
use Rattle.yds_trace.specs.WrittenTime.{Units, written_time, written_speed, is_coarse, runs_of, is_short}
use Rattle.yds_trace_examples.proofs.Lines.{stretch}

-- # Late, with a deadline at 110 and a trace that ends at 200

-- it ends at its deadline, in time
in_time : late_by None 200 110 (ends.Ended 110) ≡ None
in_time = refl

-- a nanosecond after it
late_by_one : late_by None 200 110 (ends.Ended 111) ≡ Some 1
late_by_one = refl

-- still open when the trace ends, at its deadline: late by 0
late_by_nothing : late_by None 110 110 ends.Open ≡ Some 0
late_by_nothing = refl

-- near miss: the trace ends before the deadline
not_due : late_by None 109 110 ends.Open ≡ None
not_due = refl

-- what was due before `from` is late where it is open behind it
due_before_from : late_by (Some 120) 200 110 (ends.Ended 150) ≡ Some 40
due_before_from = refl

open_from_end_to_end : late_by (Some 120) 200 110 ends.Open ≡ Some 90
open_from_end_to_end = refl

-- near misses: it ended by then; it wasn't seen open behind it
ended_at_from : late_by (Some 150) 200 110 (ends.Ended 150) ≡ None
ended_at_from = refl

lost_before_from : late_by (Some 120) 200 110 (ends.Lost 115) ≡ None
lost_before_from = refl

-- it was still open at 120, after which events were lost: it is late by 10 at least
late_before_a_loss : late_by None 200 110 (ends.Lost 120) ≡ Some 10
late_before_a_loss = refl

-- near miss: last seen before its deadline
not_known_late : late_by None 200 110 (ends.Lost 109) ≡ None
not_known_late = refl

-- # Written times and speeds, where a unit of time is 10 and one of speed 100

abbrev units : Units
units = record { zero = 1000; time = 10; speed = 100 }

rounded_down : written_time units 1019 ≡ 1
rounded_down = refl

to_the_nearest : written_speed units 1949 ≡ 19
to_the_nearest = refl

half_a_unit_up : written_speed units 1950 ≡ 20
half_a_unit_up = refl

-- a twentieth off, and a bit more
not_coarse : is_coarse units 2000 ≡ false
not_coarse = refl

coarse : is_coarse units 949 ≡ true
coarse = refl

-- a speed of 0 does no work
no_speed : is_coarse units 0 ≡ true
no_speed = refl

-- # Runs, where a unit of time is 10 and one of speed 5

abbrev fives : Units
fives = record { zero = 0; time = 10; speed = 5 }

-- Two stretches that meet in one unit are one run: another thread had the processor from 25 to 28.
met : runs_of fives (stretch 0 0 25 ∷ stretch 0 28 40 ∷ []) ≡ record { from = 0; to = 4; speed = 1 } ∷ []
met = refl

-- near miss: from 19 to 28 it had the whole of no unit, but the second unit of the document isn't this job's
apart : runs_of fives (stretch 0 0 19 ∷ stretch 0 28 40 ∷ []) ≡ record { from = 0; to = 1; speed = 1 } ∷ record { from = 2; to = 4; speed = 1 } ∷ []
apart = refl

-- at another speed it is another run
at_another_speed : runs_of fives (stretch 0 0 25 ∷ record (stretch 0 25 40) { khz = Some 10 } ∷ []) ≡
    record { from = 0; to = 2; speed = 1 } ∷ record { from = 2; to = 4; speed = 2 } ∷ []
at_another_speed = refl

-- a stretch within one unit isn't written, and is counted
within_a_unit : runs_of fives (stretch 0 11 19 ∷ []) ≡ []
within_a_unit = refl

counted : is_short fives (stretch 0 11 19) ≡ true
counted = refl

-- near misses: one that takes no time, and one that ends in the next unit
takes_no_time : is_short fives (stretch 0 11 11) ≡ false
takes_no_time = refl

ends_in_the_next : is_short fives (stretch 0 11 20) ≡ false
ends_in_the_next = refl
