-- What is written for a stretch of a timetable: the plan's slots, or for each share a slot at the faster point as far as the switch and
-- one at the slower point from there on. A stretch's work is counted in units, as its shares are done one after another.
use Rattle.std.specs.Prelude.{◌≡◌, ℕ, ◌+◌, ◌-◌, ◌*◌, min, max, List, [], ◌∷◌, ◌++◌, nat_lt, Option, Some, None, if◌then◌else◌}
use Rattle.std.specs.List.{All}
use Rattle.yds_model.specs.Scale.{Fraction, of_parts}
use Rattle.yds_model.specs.Slot.{WrittenSlot}
use Rattle.yds_model.specs.Piece.{Piece}
use Rattle.yds_model.specs.Plan.{IsOver}
use Rattle.yds_events.specs.Stretch.{length_of}
use Rattle.yds_timetable.specs.Shares.{JobShare}
use Rattle.yds_round.specs.declared.split.Split.{Split}

-- what the level does in the stretch, and of that what it does above the slower point's speed
abbrev pub all_units : Split → Piece → ℕ
all_units split stretch = (split.surplus + split.low * split.den) * length_of stretch

abbrev pub surplus_of : Split → Piece → ℕ
surplus_of split stretch = split.surplus * length_of stretch

-- the work until the switch, in parts of 1/gap of a unit
abbrev pub turn : Split → Piece → ℕ
turn split stretch = split.high * surplus_of split stretch

-- the time so many parts of 1/den after the start of the stretch
abbrev pub moment : Piece → ℕ → ℕ → Fraction
moment stretch parts den = of_parts (stretch.from * den + parts) den

-- One of the two parts: how many parts of 1/den have passed, and how many of 1/grain are done, when so many units are.
pub record Course : Type 0 where
  pub time : ℕ → ℕ
  pub work : ℕ → ℕ
  pub den : ℕ
  pub grain : ℕ

-- at the faster point, as far as the switch
abbrev pub fast_course : Split → Piece → Course
fast_course split stretch = record {
  time = λ units. min (units * split.fast.step) (surplus_of split stretch * split.fast.switch);
  work = λ units. min (units * split.gap) (turn split stretch);
  den = split.fast.den;
  grain = split.den * split.gap;
}

-- at the slower point, from the switch on
abbrev pub slow_course : Split → Piece → Course
slow_course split stretch = record {
  time = λ units. max ((units - surplus_of split stretch) * split.slow.step) (surplus_of split stretch * split.slow.switch);
  work = λ units. max (units * split.gap) (turn split stretch);
  den = split.slow.den;
  grain = split.den * split.gap;
}

-- a job's slot in that part while the units from one number to another are done, if it does any there
abbrev pub slot_between : Course → Piece → ℕ → ℕ → ℕ → List WrittenSlot
slot_between course stretch job from to =
    if nat_lt (course.work from) (course.work to)
    then record {
      job = job;
      from = moment stretch (course.time from) course.den;
      to = moment stretch (course.time to) course.den;
      work = of_parts (course.work to - course.work from) course.grain;
    } ∷ []
    else []

-- the slots in that part of all these shares, before which so many units are done
abbrev pub slots_after : Course → Piece → ℕ → List JobShare → List WrittenSlot
slots_after course stretch done [] = []
slots_after course stretch done (share ∷ shares) =
    slot_between course stretch share.job done (done + share.units) ++ slots_after course stretch (done + share.units) shares

-- both parts
abbrev pub cut_slots : Split → Piece → List JobShare → List WrittenSlot
cut_slots split stretch shares =
    slots_after (fast_course split stretch) stretch 0 shares ++ slots_after (slow_course split stretch) stretch 0 shares

-- all of it, by the pace of the level: the plan's slots, or the shares cut
abbrev pub written_at : Piece → List JobShare → List WrittenSlot → Option Split → List WrittenSlot
written_at stretch shares planned None = planned
written_at stretch shares planned (Some split) = cut_slots split stretch shares

-- the works of the job so far are whole, or have this denominator
abbrev pub FitsJob : ℕ → List WrittenSlot → ℕ → Type 0
FitsJob grain slots job = All (λ slot. slot.job ≡ job → IsOver grain slot.work) slots

abbrev pub listed : Option WrittenSlot → List WrittenSlot
listed None = []
listed (Some slot) = slot ∷ []
