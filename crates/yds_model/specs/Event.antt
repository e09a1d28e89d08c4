-- The event points of jobs, which are their releases and deadlines, and the stretches between neighbours of them.
use Rattle.std.specs.Prelude.{ℕ, ◌*◌, ◌≤◌, List, [], ◌∷◌, nat_lt, ◌==◌, if◌then◌else◌}
use Rattle.std.specs.List.{flat_map, slice_index_or, Any}
use Rattle.yds_model.specs.Job.{Job}
use Rattle.yds_model.specs.Scale.{numerator}
use Rattle.yds_model.specs.Slot.{WrittenSlot, WholeSlot}
use Rattle.yds_model.specs.Piece.{Piece}

-- a time among rising times, once
abbrev pub with_time : ℕ → List ℕ → List ℕ
with_time time [] = time ∷ []
with_time time (first ∷ times) =
    if nat_lt time first then time ∷ first ∷ times
    else (if time == first then first ∷ times else first ∷ with_time time times)

abbrev pub rising_times : List ℕ → List ℕ
rising_times [] = []
rising_times (time ∷ times) = with_time time (rising_times times)

-- the releases and deadlines, rising, without repeats
abbrev pub event_points : List Job → List ℕ
event_points jobs = rising_times (flat_map (λ job. job.release ∷ job.deadline ∷ []) jobs)

abbrev pub neighbours : List ℕ → List Piece
neighbours [] = []
neighbours (time ∷ []) = []
neighbours (time ∷ next ∷ times) = record { from = time; to = next } ∷ neighbours (next ∷ times)

abbrev pub stretches : List Job → List Piece
stretches jobs = neighbours (event_points jobs)

-- the stretch at a place; one of no length stands where there is none
abbrev pub stretch_at : List Job → ℕ → Piece
stretch_at jobs i = slice_index_or (stretches jobs) i (record { from = 0; to = 0 })

-- the slot doesn't begin before the stretch and doesn't end after it
pub record LiesIn (scale : ℕ) (slot : WholeSlot) (stretch : Piece) : Type 0 where
  pub from : stretch.from * scale ≤ slot.from
  pub to : slot.to ≤ stretch.to * scale

-- the same of a written slot
pub record LiesWritten (slot : WrittenSlot) (stretch : Piece) : Type 0 where
  pub from : stretch.from * slot.from.den ≤ numerator slot.from
  pub to : numerator slot.to ≤ stretch.to * slot.to.den

-- the slot lies in one stretch
abbrev pub IsUncut : List Job → ℕ → WholeSlot → Type 0
IsUncut jobs scale slot = Any (LiesIn scale slot) (stretches jobs)
