-- What the line of a slot says, by its fields and by the names of the jobs and the slots before it.
use Rattle.std.specs.Prelude.{◌≡◌, ◌⊎◌, ℕ, List, Some, None, Result, Ok, Bool, ◌==◌, ◌||◌, if◌then◌else◌}
use Rattle.std.specs.List.{list_all, filter_map}
use Rattle.base.specs.declared.limits.TheConstants.{MAX_TIME, MAX_SLOT_WORK}
use Rattle.yds_model.specs.declared.reason.Reason.{Reason}
use Rattle.yds_model.specs.declared.reason.Reason.TheVariants as reasons
use Rattle.yds_model.specs.Scale.{Fraction}
use Rattle.yds_model.specs.Slot.{WrittenSlot}
use Rattle.base.specs.Lines.{Field}
use Rattle.yds_model.specs.Entry.{Entry, SlotEntry}
use Rattle.base.specs.Fields.{Spot, ◌>>=◌, demand}
use Rattle.yds_model.specs.Reading.{fraction_in, are_alike}
use Rattle.yds_model.specs.Audit.{grain_of}
use Rattle.document_reader.specs.Fields.{known_job_of}

-- the works that these slots give the job
abbrev pub works_among : List WrittenSlot → ℕ → List Fraction
works_among slots job = filter_map (λ slot. if slot.job == job then Some slot.work else None) slots

abbrev pub fits_among : List WrittenSlot → ℕ → Fraction → Bool
fits_among slots job work = list_all (are_alike work) (works_among slots job)

-- the test of a denominator against the grain of its job
abbrev pub fits_test : ℕ → ℕ → Bool
fits_test den grain = (den == grain) || (den == 1) || (grain == 1)

-- a slot of this job and this work may stand after the slots
abbrev pub FitsGrainOf : List WrittenSlot → ℕ → Fraction → Type 0
FitsGrainOf slots job work = (work.den ≡ 1) ⊎ ((grain_of slots job ≡ 1) ⊎ (work.den ≡ grain_of slots job))

abbrev pub slot_of : List (List ℕ) → List WrittenSlot → Field → Field → Field → Field → Result Entry (Spot Reason)
slot_of names slots a b c d = do
  job ← known_job_of names a
  from ← fraction_in MAX_TIME b
  to ← fraction_in MAX_TIME c
  work ← fraction_in MAX_SLOT_WORK d
  ends ← demand (are_alike from to) c.column reasons.MixedEnds
  grain ← demand (fits_among slots job work) d.column reasons.MixedGrain
  Ok (SlotEntry (record { job = job; from = from; to = to; work = work }))
