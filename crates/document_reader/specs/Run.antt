-- What the line of a run says, by its fields, by the ticks and by the names of the jobs and the slots before it.
use Rattle.std.specs.Prelude.{ℕ, ◌*◌, ◌-◌, ◌/◌, List, Result, Ok, nat_le}
use Rattle.base.specs.declared.limits.TheConstants.{MAX_TIME, MAX_RUN_SPEED, MAX_SLOT_WORK}
use Rattle.yds_model.specs.declared.reason.Reason.{Reason}
use Rattle.yds_model.specs.declared.reason.Reason.TheVariants as reasons
use Rattle.yds_model.specs.Scale.{of_parts}
use Rattle.yds_model.specs.Slot.{WrittenSlot}
use Rattle.base.specs.Lines.{Field}
use Rattle.yds_model.specs.Entry.{Entry, SlotEntry}
use Rattle.base.specs.Fields.{Spot, ◌>>=◌, demand}
use Rattle.yds_model.specs.Reading.{number_in}
use Rattle.document_reader.specs.Fields.{known_job_of}
use Rattle.document_reader.specs.Slot.{fits_among}

-- the slot of a run of this job
abbrev pub run_slot : ℕ → ℕ → ℕ → ℕ → ℕ → WrittenSlot
run_slot ticks job from to speed = record { job = job; from = of_parts from ticks; to = of_parts to ticks; work = of_parts (speed * (to - from)) ticks }

-- a run of this job between these ticks at this speed, whose field has this column
abbrev pub run_between : List WrittenSlot → ℕ → ℕ → ℕ → ℕ → ℕ → ℕ → Result Entry (Spot Reason)
run_between slots ticks job from to speed column = do
  small ← demand (nat_le (speed * (to - from) / ticks) MAX_SLOT_WORK) column reasons.OutOfRange
  grain ← demand (fits_among slots job (of_parts (speed * (to - from)) ticks)) column reasons.MixedGrain
  Ok (SlotEntry (run_slot ticks job from to speed))

-- a run of this job, by its fields
abbrev pub run_after : List WrittenSlot → ℕ → ℕ → Field → Field → Field → Result Entry (Spot Reason)
run_after slots ticks job b c d = do
  from ← number_in 0 (MAX_TIME * ticks) b
  to ← number_in 0 (MAX_TIME * ticks) c
  speed ← number_in 0 MAX_RUN_SPEED d
  run_between slots ticks job from to speed d.column

abbrev pub run_of : List (List ℕ) → List WrittenSlot → ℕ → Field → Field → Field → Field → Result Entry (Spot Reason)
run_of names slots ticks a b c d = do
  job ← known_job_of names a
  run_after slots ticks job b c d
