-- A schedule of so many jobs: the list of its slots.
use Rattle.std.specs.Prelude.{◌≡◌, ℕ, ◌⊎◌, List}
use Rattle.yds_model.specs.Slot.{WrittenSlot}
use Rattle.yds_model.specs.Audit.{grain_of}

pub record WrittenSchedule : Type 0 where
  pub jobs : ℕ
  pub slots : List WrittenSlot

-- the slot's work is whole, or its job's works have been whole so far, or it has their denominator
abbrev pub FitsGrain : List WrittenSlot → WrittenSlot → Type 0
FitsGrain slots slot =
    (slot.work.den ≡ 1) ⊎ ((grain_of slots slot.job ≡ 1) ⊎ (slot.work.den ≡ grain_of slots slot.job))
