-- What a schedule keeps: its slots are within the limits, and beside each job stands what the slots give it.
use Rattle.std.specs.Prelude.{◌≡◌, ℕ, ◌+◌, ◌*◌, ◌<◌, ◌≤◌, ◌⊎◌, List, length}
use Rattle.std.specs.List.{All, slice_index_or}
use Rattle.std.specs.Int.{◌∣◌}
use Rattle.base.specs.declared.limits.TheConstants.{MAX_DENOMINATOR, MAX_SLOTS, MAX_SLOT_WORK}
use Rattle.yds_model.specs.Scale.{of_whole, at_scale}
use Rattle.yds_model.specs.Slot.{WrittenSlot, IsScale, slots_at, work_given}
use Rattle.yds_model.specs.Audit.{grain_of, given_of}
use Rattle.yds_model.specs.Within.{IsSlot}
use Rattle.yds_fraction.specs.Mixed.{IsMixed}
use Rattle.yds_slots.specs.Received.{Receipt}

-- the slot's work is whole, or has its job's grain
abbrev pub IsInGrain : List WrittenSlot → WrittenSlot → Type 0
IsInGrain slots slot = (slot.work.den ≡ 1) ⊎ (slot.work.den ≡ grain_of slots slot.job)

-- this is what the slots give the job
pub record IsReceiptOf (slots : List WrittenSlot) (job : ℕ) (receipt : Receipt) : Type 0 where
  pub grain : receipt.grain ≡ grain_of slots job
  pub given : receipt.given ≡ given_of slots job
  pub mixed : IsMixed MAX_DENOMINATOR receipt.given
  pub few : receipt.given.whole ≤ length slots * (MAX_SLOT_WORK + 1)
  pub at_scales : (scale : ℕ) → IsScale scale slots →
      (receipt.given.den ∣ scale) × (at_scale scale receipt.given ≡ work_given (slots_at scale slots) job)

abbrev pub nothing : Receipt
nothing = record { grain = 1; given = of_whole 0 }

abbrev pub receipt_at : List Receipt → ℕ → Receipt
receipt_at receipts job = slice_index_or receipts job nothing

-- The receipts are those of the first jobs, at least of each that has a slot. The jobs behind them have got nothing.
pub record IsKept (jobs : ℕ) (slots : List WrittenSlot) (receipts : List Receipt) : Type 0 where
  pub few : length slots ≤ MAX_SLOTS
  pub each : All IsSlot slots
  pub known : All (λ slot. slot.job < jobs) slots
  pub reached : All (λ slot. slot.job < length receipts) slots
  pub grains : All (IsInGrain slots) slots
  pub given : (job : ℕ) → IsReceiptOf slots job (receipt_at receipts job)
