-- A slot: a job runs from one time to another, and gets so much work. A written slot has fractions. At a scale M
-- it is a slot of whole numbers: the job runs from from/M to to/M, and gets the work work/M.
use Rattle.std.specs.Prelude.{ℕ, ◌≤◌, List, map, sum_by, ◌==◌, if◌then◌else◌}
use Rattle.std.specs.List.{slice_index_or, All}
use Rattle.std.specs.Int.{◌∣◌}
use Rattle.yds_model.specs.Scale.{Fraction, at_scale, of_whole}

pub record WrittenSlot : Type 0 where
  pub job : ℕ
  pub from : Fraction
  pub to : Fraction
  pub work : Fraction

pub record WholeSlot : Type 0 where
  pub job : ℕ
  pub from : ℕ
  pub to : ℕ
  pub work : ℕ

-- the scale is a multiple of the slot's three denominators
pub record IsDivided (scale : ℕ) (slot : WrittenSlot) : Type 0 where
  pub from : slot.from.den ∣ scale
  pub to : slot.to.den ∣ scale
  pub work : slot.work.den ∣ scale

-- a scale of written slots: a common multiple of all their denominators
pub record IsScale (scale : ℕ) (slots : List WrittenSlot) : Type 0 where
  pub positive : 1 ≤ scale
  pub divided : All (IsDivided scale) slots

-- the denominators of a written slot are at least 1, as those of each slot of the program are
pub record IsSolid (slot : WrittenSlot) : Type 0 where
  pub from : 1 ≤ slot.from.den
  pub to : 1 ≤ slot.to.den
  pub work : 1 ≤ slot.work.den

abbrev pub slot_at_scale : ℕ → WrittenSlot → WholeSlot
slot_at_scale scale slot = record {
  job = slot.job;
  from = at_scale scale slot.from;
  to = at_scale scale slot.to;
  work = at_scale scale slot.work;
}

-- a written schedule at a scale
abbrev pub slots_at : ℕ → List WrittenSlot → List WholeSlot
slots_at scale slots = map (slot_at_scale scale) slots

-- P holds of written slots at each of their scales. Their denominators are at least 1, so there is a scale.
pub record AtEachScale (slots : List WrittenSlot) (P : ℕ → List WholeSlot → Type 0) : Type 0 where
  pub solid : All IsSolid slots
  pub holds : (scale : ℕ) → IsScale scale slots → P scale (slots_at scale slots)

-- the work that the slots give a job, together
abbrev pub work_given : List WholeSlot → ℕ → ℕ
work_given slots job = sum_by (λ slot. if job == slot.job then slot.work else 0) slots

-- the slot at a place; `no_slot` stands where there is none
abbrev pub no_slot : WholeSlot
no_slot = record { job = 0; from = 0; to = 0; work = 0 }

abbrev pub slot_at : List WholeSlot → ℕ → WholeSlot
slot_at slots i = slice_index_or slots i no_slot

abbrev pub no_written_slot : WrittenSlot
no_written_slot = record { job = 0; from = of_whole 0; to = of_whole 0; work = of_whole 0 }

abbrev pub written_slot_at : List WrittenSlot → ℕ → WrittenSlot
written_slot_at slots i = slice_index_or slots i no_written_slot
