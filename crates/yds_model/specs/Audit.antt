-- The auditor's verdict on written slots: feasible, or the first cause that they aren't. The slots are gone through in order,
-- of each five causes are tried in order, and then the jobs are gone through.
use Rattle.std.specs.Prelude.{◌≡◌, ◌≢◌, ℕ, ◌+◌, ◌-◌, ◌*◌, ◌/◌, ◌<◌, List, length, sum_by, fold, max, Option, Some, None, ◌==◌, if◌then◌else◌}
use Rattle.std.specs.List.{All, Any}
use Rattle.base.specs.Numbers.{Each}
use Rattle.yds_model.specs.Job.{Job, job_at}
use Rattle.yds_model.specs.Scale.{Fraction, of_whole, of_parts, numerator, AreAlike, IsLess, IsAtMost}
use Rattle.yds_model.specs.Slot.{WrittenSlot, written_slot_at, IsSolid}
use Rattle.yds_model.specs.Table.{Point}

-- Slots and jobs are told by their numbers, from 0.
pub data Verdict : Type 0 where
  Feasible : Verdict
  Backward : (slot : ℕ) → Verdict
  Overlap : (slot : ℕ) → Verdict
  Early : (slot : ℕ) → Verdict
  Late : (slot : ℕ) → Verdict
  OffPoint : (slot : ℕ) → Verdict
  WrongWork : (job : ℕ) (given : Fraction) (wanted : ℕ) → Verdict

-- (to - from), times both denominators
abbrev pub crossed_length : Fraction → Fraction → ℕ
crossed_length from to = numerator to * from.den - numerator from * to.den

-- the slot's speed is num/den, by cross products
abbrev pub HasSpeed : ℕ → ℕ → WrittenSlot → Type 0
HasSpeed num den slot =
    numerator slot.work * den * (slot.from.den * slot.to.den) ≡ num * crossed_length slot.from slot.to * slot.work.den

-- the slot runs at this whole speed
abbrev pub RunsAt : ℕ → WrittenSlot → Type 0
RunsAt speed slot = numerator slot.work * (slot.from.den * slot.to.den) ≡ speed * crossed_length slot.from slot.to * slot.work.den

abbrev pub IsOnTable : Option (List Point) → WrittenSlot → Type 0
IsOnTable None slot = Unit {0}
IsOnTable (Some points) slot = Any (λ point. RunsAt point.speed slot) points

abbrev pub IsAfterOthers : List WrittenSlot → ℕ → Type 0
IsAfterOthers slots i = (before : ℕ) → before + 1 ≡ i → IsAtMost (written_slot_at slots before).to (written_slot_at slots i).from

abbrev pub release_of : List Job → WrittenSlot → Fraction
release_of jobs slot = of_whole (job_at jobs slot.job).release

abbrev pub deadline_of : List Job → WrittenSlot → Fraction
deadline_of jobs slot = of_whole (job_at jobs slot.job).deadline

-- the slot at a place takes time, begins after the one before it has ended, lies in its job's window, and has a point's speed
-- where a table is given
pub record Stands (jobs : List Job) (table : Option (List Point)) (slots : List WrittenSlot) (i : ℕ) : Type 0 where
  pub forward : IsLess (written_slot_at slots i).from (written_slot_at slots i).to
  pub after : IsAfterOthers slots i
  pub released : IsAtMost (release_of jobs (written_slot_at slots i)) (written_slot_at slots i).from
  pub due : IsAtMost (written_slot_at slots i).to (deadline_of jobs (written_slot_at slots i))
  pub on_table : IsOnTable table (written_slot_at slots i)

-- the denominator of the job's works that aren't whole, or 1
abbrev pub grain_of : List WrittenSlot → ℕ → ℕ
grain_of slots job = fold (λ grain slot. if slot.job == job then max grain slot.work.den else grain) 1 slots

-- the job's works together, in parts of its grain
abbrev pub parts_given : List WrittenSlot → ℕ → ℕ
parts_given slots job = sum_by (λ slot. if slot.job == job then numerator slot.work * (grain_of slots job / slot.work.den) else 0) slots

abbrev pub given_of : List WrittenSlot → ℕ → Fraction
given_of slots job = of_parts (parts_given slots job) (grain_of slots job)

abbrev pub GetsItsWork : List Job → List WrittenSlot → ℕ → Type 0
GetsItsWork jobs slots job = parts_given slots job ≡ (job_at jobs job).work * grain_of slots job

-- all slots before this one stand, and it is one of the slots
pub record ComesTo (jobs : List Job) (table : Option (List Point)) (slots : List WrittenSlot) (i : ℕ) : Type 0 where
  pub within : i < length slots
  pub before : Each i (Stands jobs table slots)

-- each cause as the first that holds
pub record IsBackward (jobs : List Job) (table : Option (List Point)) (slots : List WrittenSlot) (i : ℕ) : Type 0 where
  pub comes : ComesTo jobs table slots i
  pub backward : IsAtMost (written_slot_at slots i).to (written_slot_at slots i).from

pub record IsOverlap (jobs : List Job) (table : Option (List Point)) (slots : List WrittenSlot) (i : ℕ) : Type 0 where
  pub comes : ComesTo jobs table slots i
  pub forward : IsLess (written_slot_at slots i).from (written_slot_at slots i).to
  pub before : ℕ
  pub is_before : before + 1 ≡ i
  pub overlaps : IsLess (written_slot_at slots i).from (written_slot_at slots before).to

pub record IsEarly (jobs : List Job) (table : Option (List Point)) (slots : List WrittenSlot) (i : ℕ) : Type 0 where
  pub comes : ComesTo jobs table slots i
  pub forward : IsLess (written_slot_at slots i).from (written_slot_at slots i).to
  pub after : IsAfterOthers slots i
  pub early : IsLess (written_slot_at slots i).from (release_of jobs (written_slot_at slots i))

pub record IsLate (jobs : List Job) (table : Option (List Point)) (slots : List WrittenSlot) (i : ℕ) : Type 0 where
  pub comes : ComesTo jobs table slots i
  pub forward : IsLess (written_slot_at slots i).from (written_slot_at slots i).to
  pub after : IsAfterOthers slots i
  pub released : IsAtMost (release_of jobs (written_slot_at slots i)) (written_slot_at slots i).from
  pub late : IsLess (deadline_of jobs (written_slot_at slots i)) (written_slot_at slots i).to

pub record IsOffPoint (jobs : List Job) (table : Option (List Point)) (slots : List WrittenSlot) (i : ℕ) : Type 0 where
  pub comes : ComesTo jobs table slots i
  pub forward : IsLess (written_slot_at slots i).from (written_slot_at slots i).to
  pub after : IsAfterOthers slots i
  pub released : IsAtMost (release_of jobs (written_slot_at slots i)) (written_slot_at slots i).from
  pub due : IsAtMost (written_slot_at slots i).to (deadline_of jobs (written_slot_at slots i))
  pub off : IsOnTable table (written_slot_at slots i) → ⊥

pub record IsWrongWork (jobs : List Job) (table : Option (List Point)) (slots : List WrittenSlot) (job : ℕ) (given : Fraction) (wanted : ℕ) : Type 0 where
  pub stand : Each (length slots) (Stands jobs table slots)
  pub within : job < length jobs
  pub before : Each job (GetsItsWork jobs slots)
  pub wrong : parts_given slots job ≢ (job_at jobs job).work * grain_of slots job
  pub is_given : given ≡ given_of slots job
  pub is_wanted : wanted ≡ (job_at jobs job).work

pub record AllStand (jobs : List Job) (table : Option (List Point)) (slots : List WrittenSlot) : Type 0 where
  pub stand : Each (length slots) (Stands jobs table slots)
  pub served : Each (length jobs) (GetsItsWork jobs slots)

-- What a verdict says. Of slots, jobs and a table, just one verdict is so.
abbrev pub IsVerdict : List Job → Option (List Point) → List WrittenSlot → Verdict → Type 0
IsVerdict jobs table slots Feasible = AllStand jobs table slots
IsVerdict jobs table slots (Backward i) = IsBackward jobs table slots i
IsVerdict jobs table slots (Overlap i) = IsOverlap jobs table slots i
IsVerdict jobs table slots (Early i) = IsEarly jobs table slots i
IsVerdict jobs table slots (Late i) = IsLate jobs table slots i
IsVerdict jobs table slots (OffPoint i) = IsOffPoint jobs table slots i
IsVerdict jobs table slots (WrongWork job given wanted) = IsWrongWork jobs table slots job given wanted

-- the works of one job are alike
abbrev pub AreInGrain : List WrittenSlot → Type 0
AreInGrain slots = (i j : ℕ) → i < length slots → j < length slots →
    (written_slot_at slots i).job ≡ (written_slot_at slots j).job → AreAlike (written_slot_at slots i).work (written_slot_at slots j).work

-- what the types of the program keep of slots: denominators of at least 1, jobs that are known, and works of one job that are
-- whole or have one denominator
pub record AreSlots (jobs : ℕ) (slots : List WrittenSlot) : Type 0 where
  pub solid : All IsSolid slots
  pub known : All (λ slot. slot.job < jobs) slots
  pub alike : AreInGrain slots
