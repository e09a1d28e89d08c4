-- A plan of jobs: slots, and a certificate that is proper for them, in the one form in which the program writes them.
-- The offline plan of Yao, Demers and Shenker (FOCS 1995).
use Rattle.std.specs.Prelude.{◌≡◌, ℕ, ◌+◌, ◌*◌, ◌/◌, ◌<◌, ◌≤◌, ◌⊎◌, List, [], ◌∷◌, length}
use Rattle.std.specs.List.{All, Contains}
use Rattle.base.specs.Numbers.{Each}
use Rattle.yds_model.specs.Job.{Job, job_at}
use Rattle.yds_model.specs.Scale.{Fraction, of_whole}
use Rattle.yds_model.specs.Slot.{WrittenSlot, WholeSlot, IsScale, slots_at, slot_at, written_slot_at}
use Rattle.yds_model.specs.Piece.{Piece}
use Rattle.yds_model.specs.Level.{Level, level_at, all_members, all_pieces}
use Rattle.yds_model.specs.Proper.{IsProper}
use Rattle.yds_model.specs.Divisor.{common_divisor}
use Rattle.yds_model.specs.Event.{stretches, LiesIn, IsUncut}
use Rattle.yds_model.specs.EarliestFirst.{IsEarliestFirst}

-- each level is slower than the one before it
abbrev pub IsSlower : List Level → ℕ → Type 0
IsSlower levels i = (before : ℕ) → before + 1 ≡ i →
    (level_at levels i).work * (level_at levels before).length < (level_at levels before).work * (level_at levels i).length

-- neighbours among the pieces don't touch
abbrev pub DontTouch : List Piece → Type 0
DontTouch [] = Unit {0}
DontTouch (piece ∷ []) = Unit {0}
DontTouch (piece ∷ next ∷ pieces) = (piece.to < next.from) × DontTouch (next ∷ pieces)

-- the numbers rise
abbrev pub Rise : List ℕ → Type 0
Rise [] = Unit {0}
Rise (number ∷ []) = Unit {0}
Rise (number ∷ next ∷ numbers) = (number < next) × Rise (next ∷ numbers)

-- whole, or with this denominator
abbrev pub IsOver : ℕ → Fraction → Type 0
IsOver den x = (x ≡ of_whole x.whole) ⊎ (x.den ≡ den)

-- the parts of the level's speed in lowest terms
abbrev pub speed_num : Level → ℕ
speed_num level = level.work / common_divisor level.work level.length

abbrev pub speed_den : Level → ℕ
speed_den level = level.length / common_divisor level.work level.length

-- The slot's level has in lowest terms the speed W/L: its ends that aren't whole have the denominator W, and its work, where
-- it isn't whole, has L.
pub record HasLevelDenominators (level : Level) (slot : WrittenSlot) : Type 0 where
  pub from : IsOver (speed_num level) slot.from
  pub to : IsOver (speed_num level) slot.to
  pub work : IsOver (speed_den level) slot.work

-- at a scale: the slots are in order of the earliest deadline, and each lies in a stretch, one for a job and stretch
pub record IsServedInStretches (jobs : List Job) (scale : ℕ) (slots : List WholeSlot) : Type 0 where
  pub earliest_first : IsEarliestFirst jobs scale slots
  pub uncut : All (IsUncut jobs scale) slots
  pub once : (i j : ℕ) → i < j → j < length slots → (slot_at slots i).job ≡ (slot_at slots j).job →
      All (λ stretch. LiesIn scale (slot_at slots i) stretch → LiesIn scale (slot_at slots j) stretch → ⊥) (stretches jobs)

pub record IsPlan (jobs : List Job) (slots : List WrittenSlot) (levels : List Level) : Type 0 where
  pub proper : IsProper jobs slots levels
  pub falling : Each (length levels) (IsSlower levels)
  pub pieces_apart : All (λ level. DontTouch level.pieces) levels
  pub members_rise : All (λ level. Rise level.members) levels
  pub members_work : All (λ number. 1 ≤ (job_at jobs number).work) (all_members levels)
  pub served : (scale : ℕ) → IsScale scale slots → IsServedInStretches jobs scale (slots_at scale slots)
  pub few_slots : length slots ≤ 3 * length jobs
  pub few_pieces : length (all_pieces levels) ≤ 3 * length jobs
  pub denominators : (i s : ℕ) → i < length levels → s < length slots →
      Contains (level_at levels i).members (written_slot_at slots s).job → HasLevelDenominators (level_at levels i) (written_slot_at slots s)
