-- A certificate is proper for a schedule and its jobs. Seven conditions say so; each is a fact about one place, so that a
-- checker can try the places in order and tell the first that fails.
use Rattle.std.specs.Prelude.{◌≡◌, ℕ, ◌+◌, ◌-◌, ◌*◌, ◌<◌, ◌≤◌, List, length, take}
use Rattle.std.specs.List.{All, Contains}
use Rattle.base.specs.Numbers.{count, Each}
use Rattle.yds_model.specs.Job.{Job, job_at, work_of}
use Rattle.yds_model.specs.Slot.{WrittenSlot, WholeSlot, IsScale, slots_at, slot_at}
use Rattle.yds_model.specs.Feasible.{IsFeasible}
use Rattle.yds_model.specs.Piece.{AreApart, PiecesFrom, IsConfined, total_length}
use Rattle.yds_model.specs.Level.{Level, level_at, all_members, all_pieces}

-- the level has a piece, its pieces lie one after another, and none overlaps one of an earlier level
pub record PiecesStand (levels : List Level) (i : ℕ) : Type 0 where
  pub some : 1 ≤ length (level_at levels i).pieces
  pub in_order : PiecesFrom 0 (level_at levels i).pieces
  pub apart : All (λ piece. All (AreApart piece) (all_pieces (take i levels))) (level_at levels i).pieces

-- a job with work is a member of just one level, just once, and a job of no work at most once
pub record StandsOnce (jobs : List Job) (levels : List Level) (number : ℕ) : Type 0 where
  pub at_most_once : count number (all_members levels) ≤ 1
  pub with_work : 1 ≤ (job_at jobs number).work → count number (all_members levels) ≡ 1

-- the level's work is its members' together, and its length its pieces'
pub record SumsAgree (jobs : List Job) (levels : List Level) (i : ℕ) : Type 0 where
  pub work : (level_at levels i).work ≡ work_of jobs (level_at levels i).members
  pub length : (level_at levels i).length ≡ total_length (level_at levels i).pieces

-- the level isn't faster than the one before it
abbrev pub IsNotFaster : List Level → ℕ → Type 0
IsNotFaster levels i = (before : ℕ) → before + 1 ≡ i →
    (level_at levels i).work * (level_at levels before).length ≤ (level_at levels before).work * (level_at levels i).length

-- where the job is a member, its window is covered by the pieces of its own level and of earlier ones
abbrev pub IsWindowCovered : List Job → List Level → ℕ → Type 0
IsWindowCovered jobs levels number = (i : ℕ) → i < length levels → Contains (level_at levels i).members number →
    IsConfined (job_at jobs number) (all_pieces (take (i + 1) levels))

-- where the slot's job is a member, the slot has the level's speed
abbrev pub HasLevelSpeed : List Level → List WholeSlot → ℕ → Type 0
HasLevelSpeed levels slots s = (i : ℕ) → i < length levels → Contains (level_at levels i).members (slot_at slots s).job →
    (slot_at slots s).work * (level_at levels i).length ≡ (level_at levels i).work * ((slot_at slots s).to - (slot_at slots s).from)

-- each level has work and length, and each member is the number of a job
pub record AreLevels (jobs : List Job) (levels : List Level) : Type 0 where
  pub positive : All (λ level. (1 ≤ level.work) × (1 ≤ level.length)) levels
  pub known : All (λ level. All (λ number. number < length jobs) level.members) levels

pub record IsProper (jobs : List Job) (slots : List WrittenSlot) (levels : List Level) : Type 0 where
  pub well_formed : AreLevels jobs levels
  pub feasible : IsFeasible jobs slots
  pub pieces : Each (length levels) (PiecesStand levels)
  pub members : Each (length jobs) (StandsOnce jobs levels)
  pub sums : Each (length levels) (SumsAgree jobs levels)
  pub order : Each (length levels) (IsNotFaster levels)
  pub windows : Each (length jobs) (IsWindowCovered jobs levels)
  pub speeds : (scale : ℕ) → IsScale scale slots → Each (length slots) (HasLevelSpeed levels (slots_at scale slots))
