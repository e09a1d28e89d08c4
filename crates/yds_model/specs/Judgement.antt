-- The checker's judgement of slots and levels: accepted, or the first of seven conditions that fails, with its place. Each is
-- tried over all its levels, jobs or slots in order before the next.
use Rattle.std.specs.Prelude.{◌≢◌, ℕ, ◌<◌, List, length, None}
use Rattle.std.specs.List.{Contains}
use Rattle.base.specs.Numbers.{Each, IsFirstFailure}
use Rattle.yds_model.specs.Job.{Job}
use Rattle.yds_model.specs.Slot.{WrittenSlot, written_slot_at}
use Rattle.yds_model.specs.Level.{Level, level_at}
use Rattle.yds_model.specs.Proper.{PiecesStand, StandsOnce, SumsAgree, IsNotFaster, IsWindowCovered}
use Rattle.yds_model.specs.Audit.{Verdict, Feasible, IsVerdict, HasSpeed}

-- Levels, jobs and slots are told by their numbers, from 0.
pub data Judgement : Type 0 where
  Accepted : Judgement
  Slots : (verdict : Verdict) → Judgement
  Pieces : (level : ℕ) → Judgement
  Members : (job : ℕ) → Judgement
  Sums : (level : ℕ) → Judgement
  Order : (level : ℕ) → Judgement
  Window : (job : ℕ) → Judgement
  Speed : (slot : ℕ) → Judgement

-- where the slot's job is a member, the slot has the level's speed
abbrev pub HasWrittenSpeed : List Level → List WrittenSlot → ℕ → Type 0
HasWrittenSpeed levels slots s = (i : ℕ) → i < length levels → Contains (level_at levels i).members (written_slot_at slots s).job →
    HasSpeed (level_at levels i).work (level_at levels i).length (written_slot_at slots s)

-- the conditions that hold before the one that fails
abbrev pub SlotsHold : List Job → List WrittenSlot → Type 0
SlotsHold jobs slots = IsVerdict jobs None slots Feasible

abbrev pub PiecesHold : List Job → List WrittenSlot → List Level → Type 0
PiecesHold jobs slots levels = SlotsHold jobs slots × Each (length levels) (PiecesStand levels)

abbrev pub MembersHold : List Job → List WrittenSlot → List Level → Type 0
MembersHold jobs slots levels = PiecesHold jobs slots levels × Each (length jobs) (StandsOnce jobs levels)

abbrev pub SumsHold : List Job → List WrittenSlot → List Level → Type 0
SumsHold jobs slots levels = MembersHold jobs slots levels × Each (length levels) (SumsAgree jobs levels)

abbrev pub OrderHolds : List Job → List WrittenSlot → List Level → Type 0
OrderHolds jobs slots levels = SumsHold jobs slots levels × Each (length levels) (IsNotFaster levels)

abbrev pub WindowsHold : List Job → List WrittenSlot → List Level → Type 0
WindowsHold jobs slots levels = OrderHolds jobs slots levels × Each (length jobs) (IsWindowCovered jobs levels)

-- What a judgement says. Of jobs, slots and levels, just one judgement is so.
abbrev pub IsJudgement : List Job → List WrittenSlot → List Level → Judgement → Type 0
IsJudgement jobs slots levels Accepted = WindowsHold jobs slots levels × Each (length slots) (HasWrittenSpeed levels slots)
IsJudgement jobs slots levels (Slots verdict) = IsVerdict jobs None slots verdict × (verdict ≢ Feasible)
IsJudgement jobs slots levels (Pieces i) = SlotsHold jobs slots × IsFirstFailure (length levels) (PiecesStand levels) i
IsJudgement jobs slots levels (Members job) = PiecesHold jobs slots levels × IsFirstFailure (length jobs) (StandsOnce jobs levels) job
IsJudgement jobs slots levels (Sums i) = MembersHold jobs slots levels × IsFirstFailure (length levels) (SumsAgree jobs levels) i
IsJudgement jobs slots levels (Order i) = SumsHold jobs slots levels × IsFirstFailure (length levels) (IsNotFaster levels) i
IsJudgement jobs slots levels (Window job) = OrderHolds jobs slots levels × IsFirstFailure (length jobs) (IsWindowCovered jobs levels) job
IsJudgement jobs slots levels (Speed s) = WindowsHold jobs slots levels × IsFirstFailure (length slots) (HasWrittenSpeed levels slots) s
