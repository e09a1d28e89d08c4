-- Jobs and slots in parts, one after another. No window has to be closed between two parts.
use Rattle.std.specs.Prelude.{ℕ, List, [], ◌∷◌, ◌++◌, fold, sum_by}
use Rattle.yds_model.specs.Job.{Job}
use Rattle.yds_model.specs.Scale.{Fraction, of_whole, IsAtMost}
use Rattle.yds_model.specs.Slot.{WrittenSlot, AtEachScale}
use Rattle.yds_model.specs.Feasible.{RunFrom}
use Rattle.yds_model.specs.Energy.{horizon}
use Rattle.yds_parts.specs.Parts.{slots_in_turn, AreOf}

-- jobs, and slots whose jobs are told by their places among these
pub record Part : Type 0 where
  pub jobs : List Job
  pub slots : List WrittenSlot

-- Each slot is one of the part's own jobs. Where that is so of all parts, the cuts are at quiet instants: each job has all of its
-- slots before a cut or all of them behind it.
abbrev pub HasOwnSlots : Part → Type 0
HasOwnSlots part = AreOf part.jobs part.slots

-- the jobs of all parts, one after another
abbrev pub all_jobs : List Part → List Job
all_jobs [] = []
all_jobs (part ∷ parts) = part.jobs ++ all_jobs parts

-- the slots of all parts, one after another, each with its job's number among all jobs
abbrev pub all_slots : List Part → List WrittenSlot
all_slots [] = []
all_slots (part ∷ parts) = slots_in_turn part.jobs part.slots (all_slots parts)

-- the end of the last slot, or this time where there is none
abbrev pub end_of_last : Fraction → List WrittenSlot → Fraction
end_of_last time slots = fold (λ time slot. slot.to) time slots

-- the first slot, where there is one, begins at this time or later
abbrev pub BeginsAt : Fraction → List WrittenSlot → Type 0
BeginsAt time [] = Unit {0}
BeginsAt time (slot ∷ slots) = IsAtMost time slot.from

-- from this time on, the first slot of each part begins at or after the end of the last slot before it
abbrev pub FollowFrom : Fraction → List Part → Type 0
FollowFrom time [] = Unit {0}
FollowFrom time (part ∷ parts) = BeginsAt time part.slots × FollowFrom (end_of_last time part.slots) parts

-- The slots are written in the parts' order in time.
abbrev pub FollowInTurn : List Part → Type 0
FollowInTurn parts = FollowFrom (of_whole 0) parts

-- written slots run one at a time
abbrev pub RunOneAtATime : List WrittenSlot → Type 0
RunOneAtATime slots = AtEachScale slots (λ scale whole. RunFrom 0 whole)

-- the horizons of the parts, together
abbrev pub part_horizons : List Part → ℕ
part_horizons parts = sum_by (λ part. horizon part.jobs) parts
