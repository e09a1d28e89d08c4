-- Jobs and pieces that force a schedule's excess, and a certificate that explains a schedule.
use Rattle.std.specs.Prelude.{◌≡◌, ℕ, ◌+◌, ◌*◌, ◌<◌, ◌≤◌, List, length}
use Rattle.std.specs.List.{All}
use Rattle.base.specs.Numbers.{AreDifferent}
use Rattle.yds_model.specs.Job.{Job, job_at, work_of}
use Rattle.yds_model.specs.Slot.{WrittenSlot, WholeSlot, AtEachScale}
use Rattle.yds_model.specs.Feasible.{IsFeasibleAt}
use Rattle.yds_model.specs.Excess.{excess}
use Rattle.yds_model.specs.Piece.{Piece, ArePieces, IsConfined, total_length}
use Rattle.yds_model.specs.Level.{Level, levels_above, all_members, all_pieces}

-- These jobs are different and confined to these pieces. At the speed p/q the pieces would take the work
-- p/q * their length, so the jobs' other work has to be done faster; the schedule does just that much above it.
pub record Forces (jobs : List Job) (scale p q : ℕ) (slots : List WholeSlot) (members : List ℕ) (pieces : List Piece) : Type 0 where
  pub known : All (λ number. number < length jobs) members
  pub different : AreDifferent members
  pub disjoint : ArePieces pieces
  pub confined : All (λ number. IsConfined (job_at jobs number) pieces) members
  pub exact : excess p q slots + p * scale * total_length pieces ≡ q * scale * work_of jobs members

-- At a scale: the schedule is feasible, and at each speed p/q the levels above it force the excess.
pub record ExplainsAt (jobs : List Job) (scale : ℕ) (slots : List WholeSlot) (levels : List Level) : Type 0 where
  pub feasible : IsFeasibleAt jobs scale slots
  pub forced : (p q : ℕ) → 1 ≤ q →
      Forces jobs scale p q slots (all_members (levels_above p q levels)) (all_pieces (levels_above p q levels))

-- the levels explain a written schedule where they do so at each of its scales
abbrev pub Explains : List Job → List WrittenSlot → List Level → Type 0
Explains jobs slots levels = AtEachScale slots (λ scale whole. ExplainsAt jobs scale whole levels)
