-- The order in which jobs are served.
use Rattle.std.specs.Prelude.{◌≡◌, ℕ, ◌<◌, List, length, slice_index}
use Rattle.yds_model.specs.Job.{Job}
use Rattle.yds_model.specs.EarliestFirst.{ComesFirst}

-- another job, which comes first
abbrev pub Precedes : List Job → ℕ → ℕ → Type 0
Precedes jobs one other = (one ≡ other → ⊥) × ComesFirst jobs one other

-- each job once, none before one that precedes it
pub record IsOrder (jobs : List Job) (order : List ℕ) : Type 0 where
  pub known : (i : ℕ) → i < length order → slice_index order i < length jobs
  pub rising : (a b : ℕ) → a < b → b < length order → Precedes jobs (slice_index order a) (slice_index order b)
  pub each : (j : ℕ) → j < length jobs → (a : ℕ) × (a < length order) × (slice_index order a ≡ j)
