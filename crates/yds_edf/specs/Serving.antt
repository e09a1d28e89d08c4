-- What it means that a stretch's capacity is served earliest deadline first, where jobs have so many units pending.
use Rattle.std.specs.Prelude.{◌≡◌, ℕ, ◌<◌, ◌≤◌, ◌⊎◌, min, List, length, slice_index, All, AllPairs}
use Rattle.yds_model.specs.Job.{Job, job_at}
use Rattle.yds_timetable.specs.Shares.{JobShare, units_given, total_units}
use Rattle.base.specs.Numbers.{sum_below}

-- the first job has the earlier deadline, or they have the same and it has the lesser tie
abbrev pub IsDueBefore : List Job → (ℕ → ℕ) → ℕ → ℕ → Type 0
IsDueBefore jobs tie first other =
    ((job_at jobs first).deadline < (job_at jobs other).deadline)
    ⊎ (((job_at jobs first).deadline ≡ (job_at jobs other).deadline) × (tie first < tie other))

-- ties that tell jobs of the same deadline apart: no two are the same
abbrev pub AreTies : List ℕ → Type 0
AreTies ties = (i j : ℕ) → i < length ties → j < length ties → slice_index ties i ≡ slice_index ties j → i ≡ j

-- The lesser of the capacity and the pending units is served, in order of deadline and tie, one share for a job. A job of
-- which units stay pending comes after every other job that is served.
pub record IsServing (jobs : List Job) (tie : ℕ → ℕ) (pending : ℕ → ℕ) (capacity : ℕ) (shares : List JobShare) : Type 0 where
  pub known : All (λ share. share.job < length jobs) shares
  pub some : All (λ share. 1 ≤ share.units) shares
  pub in_order : AllPairs (λ one other. IsDueBefore jobs tie one.job other.job) shares
  pub within : (number : ℕ) → number < length jobs → units_given shares number ≤ pending number
  pub total : total_units shares ≡ min capacity (sum_below (length jobs) pending)
  pub earliest : (number : ℕ) → number < length jobs → units_given shares number < pending number →
      All (λ share. (share.job ≡ number) ⊎ IsDueBefore jobs tie share.job number) shares
