-- What it means that stretches, each of a capacity, are filled earliest deadline first and that every job is served in time.
use Rattle.std.specs.Prelude.{◌≡◌, ℕ, ◌+◌, ◌<◌, ◌≤◌, List, length, slice_index, Some, All, AllPairs}
use Rattle.base.specs.Numbers.{Each}
use Rattle.yds_model.specs.Job.{Job, job_at}
use Rattle.yds_model.specs.Piece.{Piece}
use Rattle.yds_timetable.specs.Shares.{JobShare, units_given, shares_in, shares_before}
use Rattle.yds_edf.specs.Pending.{units_wanted, pending_of_job}
use Rattle.yds_edf.specs.Serving.{IsServing}
use Rattle.yds_events.specs.Stretch.{nth_stretch}
use Rattle.yds_edf.specs.Demand.{capacity_at}

-- the units of a job that are pending at the start of a stretch: what the stretches before it left of those that were
-- released by then
abbrev pub pending_at_start : List Job → ℕ → List Piece → List JobShare → ℕ → ℕ → ℕ
pending_at_start jobs grain stretches shares i =
    pending_of_job jobs grain (Some (nth_stretch stretches i).from) (units_given (shares_before shares i))

-- the share lies in its job's window
pub record IsInTime (jobs : List Job) (stretches : List Piece) (share : JobShare) : Type 0 where
  pub released : (job_at jobs share.job).release ≤ (nth_stretch stretches share.stretch).from
  pub due : (nth_stretch stretches share.stretch).to ≤ (job_at jobs share.job).deadline

-- The shares stand in order of their stretches. Each stretch is served earliest deadline first, jobs of the same deadline in
-- order of their ties, and every job gets all its units inside its window. There is at most one share for each job and each
-- stretch together.
pub record IsFilled (jobs : List Job) (ties : List ℕ) (grain : ℕ) (stretches : List Piece) (capacities : List ℕ)
    (shares : List JobShare) : Type 0 where
  pub in_order : AllPairs (λ one other. one.stretch ≤ other.stretch) shares
  pub known : All (λ share. share.stretch < length stretches) shares
  pub serving : Each (length stretches) (λ i.
      IsServing jobs (slice_index ties) (pending_at_start jobs grain stretches shares i) (capacity_at capacities i) (shares_in shares i))
  pub in_time : All (IsInTime jobs stretches) shares
  pub few : length shares ≤ length jobs + length stretches
  pub served : Each (length jobs) (λ number. units_given shares number ≡ units_wanted jobs grain number)
