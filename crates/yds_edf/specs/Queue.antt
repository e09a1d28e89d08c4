-- What a queue of jobs knows: the jobs, the grain, the last time of arrival, and the units of each job that were served.
use Rattle.std.specs.Prelude.{◌≡◌, ℕ, ◌+◌, ◌-◌, ◌<◌, ◌≤◌, min, ⊤, List, length, slice_index, replicate, Option, Some, None, All, nat_le, if◌then◌else◌}
use Rattle.base.specs.Numbers.{Each, sum_below}
use Rattle.yds_model.specs.Job.{Job, job_at}
use Rattle.yds_timetable.specs.Shares.{JobShare, units_given}
use Rattle.yds_edf.specs.Pending.{units_wanted, pending_of_job}
use Rattle.yds_edf.specs.Serving.{IsServing}

pub record JobQueue : Type 0 where
  pub jobs : List Job
  pub grain : ℕ
  pub time : Option ℕ
  pub served : List ℕ

-- a queue of which nobody has arrived and none was served
abbrev pub new_queue : List Job → ℕ → JobQueue
new_queue jobs grain = record { jobs = jobs; grain = grain; time = None; served = replicate (length jobs) 0 }

-- the units of a job that are pending
abbrev pub pending_in : JobQueue → ℕ → ℕ
pending_in queue number = pending_of_job queue.jobs queue.grain queue.time (slice_index queue.served) number

-- those of all jobs together
abbrev pub all_pending : JobQueue → ℕ
all_pending queue = sum_below (length queue.jobs) (pending_in queue)

-- those of the jobs with deadline at most a time
abbrev pub pending_due : JobQueue → ℕ → ℕ
pending_due queue time =
    sum_below (length queue.jobs) (λ number.
    if nat_le (job_at queue.jobs number).deadline time then pending_in queue number else 0)

-- the units of a job that weren't served, and how many jobs have some
abbrev pub units_left : JobQueue → ℕ → ℕ
units_left queue number = units_wanted queue.jobs queue.grain number - slice_index queue.served number

abbrev pub unfinished : JobQueue → ℕ
unfinished queue = sum_below (length queue.jobs) (λ number. min 1 (units_left queue number))

-- the time isn't before the last time of arrival
abbrev pub IsNoEarlier : Option ℕ → ℕ → Type 0
IsNoEarlier None time = ⊤
IsNoEarlier (Some last) time = last ≤ time

-- what is served is served to the jobs, and nothing else changes
pub record Adds (old new : JobQueue) (shares : List JobShare) : Type 0 where
  pub jobs : new.jobs ≡ old.jobs
  pub grain : new.grain ≡ old.grain
  pub time : new.time ≡ old.time
  pub as_long : length new.served ≡ length old.served
  pub served : Each (length old.jobs) (λ number.
      slice_index new.served number ≡ slice_index old.served number + units_given shares number)

-- A stretch is served earliest deadline first, jobs of the same deadline in order of their numbers. Each share but one finishes
-- its job.
pub record Serves (old new : JobQueue) (stretch capacity : ℕ) (shares : List JobShare) : Type 0 where
  pub serving : IsServing old.jobs (λ number. number) (pending_in old) capacity shares
  pub in_stretch : All (λ share. share.stretch ≡ stretch) shares
  pub finishing : length shares + unfinished new ≤ unfinished old + 1
  pub adds : Adds old new shares
