-- What the search for a plan finds: groups of jobs and stretches, the fastest first, and how many units of work each job
-- gets in each stretch. That these facts make a plan is proved apart from how they are found.
use Rattle.std.specs.Prelude.{◌≡◌, ℕ, ◌+◌, ◌*◌, ◌/◌, ◌<◌, ◌≤◌, List, length, sum_by, ◌==◌, if◌then◌else◌}
use Rattle.std.specs.List.{slice_index_or, All, range_with_len}
use Rattle.yds_model.specs.Job.{Job, job_at}
use Rattle.yds_model.specs.Divisor.{common_divisor}
use Rattle.yds_model.specs.Event.{stretches, stretch_at}
use Rattle.yds_model.specs.EarliestFirst.{ComesFirst}
use Rattle.yds_events.specs.Window.{length_at, IsInWindow}
use Rattle.yds_timetable.specs.Shares.{JobShare, share_at}

-- A group's jobs have so much work together, and its stretches so much length. Its speed is work / length.
pub record Group : Type 0 where
  pub work : ℕ
  pub length : ℕ

-- The groups in order, the place of each job's group and of each stretch's (no group's where there is none), and the shares.
pub record Found : Type 0 where
  pub groups : List Group
  pub group_of_job : List ℕ
  pub group_of_stretch : List ℕ
  pub shares : List JobShare

abbrev pub no_group : Group
no_group = record { work = 0; length = 0 }

abbrev pub group_at : List Group → ℕ → Group
group_at groups i = slice_index_or groups i no_group

-- The speed of a group in lowest terms is per_time / per_work: a unit is 1 / per_work of work, and per_time of them fill a
-- unit of time.
abbrev pub per_time : Group → ℕ
per_time group = group.work / common_divisor group.work group.length

abbrev pub per_work : Group → ℕ
per_work group = group.length / common_divisor group.work group.length

abbrev pub group_of : List ℕ → ℕ → ℕ
group_of places i = slice_index_or places i 0

-- all work of the jobs of a group, all length of its stretches
abbrev pub work_of_group : List Job → List ℕ → ℕ → ℕ → ℕ
work_of_group jobs places group n = sum_by (λ j. if group_of places j == group then (job_at jobs j).work else 0) (range_with_len 0 n)

abbrev pub length_of_group : List Job → List ℕ → ℕ → ℕ → ℕ
length_of_group jobs places group n = sum_by (λ k. if group_of places k == group then length_at jobs k else 0) (range_with_len 0 n)

-- the units that a job gets, and those that are done in a stretch
abbrev pub units_of_job : List JobShare → ℕ → ℕ
units_of_job shares job = sum_by (λ share. if share.job == job then share.units else 0) shares

abbrev pub units_in_stretch : List JobShare → ℕ → ℕ
units_in_stretch shares k = sum_by (λ share. if share.stretch == k then share.units else 0) shares

-- a share is one of a job in a stretch of its window, and of its group
pub record IsShare (jobs : List Job) (found : Found) (share : JobShare) : Type 0 where
  pub known : share.job < length jobs
  pub known_stretch : share.stretch < length (stretches jobs)
  pub some : 1 ≤ share.units
  pub in_window : IsInWindow jobs share.job share.stretch
  pub grouped : group_of found.group_of_job share.job < length found.groups
  pub same_group : group_of found.group_of_stretch share.stretch ≡ group_of found.group_of_job share.job

pub record IsFound (jobs : List Job) (found : Found) : Type 0 where
  -- jobs with work are in a group, and no other job is; a stretch is in one or in none
  pub all_jobs : length found.group_of_job ≡ length jobs
  pub all_stretches : length found.group_of_stretch ≡ length (stretches jobs)
  pub with_work : (j : ℕ) → j < length jobs → 1 ≤ (job_at jobs j).work → group_of found.group_of_job j < length found.groups
  pub idle : (j : ℕ) → j < length jobs → (job_at jobs j).work ≡ 0 → length found.groups ≤ group_of found.group_of_job j
  -- each group has work and length, its jobs' and its stretches', and none is faster than the one before it
  pub some_work : (i : ℕ) → i < length found.groups → 1 ≤ (group_at found.groups i).work
  pub some_length : (i : ℕ) → i < length found.groups → 1 ≤ (group_at found.groups i).length
  pub works : (i : ℕ) → i < length found.groups → (group_at found.groups i).work ≡ work_of_group jobs found.group_of_job i (length jobs)
  pub lengths : (i : ℕ) → i < length found.groups → (group_at found.groups i).length ≡ length_of_group jobs found.group_of_stretch i (length (stretches jobs))
  pub order : (i : ℕ) → i + 1 < length found.groups →
      (group_at found.groups (i + 1)).work * (group_at found.groups i).length ≤ (group_at found.groups i).work * (group_at found.groups (i + 1)).length
  -- each stretch of a job's window is in the job's group or in one before it
  pub windows : (j k : ℕ) → j < length jobs → 1 ≤ (job_at jobs j).work → k < length (stretches jobs) → IsInWindow jobs j k →
      group_of found.group_of_stretch k ≤ group_of found.group_of_job j
  -- each job gets all its units, and each stretch of a group is full
  pub shares : All (IsShare jobs found) found.shares
  pub served : (j : ℕ) → j < length jobs → 1 ≤ (job_at jobs j).work →
      units_of_job found.shares j ≡ per_work (group_at found.groups (group_of found.group_of_job j)) * (job_at jobs j).work
  pub full : (k : ℕ) → k < length (stretches jobs) → group_of found.group_of_stretch k < length found.groups →
      units_in_stretch found.shares k ≡ per_time (group_at found.groups (group_of found.group_of_stretch k)) * length_at jobs k
  -- In a stretch the shares stand in order of deadline, and of number where deadlines are equal, one for a job.
  pub in_order : (x y : ℕ) → x < y → y < length found.shares → (share_at found.shares x).stretch ≡ (share_at found.shares y).stretch →
      ((share_at found.shares x).job ≡ (share_at found.shares y).job → ⊥) × ComesFirst jobs (share_at found.shares x).job (share_at found.shares y).job
  -- A job that gets units in a stretch found each earlier stretch of its window and group full, of jobs that come before it.
  pub earliest : (x y : ℕ) → x < length found.shares → y < length found.shares →
      group_of found.group_of_job (share_at found.shares x).job ≡ group_of found.group_of_job (share_at found.shares y).job →
      (job_at jobs (share_at found.shares x).job).release ≤ (stretch_at jobs (share_at found.shares y).stretch).from →
      (share_at found.shares y).stretch < (share_at found.shares x).stretch →
      ComesFirst jobs (share_at found.shares y).job (share_at found.shares x).job
  pub few : length found.shares ≤ length jobs + length (stretches jobs)
