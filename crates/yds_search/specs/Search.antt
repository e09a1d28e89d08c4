-- The search for groups: what holds of the finished ones, and how the others follow.
use Rattle.std.specs.Prelude.{◌≡◌, ℕ, ◌+◌, ◌*◌, ◌<◌, ◌≤◌, ◌⊎◌, List, [], ◌∷◌, length, sum_by}
use Rattle.std.specs.List.{All, AllPairs}
use Rattle.yds_model.specs.Job.{Job, job_at}
use Rattle.yds_model.specs.Event.{stretches}
use Rattle.yds_model.specs.EarliestFirst.{ComesFirst}
use Rattle.yds_events.specs.declared.window.Window.{Window}
use Rattle.yds_events.specs.Window.{length_at, IsIn}
use Rattle.yds_timetable.specs.Shares.{JobShare}
use Rattle.yds_search.specs.declared.found.TheConstants.{NO_GROUP}
use Rattle.yds_search.specs.Found.{Found, Group, group_at, group_of, work_of_group, length_of_group, per_time, per_work, units_of_job, units_in_stretch, IsShare}
use Rattle.yds_events.specs.ServingOrder.{Precedes}
use Rattle.yds_search.specs.Own.{Part}
use Rattle.yds_search.specs.Stack.{jobs_of, own_stretches_of}
use Rattle.yds_search.specs.Waiting.{HasOne, HasJob, HasStretch, IsSlow, AreWaiting}

-- the job wants something, and may run in the stretch
pub record MayTake (jobs : List Job) (windows : List Window) (job k : ℕ) : Type 0 where
  pub known : job < length jobs
  pub some : 1 ≤ (job_at jobs job).work
  pub inside : IsIn windows job k

-- a finished group has work and length, those of its jobs and of its stretches
pub record IsGroup (jobs : List Job) (found : Found) (number : ℕ) (group : Group) : Type 0 where
  pub some_work : 1 ≤ group.work
  pub some_length : 1 ≤ group.length
  pub work_is : group.work ≡ work_of_group jobs found.group_of_job number (length jobs)
  pub length_is : group.length ≡ length_of_group jobs found.group_of_stretch number (length (stretches jobs))

-- who gets units in a stretch found each earlier stretch of its window taken by jobs that come before it
abbrev pub IsEarly : List Job → List Window → JobShare → JobShare → Type 0
IsEarly jobs windows share other = IsIn windows share.job other.stretch → other.stretch < share.stretch → ComesFirst jobs other.job share.job

-- two shares, one before the other in the list: in a stretch one job precedes the next, and in a group both are early
abbrev pub StandTogether : List Job → List Window → List ℕ → JobShare → JobShare → Type 0
StandTogether jobs windows groups one next = (one.stretch ≡ next.stretch → Precedes jobs one.job next.job)
    × (group_of groups one.job ≡ group_of groups next.job → IsEarly jobs windows one next × IsEarly jobs windows next one)

-- what holds of the finished groups, as in the end of all groups
pub record IsFinished (jobs : List Job) (windows : List Window) (found : Found) : Type 0 where
  pub groups : (i : ℕ) → i < length found.groups → IsGroup jobs found i (group_at found.groups i)
  pub order : (i : ℕ) → i + 1 < length found.groups →
      (group_at found.groups (i + 1)).work * (group_at found.groups i).length ≤ (group_at found.groups i).work * (group_at found.groups (i + 1)).length
  pub not_after : (j k : ℕ) → MayTake jobs windows j k → group_of found.group_of_job j < length found.groups →
      group_of found.group_of_stretch k ≤ group_of found.group_of_job j
  pub shares : All (IsShare jobs found) found.shares
  pub served : (j : ℕ) → j < length jobs → group_of found.group_of_job j < length found.groups →
      units_of_job found.shares j ≡ per_work (group_at found.groups (group_of found.group_of_job j)) * (job_at jobs j).work
  pub full : (k : ℕ) → k < length (stretches jobs) → group_of found.group_of_stretch k < length found.groups →
      units_in_stretch found.shares k ≡ per_time (group_at found.groups (group_of found.group_of_stretch k)) * length_at jobs k
  pub together : AllPairs (StandTogether jobs windows found.group_of_job) found.shares

-- a finished group is not slower than a part
pub record IsLead (windows : List Window) (group : Group) (part : Part) : Type 0 where
  pub p : ℕ
  pub q : ℕ
  pub units : ℕ → ℕ → ℕ
  pub some : 1 ≤ q
  pub inside : (j k : ℕ) → 1 ≤ units j k → IsIn windows j k
  pub fast : p * group.length ≤ q * group.work
  pub slow : IsSlow part p q units

-- the last finished group is not slower than the first part
abbrev pub IsLed : List Window → List Group → List Part → Type 0
IsLed windows groups [] = Unit {0}
IsLed windows groups (part ∷ parts) = (i : ℕ) → i + 1 ≡ length groups → IsLead windows (group_at groups i) part

-- Some groups are finished, the others wait. What is in no finished group has no group's number.
pub record IsSearch (jobs : List Job) (windows : List Window) (found : Found) (parts : List Part) : Type 0 where
  pub all_jobs : length found.group_of_job ≡ length jobs
  pub all_stretches : length found.group_of_stretch ≡ length (stretches jobs)
  pub idle : (j : ℕ) → j < length jobs → (job_at jobs j).work ≡ 0 → group_of found.group_of_job j ≡ NO_GROUP
  pub with_work : (j : ℕ) → j < length jobs → 1 ≤ (job_at jobs j).work →
      (group_of found.group_of_job j < length found.groups) ⊎ HasOne (λ part. HasJob part j) parts
  pub job : (j : ℕ) → j < length jobs → (group_of found.group_of_job j < length found.groups) ⊎ (group_of found.group_of_job j ≡ NO_GROUP)
  pub stretch : (k : ℕ) → k < length (stretches jobs) → (group_of found.group_of_stretch k < length found.groups) ⊎ (group_of found.group_of_stretch k ≡ NO_GROUP)
  pub covered : (j k : ℕ) → MayTake jobs windows j k → (group_of found.group_of_stretch k < length found.groups) ⊎ HasOne (λ part. HasStretch part k) parts
  pub waiting : AreWaiting jobs windows found parts
  pub led : IsLed windows found.groups parts
  pub finished : IsFinished jobs windows found
  pub few : length found.shares + length (jobs_of parts) + length (own_stretches_of parts) ≤ length jobs + length (stretches jobs)
  pub few_jobs : length (jobs_of parts) ≤ length jobs
  pub few_groups : length found.groups + length (own_stretches_of parts) ≤ length (stretches jobs)

-- A part is filled at its average speed, that of the group which it becomes: all its jobs are served and its stretches full, earliest deadline first.
pub record IsLaidOut (jobs : List Job) (windows : List Window) (part : Part) (group : Group) (shares : List JobShare) : Type 0 where
  pub work_is : group.work ≡ sum_by (λ own. own.work) part.jobs
  pub length_is : group.length ≡ sum_by (λ own. own.length) part.stretches
  pub some_work : 1 ≤ group.work
  pub some_length : 1 ≤ group.length
  pub jobs_of : All (λ share. HasJob part share.job) shares
  pub stretches_of : All (λ share. HasStretch part share.stretch) shares
  pub inside : All (λ share. IsIn windows share.job share.stretch) shares
  pub some : All (λ share. 1 ≤ share.units) shares
  pub served : All (λ own. units_of_job shares own.job ≡ per_work group * own.work) part.jobs
  pub full : All (λ own. units_in_stretch shares own.stretch ≡ per_time group * own.length) part.stretches
  pub in_order : AllPairs (λ one next. one.stretch ≡ next.stretch → Precedes jobs one.job next.job) shares
  pub early : All (λ share. All (IsEarly jobs windows share) shares) shares
  pub few : length shares ≤ length part.jobs + length part.stretches
