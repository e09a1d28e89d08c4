-- The textbook's way: critical interval, fill, contract, repeat (Yao, Demers and Shenker, FOCS 1995).
use Rattle.std.specs.Prelude.{◌≡◌, ℕ, ◌-◌, ◌*◌, ◌<◌, ◌≤◌, List, [], ◌∷◌, length, map, slice_index}
use Rattle.std.specs.List.{All, range_with_len}
use Rattle.base.specs.declared.limits.TheConstants.{MAX_TIME, MAX_LEVEL_WORK}
use Rattle.yds_model.specs.Job.{Job}
use Rattle.yds_model.specs.Scale.{Quotient}
use Rattle.yds_model.specs.Piece.{Piece}
use Rattle.yds_model.specs.Event.{stretches}
use Rattle.yds_timetable.specs.Shares.{JobShare}
use Rattle.yds_edf.specs.Filled.{IsFilled}
use Rattle.yds_model.specs.Confined.{work_within}
use Rattle.yds_critical.specs.declared.interval.Interval.{Interval}
use Rattle.yds_critical.specs.Critical.{IsCritical}
use Rattle.yds_contract.specs.Contracted.{Removes}
use Rattle.yds_search.specs.Found.{Group, per_time, per_work}
use Rattle.yds_search.specs.Views.{group_view}
use Rattle.yds_textbook.specs.declared.stage.Stage.{Stage}
use Rattle.yds_textbook.specs.Waiting.{contracted_jobs, inside, outside, contracted_stretches, stretches_inside}
use Rattle.yds_textbook.specs.Served.{capacity_of}

-- The interval takes time and has some work. These jobs are due in it, and in no interval does their work make a greater intensity.
pub record IsDensest (jobs : List Job) (interval : Interval) : Type 0 where
  pub forward : interval.start < interval.end
  pub ends : interval.end ≤ MAX_TIME
  pub has_work : 1 ≤ interval.work
  pub few : interval.work ≤ MAX_LEVEL_WORK
  pub inside : All (λ job. job.deadline ≤ interval.end) jobs
  pub densest : (from to : ℕ) → from < to →
      work_within jobs from to * (interval.end - interval.start) ≤ interval.work * (to - from)

-- the speed of a group in lowest terms
abbrev pub speed_of : Group → Quotient
speed_of group = record { num = per_time group; den = per_work group }

-- the share with the numbers of its job and stretch, where it tells their places among these
abbrev pub share_of_members : List ℕ → List ℕ → JobShare → JobShare
share_of_members members stretches share =
    record { job = slice_index members share.job; stretch = slice_index stretches share.stretch; units = share.units }

-- A stage of the interval: its jobs are those inside it, in order of deadline, and its stretches those that lie in it. In the time
-- that is left they serve these jobs at the interval's intensity, earliest deadline first, each in full inside its window.
pub record IsStage (jobs : List Job) (removed : List Piece) (interval : Interval) (waiting : List ℕ) (stage : Stage) : Type 0 where
  pub group : group_view stage.group ≡ record { work = interval.work; length = interval.end - interval.start }
  pub members : stage.members.items ≡ inside jobs removed interval waiting
  pub own_stretches : stage.stretches.items ≡ stretches_inside (stretches jobs) removed interval
  pub served : List JobShare
  pub serves : IsFilled (contracted_jobs jobs removed stage.members.items) (range_with_len 0 (length stage.members.items)) (per_work (group_view stage.group))
      (contracted_stretches (stretches jobs) removed stage.stretches.items)
      (map (capacity_of (speed_of (group_view stage.group))) (contracted_stretches (stretches jobs) removed stage.stretches.items)) served
  pub shares : stage.shares.items ≡ map (share_of_members stage.members.items stage.stretches.items) served

-- The stages once so much time is removed and the jobs with these numbers wait. The first is that of a critical interval. Then its
-- time is removed too, and the jobs outside it wait for the next stage. In the end none waits.
abbrev pub AreStages : List Job → List Piece → List ℕ → List Stage → Type 0
AreStages jobs removed waiting [] = waiting ≡ []
AreStages jobs removed waiting (stage ∷ stages) = (interval : Interval) × (changed : List Piece)
    × IsCritical (contracted_jobs jobs removed waiting) interval
    × IsStage jobs removed interval waiting stage
    × Removes removed interval.start interval.end changed
    × AreStages jobs changed (outside jobs removed interval waiting) stages
