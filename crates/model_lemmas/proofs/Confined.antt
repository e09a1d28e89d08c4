-- What a job adds to the work that is confined to an interval, and to the work that is released from a time on.
use Rattle.std.proofs.Common.{◌≡◌, ℕ, ◌<◌, ◌≤◌, ◌⊎◌, ◌+◌, arith, List, [], ◌∷◌, ◌++◌, refl, inl, inr, cond, nat_le}
use Rattle.std.specs.List.{All}
use Rattle.std.proofs.lemmas.Bool.{lt-leb, le-leb}
use Rattle.std.proofs.lemmas.List.Sums.{sum_by_push}
use Rattle.yds_model.specs.Job.{Job}
use Rattle.yds_model.specs.Confined.{window_is_within, work_within, released_work}
use Rattle.base.proofs.Sums.{sum_by_same}

-- # An interval

abbrev pub part_within : ℕ → ℕ → Job → ℕ
part_within from to job = cond (window_is_within from to job) job.work 0

pub part_inside : (from to : ℕ) (job : Job) → from ≤ job.release → job.deadline ≤ to → part_within from to job ≡ job.work
part_inside from to job released due = rw (le-leb from job.release released, le-leb job.deadline to due) refl

pub part_early : (from to : ℕ) (job : Job) → job.release < from → part_within from to job ≡ 0
part_early from to job early = rw (lt-leb from job.release early) refl

pub part_late : (from to : ℕ) (job : Job) → to < job.deadline → part_within from to job ≡ 0
part_late from to job late = grind arith

-- one job more
pub within_push : (jobs : List Job) (job : Job) (from to : ℕ) → work_within (jobs ++ job ∷ []) from to ≡ work_within jobs from to + part_within from to job
within_push jobs job from to = sum_by_push (part_within from to) jobs job

-- # From a time on

abbrev pub part_released : ℕ → Job → ℕ
part_released from job = cond (nat_le from job.release) job.work 0

pub is_released : (from : ℕ) (job : Job) → from ≤ job.release → part_released from job ≡ job.work
is_released from job first = rw (le-leb from job.release first) refl

pub not_released : (from : ℕ) (job : Job) → job.release < from → part_released from job ≡ 0
not_released from job less = rw (lt-leb from job.release less) refl

-- of a job that is due by the end it is the part confined to the interval
pub part_due : (from to : ℕ) (job : Job) → job.deadline ≤ to → part_released from job ≡ part_within from to job
part_due from to job due = grind arith

-- with no deadline after the end it is the work confined to the interval
pub released_due : (jobs : List Job) (from to : ℕ) → All (λ job. job.deadline ≤ to) jobs → released_work jobs from ≡ work_within jobs from to
released_due jobs from to due = sum_by_same (part_released from) (part_within from to) jobs (λ k d within. part_due from to _ (due k d within))

-- one job more: it adds its work where it is released then or later
pub released_more : (jobs : List Job) (job : Job) (from work more : ℕ) → work ≡ released_work jobs from →
    ((from ≤ job.release) × (more ≡ work + job.work)) ⊎ ((job.release < from) × (more ≡ work)) → more ≡ released_work (jobs ++ job ∷ []) from
released_more jobs job from work more is (inl (released, adds)) = omega (arith, is, adds, sum_by_push (part_released from) jobs job, is_released from job released)
released_more jobs job from work more is (inr (early, stays)) = omega (arith, is, stays, sum_by_push (part_released from) jobs job, not_released from job early)
