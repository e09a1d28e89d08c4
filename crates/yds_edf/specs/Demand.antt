-- Demand and capacity: the work of the jobs whose windows lie between two times, and the capacity of the stretches there.
use Rattle.std.specs.Prelude.{ℕ, ◌*◌, ◌<◌, ◌≤◌, ◌&&◌, nat_le, if◌then◌else◌, List, length, All}
use Rattle.std.specs.List.{slice_index_or}
use Rattle.yds_model.specs.Job.{Job, job_at}
use Rattle.yds_model.specs.Piece.{Piece}
use Rattle.yds_model.specs.Confined.{work_within}
use Rattle.yds_events.specs.Stretch.{nth_stretch, IsOutside}
use Rattle.base.specs.Numbers.{sum_below}

-- the stretch's capacity, by its number
abbrev pub capacity_at : List ℕ → ℕ → ℕ
capacity_at capacities i = slice_index_or capacities i 0

-- the capacity of the stretches that lie between two times
abbrev pub capacity_between : List Piece → List ℕ → ℕ → ℕ → ℕ
capacity_between stretches capacities from to =
    sum_below (length stretches) (λ i.
    if nat_le from (nth_stretch stretches i).from && nat_le (nth_stretch stretches i).to to then capacity_at capacities i else 0)

-- between any release and any deadline the units of the jobs whose windows lie there are at most the capacity
abbrev pub IsWithinCapacity : List Job → ℕ → List Piece → List ℕ → Type 0
IsWithinCapacity jobs grain stretches capacities =
    (first last : ℕ) → first < length jobs → last < length jobs →
    grain * work_within jobs (job_at jobs first).release (job_at jobs last).deadline
    ≤ capacity_between stretches capacities (job_at jobs first).release (job_at jobs last).deadline

-- no job is released or due strictly inside a stretch
abbrev pub AreUncut : List Job → List Piece → Type 0
AreUncut jobs stretches =
    All (λ stretch. All (λ job. IsOutside stretch job.release × IsOutside stretch job.deadline) jobs) stretches
