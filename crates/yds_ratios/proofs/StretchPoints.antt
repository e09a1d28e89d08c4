-- Stretches and the event points around them.
use Rattle.yds_model.proofs.Common.{◌≡◌, ℕ, suc, ◌+◌, ◌<◌, ◌≤◌, List, length, get_or, ap, arith, inl, inr, add-one, cases_eq, Job, event_points, stretches, stretch_at}
use Rattle.yds_events.proofs.Times.{not_later}
use Rattle.yds_events.proofs.Neighbours.{count_stretches, some_jobs, stretch_ends}

-- the event point at a place: the k-th stretch is from the k-th to the next
abbrev pub point : List Job → ℕ → ℕ
point jobs k = get_or (event_points jobs) k 0

-- there is one more than stretches
pub points_are : (jobs : List Job) (k : ℕ) → k < length (stretches jobs) → length (event_points jobs) ≡ length (stretches jobs) + 1
points_are jobs k here = count_stretches jobs (some_jobs jobs k here)

-- a stretch ends at the next
pub ends_at : (jobs : List Job) (k : ℕ) → k < length (stretches jobs) → (stretch_at jobs k).to ≡ point jobs (suc k)
ends_at jobs k here = rw add-one at (stretch_ends jobs k here)

-- they don't fall
pub points_order : (jobs : List Job) (i j : ℕ) → i ≤ j → j ≤ length (stretches jobs) → point jobs i ≤ point jobs j
points_order jobs i j order upto = elim (cases_eq i j) [
  | inl same ↦ omega (arith, ap (point jobs) same)
  | inr other ↦ not_later jobs i j order (omega (arith, points_are jobs i (omega (arith, order, other, upto)), upto))
]
