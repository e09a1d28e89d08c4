-- The demand of jobs that leave no interval overfull is within what the stretches serve at the top speed.
use Rattle.yds_model.proofs.Common.{◌≡◌, ℕ, zero, suc, ◌+◌, ◌-◌, ◌*◌, ◌<◌, ◌≤◌, List, length, get_or, map, arith, inl, inr, ap, cond, add-one, nat_le, ◌&&◌, All, cases_lt, le-leb, get_or-map, mul-sub, mul-le-mul_left, Job, IsJob, job_at, event_points, stretches, stretch_at, numbers_of}
use Rattle.yds_events.specs.Stretch.{no_stretch}
use Rattle.yds_events.proofs.Times.{release_at, deadline_at, not_later}
use Rattle.yds_events.proofs.Neighbours.{count_stretches, stretch_begins, stretch_ends}
use Rattle.base.specs.Numbers.{sum_below}
use Rattle.yds_edf.specs.Demand.{capacity_at, capacity_between, IsWithinCapacity}
use Rattle.model_lemmas.proofs.SumsBelow.{sum_below_front}
use Rattle.yds_laws.specs.AdmissionLaws.{HasRoom}
use Rattle.yds_admit.specs.Serving.{top_units}
use Rattle.yds_laws.proofs.Served.{room_from, confined_sum}
use Rattle.yds_admit.proofs.Overfull.{jobs_work}

-- a step from one event point to the next
steps : (top next here begin from to : ℕ) → to ≡ next → from ≡ here → begin ≤ from →
    top * (next - begin) ≤ top * (here - begin) + top * (to - from)
steps top next here begin from to is_next is_here before = grind (arith, mul-le-mul_left, mul-sub)

module _ (top : ℕ) (jobs : List Job) (first last : ℕ) (first_known : first < length jobs) (last_known : last < length jobs) where
  abbrev point : ℕ → ℕ
  point k = get_or (event_points jobs) k 0

  abbrev term : ℕ → ℕ
  term k = cond (nat_le (job_at jobs first).release (stretch_at jobs k).from && nat_le (stretch_at jobs k).to (job_at jobs last).deadline)
      (capacity_at (map (top_units top) (stretches jobs)) k) 0

  -- the stretches up to an event point, of those between the two times
  up_to : (j : ℕ) → j ≤ (deadline_at jobs last last_known).0 → top * (point j - (job_at jobs first).release) ≤ sum_below j term
  up_to zero within =
      let begin = release_at jobs first first_known in
      let none : point 0 - (job_at jobs first).release ≡ 0 = omega (arith, not_later jobs 0 begin.0 (omega arith) begin.1, begin.2) in
      omega (arith, ap (λ n. top * n) none)
  up_to (suc j) within =
      let begin = release_at jobs first first_known in
      let end = deadline_at jobs last last_known in
      let here : j < length (stretches jobs) = omega (arith, end.1, count_stretches jobs (omega arith)) in
      elim (cases_lt j begin.0) [
        | inl before ↦
            let none : point (suc j) - (job_at jobs first).release ≡ 0 = omega (arith, not_later jobs (suc j) begin.0 before begin.1, begin.2) in
            omega (arith, ap (λ n. top * n) none)
        | inr after ↦
            let next : (stretch_at jobs j).to ≡ point (suc j) = rw add-one at (stretch_ends jobs j here) in
            let from : (job_at jobs first).release ≤ (stretch_at jobs j).from =
            omega (arith, stretch_begins jobs j here, not_later jobs begin.0 j after (omega (arith, end.1, within)), begin.2) in
            let to : (stretch_at jobs j).to ≤ (job_at jobs last).deadline =
            omega (arith, next, not_later jobs (suc j) end.0 within end.1, end.2) in
            let counts : term j ≡ top_units top (stretch_at jobs j) =
            rw (le-leb (job_at jobs first).release (stretch_at jobs j).from from, le-leb (stretch_at jobs j).to (job_at jobs last).deadline to)
            (get_or-map (top_units top) (stretches jobs) j no_stretch 0 here) in
            omega (
              arith,
              up_to j (omega arith),
              counts,
              steps top (point (suc j)) (point j) (job_at jobs first).release (stretch_at jobs j).from (stretch_at jobs j).to next (stretch_begins jobs j here) from,
            )
      ]

  pub room_between : top * ((job_at jobs last).deadline - (job_at jobs first).release)
      ≤ capacity_between (stretches jobs) (map (top_units top) (stretches jobs)) (job_at jobs first).release (job_at jobs last).deadline
  room_between =
      let end = deadline_at jobs last last_known in
      omega (
        arith,
        up_to end.0 (omega arith),
        ap (λ n. top * (n - (job_at jobs first).release)) end.2,
        sum_below_front end.0 (length (stretches jobs)) term (omega (arith, end.1, count_stretches jobs (omega arith))),
      )

-- the jobs can be served in time
pub within_capacity : (top : ℕ) (jobs : List Job) → All IsJob jobs → HasRoom top jobs →
    IsWithinCapacity jobs 1 (stretches jobs) (map (top_units top) (stretches jobs))
within_capacity top jobs are room first last first_known last_known = omega (
  arith,
  jobs_work jobs (job_at jobs first).release (job_at jobs last).deadline,
  confined_sum jobs (numbers_of jobs) (job_at jobs first).release (job_at jobs last).deadline,
  room_from top jobs are room last last_known (job_at jobs last).deadline (job_at jobs first).release (omega arith),
  room_between top jobs first last first_known last_known,
)
