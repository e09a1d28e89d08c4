-- Stretches in the time that is left: each is removed whole or left whole, and those that lie between two events fill the time between.
use Rattle.yds_model.proofs.Common.{◌≡◌, ℕ, zero, suc, ◌+◌, ◌-◌, ◌<◌, ◌≤◌, ◌⊎◌, List, [], length, get_or, sym, ap, arith, inl, inr, cond, add-one, min, subst, nat_le, nat_lt, ◌&&◌, le-leb, lt-leb, lt-ltb, le-ltb, Job, job_at, Piece, event_points, stretches, stretch_at}
use Rattle.yds_events.specs.Stretch.{IsOutside}
use Rattle.yds_events.specs.Window.{length_at}
use Rattle.yds_events.proofs.Times.{release_at, deadline_at, not_later}
use Rattle.yds_events.proofs.Neighbours.{count_stretches, stretch_begins, stretch_ends, stretch_forward, release_outside, deadline_outside}
use Rattle.base.specs.Numbers.{sum_below}
use Rattle.yds_critical.specs.declared.interval.Interval.{Interval}
use Rattle.yds_contract.specs.Contracted.{AreApartFrom, place, Removes}
use Rattle.yds_contract.proofs.ContractedPlaces.{place_rises, place_removes}
use Rattle.yds_textbook.specs.Waiting.{stretch_lies_in, AreWhole}

-- a stretch that no interval's end cuts keeps its length, or loses all of it
whole_on : (start end from to long : ℕ) → start < end → (to ≡ from) ⊎ (to ≡ from + long) → (start ≤ from) ⊎ (to ≤ start) → (end ≤ from) ⊎ (to ≤ end) →
    (min to start + (to - end) ≡ min from start + (from - end)) ⊎ (min to start + (to - end) ≡ min from start + (from - end) + long)
whole_on start end from to long forward (inl same) starts ends = inl (omega (arith, same))
whole_on start end from to long forward (inr left) (inl late) (inl later) = inr (omega (arith, left, late, later))
whole_on start end from to long forward (inr left) (inl late) (inr within) = inl (omega (arith, left, late, within))
whole_on start end from to long forward (inr left) (inr early) ends = inr (omega (arith, left, early, forward))

-- the part of a stretch between two times that don't cut it is all of it where it lies between them, and nothing where it doesn't
part_of : (low high from to long : ℕ) → 1 ≤ long → (to ≡ from) ⊎ (to ≡ from + long) → (low ≤ from) ⊎ (to ≤ low) → (high ≤ from) ⊎ (to ≤ high) →
    min to high - low ≡ (min from high - low) + cond (nat_lt from to && (nat_le low from && nat_le to high)) long 0
part_of low high from to long some (inl same) begins ends = rw (le-ltb from to (omega (arith, same))) (omega (arith, same))
part_of low high from to long some (inr left) (inr early) ends =
    rw (lt-ltb from to (omega (arith, left)), lt-leb low from (omega (arith, left, early))) (omega (arith, left, early))
part_of low high from to long some (inr left) (inl late) (inl later) =
    rw (lt-ltb from to (omega (arith, left)), le-leb low from late, lt-leb to high (omega (arith, left, later))) (omega (arith, left, late, later))
part_of low high from to long some (inr left) (inl late) (inr within) =
    rw (lt-ltb from to (omega (arith, left)), le-leb low from late, le-leb to high within) (omega (arith, left, late, within))

-- a sum of steps from each stretch's begin to its end
steps_to : (jobs : List Job) (f term : ℕ → ℕ) → ((k : ℕ) → k < length (stretches jobs) → f (stretch_at jobs k).to ≡ f (stretch_at jobs k).from + term k) →
    (j : ℕ) → j ≤ length (stretches jobs) → f (get_or (event_points jobs) j 0) ≡ f (get_or (event_points jobs) 0 0) + sum_below j term
steps_to jobs f term step zero within = omega arith
steps_to jobs f term step (suc j) within =
    let next : (stretch_at jobs j).to ≡ get_or (event_points jobs) (suc j) 0 = rw add-one at (stretch_ends jobs j (omega arith)) in
    omega (arith, ap f next, ap f (stretch_begins jobs j (omega arith)), step j (omega arith), steps_to jobs f term step j (omega arith))

module _ (jobs : List Job) (removed : List Piece) (apart : AreApartFrom 0 removed) where
  -- a time that isn't inside a stretch isn't in the time that is left either
  pub stays_outside : (k time : ℕ) → k < length (stretches jobs) → IsOutside (stretch_at jobs k) time →
      (place removed time ≤ place removed (stretch_at jobs k).from) ⊎ (place removed (stretch_at jobs k).to ≤ place removed time)
  stays_outside k time known (inl before) = inl (place_rises time (stretch_at jobs k).from removed apart before)
  stays_outside k time known (inr after) = inr (place_rises (stretch_at jobs k).to time removed apart after)

  pub release_stays : (j k : ℕ) → j < length jobs → k < length (stretches jobs) →
      (place removed (job_at jobs j).release ≤ place removed (stretch_at jobs k).from) ⊎ (place removed (stretch_at jobs k).to ≤ place removed (job_at jobs j).release)
  release_stays j k known within = stays_outside k (job_at jobs j).release within (release_outside jobs j k known within)

  pub deadline_stays : (j k : ℕ) → j < length jobs → k < length (stretches jobs) →
      (place removed (job_at jobs j).deadline ≤ place removed (stretch_at jobs k).from) ⊎ (place removed (stretch_at jobs k).to ≤ place removed (job_at jobs j).deadline)
  deadline_stays j k known within = stays_outside k (job_at jobs j).deadline within (deadline_outside jobs j k known within)

  -- in the time that is left, the stretches that lie between a release and a deadline fill the time between them
  pub lengths_between : (interval : Interval) (first last : ℕ) → first < length jobs → last < length jobs → AreWhole (stretches jobs) removed →
      interval.start ≡ place removed (job_at jobs first).release → interval.end ≡ place removed (job_at jobs last).deadline →
      interval.end - interval.start ≡ sum_below (length (stretches jobs)) (λ k. cond (stretch_lies_in (stretches jobs) removed interval k) (length_at jobs k) 0)
  lengths_between interval first last first_known last_known whole start end =
      let count = length (stretches jobs) in
      let f = λ (time : ℕ). min (place removed time) interval.end - interval.start in
      let term = λ (k : ℕ). cond (stretch_lies_in (stretches jobs) removed interval k) (length_at jobs k) 0 in
      let points = count_stretches jobs (omega (arith, first_known)) in
      let begin = release_at jobs first first_known in
      let due = deadline_at jobs last last_known in
      let sum = steps_to jobs f term (λ k known.
      part_of interval.start interval.end (place removed (stretch_at jobs k).from) (place removed (stretch_at jobs k).to) (length_at jobs k)
      (omega (arith, stretch_forward jobs k known)) (whole k known)
      (subst (λ (t : ℕ). (t ≤ place removed (stretch_at jobs k).from) ⊎ (place removed (stretch_at jobs k).to ≤ t)) (sym start) (release_stays first k first_known known))
      (subst (λ (t : ℕ). (t ≤ place removed (stretch_at jobs k).from) ⊎ (place removed (stretch_at jobs k).to ≤ t)) (sym end) (deadline_stays last k last_known known)))
      count (omega arith) in
      let early : place removed (get_or (event_points jobs) 0 0) ≤ interval.start =
      omega (arith, start, place_rises (get_or (event_points jobs) 0 0) (job_at jobs first).release removed apart (omega (arith, not_later jobs 0 begin.0 (omega arith) begin.1, begin.2))) in
      let late : interval.end ≤ place removed (get_or (event_points jobs) count 0) =
      omega (
        arith,
        end,
        place_rises (job_at jobs last).deadline (get_or (event_points jobs) count 0) removed apart
            (omega (arith, not_later jobs due.0 count (omega (arith, due.1, points)) (omega (arith, points)), due.2)),
      ) in
      let value : min (place removed (get_or (event_points jobs) count 0)) interval.end - interval.start
      ≡ (min (place removed (get_or (event_points jobs) 0 0)) interval.end - interval.start) + sum_below count term = sum in
      omega (arith, value, early, late)

  -- once an interval from a release to a deadline is removed, each stretch is removed whole or left whole
  pub whole_stays : (interval : Interval) (first last : ℕ) (changed : List Piece) → first < length jobs → last < length jobs → AreWhole (stretches jobs) removed →
      interval.start ≡ place removed (job_at jobs first).release → interval.end ≡ place removed (job_at jobs last).deadline → interval.start < interval.end →
      Removes removed interval.start interval.end changed → AreWhole (stretches jobs) changed
  whole_stays interval first last changed first_known last_known whole start end forward removes k known =
      rw (
        place_removes interval.start interval.end removed changed apart forward removes (stretch_at jobs k).from,
        place_removes interval.start interval.end removed changed apart forward removes (stretch_at jobs k).to,
      )
      (whole_on interval.start interval.end (place removed (stretch_at jobs k).from) (place removed (stretch_at jobs k).to) (length_at jobs k) forward (whole k known)
      (subst (λ (t : ℕ). (t ≤ place removed (stretch_at jobs k).from) ⊎ (place removed (stretch_at jobs k).to ≤ t)) (sym start) (release_stays first k first_known known))
      (subst (λ (t : ℕ). (t ≤ place removed (stretch_at jobs k).from) ⊎ (place removed (stretch_at jobs k).to ≤ t)) (sym end) (deadline_stays last k last_known known)))

-- at first nothing is removed
pub whole_at_first : (jobs : List Job) → AreWhole (stretches jobs) []
whole_at_first jobs k known = inr (omega (arith, stretch_forward jobs k known))
