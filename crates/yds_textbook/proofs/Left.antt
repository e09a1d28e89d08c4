-- The stretches of an interval in the time that is left: they follow one another, no job's window ends inside one, and they serve what the
-- jobs inside the interval demand.
use Rattle.yds_model.proofs.Common.{◌≡◌, ℕ, zero, suc, ◌+◌, ◌-◌, ◌*◌, ◌<◌, ◌≤◌, List, length, get_or, map, ◌∙◌, sym, ap, arith, inl, inr, cond, true, Bool, nat_le, ◌&&◌, filter, All, range_with_len, cases_lt, cases_Bool, le-leb, lt-ltb, ltb-true, leb-true, and_from, and_parts, get_or-map, All-map, All-filter, filter_passes, Job, job_at, Quotient, Piece, PiecesFrom, stretches, stretch_at, sum_by-map}
use Rattle.yds_events.specs.Stretch.{IsOutside, no_stretch, nth_stretch}
use Rattle.yds_events.specs.Window.{length_at}
use Rattle.yds_events.proofs.Neighbours.{stretch_order}
use Rattle.yds_search.proofs.KeySums.{All-range}
use Rattle.base.specs.Numbers.{sum_below}
use Rattle.yds_edf.specs.Demand.{capacity_at, capacity_between, IsWithinCapacity, AreUncut}
use Rattle.model_lemmas.proofs.SumsBelow.{sum_below_same, sum_below_at_most, sum_below-mul, sum_places, sum_numbers}
use Rattle.yds_critical.specs.declared.interval.Interval.{Interval}
use Rattle.yds_critical.proofs.Shrinking.{nothing_within}
use Rattle.yds_contract.specs.Contracted.{AreApartFrom, place}
use Rattle.yds_contract.proofs.ContractedPlaces.{place_rises}
use Rattle.yds_textbook.specs.Waiting.{contracted, contracted_jobs, CanWait, lies_in, contracted_stretch, contracted_stretches, stretch_lies_in, stretches_inside, AreWhole}
use Rattle.yds_textbook.specs.Served.{capacity_of, IsFastEnough}
use Rattle.yds_textbook.proofs.Densest.{waits_at, as_many, are_jobs}
use Rattle.yds_textbook.proofs.Whole.{release_stays, deadline_stays, lengths_between}

-- what it says of a stretch that it lies in an interval
pub record LiesInside (jobs : List Job) (removed : List Piece) (interval : Interval) (k : ℕ) : Type 0 where
  pub left : place removed (stretch_at jobs k).from < place removed (stretch_at jobs k).to
  pub from : interval.start ≤ place removed (stretch_at jobs k).from
  pub to : place removed (stretch_at jobs k).to ≤ interval.end

pub lies_inside : (jobs : List Job) (removed : List Piece) (interval : Interval) (k : ℕ) → stretch_lies_in (stretches jobs) removed interval k ≡ true →
    LiesInside jobs removed interval k
lies_inside jobs removed interval k lies = grind (arith, and_parts, leb-true, ltb-true)

pub lies_from : (jobs : List Job) (removed : List Piece) (interval : Interval) (k : ℕ) → LiesInside jobs removed interval k →
    stretch_lies_in (stretches jobs) removed interval k ≡ true
lies_from jobs removed interval k lies = and_from _ _ (lt-ltb _ _ lies.left) (and_from _ _ (le-leb _ _ lies.from) (le-leb _ _ lies.to))

-- the stretches inside an interval are stretches of the jobs, and lie in it
pub each_inside : (jobs : List Job) (removed : List Piece) (interval : Interval) →
    All (λ k. (k < length (stretches jobs)) × LiesInside jobs removed interval k) (stretches_inside (stretches jobs) removed interval)
each_inside jobs removed interval i d within = (
  All-filter (stretch_lies_in (stretches jobs) removed interval) (λ k. k < length (stretches jobs)) (range_with_len 0 (length (stretches jobs)))
      (All-range (λ k. k < length (stretches jobs)) 0 (length (stretches jobs)) (λ k below. omega (arith, below))) i d within,
  lies_inside jobs removed interval _ (filter_passes (stretch_lies_in (stretches jobs) removed interval) (range_with_len 0 (length (stretches jobs))) i d within),
)

module _ (jobs : List Job) (removed : List Piece) (apart : AreApartFrom 0 removed) where
  -- stretches keep their order in the time that is left
  run_from : (p : ℕ → Bool) → ((k : ℕ) → p k ≡ true → place removed (stretch_at jobs k).from < place removed (stretch_at jobs k).to) → (a n low : ℕ) →
      a + n ≤ length (stretches jobs) → ((k : ℕ) → a ≤ k → k < length (stretches jobs) → low ≤ place removed (stretch_at jobs k).from) →
      PiecesFrom low (contracted_stretches (stretches jobs) removed (filter p (range_with_len a n)))
  run_from p left a zero low within later = tt
  run_from p left a (suc n) low within later = elim (cases_Bool (p a)) [
    | inl here ↦ rw here (
      later a (omega arith) (omega arith),
      left a here,
      run_from p left (a + 1) n (place removed (stretch_at jobs a).to) (omega arith)
          (λ k from below. place_rises (stretch_at jobs a).to (stretch_at jobs k).from removed apart (stretch_order jobs a k (omega arith) below)),
    )
    | inr other ↦ rw other (run_from p left (a + 1) n low (omega arith) (λ k from below. later k (omega arith) below))
  ]

  pub run_left : (interval : Interval) → PiecesFrom 0 (contracted_stretches (stretches jobs) removed (stretches_inside (stretches jobs) removed interval))
  run_left interval =
      run_from (stretch_lies_in (stretches jobs) removed interval) (λ k lies. (lies_inside jobs removed interval k lies).left) 0 (length (stretches jobs)) 0
      (omega arith) (λ k from below. omega arith)

  pub uncut_left : (numbers members : List ℕ) → All (λ k. k < length (stretches jobs)) numbers → All (λ number. number < length jobs) members →
      AreUncut (contracted_jobs jobs removed members) (contracted_stretches (stretches jobs) removed numbers)
  uncut_left numbers members known jobs_known =
      All-map (λ stretch. All (λ (job : Job). IsOutside stretch job.release × IsOutside stretch job.deadline) (contracted_jobs jobs removed members))
      (λ k. contracted_stretch removed (stretch_at jobs k)) numbers
      (λ i d within. All-map (λ (job : Job). IsOutside (contracted_stretch removed (stretch_at jobs (get_or numbers i d))) job.release
      × IsOutside (contracted_stretch removed (stretch_at jobs (get_or numbers i d))) job.deadline) (λ number. contracted removed (job_at jobs number)) members
      (λ x e inside. (
        release_stays jobs removed apart (get_or members x e) (get_or numbers i d) (jobs_known x e inside) (known i d within),
        deadline_stays jobs removed apart (get_or members x e) (get_or numbers i d) (jobs_known x e inside) (known i d within),
      )))

  -- the stretches between two times serve as much as the speed does there
  module _ (speed : Quotient) (interval between : Interval) (first last : ℕ) (first_known : first < length jobs) (last_known : last < length jobs)
      (whole : AreWhole (stretches jobs) removed) (start : between.start ≡ place removed (job_at jobs first).release)
      (end : between.end ≡ place removed (job_at jobs last).deadline) (from : interval.start ≤ between.start) (to : between.end ≤ interval.end) where
    abbrev numbers : List ℕ
    numbers = stretches_inside (stretches jobs) removed interval

    abbrev left : List Piece
    left = contracted_stretches (stretches jobs) removed numbers

    -- what a stretch serves, where it lies between the two times
    abbrev served : Piece → ℕ
    served piece = cond (nat_le between.start piece.from && nat_le piece.to between.end) (capacity_of speed piece) 0

    one_more : (k : ℕ) → k < length (stretches jobs) → speed.num * cond (stretch_lies_in (stretches jobs) removed between k) (length_at jobs k) 0
        ≤ cond (stretch_lies_in (stretches jobs) removed interval k) (served (contracted_stretch removed (stretch_at jobs k))) 0
    one_more k known = grind (arith, and_from, cases_Bool, le-leb, lies_from, lies_inside)

    served_is : capacity_between left (map (capacity_of speed) left) between.start between.end
        ≡ sum_below (length (stretches jobs)) (λ k. cond (stretch_lies_in (stretches jobs) removed interval k) (served (contracted_stretch removed (stretch_at jobs k))) 0)
    served_is =
        sum_below_same (length left)
        (λ i. cond (nat_le between.start (nth_stretch left i).from && nat_le (nth_stretch left i).to between.end) (capacity_at (map (capacity_of speed) left) i) 0)
        (λ i. served (get_or left i no_stretch))
        (λ i within. ap (λ n. cond (nat_le between.start (nth_stretch left i).from && nat_le (nth_stretch left i).to between.end) n 0)
        (get_or-map (capacity_of speed) left i no_stretch 0 within))
        ∙ sym (sum_places served left no_stretch)
        ∙ sum_by-map (λ k. contracted_stretch removed (stretch_at jobs k)) served numbers
        ∙ sum_numbers (stretch_lies_in (stretches jobs) removed interval) (λ k. served (contracted_stretch removed (stretch_at jobs k))) (length (stretches jobs))

    pub room_between : speed.num * (between.end - between.start) ≤ capacity_between left (map (capacity_of speed) left) between.start between.end
    room_between =
        let lengths = λ (k : ℕ). cond (stretch_lies_in (stretches jobs) removed between k) (length_at jobs k) 0 in
        omega (
          arith,
          ap (λ n. speed.num * n) (lengths_between jobs removed apart between first last first_known last_known whole start end),
          sum_below-mul (length (stretches jobs)) speed.num lengths,
          sum_below_at_most (length (stretches jobs)) (λ k. speed.num * lengths k)
              (λ k. cond (stretch_lies_in (stretches jobs) removed interval k) (served (contracted_stretch removed (stretch_at jobs k))) 0) one_more,
          served_is,
        )

-- so the stretches of an interval can serve the jobs inside it
pub demand_left : (jobs : List Job) (removed : List Piece) (interval : Interval) (members : List ℕ) (speed : Quotient) → AreApartFrom 0 removed →
    AreWhole (stretches jobs) removed → All (CanWait jobs removed) members → All (λ number. lies_in jobs removed interval number ≡ true) members →
    IsFastEnough (contracted_jobs jobs removed members) speed →
    IsWithinCapacity (contracted_jobs jobs removed members) speed.den (contracted_stretches (stretches jobs) removed (stretches_inside (stretches jobs) removed interval))
    (map (capacity_of speed) (contracted_stretches (stretches jobs) removed (stretches_inside (stretches jobs) removed interval)))
demand_left jobs removed interval members speed apart whole can lie fast first last first_known last_known =
    let own = contracted_jobs jobs removed members in
    let from = (job_at own first).release in
    let to = (job_at own last).deadline in
    let one : first < length members = omega (arith, as_many jobs removed members) in
    let other : last < length members = omega (arith, as_many jobs removed members) in
    let from_is : from ≡ place removed (job_at jobs (get_or members first 0)).release = ap (λ (job : Job). job.release) (waits_at jobs removed members first one) in
    let to_is : to ≡ place removed (job_at jobs (get_or members last 0)).deadline = ap (λ (job : Job). job.deadline) (waits_at jobs removed members last other) in
    let begins = leb-true _ _ (and_parts (nat_le interval.start (place removed (job_at jobs (get_or members first 0)).release))
    (nat_le (place removed (job_at jobs (get_or members first 0)).deadline) interval.end) (lie first 0 one)).0 in
    let ends = leb-true _ _ (and_parts (nat_le interval.start (place removed (job_at jobs (get_or members last 0)).release))
    (nat_le (place removed (job_at jobs (get_or members last 0)).deadline) interval.end) (lie last 0 other)).1 in
    elim (cases_lt from to) [
      | inl forward ↦ omega (
        arith,
        fast from to forward,
        room_between jobs removed apart speed interval (record { start = from; end = to; work = 0 }) (get_or members first 0) (get_or members last 0)
            (can first 0 one).known (can last 0 other).known whole from_is to_is (omega (arith, begins, from_is)) (omega (arith, ends, to_is)),
      )
      | inr empty ↦ omega (arith, ap (λ n. speed.den * n) (nothing_within own from to (are_jobs jobs removed members can) empty))
    ]
