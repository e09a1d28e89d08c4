-- What a cut of the admitted jobs leaves of a board's gaps.
use Rattle.yds_model.proofs.Common.{◌≡◌, ℕ, ◌+◌, ◌*◌, ◌<◌, ◌≤◌, List, length, map, get_or, ◌∙◌, arith, sym, false, All, filter, sum_by, All-map, All-filter, length-map, length-range_with_len, sum_by-le, length-filter, count_by-le-length, mul-le-mul_right, sum_by-IsPermutation, length_permutation, Job, IsJob, no_job, job_at, numbers_of, sum_by-map, sum_by-filter}
use Rattle.model_lemmas.proofs.Confined.{part_within}
use Rattle.base.specs.declared.limits.TheConstants.{MAX_JOBS, MAX_WORK}
use Rattle.yds_laws.specs.AdmissionLaws.{HasRoom}
use Rattle.yds_admit.specs.declared.board.Board.{Board}
use Rattle.yds_admit.specs.declared.board.Spot.{Spot}
use Rattle.yds_admit.specs.declared.state.State.{State}
use Rattle.yds_admit.specs.Board.{falling_jobs, if_marked}
use Rattle.yds_admit.specs.Idle.{HasIdle, idle_before}
use Rattle.yds_admit.specs.Pieces.{went, IsCutting, AreCut, AreBounds, AreUsed, AreExact}
use Rattle.yds_admit.proofs.Cutting.{went_fits}
use Rattle.yds_admit.specs.State.{IsState}
use Rattle.yds_admit.proofs.Idleness.{full_before, is_rest, less_left, left_idle, left_most, left_tight, same_idle}
use Rattle.yds_admit.proofs.Newly.{any_same, room_same}

module _ (board : Board) (state : State) (is : IsState board state) where
  abbrev spots : List Spot
  spots = board.spots.items

  abbrev all : List Job
  all = falling_jobs board.rows.now state.marks.items spots

  -- the marked jobs by falling releases are the admitted ones in another order
  sums : (g : Job → ℕ) → sum_by g all ≡ sum_by g state.jobs.items
  sums g =
      let f : ℕ → ℕ = if_marked state.marks.items (λ n. g (job_at board.rows.now n)) in
      let kept : List Spot = filter (λ spot. get_or state.marks.items spot.number false) spots in
      sum_by-map (λ (spot : Spot). job_at board.rows.now spot.number) g kept
      ∙ sum_by-filter (λ (spot : Spot). get_or state.marks.items spot.number false) (λ (spot : Spot). g (job_at board.rows.now spot.number)) spots
      ∙ sym (sum_by-map (λ (spot : Spot). spot.number) f spots)
      ∙ sum_by-IsPermutation f (numbers_of board.rows.now) (map (λ (spot : Spot). spot.number) spots) is.on.are_spots.same
      ∙ is.marked.marked.sums g

  -- they are few jobs within the limits, and leave no interval overfull
  few : length all ≤ MAX_JOBS
  few = omega (
    arith,
    length-map (filter (λ (spot : Spot). get_or state.marks.items spot.number false) spots) (λ (spot : Spot). job_at board.rows.now spot.number),
    length-filter (λ (spot : Spot). get_or state.marks.items spot.number false) spots,
    count_by-le-length (λ (spot : Spot). get_or state.marks.items spot.number false) spots,
    length-map spots (λ (spot : Spot). spot.number),
    length_permutation (numbers_of board.rows.now) (map (λ (spot : Spot). spot.number) spots) is.on.are_spots.same,
    length-range_with_len 0 (length board.rows.now),
    is.on.few,
  )

  are : All IsJob all
  are = All-map IsJob (λ (spot : Spot). job_at board.rows.now spot.number) (filter (λ (spot : Spot). get_or state.marks.items spot.number false) spots)
      (All-filter (λ (spot : Spot). get_or state.marks.items spot.number false) (λ (spot : Spot). IsJob (job_at board.rows.now spot.number)) spots
      (λ k d below. is.on.are (get_or spots k d).number no_job (is.on.are_spots.each k d below).known))

  room : HasRoom board.top all
  room = room_same board.top state.jobs.items all sums is.decided.room

  module _ (jobs : List Job) (places left : List ℕ) (cutting : IsCutting board.top board.times.items jobs places left) (cut : AreCut all jobs)
      (as_long : length left ≡ length board.gaps.items) where
    abbrev times : List ℕ
    times = board.times.items

    abbrev full : List ℕ
    full = board.gaps.items

    long : length left + 1 ≡ length times
    long = omega (arith, as_long, is.on.are_gaps.as_long)

    -- no gap gets more
    pub left_less : (q : ℕ) → q < length full → get_or left q 0 ≤ get_or full q 0
    left_less = less_left board.top times full all jobs places left cutting is.on.are_gaps cut.same cut.falling are room is.on.are_times.rising long

    -- what is left is idle
    pub left_has_idle : HasIdle board.top times state.jobs.items left
    left_has_idle = same_idle board.top times state.jobs.items all left sums
        (left_idle board.top times full all jobs places left cutting is.on.are_gaps cut.same cut.falling are room is.on.are_times.rising long)

    all_few : sum_by (λ job. job.work) all ≤ length all * MAX_WORK
    all_few = sum_by-le (λ (job : Job). job.work) MAX_WORK all (λ k d below. (are k d below).work_in_range)

    -- what is left before a place, with the units that went before it, is all that the gaps had
    left_is : (q : ℕ) → q ≤ length full → idle_before left q + went (length jobs) jobs places q ≡ idle_before full q
    left_is q within = omega (
      arith,
      is_rest board.top times full all jobs places left cutting is.on.are_gaps cut.same cut.falling are room is.on.are_times.rising long is.on.are_times.first q (omega (arith, within, as_long)),
      full_before board.top times full is.on.are_gaps is.on.are_times.first q within,
    )

    -- that is little
    pub left_few : (q : ℕ) → q ≤ length full → idle_before full q ≤ idle_before left q + MAX_JOBS * MAX_WORK
    left_few q within = omega (arith, left_is q within, went_fits (length jobs) jobs places q (omega arith) (omega (arith, cut.total, all_few, mul-le-mul_right MAX_WORK few)))

    -- the units before each of the times
    pub left_used : (used : List ℕ) → length used ≡ length full + 1 → ((q : ℕ) → q ≤ length full → idle_before left q + get_or used q 0 ≡ idle_before full q) → AreUsed times jobs places used
    left_used used used_long each = record {
      used_as_long = omega (arith, used_long, is.on.are_gaps.as_long);
      each = λ q below. let within : q ≤ length full = omega (arith, below, is.on.are_gaps.as_long) in omega (arith, each q within, left_is q within);
    }

    -- the pieces bound what the jobs want
    pub left_bounds : AreBounds board.top times state.jobs.items jobs places left
    left_bounds = record {
      as_long = cutting.as_long;
      falling = cut.falling;
      few = omega (
        arith,
        cut.total,
        sums (λ job. job.work),
        sum_by-le (λ (job : Job). job.work) MAX_WORK state.jobs.items (λ k d below. (is.decided.are k d below).work_in_range),
      );
      kept = λ from some. cut.kept from (any_same (λ job. job.release) from state.jobs.items all sums some);
      known = λ from some. any_same (λ job. job.release) from all state.jobs.items (λ g. sym (sums g)) (cut.known from some);
      most = λ from n a b count forward below. omega (
        arith,
        left_most board.top times full all jobs places left cutting is.on.are_gaps cut.same cut.falling are room is.on.are_times.rising long from n a b count forward below,
        sums (part_within from (get_or times b 0)),
      );
    }

    -- and no less
    pub left_exact : AreExact board.top times state.jobs.items jobs places left
    left_exact = record {
      rest = λ q below.
          is_rest board.top times full all jobs places left cutting is.on.are_gaps cut.same cut.falling are room is.on.are_times.rising long is.on.are_times.first q (omega (arith, below, long));
      tight = λ n from q few early below.
          let found = left_tight board.top times full all jobs places left cutting is.on.are_gaps cut.same cut.falling are room is.on.are_times.rising long n from q few early below in
          (found.0, found.1, found.2, omega (arith, found.3, sums (part_within from (get_or times found.0 0))));
    }
