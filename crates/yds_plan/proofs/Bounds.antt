-- What the groups have together is within the limits of levels.
use Rattle.yds_model.proofs.Common.{ℕ, ◌+◌, ◌-◌, ◌*◌, ◌<◌, ◌≤◌, ◌==◌, List, [], ◌∷◌, length, get_or, ap, arith, Bool, true, false, cond, All, sum_by, filter, range_with_len, sum_by-cons, sum_by-le, All-head, All-tail, All-from_get_or, length-range_with_len, mul-le-mul_right, Job, IsJob, job_at, Piece, PiecesFrom, total_length, stretches, sum_by-mul, sum_by_same, sum_by_at_most, sum_by-filter}
use Rattle.base.specs.declared.limits.TheConstants.{MAX_JOBS, MAX_TIME, MAX_WORK}
use Rattle.yds_search.specs.Found.{Group, Found, IsFound, no_group, group_of, group_at, work_of_group, length_of_group}
use Rattle.yds_events.specs.Stretch.{no_stretch}
use Rattle.yds_events.specs.Window.{length_at}
use Rattle.yds_plan.specs.Drafts.{AreGroupsWithin}
use Rattle.yds_search.proofs.KeySums.{in_range, split_at_most, sum_of_all, cond_at_most, count_all}
use Rattle.yds_events.proofs.Neighbours.{stretches_run, stretch_in_range}

abbrev EndsBy : ℕ → Piece → Type 0
EndsBy most piece = piece.to ≤ most

-- pieces one after another are no longer than the time to their end
run_within : (low most : ℕ) (pieces : List Piece) → low ≤ most → PiecesFrom low pieces → All (EndsBy most) pieces → low + total_length pieces ≤ most
run_within low most [] from run all = omega arith
run_within low most (piece ∷ pieces) from run all =
    omega (
      arith,
      run.0,
      run.1,
      sum_by-cons (λ (one : Piece). one.to - one.from) piece pieces,
      run_within piece.to most pieces (All-head (EndsBy most) piece pieces all) run.2 (All-tail (EndsBy most) piece pieces all),
    )

total_in_range : (jobs : List Job) → All IsJob jobs → total_length (stretches jobs) ≤ MAX_TIME
total_in_range jobs all =
    omega (
      arith,
      run_within 0 MAX_TIME (stretches jobs) (omega arith) (stretches_run jobs)
          (All-from_get_or (EndsBy MAX_TIME) (stretches jobs) no_stretch (λ k within. stretch_in_range jobs k all within)),
    )

-- sums over what is in each place, together
places_within : (places : List ℕ) (v : ℕ → ℕ) (groups n : ℕ) →
    sum_by (λ i. sum_by (λ j. cond (group_of places j == i) (v j) 0) (range_with_len 0 n)) (range_with_len 0 groups) ≤ sum_by v (range_with_len 0 n)
places_within places v groups n =
    let all = range_with_len 0 n in
    omega (
      arith,
      sum_by_same (λ i. sum_by v (filter (λ j. group_of places j == i) all)) (λ i. sum_by (λ j. cond (group_of places j == i) (v j) 0) all) (range_with_len 0 groups)
          (λ k d within. sum_by-filter (λ j. group_of places j == get_or (range_with_len 0 groups) k d) v all),
      split_at_most (group_of places) v groups all,
    )

one_place : (places : List ℕ) (v : ℕ → ℕ) (i n : ℕ) → sum_by (λ j. cond (group_of places j == i) (v j) 0) (range_with_len 0 n) ≤ sum_by v (range_with_len 0 n)
one_place places v i n =
    sum_by_at_most (λ j. cond (group_of places j == i) (v j) 0) v (range_with_len 0 n) (λ k d within. cond_at_most _ _)

scaled_cond : (b : Bool) (v most : ℕ) → v ≤ most → cond b v 0 ≤ most * cond b 1 0
scaled_cond true v most h = omega arith
scaled_cond false v most h = omega arith

module _ (jobs : List Job) (all : All IsJob jobs) where
  work_at_most : All (λ j. (job_at jobs j).work ≤ MAX_WORK) (range_with_len 0 (length jobs))
  work_at_most k d within = grind (arith, in_range)

  pub all_work : sum_by (λ j. (job_at jobs j).work) (range_with_len 0 (length jobs)) ≤ length jobs * MAX_WORK
  all_work =
      omega (
        arith,
        sum_by-le (λ j. (job_at jobs j).work) MAX_WORK (range_with_len 0 (length jobs)) work_at_most,
        ap (λ n. n * MAX_WORK) (length-range_with_len 0 (length jobs)),
      )

  all_length : sum_by (length_at jobs) (range_with_len 0 (length (stretches jobs))) ≤ MAX_TIME
  all_length =
      omega (arith, sum_of_all (λ (piece : Piece). piece.to - piece.from) (stretches jobs) no_stretch, total_in_range jobs all)

  module _ (found : Found) (is : IsFound jobs found) where
    pub group_work : (i : ℕ) → i < length found.groups → (group_at found.groups i).work ≤ length jobs * MAX_WORK
    group_work i known =
        omega (arith, is.works i known, one_place found.group_of_job (λ j. (job_at jobs j).work) i (length jobs), all_work)

    pub group_length : (i : ℕ) → i < length found.groups → (group_at found.groups i).length ≤ MAX_TIME
    group_length i known =
        omega (arith, is.lengths i known, one_place found.group_of_stretch (length_at jobs) i (length (stretches jobs)), all_length)

    groups_work : sum_by (λ group. group.work) found.groups ≤ length jobs * MAX_WORK
    groups_work =
        omega (
          arith,
          sum_of_all (λ (group : Group). group.work) found.groups no_group,
          sum_by_same (λ i. (group_at found.groups i).work) (λ i. work_of_group jobs found.group_of_job i (length jobs)) (range_with_len 0 (length found.groups))
              (λ k d within. let at = in_range (length found.groups) k d within in rw (at.1) (is.works k at.0)),
          places_within found.group_of_job (λ j. (job_at jobs j).work) (length found.groups) (length jobs),
          all_work,
        )

    groups_length : sum_by (λ group. group.length) found.groups ≤ MAX_TIME
    groups_length =
        omega (
          arith,
          sum_of_all (λ (group : Group). group.length) found.groups no_group,
          sum_by_same (λ i. (group_at found.groups i).length) (λ i. length_of_group jobs found.group_of_stretch i (length (stretches jobs)))
              (range_with_len 0 (length found.groups))
              (λ k d within. let at = in_range (length found.groups) k d within in rw (at.1) (is.lengths k at.0)),
          places_within found.group_of_stretch (length_at jobs) (length found.groups) (length (stretches jobs)),
          all_length,
        )

    -- each group has a job
    some_job : (i : ℕ) → i < length found.groups → 1 ≤ sum_by (λ j. cond (group_of found.group_of_job j == i) 1 0) (range_with_len 0 (length jobs))
    some_job i known =
        let most = sum_by_at_most (λ j. cond (group_of found.group_of_job j == i) (job_at jobs j).work 0)
        (λ j. MAX_WORK * cond (group_of found.group_of_job j == i) 1 0) (range_with_len 0 (length jobs))
        (λ k d within. scaled_cond _ _ MAX_WORK (work_at_most k d within)) in
        omega (
          arith,
          is.works i known,
          is.some_work i known,
          most,
          sum_by-mul MAX_WORK (λ j. cond (group_of found.group_of_job j == i) 1 0) (range_with_len 0 (length jobs)),
        )

    pub few_groups : length found.groups ≤ length jobs
    few_groups =
        omega (
          arith,
          length-range_with_len 0 (length found.groups),
          count_all (range_with_len 0 (length found.groups)),
          sum_by_at_most (λ i. 1) (λ i. sum_by (λ j. cond (group_of found.group_of_job j == i) 1 0) (range_with_len 0 (length jobs)))
              (range_with_len 0 (length found.groups))
              (λ k d within. let at = in_range (length found.groups) k d within in rw (at.1) (some_job k at.0)),
          places_within found.group_of_job (λ j. 1) (length found.groups) (length jobs),
          count_all (range_with_len 0 (length jobs)),
          length-range_with_len 0 (length jobs),
        )

    pub groups_within : length jobs ≤ MAX_JOBS → AreGroupsWithin found.groups
    groups_within few = grind (arith, few_groups, groups_length, groups_work, mul-le-mul_right)
