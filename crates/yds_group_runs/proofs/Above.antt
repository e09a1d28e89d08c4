-- What runs of Average Rate of groups do above a speed is together at most what the run of all jobs does.
use Rattle.yds_model.proofs.Common.{◌≡◌, ℕ, ◌+◌, ◌-◌, ◌*◌, ◌<◌, ◌≤◌, ◌∣◌, List, [], ◌∷◌, length, get_or, ap, subst, refl, arith, All, All-map, sum_by, sum_by-cons, mul-sub, mul-le-mul_left, le_of_mul-le-mul_left, get_or-le-sum_by, Job, job_at, jobs_with, WrittenSlot, WholeSlot, IsScale, slots_at, excess, Piece, stretches, average_rate, IsAverageRateRun, work_in, sum_by-mul, sum_by_same, sum_by_at_most, All-front, All-back, no_job, zero, suc}
use Rattle.base.specs.Numbers.{sum_below}
use Rattle.model_lemmas.proofs.SumsBelow.{sum_below_same, sum_below_at_most, sum_below_zero, sum_below-add}
use Rattle.yds_laws.proofs.ExactRates.{average_rate_is_exact}
use Rattle.yds_energy.proofs.EvenStretches.{run_even}
use Rattle.yds_ratios.proofs.ListProducts.{product_of, product_some, product_divided}
use Rattle.yds_ratios.proofs.AboveSpeed.{even_excess}
use Rattle.yds_ratios.proofs.AverageSpeeds.{window, live_work, work_shared}
use Rattle.yds_cuts.specs.Groups.{AreApartIn}
use Rattle.yds_cuts.specs.Bounds.{WrittenGroup}
use Rattle.yds_group_runs.specs.GroupRuns.{numbers_of_written, IsGroupRun, excess_of_groups, GroupRunsAboveASpeed}
use Rattle.yds_group_runs.proofs.Units.{unit, above, above_in, above_stretches, above_units, stretches_at_most, units_at_most}
use Rattle.yds_group_runs.proofs.Selections.{groups_live, above_together, above_more}

-- # One run

-- in plain numbers: what a stretch does above a speed
stretch_over : (windows p q work long scale live : ℕ) → work * windows ≡ scale * long * live → windows * (q * work - p * (long * scale)) ≡ scale * (long * above p q windows live)
stretch_over windows p q work long scale live is =
    omega (arith, mul-sub windows (q * work) (p * (long * scale)), mul-sub (scale * long) (q * live) (p * windows), ap (λ n. q * n) is)

-- the excess of a run that never rounded, by its stretches
run_over : (jobs : List Job) (grid scale p q windows : ℕ) (slots : List WrittenSlot) → 1 ≤ grid → All (λ job. window job ∣ windows) jobs → IsAverageRateRun jobs grid 0 slots →
    IsScale scale slots → windows * excess p q (slots_at scale slots) ≡ scale * above_stretches jobs p q windows
run_over jobs grid scale p q windows slots some divided run is =
    let whole : List WholeSlot = slots_at scale slots in
    let at = run.run.holds scale is in
    let does = (average_rate_is_exact jobs grid slots some run).holds scale is in
    let over = λ (stretch : Piece). q * work_in scale stretch whole - p * ((stretch.to - stretch.from) * scale) in
    let in_stretch = λ (stretch : Piece). (stretch.to - stretch.from) * above_in jobs p q windows stretch in
    omega (
      arith,
      ap (λ n. windows * n) (even_excess jobs scale p q whole is.positive at.feasible at.served.uncut
          (run_even jobs grid scale (average_rate jobs grid scale whole) whole is.positive at)),
      sum_by-mul windows over (stretches jobs),
      sum_by_same (λ stretch. windows * over stretch) (λ stretch. scale * in_stretch stretch) (stretches jobs)
          (λ k d within.
          let stretch = get_or (stretches jobs) k d in
          stretch_over windows p q (work_in scale stretch whole) (stretch.to - stretch.from) scale (live_work jobs windows stretch)
          (work_shared jobs windows divided grid scale whole stretch some (does k d within))),
      sum_by-mul scale in_stretch (stretches jobs),
    )

-- # Groups

-- what is so of all numbers is so of each group's
pub of_each : (P : ℕ → Type 0) (groups : List WrittenGroup) → All P (numbers_of_written groups) → (k : ℕ) (d : WrittenGroup) → k < length groups →
    All P (get_or groups k d).numbers
of_each P [] all k d within = absurd (omega (arith, within))
of_each P (group ∷ groups) all zero d within = All-front P group.numbers (numbers_of_written groups) all
of_each P (group ∷ groups) all (suc k) d within = of_each P groups (All-back P group.numbers (numbers_of_written groups) all) k d (omega (arith, within))

-- sums of lists' sums, each element's terms by themselves
by_elements : {X : Type 0} (n : ℕ) (f : ℕ → X → ℕ) (xs : List X) → sum_below n (λ k. sum_by (λ x. f k x) xs) ≡ sum_by (λ x. sum_below n (λ k. f k x)) xs
by_elements n f [] = sum_below_zero n (λ k. 0) (λ k within. refl)
by_elements n f (x ∷ xs) =
    omega (
      arith,
      sum_below_same n (λ k. sum_by (λ y. f k y) (x ∷ xs)) (λ k. f k x + sum_by (λ y. f k y) xs) (λ k within. sum_by-cons (λ y. f k y) x xs),
      sum_below-add n (λ k. f k x) (λ k. sum_by (λ y. f k y) xs),
      sum_by-cons (λ y. sum_below n (λ k. f k y)) x xs,
      by_elements n f xs,
    )

module _ (jobs : List Job) (grid scale p q windows : ℕ) (groups : List WrittenGroup) (some : 1 ≤ grid) (divided : All (λ job. window job ∣ windows) jobs)
    (apart : AreApartIn jobs (numbers_of_written groups)) where
  abbrev of : WrittenGroup → List Job
  of group = jobs_with jobs group.numbers

  -- when the last of all groups' stretches has ended
  abbrev end : ℕ
  end = sum_by (λ group. sum_by (λ (stretch : Piece). stretch.to) (stretches (of group))) groups

  ended : (k : ℕ) (d : WrittenGroup) → k < length groups → All (λ stretch. stretch.to ≤ end) (stretches (of (get_or groups k d)))
  ended k d within i other inside =
      omega (
        arith,
        get_or-le-sum_by (λ (stretch : Piece). stretch.to) (stretches (of (get_or groups k d))) i other inside,
        get_or-le-sum_by (λ group. sum_by (λ (stretch : Piece). stretch.to) (stretches (of group))) groups k d within,
      )

  -- in a unit, what is above the speed in the groups is at most what is above it in all
  groups_in_unit : (time : ℕ) → sum_by (λ group. above_in (of group) p q windows (unit time)) groups ≤ above_in jobs p q windows (unit time)
  groups_in_unit time =
      omega (
        arith,
        above_together p q windows (λ group. live_work (of group) windows (unit time)) groups,
        above_more p q windows (sum_by (λ group. live_work (of group) windows (unit time)) groups) (live_work jobs windows (unit time)) (groups_live jobs windows (unit time) groups apart),
      )

  -- so in all stretches
  groups_in_stretches : sum_by (λ group. above_stretches (of group) p q windows) groups ≤ above_stretches jobs p q windows
  groups_in_stretches =
      omega (
        arith,
        sum_by_at_most (λ group. above_stretches (of group) p q windows) (λ group. above_units (of group) p q windows end) groups
            (λ k d within. stretches_at_most (of (get_or groups k d)) p q windows end (ended k d within)),
        by_elements end (λ time group. above_in (of group) p q windows (unit time)) groups,
        sum_below_at_most end (λ time. sum_by (λ group. above_in (of group) p q windows (unit time)) groups) (λ time. above_in jobs p q windows (unit time))
            (λ time inside. groups_in_unit time),
        units_at_most jobs p q windows end,
      )

  -- and so for runs
  runs_over : (slots : List WrittenSlot) → IsAverageRateRun jobs grid 0 slots → All (IsGroupRun jobs grid) groups → IsScale scale slots → All (λ group. IsScale scale group.slots) groups →
      windows * excess_of_groups p q scale groups ≤ windows * excess p q (slots_at scale slots)
  runs_over slots run are is scales =
      omega (
        arith,
        sum_by-mul windows (λ (group : WrittenGroup). excess p q (slots_at scale group.slots)) groups,
        sum_by_same (λ (group : WrittenGroup). windows * excess p q (slots_at scale group.slots)) (λ group. scale * above_stretches (of group) p q windows) groups
            (λ k d within.
            let group = get_or groups k d in
            run_over (of group) grid scale p q windows group.slots some (divided_in group.numbers (of_each (λ number. number < length jobs) groups apart.known k d within)) (are k d within) (scales k d within)),
        sum_by-mul scale (λ group. above_stretches (of group) p q windows) groups,
        mul-le-mul_left scale groups_in_stretches,
        run_over jobs grid scale p q windows slots some divided run is,
      )
    where
      divided_in : (numbers : List ℕ) → All (λ number. number < length jobs) numbers → All (λ job. window job ∣ windows) (jobs_with jobs numbers)
      divided_in numbers known = All-map (λ job. window job ∣ windows) (job_at jobs) numbers (λ k d within. divided (get_or numbers k d) no_job (known k d within))

-- # The law

pub group_runs_above_a_speed : GroupRunsAboveASpeed
group_runs_above_a_speed jobs grid scale p q slots groups some apart run are is scales =
    let windows : ℕ = product_of window jobs in
    let some_windows : 1 ≤ windows = product_some window jobs (λ i d within. omega arith) in
    let one : windows * 1 ≡ windows = omega arith in
    let divided : All (λ job. window job ∣ windows) jobs = subst (λ (m : ℕ). All (λ job. window job ∣ m) jobs) one (product_divided window jobs 1) in
    le_of_mul-le-mul_left {k = windows} (runs_over jobs grid scale p q windows groups some divided apart slots run are is scales) some_windows
