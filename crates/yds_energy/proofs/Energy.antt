-- The energy of feasible schedules by a convex table: what they share, and excesses above the points' speeds.
use Rattle.yds_model.proofs.Common.{◌≡◌, ℕ, ◌+◌, ◌-◌, ◌*◌, ◌≤◌, List, [], ◌∷◌, refl, arith, ap, sum_by, mul-le-mul_left, ints, Job, WholeSlot, IsFeasibleAt, excess, IsLeastAt, Point, AreRising, IsConvex, gaps_of, horizon, busy, idle, product, interpolated_power, interpolated_energy, sum_by-add, sum_by-mul, sum_by_zero}
use Rattle.model_lemmas.proofs.Horizon.{same_work, busy_and_idle}
use Rattle.yds_energy.specs.EnergyLaws.{LeastIsCheapest}
use Rattle.yds_energy.proofs.Differences.{IsDifference, difference_at_most, total_is}
use Rattle.yds_energy.proofs.Hinges.{gains, losses, turn, hinges, lines_are, product-cons}
use Rattle.yds_energy.proofs.RoundedRuns.{all_work}

-- how long the slot takes
abbrev time_of : WholeSlot → ℕ
time_of slot = slot.to - slot.from

-- the hinges of all slots together
abbrev all_hinges : ℕ → List Point → List WholeSlot → ℕ
all_hinges before points slots = sum_by (λ slot. hinges before points (time_of slot) slot.work) slots

-- the hinges of all slots are excesses, with weights
hinges_at_most : (jobs : List Job) (scale before : ℕ) (low high : Point) (points : List Point) (slots others : List WholeSlot) →
    IsLeastAt jobs scale slots → IsFeasibleAt jobs scale others → all_hinges before (low ∷ high ∷ points) slots ≤ all_hinges before (low ∷ high ∷ points) others
hinges_at_most jobs scale before low high [] slots others least feasible =
    omega (arith, sum_by_zero (λ slot. hinges before (low ∷ high ∷ []) (time_of slot) slot.work) slots (λ k d within. refl))
hinges_at_most jobs scale before low high (next ∷ points) slots others least feasible =
    let more : excess high.speed 1 slots ≤ excess high.speed 1 others = least.least high.speed 1 (omega arith) others feasible in
    simp (sum_by-add, sum_by-mul) (omega (
      arith,
      mul-le-mul_left (before * product (gaps_of (next ∷ points)) * turn low high next) more,
      hinges_at_most jobs scale (before * (high.speed - low.speed)) high next points slots others least feasible,
    ))

-- the energy by a table of two points or more
energy_is : (jobs : List Job) (low high : Point) (points : List Point) (scale : ℕ) (slots : List WholeSlot) →
    AreRising (low ∷ high ∷ points) → IsConvex (low ∷ high ∷ points) →
    IsDifference
    (1 * product (gaps_of (high ∷ points)) * gains low high (busy slots) (all_work slots) + all_hinges 1 (low ∷ high ∷ points) slots
    + product (gaps_of (low ∷ high ∷ points)) * (low.power * idle jobs scale slots))
    (1 * product (gaps_of (high ∷ points)) * losses low high (busy slots) (all_work slots))
    (interpolated_energy jobs (low ∷ high ∷ points) scale slots)
energy_is jobs low high points scale slots rising convex =
    omega (
      arith,
      ints,
      simp (sum_by-add, sum_by-mul) at (total_is
          (λ slot. 1 * product (gaps_of (high ∷ points)) * gains low high (time_of slot) slot.work + hinges 1 (low ∷ high ∷ points) (time_of slot) slot.work)
          (λ slot. 1 * product (gaps_of (high ∷ points)) * losses low high (time_of slot) slot.work)
          (λ slot. interpolated_power (low ∷ high ∷ points) (time_of slot) slot.work) slots (λ slot. lines_are 1 low high points (time_of slot) slot.work rising convex)),
    )

-- the first line's number is the same for all feasible schedules, with the idle time
sides : (others p r f all low whole busy busy_2 idle idle_2 work work_2 hinges hinges_2 : ℕ) → low ≡ 0 → all ≡ f * others →
    busy + idle ≡ whole → busy_2 + idle_2 ≡ whole → work ≡ work_2 → hinges ≤ hinges_2 →
    others * (p * (f * busy) + r * work) + hinges + all * (p * idle) + others * (p * work_2 + r * (low * busy_2))
    ≤ others * (p * (f * busy_2) + r * work_2) + hinges_2 + all * (p * idle_2) + others * (p * work + r * (low * busy))
sides others p r f all low whole busy busy_2 idle idle_2 work work_2 hinges hinges_2 bottom is_all time time_2 same more =
    omega (
      arith,
      ap (λ n. n * (p * idle)) is_all,
      ap (λ n. n * (p * idle_2)) is_all,
      ap (λ n. others * r * n * busy) bottom,
      ap (λ n. others * r * n * busy_2) bottom,
      ap (λ n. others * p * f * n) time,
      ap (λ n. others * p * f * n) time_2,
      ap (λ n. others * p * n) same,
      ap (λ n. others * r * n) same,
      more,
    )

-- the law: a schedule that is least has at most the energy of each feasible one
pub least_is_cheapest : LeastIsCheapest
least_is_cheapest jobs [] scale slots others table convex least feasible = absurd (omega (arith, table.some))
least_is_cheapest jobs (point ∷ []) scale slots others table convex least feasible =
    difference_at_most _ _ _ _ _ _ (alone jobs point scale slots) (alone jobs point scale others)
    (omega (
      arith,
      ap (λ n. point.power * n) (busy_and_idle jobs scale slots least.feasible),
      ap (λ n. point.power * n) (busy_and_idle jobs scale others feasible),
    ))
  where
    -- a table of one point gives its power for all time, whatever runs
    alone : (jobs : List Job) (point : Point) (scale : ℕ) (slots : List WholeSlot) →
        IsDifference (point.power * busy slots + point.power * idle jobs scale slots) 0 (interpolated_energy jobs (point ∷ []) scale slots)
    alone jobs point scale slots =
        omega (
          arith,
          ints,
          total_is (λ slot. point.power * time_of slot) (λ slot. 0) (λ slot. interpolated_power (point ∷ []) (time_of slot) slot.work) slots (λ slot. refl),
          sum_by-mul point.power time_of slots,
          sum_by_zero (λ slot. 0) slots (λ k d within. refl),
        )
least_is_cheapest jobs (low ∷ high ∷ points) scale slots others table convex least feasible =
    difference_at_most _ _ _ _ _ _ (energy_is jobs low high points scale slots table.rising convex) (energy_is jobs low high points scale others table.rising convex)
    (sides (1 * product (gaps_of (high ∷ points))) low.power high.power high.speed (product (gaps_of (low ∷ high ∷ points))) low.speed (scale * horizon jobs)
    (busy slots) (busy others) (idle jobs scale slots) (idle jobs scale others) (all_work slots) (all_work others)
    (all_hinges 1 (low ∷ high ∷ points) slots) (all_hinges 1 (low ∷ high ∷ points) others) table.idle
    (omega (arith, product-cons (high.speed - low.speed) (gaps_of (high ∷ points)), ap (λ n. n * product (gaps_of (high ∷ points))) gap))
    (busy_and_idle jobs scale slots least.feasible) (busy_and_idle jobs scale others feasible)
    (same_work jobs scale slots others least.feasible feasible) (hinges_at_most jobs scale 1 low high points slots others least feasible))
  where
    -- the first point is idle, so the first gap is the second point's speed
    gap : high.speed - low.speed ≡ high.speed
    gap = omega (arith, table.idle)
