-- What a schedule costs on points of a power, over all stretches, and as a quotient.
use Rattle.yds_model.proofs.Common.{◌≡◌, ℕ, suc, ◌+◌, ◌-◌, ◌*◌, ◌^◌, ◌<◌, ◌≤◌, List, [], ◌∷◌, length, get_or, count, sym, ap, subst, ◌∙◌, arith, All, All-tail, All-filter, sum_by, sum_by-cons, sum_by_at_most, sum_by_zero, sum_by-add, mul-add, mul-pos, mul-le-mul_left, mul-le-mul_right, le_of_mul-le-mul_left, Job, numbers_of, Fraction, numerator, WholeSlot, Piece, Point, multiple_of_all, gaps_of, hull_of, hull_multiple, IsFeasibleAt, stretches, IsUncut, slots_in, work_in, time_at, all_energy, in_parts, HoldsStretch}
use Rattle.fraction_lemmas.proofs.LowestTerms.{lowest_value, HasValue}
use Rattle.model_lemmas.proofs.Counted.{contained_counted}
use Rattle.model_lemmas.proofs.Front.{pieces_forward}
use Rattle.model_lemmas.proofs.Runs.{run_forward}
use Rattle.std.proofs.Math.Nat.{one-le-pow}
use Rattle.yds_events.proofs.Neighbours.{stretches_run}
use Rattle.yds_laws.proofs.Group.{group_at_most, work_served}
use Rattle.yds_laws.proofs.JobNumbers.{sum_by_number}
use Rattle.yds_laws.proofs.Served.{all_numbers, counted_once, is_number}
use Rattle.yds_energy.proofs.Compared.{hull_some_multiple}
use Rattle.yds_energy.proofs.PointTimes.{point_energy}
use Rattle.yds_energy.proofs.RoundedRuns.{all_work}
use Rattle.yds_energy.proofs.SpentEnergy.{IsEven}
use Rattle.yds_energy.proofs.StretchSlots.{lies, sum_in_stretches}
use Rattle.yds_ratios.specs.SpendingByPower.{spending}
use Rattle.yds_ratios.proofs.WholeSpeeds.{lengths, lengths_some, takes, HasSpeed, have_speeds, spent, slot_spent, is_spent}
use Rattle.yds_ratios.proofs.ListProducts.{product_divided}
use Rattle.yds_point_laws.specs.PowerPoints.{power_points, RiseWithin, CostsByPower}
use Rattle.yds_point_laws.specs.PointLaws.{whole_work}
use Rattle.yds_point_laws.proofs.PowerTable.{is_table, hull_is}
use Rattle.yds_point_laws.proofs.StretchCosts.{points, multiple, cost, IsBounded, even_bounded}

-- # Sums

-- the energy by the points is that by the stretches; a lemma of `yds_energy`, which keeps it to itself
by_stretches : (points : List Point) (time : ℕ → Piece → ℕ) (all : List Piece) →
    sum_by (λ point. point.power * sum_by (time point.speed) all) points ≡ sum_by (λ stretch. sum_by (λ point. point.power * time point.speed stretch) points) all
by_stretches points time [] = sum_by_zero (λ point. point.power * 0) points (λ k d within. omega arith)
by_stretches points time (stretch ∷ all) = simp (sum_by-cons, mul-add, sum_by-add) (omega (arith, by_stretches points time all))

-- what is so of each stretch is so of all
pub sums_at_most : (a b c : ℕ) (f g h : Piece → ℕ) (all : List Piece) → All (λ stretch. a * f stretch ≤ b * g stretch + c * h stretch) all →
    a * sum_by f all ≤ b * sum_by g all + c * sum_by h all
sums_at_most a b c f g h [] each = omega arith
sums_at_most a b c f g h (stretch ∷ all) each =
    simp sum_by-cons (omega (
      arith,
      each 0 stretch (omega arith),
      sums_at_most a b c f g h all (All-tail (λ one. a * f one ≤ b * g one + c * h one) stretch all each),
    ))

-- what counts at least once is at least once as much
once_more : (often work : ℕ) → 1 ≤ often → work ≤ often * work
once_more often work some = omega (arith, mul-le-mul_right work some)

-- the slots of a feasible schedule do no more than the jobs' work
pub work_done : (jobs : List Job) (scale : ℕ) (slots : List WholeSlot) → IsFeasibleAt jobs scale slots → all_work slots ≤ scale * whole_work jobs
work_done jobs scale slots feasible =
    omega (
      arith,
      sum_by_at_most (λ slot. slot.work) (λ slot. count slot.job (numbers_of jobs) * slot.work) slots (λ k d within.
          let slot : WholeSlot = get_or slots k d in
          once_more (count slot.job (numbers_of jobs)) slot.work (contained_counted (numbers_of jobs) slot.job (is_number jobs slot.job (feasible.in_windows k d within).known))),
      work_served jobs scale slots (numbers_of jobs) feasible.served (all_numbers (λ number. number < length jobs) jobs (λ number known. known)),
      ap (λ m. scale * m) (sum_by_number (λ job. job.work) jobs),
    )

-- and no less
pub all_done : (jobs : List Job) (scale : ℕ) (slots : List WholeSlot) → IsFeasibleAt jobs scale slots → scale * whole_work jobs ≤ all_work slots
all_done jobs scale slots feasible =
    omega (
      arith,
      group_at_most (λ slot. slot.work) (numbers_of jobs) slots (λ number. counted_once number 0 (length jobs)),
      work_served jobs scale slots (numbers_of jobs) feasible.served (all_numbers (λ number. number < length jobs) jobs (λ number known. known)),
      ap (λ m. scale * m) (sum_by_number (λ job. job.work) jobs),
    )

-- # All stretches

module _ (n p q slowest : ℕ) (faster : List ℕ) (not_idle : 1 ≤ slowest) (within : RiseWithin p q (slowest ∷ faster)) (jobs : List Job) (scale K : ℕ) (slots : List WholeSlot) where
  -- the points
  abbrev pub table : List Point
  table = points n p q slowest faster not_idle within

  -- the common multiple of their gaps
  abbrev pub all_multiple : ℕ
  all_multiple = multiple n p q slowest faster not_idle within

  -- a stretch's time
  abbrev pub stretch_time : Piece → ℕ
  stretch_time stretch = (stretch.to - stretch.from) * scale

  -- its work
  abbrev pub stretch_work : Piece → ℕ
  stretch_work stretch = all_work (slots_in scale stretch slots)

  -- and what it costs
  abbrev pub stretch_cost : Piece → ℕ
  stretch_cost stretch = cost n p q slowest faster not_idle within (stretch_time stretch) (stretch_work stretch)

  -- the energy is what the stretches cost
  pub energy_by_stretches : all_energy jobs table scale slots ≡ sum_by stretch_cost (stretches jobs)
  energy_by_stretches =
      by_stretches table (λ speed stretch. time_at (hull_multiple table) (stretch_time stretch) (work_in scale stretch slots) (hull_of table) speed) (stretches jobs)
      ∙ ap (λ (hull : List Point). sum_by (λ stretch. point_energy table (multiple_of_all (gaps_of hull)) (stretch_time stretch) (stretch_work stretch) hull) (stretches jobs))
      (hull_is n p q slowest faster not_idle within)

  -- both bounds of it
  pub record AreBounded : Type 0 where
    pub least : all_multiple * spent n K slots ≤ K ^ suc n * all_energy jobs table scale slots
    pub works : all_multiple * slowest ^ n * (scale * whole_work jobs) ≤ all_energy jobs table scale slots
    pub most : q ^ n * K ^ suc n * all_energy jobs table scale slots
        ≤ all_multiple * p ^ n * spent n K slots + all_multiple * q ^ n * K ^ suc n * slowest ^ n * (scale * whole_work jobs)

  pub are_bounded : 1 ≤ K → 1 ≤ scale → IsFeasibleAt jobs scale slots → All (IsUncut jobs scale) slots → All (IsEven scale slots) (stretches jobs) → All (HasSpeed K) slots →
      All (HoldsStretch table scale slots) (stretches jobs) → AreBounded
  are_bounded wide positive feasible uncut even have holds =
      let run = stretches_run jobs in
      let forward = pieces_forward 0 (stretches jobs) run in
      let together = λ (f : WholeSlot → ℕ). sum_in_stretches f scale 0 (stretches jobs) slots run (run_forward 0 slots feasible.one_at_a_time) uncut in
      let bounded : (k : ℕ) (d : Piece) → k < length (stretches jobs) → IsBounded n p q slowest faster not_idle within K (stretch_time (get_or (stretches jobs) k d))
      (stretch_work (get_or (stretches jobs) k d)) (spent n K (slots_in scale (get_or (stretches jobs) k d) slots)) =
      λ k d inside.
      let stretch : Piece = get_or (stretches jobs) k d in
      even_bounded n p q slowest faster not_idle within K scale stretch slots wide
      (mul-pos (let ahead = forward k d inside in let long : 1 ≤ stretch.to - stretch.from = omega (arith, ahead) in long) positive) (even k d inside)
      (All-filter (lies scale stretch) (HasSpeed K) slots have) (holds k d inside) in
      record {
        least = omega (
          arith,
          ap (λ m. K ^ suc n * m) energy_by_stretches,
          ap (λ m. all_multiple * m) (together (slot_spent n K)),
          sums_at_most all_multiple (K ^ suc n) 0 (λ stretch. spent n K (slots_in scale stretch slots)) stretch_cost stretch_work (stretches jobs)
              (λ k d inside. omega (arith, (bounded k d inside).least)),
        );
        works = omega (
          arith,
          energy_by_stretches,
          ap (λ m. all_multiple * slowest ^ n * m) (together (λ slot. slot.work)),
          mul-le-mul_left (all_multiple * slowest ^ n) (all_done jobs scale slots feasible),
          sums_at_most (all_multiple * slowest ^ n) 1 0 stretch_work stretch_cost stretch_work (stretches jobs)
              (λ k d inside. omega (arith, (bounded k d inside).works)),
        );
        most = omega (
          arith,
          ap (λ m. q ^ n * K ^ suc n * m) energy_by_stretches,
          ap (λ m. all_multiple * p ^ n * m) (together (slot_spent n K)),
          ap (λ m. all_multiple * q ^ n * K ^ suc n * slowest ^ n * m) (together (λ slot. slot.work)),
          mul-le-mul_left (all_multiple * q ^ n * K ^ suc n * slowest ^ n) (work_done jobs scale slots feasible),
          sums_at_most (q ^ n * K ^ suc n) (all_multiple * p ^ n) (all_multiple * q ^ n * K ^ suc n * slowest ^ n) stretch_cost
              (λ stretch. spent n K (slots_in scale stretch slots)) stretch_work (stretches jobs)
              (λ k d inside. (bounded k d inside).most),
        );
      }

-- # As quotients

-- in plain numbers: at least what is spent
least_quotient : (some_multiple power scale spends num den total energy_num energy_den : ℕ) → 1 ≤ some_multiple → 1 ≤ power → spends * den ≡ power * num →
    energy_num * (scale * some_multiple) ≡ total * energy_den → some_multiple * spends ≤ power * total →
    num * (1 * energy_den) ≤ (1 * energy_num + 0 * (1 * energy_den)) * (den * scale)
least_quotient some_multiple power scale spends num den total energy_num energy_den some wide is energy least =
    le_of_mul-le-mul_left {k = some_multiple * power} (omega (
      arith,
      ap (λ m. some_multiple * energy_den * m) is,
      mul-le-mul_left (den * energy_den) least,
      ap (λ m. power * den * m) energy,
    )) (mul-pos some wide)

-- and at least so much for each unit of work
unit_quotient : (some_multiple rate work scale total energy_num energy_den : ℕ) → 1 ≤ scale → 1 ≤ some_multiple → energy_num * (scale * some_multiple) ≡ total * energy_den →
    some_multiple * rate * (scale * work) ≤ total → rate * work * energy_den ≤ energy_num
unit_quotient some_multiple rate work scale total energy_num energy_den positive some energy works =
    le_of_mul-le-mul_left {k = scale * some_multiple} (omega (arith, energy, mul-le-mul_left energy_den works)) (mul-pos positive some)

-- and at most so many times that and so much more
pub most_quotient : (some_multiple power ratio_num ratio_den rate work scale spends num den total energy_num energy_den : ℕ) → 1 ≤ some_multiple → 1 ≤ power → spends * den ≡ power * num →
    energy_num * (scale * some_multiple) ≡ total * energy_den →
    ratio_den * power * total ≤ some_multiple * ratio_num * spends + some_multiple * ratio_den * power * rate * (scale * work) →
    energy_num * (ratio_den * (den * scale)) ≤ (ratio_num * num + rate * work * (ratio_den * (den * scale))) * energy_den
most_quotient some_multiple power ratio_num ratio_den rate work scale spends num den total energy_num energy_den some wide is energy most =
    le_of_mul-le-mul_left {k = some_multiple * power} (omega (
      arith,
      ap (λ m. some_multiple * ratio_num * energy_den * m) is,
      mul-le-mul_left (den * energy_den) most,
      ap (λ m. ratio_den * power * den * m) energy,
    )) (mul-pos some wide)

-- so a schedule whose stretches have one speed each costs that much
pub costs : (n p q slowest : ℕ) (faster : List ℕ) → 1 ≤ slowest → RiseWithin p q (slowest ∷ faster) → 1 ≤ q → (jobs : List Job) (scale : ℕ) (slots : List WholeSlot) (energy : Fraction) →
    1 ≤ scale → IsFeasibleAt jobs scale slots → All (IsUncut jobs scale) slots → All (IsEven scale slots) (stretches jobs) →
    All (HoldsStretch (power_points (suc n) (slowest ∷ faster)) scale slots) (stretches jobs) →
    energy ≡ in_parts (power_points (suc n) (slowest ∷ faster)) scale (all_energy jobs (power_points (suc n) (slowest ∷ faster)) scale slots) →
    CostsByPower (suc n) p q slowest (whole_work jobs) energy scale slots
costs n p q slowest faster not_idle within some jobs scale slots energy positive feasible uncut even holds is_energy =
    let K : ℕ = lengths slots * 1 in
    let table = power_points (suc n) (slowest ∷ faster) in
    let is = is_table n p q slowest faster not_idle within in
    let forward = run_forward 0 slots feasible.one_at_a_time in
    let wide : 1 ≤ K = mul-pos (lengths_some slots forward) (omega arith) in
    let have = have_speeds K slots forward (product_divided takes slots 1) in
    let bounded = are_bounded n p q slowest faster not_idle within jobs scale K slots wide positive feasible uncut even have holds in
    let total : ℕ = all_energy jobs table scale slots in
    let multiple_some = hull_some_multiple table is in
    let value : HasValue total (scale * hull_multiple table) energy =
    subst (HasValue total (scale * hull_multiple table)) (sym is_energy) (lowest_value total (scale * hull_multiple table) (mul-pos positive multiple_some)) in
    let same : hull_multiple table ≡ multiple n p q slowest faster not_idle within = ap (λ (hull : List Point). multiple_of_all (gaps_of hull)) (hull_is n p q slowest faster not_idle within) in
    let mine = is_spent n K slots have in
    let power = one-le-pow (suc n) K wide in
    let less : suc n - 1 ≡ n = omega arith in
    record {
      at_least = record {
        some = mul-pos mine.some positive;
        other_some = value.has_parts;
        factor_some = omega arith;
        at_most = least_quotient (hull_multiple table) (K ^ suc n) scale (spent n K slots) (spending (suc n) slots).num (spending (suc n) slots).den total (numerator energy) energy.den
            multiple_some power mine.is value.same (rw (← same) at bounded.least);
      };
      each_unit = rw less (unit_quotient (hull_multiple table) (slowest ^ n) (whole_work jobs) scale total (numerator energy) energy.den positive multiple_some value.same
          (rw (← same) at bounded.works));
      at_most = rw less (record {
        some = value.has_parts;
        other_some = mul-pos mine.some positive;
        factor_some = one-le-pow n q some;
        at_most = most_quotient (hull_multiple table) (K ^ suc n) (p ^ n) (q ^ n) (slowest ^ n) (whole_work jobs) scale (spent n K slots) (spending (suc n) slots).num
            (spending (suc n) slots).den total (numerator energy) energy.den multiple_some power mine.is value.same (rw (← same) at bounded.most);
      });
    }
