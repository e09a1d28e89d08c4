-- Costs on points of a power, by the hinges: of a stretch, of all, and so of a run of Optimal Available beside a plan.
use Rattle.yds_model.proofs.Common.{◌≡◌, ℕ, zero, suc, ◌+◌, ◌-◌, ◌*◌, ◌^◌, ◌<◌, ◌≤◌, ◌∙◌, List, [], ◌∷◌, ◌++◌, length, get_or, sym, ap, subst, arith, inl, inr, cases_lt, All, All-append, All-filter, All-from_get_or, sum_by, sum_by_same, sum_by-mul, get_or-le-sum_by, mul_comm, mul-pos, mul-le-mul_left, le_of_mul-le-mul_left, eq_of_mul-eq-mul_right, Job, numerator, WholeSlot, IsSolid, slots_at, Piece, Point, hull_multiple, IsFeasibleAt, stretches, stretch_at, IsUncut, slots_in, all_energy, HoldsStretch, HoldsAll, IsSpent, optimal_available, IsOptimalAvailableRun}
use Rattle.fraction_lemmas.proofs.LowestTerms.{lowest_value, HasValue}
use Rattle.model_lemmas.proofs.Runs.{run_forward}
use Rattle.model_lemmas.proofs.Scale.{scale_exists}
use Rattle.std.proofs.Math.Nat.{one-le-pow, pow-le-pow_left, pow-suc}
use Rattle.std.proofs.lemmas.Nat.{mul-pow}
use Rattle.yds_events.specs.Stretch.{no_stretch}
use Rattle.yds_events.proofs.Neighbours.{stretches_run, stretch_forward}
use Rattle.yds_laws.proofs.Bound.{scale_left, scale_right}
use Rattle.yds_energy.proofs.Compared.{hull_some_multiple}
use Rattle.yds_energy.proofs.EvenStretches.{run_even, plan_even, plan_holds}
use Rattle.yds_energy.proofs.RoundedRuns.{all_work}
use Rattle.yds_energy.proofs.SpentEnergy.{IsEven}
use Rattle.yds_energy.proofs.StretchSlots.{lies, sum_in_stretches}
use Rattle.yds_ratios.proofs.OptimalAvailableSpends.{optimal_available_of_two_speeds}
use Rattle.yds_ratios.proofs.WholeSpeeds.{lengths, lengths_some, takes, speed, HasSpeed, first_speeds, other_speeds}
use Rattle.yds_point_laws.specs.PowerPoints.{power_points, RiseWithin}
use Rattle.yds_point_laws.specs.PointLaws.{available_factor, RunsCostTimes, PoliciesCostTimes}
use Rattle.yds_point_laws.proofs.Chord.{cost_at_least, cost_at_most, cost_near, work_at_least}
use Rattle.yds_point_laws.proofs.PowerTable.{is_table}
use Rattle.yds_point_laws.proofs.StretchCosts.{multiple, cost, idle_cost, IsCostAt, cost_at, slot_speed, HasOneSpeed, one_speed}
use Rattle.yds_point_laws.proofs.AllCosts.{stretch_work, stretch_cost, energy_by_stretches, sums_at_most, work_done, all_done}
use Rattle.yds_point_laws.proofs.PointCosts.{plan_within, rate_times}
use Rattle.yds_point_laws.proofs.Hinges.{priced, priced_above, priced_below, power_most}
use Rattle.yds_point_laws.proofs.PricedRuns.{priced_spend}

-- what slots of one speed come to, by any function of it
one_for_all : (g : ℕ → ℕ) (n K time work : ℕ) (slots : List WholeSlot) → 1 ≤ time → All (λ slot. slot.work * time ≡ work * takes slot) slots → All (HasSpeed K) slots →
    (at : HasOneSpeed n K time work slots) → sum_by takes slots ≡ time → sum_by (λ slot. takes slot * g (speed K slot)) slots ≡ time * g at.one
one_for_all g n K time work slots some speeds have at full =
    sum_by_same (λ slot. takes slot * g (speed K slot)) (λ slot. g at.one * takes slot) slots (λ k d within.
    let slot : WholeSlot = get_or slots k d in
    let same : speed K slot ≡ at.one = eq_of_mul-eq-mul_right time some (speed K slot) at.one (slot_speed K time work slot (have k d within) (speeds k d within) ∙ sym at.is) in
    ap (λ m. takes slot * g m) same ∙ mul_comm (takes slot) (g at.one))
    ∙ sum_by-mul (g at.one) takes slots ∙ ap (λ m. g at.one * m) full ∙ mul_comm (g at.one) time

module _ (n p q slowest : ℕ) (faster : List ℕ) (not_idle : 1 ≤ slowest) (within : RiseWithin p q (slowest ∷ faster)) (ratio : q ≤ p) (K R : ℕ) (wide : 1 ≤ K) where
  -- the slowest speed, at the multiple
  abbrev pub H : ℕ
  H = slowest * K

  -- it isn't 0
  pub some : 1 ≤ slowest * K
  some = mul-pos not_idle wide

  -- the cost of a speed
  abbrev pub price : ℕ → ℕ
  price S = priced n (slowest * K) R some S

  -- the common multiple of the gaps
  abbrev pub M : ℕ
  M = multiple n p q slowest faster not_idle within

  -- both bounds of what a stretch costs
  pub record IsPriced (time work spends : ℕ) : Type 0 where
    pub least : M * spends ≤ K ^ suc n * cost n p q slowest faster not_idle within time work
    pub most : q ^ n * K ^ suc n * cost n p q slowest faster not_idle within time work ≤ M * p ^ n * spends

  -- in plain numbers: work at the slowest speed
  in_proportion : (one time work : ℕ) → one * time ≡ K * work → time * (one * (slowest * K) ^ n) ≡ K ^ suc n * (slowest ^ n * work)
  in_proportion one time work is =
      omega (arith, ap (λ m. time * (one * m)) (mul-pow slowest K n), ap (λ m. slowest ^ n * K ^ n * m) is, ap (λ m. m * (slowest ^ n * work)) (pow-suc K n))

  full_priced : (time work one : ℕ) → 1 ≤ time → one * time ≡ K * work → one ≤ slowest * K + R → IsCostAt n p q slowest faster not_idle within time work → IsPriced time work (time * price one)
  full_priced time work one long is to at = record {
    least = elim (cases_lt one (slowest * K)) [
      | inr above ↦ omega (
        arith,
        ap (λ m. M * (time * m)) (priced_above n (slowest * K) R some one above to),
        cost_at_least (suc n) at.low.speed (at.high.speed - at.low.speed) at.high.speed time work _ _ M (cost n p q slowest faster not_idle within time work) K one wide long at.between is,
      )
      | inl below ↦ omega (
        arith,
        ap (λ m. M * (time * m)) (priced_below n (slowest * K) R some one (omega (arith, below))),
        ap (λ m. M * m) (in_proportion one time work is),
        mul-le-mul_left (K ^ suc n) (work_at_least n slowest at.low.speed (at.high.speed - at.low.speed) at.high.speed time work _ _ M (cost n p q slowest faster not_idle within time work) at.between
            (elim at.pair.place [ inl (idle, first) ↦ inl idle | inr (above, near) ↦ inr above ])
            (elim at.pair.place [ inl (idle, first) ↦ omega (arith, first) | inr (above, near) ↦ omega (arith, above, at.pair.rises) ])),
      )
    ];
    most = elim at.pair.place [
      | inl (idle, first) ↦ omega (
        arith,
        mul-le-mul_left (q ^ n * K ^ suc n) (rw first at (cost_at_most n at.low.speed (at.high.speed - at.low.speed) at.high.speed time work _ _ M (cost n p q slowest faster not_idle within time work) at.between)),
        ap (λ m. q ^ n * M * m) (in_proportion one time work is),
        mul-le-mul_left (M * (time * (one * (slowest * K) ^ n))) (pow-le-pow_left ratio n),
        mul-le-mul_left (M * p ^ n * time) (let part : one * (slowest * K) ^ n ≤ price one = omega arith in part),
      )
      | inr (above, near) ↦ omega (
        arith,
        cost_near n p q at.low.speed (at.high.speed - at.low.speed) at.high.speed time work _ _ M (cost n p q slowest faster not_idle within time work) K one long at.between near is,
        mul-le-mul_left (M * p ^ n * time) (power_most n (slowest * K) R some one to),
      )
    ];
  }

  module _ (jobs : List Job) (scale : ℕ) (slots : List WholeSlot) (positive : 1 ≤ scale) (feasible : IsFeasibleAt jobs scale slots) (uncut : All (IsUncut jobs scale) slots)
      (even : All (IsEven scale slots) (stretches jobs)) (have : All (HasSpeed K) slots) (to : All (λ slot. speed K slot ≤ slowest * K + R) slots)
      (holds : All (HoldsStretch (power_points (suc n) (slowest ∷ faster)) scale slots) (stretches jobs)) where
    -- what slots come to
    abbrev pub prices : List WholeSlot → ℕ
    prices all = sum_by (λ slot. takes slot * price (speed K slot)) all

    -- each stretch
    stretch_priced : (k : ℕ) → k < length (stretches jobs) →
        IsPriced (((stretch_at jobs k).to - (stretch_at jobs k).from) * scale) (all_work (slots_in scale (stretch_at jobs k) slots)) (prices (slots_in scale (stretch_at jobs k) slots))
    stretch_priced k here =
        let stretch = stretch_at jobs k in
        let inside : List WholeSlot = slots_in scale stretch slots in
        let time : ℕ = (stretch.to - stretch.from) * scale in
        let ahead : 1 ≤ stretch.to - stretch.from = let forward = stretch_forward jobs k here in omega (arith, forward) in
        let long : 1 ≤ time = mul-pos ahead positive in
        let mine = All-filter (lies scale stretch) (HasSpeed K) slots have in
        elim (even k no_stretch here) [
          | inl none ↦ subst (λ (all : List WholeSlot). IsPriced time (all_work all) (prices all)) (sym none)
              (record {
                least = omega arith;
                most = omega (arith, ap (λ m. q ^ n * K ^ suc n * m) (idle_cost n p q slowest faster not_idle within time));
              })
          | inr full ↦
              let one = one_speed n K time (all_work inside) inside long full.full full.speeds mine in
              subst (IsPriced time (all_work inside)) (sym (one_for_all price n K time (all_work inside) inside long full.speeds mine one full.full))
              (full_priced time (all_work inside) one.one long one.is (one_within inside long full.full (All-filter (lies scale stretch) (λ slot. speed K slot ≤ slowest * K + R) slots to) full.speeds mine one)
              (cost_at n p q slowest faster not_idle within time (all_work inside) (holds k no_stretch here)))
        ]
      where
        one_within : {time : ℕ} (inside : List WholeSlot) → 1 ≤ time → sum_by takes inside ≡ time → All (λ slot. speed K slot ≤ slowest * K + R) inside →
            All (λ slot. slot.work * time ≡ all_work inside * takes slot) inside → All (HasSpeed K) inside → (at : HasOneSpeed n K time (all_work inside) inside) → at.one ≤ slowest * K + R
        one_within [] long full to speeds mine at = absurd (omega (arith, long, full))
        one_within {time = time} (slot ∷ inside) long full to speeds mine at =
            let same : speed K slot ≡ at.one = eq_of_mul-eq-mul_right time long (speed K slot) at.one
            (slot_speed K time (all_work (slot ∷ inside)) slot (mine 0 slot (omega arith)) (speeds 0 slot (omega arith)) ∙ sym at.is) in
            omega (arith, same, to 0 slot (omega arith))

    -- so all together
    pub record ArePriced : Type 0 where
      pub least : M * prices slots ≤ K ^ suc n * all_energy jobs (power_points (suc n) (slowest ∷ faster)) scale slots
      pub most : q ^ n * K ^ suc n * all_energy jobs (power_points (suc n) (slowest ∷ faster)) scale slots ≤ M * p ^ n * prices slots

    pub all_priced : ArePriced
    all_priced =
        let spends = λ (stretch : Piece). prices (slots_in scale stretch slots) in
        let costs = stretch_cost n p q slowest faster not_idle within jobs scale K slots in
        let works = stretch_work n p q slowest faster not_idle within jobs scale K slots in
        let energy = energy_by_stretches n p q slowest faster not_idle within jobs scale K slots in
        let together = sum_in_stretches (λ slot. takes slot * price (speed K slot)) scale 0 (stretches jobs) slots (stretches_run jobs) (run_forward 0 slots feasible.one_at_a_time) uncut in
        record {
          least = omega (
            arith,
            ap (λ m. K ^ suc n * m) energy,
            ap (λ m. M * m) together,
            sums_at_most M (K ^ suc n) 0 spends costs works (stretches jobs)
                (All-from_get_or (λ stretch. M * spends stretch ≤ K ^ suc n * costs stretch + 0 * works stretch) (stretches jobs) no_stretch
                (λ k here. omega (arith, (stretch_priced k here).least))),
          );
          most = omega (
            arith,
            ap (λ m. q ^ n * K ^ suc n * m) energy,
            ap (λ m. M * p ^ n * m) together,
            sums_at_most (q ^ n * K ^ suc n) (M * p ^ n) 0 costs spends works (stretches jobs)
                (All-from_get_or (λ stretch. q ^ n * K ^ suc n * costs stretch ≤ M * p ^ n * spends stretch + 0 * works stretch) (stretches jobs) no_stretch
                (λ k here. omega (arith, (stretch_priced k here).most))),
          );
        }

-- # A run and a plan

-- in plain numbers: the energies
energies : (factor power ratio_num ratio_den M run_spends plan_spends run_energy plan_energy : ℕ) → 1 ≤ power → ratio_den * power * run_energy ≤ M * ratio_num * run_spends →
    run_spends ≤ factor * plan_spends → M * plan_spends ≤ power * plan_energy → ratio_den * run_energy ≤ factor * ratio_num * plan_energy
energies factor power ratio_num ratio_den M run_spends plan_spends run_energy plan_energy wide most spends least =
    le_of_mul-le-mul_left {k = power} (omega (arith, most, mul-le-mul_left (M * ratio_num) spends, mul-le-mul_left (ratio_num * factor) least)) wide

-- and as fractions
fractions : (factor ratio_den unit run_energy plan_energy run_num run_den plan_num plan_den : ℕ) → 1 ≤ unit → run_num * unit ≡ run_energy * run_den → plan_num * unit ≡ plan_energy * plan_den →
    ratio_den * run_energy ≤ factor * plan_energy → run_num * (ratio_den * plan_den) ≤ (factor * plan_num + 0 * (ratio_den * plan_den)) * run_den
fractions factor ratio_den unit run_energy plan_energy run_num run_den plan_num plan_den some run plan most =
    le_of_mul-le-mul_left {k = unit} (omega (
      arith,
      ap (λ m. ratio_den * plan_den * m) run,
      ap (λ m. factor * run_den * m) plan,
      mul-le-mul_left (run_den * plan_den) most,
    )) some

-- what slots do at a multiple
speeds_work : (K : ℕ) (slots : List WholeSlot) → All (HasSpeed K) slots → sum_by (λ slot. takes slot * speed K slot) slots ≡ K * all_work slots
speeds_work K slots have =
    sum_by_same (λ slot. takes slot * speed K slot) (λ slot. K * slot.work) slots (λ k d within. omega (arith, (have k d within).is)) ∙ sum_by-mul K (λ slot. slot.work) slots

-- the two-speed law, over the multiple
two_speeds_over : (n K y mine theirs time : ℕ) → 1 ≤ K → suc n * K * mine ≤ K * theirs + K * y * time → suc n * mine ≤ theirs + y * time
two_speeds_over n K y mine theirs time wide most = le_of_mul-le-mul_left {k = K} (omega (arith, most)) wide

-- a run of Optimal Available
available_times : RunsCostTimes IsOptimalAvailableRun (λ exponent p q. available_factor exponent * p ^ (exponent - 1))
available_times zero p q slowest jobs points grid slots planned levels spent planned_spent one some_grid on_power run holds plan plan_spent = absurd (omega (arith, one))
available_times (suc n) p q slowest jobs points grid slots planned levels spent planned_spent one some_grid on_power run holds plan plan_spent =
    let faster = on_power.faster in
    let table : List Point = power_points (suc n) (slowest ∷ faster) in
    let tabled = is_table n p q slowest faster on_power.not_idle on_power.within in
    let held = subst (λ (all : List Point). HoldsAll jobs all slots spent) on_power.points_are holds in
    let plan_is = subst (λ (all : List Point). IsSpent jobs all planned planned_spent) on_power.points_are plan_spent in
    let slow = plan_within jobs table planned levels grid (optimal_available jobs grid) slots spent plan run.run held in
    let common = scale_exists (slots ++ planned) (All-append IsSolid slots planned run.run.solid plan.proper.feasible.solid) in
    let scale = common.0 in
    let left = scale_left scale slots planned common.1 in
    let right = scale_right scale slots planned common.1 in
    let mine : List WholeSlot = slots_at scale slots in
    let theirs : List WholeSlot = slots_at scale planned in
    let runs = run.run.holds scale left in
    let feasible = plan.proper.feasible.holds scale right in
    let forward = run_forward 0 mine runs.feasible.one_at_a_time in
    let ahead = run_forward 0 theirs feasible.one_at_a_time in
    let K : ℕ = lengths mine * lengths theirs in
    let wide : 1 ≤ K = mul-pos (lengths_some mine forward) (lengths_some theirs ahead) in
    let have = first_speeds mine theirs forward in
    let also = other_speeds mine theirs ahead in
    let R : ℕ = sum_by (λ slot. speed K slot) mine + sum_by (λ slot. suc n * speed K slot) theirs in
    let to : All (λ slot. speed K slot ≤ slowest * K + R) mine = λ k d within. omega (arith, get_or-le-sum_by (λ (slot : WholeSlot). speed K slot) mine k d within) in
    let to_times : All (λ slot. suc n * speed K slot ≤ slowest * K + R) theirs =
    λ k d within. omega (arith, get_or-le-sum_by (λ (slot : WholeSlot). suc n * speed K slot) theirs k d within) in
    let to_theirs : All (λ slot. speed K slot ≤ slowest * K + R) theirs = λ k d within. omega (arith, to_times k d within) in
    let works : sum_by (λ slot. takes slot * speed K slot) mine ≡ sum_by (λ slot. takes slot * speed K slot) theirs =
    let same : all_work mine ≡ all_work theirs = omega (
      arith,
      work_done jobs scale mine runs.feasible,
      all_done jobs scale mine runs.feasible,
      work_done jobs scale theirs feasible,
      all_done jobs scale theirs feasible,
    ) in
    speeds_work K mine have ∙ ap (λ m. K * m) same ∙ sym (speeds_work K theirs also) in
    let spends = priced_spend n (slowest * K) R K (mul-pos on_power.not_idle wide) mine theirs have also to to_times works (λ y.
    two_speeds_over n K y _ _ _ wide
    (optimal_available_of_two_speeds jobs grid scale y K y (suc n * K) slots planned some_grid run plan.proper.feasible common.1 wide (mul-pos {m = suc n} (omega arith) wide))) in
    let run_priced = all_priced n p q slowest faster on_power.not_idle on_power.within on_power.ratio K R wide jobs scale mine common.1.positive runs.feasible runs.served.uncut
    (run_even jobs grid scale (optimal_available jobs grid scale mine) mine common.1.positive runs) have to (held.holds.holds scale left) in
    let plan_priced = all_priced n p q slowest faster on_power.not_idle on_power.within on_power.ratio K R wide jobs scale theirs common.1.positive feasible (plan.served scale right).uncut
    (plan_even jobs planned levels scale plan right) also to_theirs (plan_holds jobs planned levels table scale plan right slow) in
    let run_energy : ℕ = all_energy jobs table scale mine in
    let plan_energy : ℕ = all_energy jobs table scale theirs in
    let unit : ℕ = scale * hull_multiple table in
    let unit_some : 1 ≤ unit = mul-pos common.1.positive (hull_some_multiple table tabled) in
    let run_value : HasValue run_energy unit spent.energy =
    subst (HasValue run_energy unit) (sym (held.is_spent.holds scale left).energy) (lowest_value run_energy unit unit_some) in
    let plan_value : HasValue plan_energy unit planned_spent.energy =
    subst (HasValue plan_energy unit) (sym (plan_is.holds scale right).energy) (lowest_value plan_energy unit unit_some) in
    let less : suc n - 1 ≡ n = omega arith in
    rw less (record {
      some = run_value.has_parts;
      other_some = plan_value.has_parts;
      factor_some = one-le-pow n q on_power.some;
      at_most = fractions (suc n ^ suc n * p ^ n) (q ^ n) unit run_energy plan_energy (numerator spent.energy) spent.energy.den (numerator planned_spent.energy) planned_spent.energy.den unit_some
          run_value.same plan_value.same
          (energies (suc n ^ suc n) (K ^ suc n) (p ^ n) (q ^ n) _ _ _ run_energy plan_energy (one-le-pow (suc n) K wide) run_priced.most spends plan_priced.least);
    })

-- the law of both policies
pub policies_cost_times : PoliciesCostTimes
policies_cost_times = record { optimal_available = available_times; average_rate = rate_times }
