-- A plan rounded to points of the square, of which the slowest is no faster than any level: it costs at most (p+q)^2 / (4pq) times what the plan
-- spends by the square.
use Rattle.yds_model.proofs.Common.{◌≡◌, ℕ, ◌+◌, ◌-◌, ◌*◌, ◌^◌, ◌<◌, ◌≤◌, List, ◌∷◌, ◌++◌, length, map, ℤ, pos, ◌+ℤ◌, ints, All-append, eq_of_mul-eq-mul_left, Fraction, IsTable, point_at, hull_of, idle, product, total, refl, sym, ap, subst, ◌∙◌, arith, inl, inr, All, All-contains, All-filter, All-from_get_or, mul-pos, mul-le-mul_right, le_of_mul-le-mul_right, Job, numerator, WrittenSlot, WholeSlot, IsSolid, IsScale, slots_at, Level, IsPlan, Point, multiple_of_all, gaps_of, hull_multiple, stretches, stretch_at, slots_in, all_energy, all_time_at, in_parts, IsRounding, Spent, IsSpent, HoldsStretch}
use Rattle.fraction_lemmas.proofs.LowestTerms.{lowest_value, HasValue}
use Rattle.model_lemmas.proofs.Runs.{run_forward}
use Rattle.model_lemmas.proofs.Scale.{scale_exists}
use Rattle.std.proofs.Math.Nat.{one-le-pow}
use Rattle.yds_events.specs.Stretch.{no_stretch}
use Rattle.yds_events.proofs.Neighbours.{stretches_run, stretch_forward}
use Rattle.yds_energy.proofs.Compared.{hull_some_multiple}
use Rattle.yds_energy.proofs.HullCosts.{power_of}
use Rattle.yds_energy.proofs.PlansEnergy.{hull_table}
use Rattle.yds_energy.proofs.RoundedCheapest.{gaps_positive}
use Rattle.yds_energy.proofs.RoundedEnergy.{rounded_attains_the_hull}
use Rattle.yds_energy.proofs.SpentEnergy.{ups, downs, energy_is, even_energy}
use Rattle.model_lemmas.proofs.HullExists.{hull_exists}
use Rattle.yds_laws.proofs.Bound.{scale_left, scale_right}
use borrow.Author.Differences.{up, down}
use Rattle.yds_energy.proofs.EvenStretches.{some_or_none, of_level, plan_even, plan_holds}
use Rattle.yds_energy.proofs.Finer.{each_scale_of}
use Rattle.yds_energy.proofs.RoundedRuns.{all_work, rate_together}
use Rattle.yds_energy.proofs.SpentScale.{spent_free}
use Rattle.yds_energy.proofs.StretchSlots.{lies, sum_in_stretches}
use Rattle.yds_ratios.specs.SpendingByPower.{spending}
use Rattle.yds_ratios.proofs.WholeSpeeds.{lengths, lengths_some, takes, HasSpeed, have_speeds, spent, slot_spent, is_spent}
use Rattle.yds_ratios.proofs.ListProducts.{product_divided}
use Rattle.yds_point_laws.specs.PowerPoints.{power_points, RiseWithin}
use Rattle.yds_point_laws.specs.PointLaws.{SquaresCostAtMost}
use Rattle.yds_point_laws.proofs.Chord.{square_near, square_first}
use Rattle.yds_point_laws.proofs.PowerTable.{is_table, hull_is}
use Rattle.yds_point_laws.proofs.StretchCosts.{cost, multiple, idle_cost, IsCostAt, cost_at, HasOneSpeed, one_speed}
use Rattle.yds_point_laws.proofs.AllCosts.{stretch_work, stretch_cost, energy_by_stretches, sums_at_most, most_quotient}

-- a stretch of a level is as fast as the slowest point
fast_enough : (slowest work long level_work level_length : ℕ) → 1 ≤ level_length → slowest * level_length ≤ level_work → work * level_length ≡ level_work * long → slowest * long ≤ work
fast_enough slowest work long level_work level_length some fast is =
    le_of_mul-le-mul_right {k = level_length} (omega (arith, is, mul-le-mul_right long fast)) some

module _ (p q slowest : ℕ) (faster : List ℕ) (not_idle : 1 ≤ slowest) (within : RiseWithin p q (slowest ∷ faster)) where
  -- such a stretch
  full_square : (K time work : ℕ) (slots : List WholeSlot) → 1 ≤ K → 1 ≤ time → slowest * time ≤ work → HasOneSpeed 1 K time work slots →
      IsCostAt 1 p q slowest faster not_idle within time work →
      4 * (p * q) * K ^ 2 * cost 1 p q slowest faster not_idle within time work ≤ (p + q) * (p + q) * multiple 1 p q slowest faster not_idle within * spent 1 K slots + 0 * work
  full_square K time work slots wide some fast has at =
      let M : ℕ = multiple 1 p q slowest faster not_idle within in
      elim at.pair.place [
        | inl (idle, first) ↦ omega (
          arith,
          ap (λ m. (p + q) * (p + q) * M * m) has.spends,
          square_first p q _ at.high.speed time work _ _ M (cost 1 p q slowest faster not_idle within time work) K has.one some (rw idle at at.between)
              (omega (arith, fast, ap (λ m. m * time) first)) has.is,
        )
        | inr (above, near) ↦ omega (
          arith,
          ap (λ m. (p + q) * (p + q) * M * m) has.spends,
          square_near p q at.low.speed _ at.high.speed time work _ _ M (cost 1 p q slowest faster not_idle within time work) K has.one wide some (omega (arith, above, not_idle)) at.between near has.is,
        )
      ]

  module _ (jobs : List Job) (planned : List WrittenSlot) (levels : List Level) (plan : IsPlan jobs planned levels)
      (fast : All (λ level. slowest * level.length ≤ level.work) levels) (scale K : ℕ) (is : IsScale scale planned) (wide : 1 ≤ K)
      (have : All (HasSpeed K) (slots_at scale planned))
      (holds : All (HoldsStretch (power_points 2 (slowest ∷ faster)) scale (slots_at scale planned)) (stretches jobs)) where
    -- the slots
    abbrev slots : List WholeSlot
    slots = slots_at scale planned

    -- each stretch of a plan
    plan_square : (k : ℕ) → k < length (stretches jobs) →
        4 * (p * q) * K ^ 2 * stretch_cost 1 p q slowest faster not_idle within jobs scale K slots (stretch_at jobs k)
        ≤ (p + q) * (p + q) * multiple 1 p q slowest faster not_idle within * spent 1 K (slots_in scale (stretch_at jobs k) slots)
        + 0 * stretch_work 1 p q slowest faster not_idle within jobs scale K slots (stretch_at jobs k)
    plan_square k inside =
        let stretch = stretch_at jobs k in
        let here : List WholeSlot = slots_in scale stretch slots in
        let time : ℕ = (stretch.to - stretch.from) * scale in
        let long : 1 ≤ stretch.to - stretch.from = let ahead = stretch_forward jobs k inside in omega (arith, ahead) in
        let some : 1 ≤ time = mul-pos long is.positive in
        elim (some_or_none here) [
          | inl none ↦
              let free : cost 1 p q slowest faster not_idle within time (all_work here) ≡ 0 =
              ap (λ (all : List WholeSlot). cost 1 p q slowest faster not_idle within time (all_work all)) none ∙ idle_cost 1 p q slowest faster not_idle within time in
              omega (arith, ap (λ m. 4 * (p * q) * K ^ 2 * m) free)
          | inr has ↦
              let of = of_level jobs planned levels scale k plan is inside has in
              let positive = All-contains (λ level. (1 ≤ level.work) × (1 ≤ level.length)) levels of.level plan.proper.well_formed.positive of.has in
              let quick = fast_enough slowest (all_work here) time of.level.work of.level.length positive.1
              (All-contains (λ level. slowest * level.length ≤ level.work) levels of.level fast of.has)
              (rate_together of.level.work of.level.length here of.rates ∙ ap (λ m. of.level.work * m) of.full.full) in
              full_square K time (all_work here) here wide some quick
              (one_speed 1 K time (all_work here) here some of.full.full of.full.speeds (All-filter (lies scale stretch) (HasSpeed K) slots have))
              (cost_at 1 p q slowest faster not_idle within time (all_work here) (holds k no_stretch inside))
        ]

    -- so all of them
    all_square : 4 * (p * q) * K ^ 2 * all_energy jobs (power_points 2 (slowest ∷ faster)) scale slots
        ≤ (p + q) * (p + q) * multiple 1 p q slowest faster not_idle within * spent 1 K slots
    all_square =
        let factor : ℕ = (p + q) * (p + q) * multiple 1 p q slowest faster not_idle within in
        let works = stretch_work 1 p q slowest faster not_idle within jobs scale K slots in
        let feasible = plan.proper.feasible.holds scale is in
        omega (
          arith,
          ap (λ m. 4 * (p * q) * K ^ 2 * m) (energy_by_stretches 1 p q slowest faster not_idle within jobs scale K slots),
          ap (λ m. factor * m) (sum_in_stretches (slot_spent 1 K) scale 0 (stretches jobs) slots (stretches_run jobs) (run_forward 0 slots feasible.one_at_a_time)
              (plan.served scale is).uncut),
          sums_at_most (4 * (p * q) * K ^ 2) factor 0 (stretch_cost 1 p q slowest faster not_idle within jobs scale K slots)
              (λ stretch. spent 1 K (slots_in scale stretch slots)) works (stretches jobs)
              (All-from_get_or (λ stretch. 4 * (p * q) * K ^ 2 * stretch_cost 1 p q slowest faster not_idle within jobs scale K slots stretch
              ≤ factor * spent 1 K (slots_in scale stretch slots) + 0 * works stretch) (stretches jobs) no_stretch plan_square),
        )

-- # The law

-- what written slots spend, as a fraction: there is such a one
spent_exists : (jobs : List Job) (points : List Point) (slots : List WrittenSlot) → 1 ≤ hull_multiple points → All IsSolid slots → (spent : Spent) × IsSpent jobs points slots spent
spent_exists jobs points slots wide solid =
    let some = scale_exists slots solid in
    let scale = some.0 in
    let spent : Spent = record {
      energy = in_parts points scale (all_energy jobs points scale (slots_at scale slots));
      times = map (λ point. in_parts points scale (all_time_at jobs points scale (slots_at scale slots) point.speed)) points;
    } in
    (spent, each_scale_of _ (spent_free jobs points spent wide) slots scale some.1 (record { energy = refl; times = refl }))

-- in plain numbers: where the first point costs nothing, what is spent on the points is the energy by the hull
free_whole : (gaps some_multiple power left idle cost ups downs spent : ℕ) (energy : ℤ) → 1 ≤ gaps → power ≡ 0 → up energy + downs ≡ ups + down energy →
    gaps * cost + some_multiple * downs ≡ some_multiple * ups + some_multiple * (gaps * (power * left)) → (energy +ℤ pos (gaps * (power * idle))) ≡ pos (gaps * spent) →
    cost ≡ some_multiple * spent
free_whole gaps some_multiple power left idle cost ups downs spent energy some free is costs whole =
    let first : gaps * (power * left) ≡ 0 = omega (arith, ap (λ n. gaps * (n * left)) free) in
    let second : gaps * (power * idle) ≡ 0 = omega (arith, ap (λ n. gaps * (n * idle)) free) in
    let balance : ups ≡ gaps * spent + downs = omega (arith, ints, whole, is, second) in
    eq_of_mul-eq-mul_left gaps some cost (some_multiple * spent) (omega (arith, costs, ap (λ n. some_multiple * n) balance, ap (λ n. some_multiple * n) first))

-- in plain numbers: a quotient that is another's at one scale is so at each
value_at : (some_multiple common scale cost total spent other_num other_den num den : ℕ) → 1 ≤ some_multiple → 1 ≤ common → 1 ≤ other_den → other_num * (common * some_multiple) ≡ cost * other_den →
    cost ≡ some_multiple * spent → spent * den ≡ num * common → other_num * (scale * some_multiple) ≡ total * other_den → num * (scale * some_multiple) ≡ total * den
value_at some_multiple common scale cost total spent other_num other_den num den some positive other_some at is spends value =
    let same : other_num * den ≡ num * other_den = eq_of_mul-eq-mul_left (common * some_multiple) (mul-pos positive some) (other_num * den) (num * other_den)
    (omega (arith, ap (λ n. n * den) at, ap (λ n. other_den * den * n) is, ap (λ n. other_den * some_multiple * n) spends)) in
    eq_of_mul-eq-mul_left other_den other_some (num * (scale * some_multiple)) (total * den) (omega (arith, ap (λ n. scale * some_multiple * n) same, ap (λ n. n * den) value))

-- so the energy of a rounded plan, at each scale of the plan
rounded_value : (jobs : List Job) (points : List Point) (planned : List WrittenSlot) (levels : List Level) (written : List WrittenSlot) (energy : Fraction) (scale : ℕ) →
    IsTable points → (point_at (hull_of points) 0).power ≡ 0 → IsPlan jobs planned levels → IsRounding jobs points planned levels written energy → IsScale scale planned →
    HasValue (all_energy jobs points scale (slots_at scale planned)) (scale * hull_multiple points) energy
rounded_value jobs points planned levels written energy scale table free plan rounding is =
    let some = scale_exists (planned ++ written) (All-append IsSolid planned written plan.proper.feasible.solid rounding.energy_of.at_scales.solid) in
    let common = some.0 in
    let left = scale_left common planned written some.1 in
    let slots : List WholeSlot = slots_at common planned in
    let hull : List Point = hull_of points in
    let wide = hull_some_multiple points table in
    let spends = spent_exists jobs points planned wide plan.proper.feasible.solid in
    let at = rounding.energy_of.at_scales.holds common (scale_right common planned written some.1) in
    let whole = rounded_attains_the_hull jobs points planned levels written energy common at.0 plan table rounding some.1 at.1 in
    let even = even_energy jobs points common slots some.1.positive table (plan.proper.feasible.holds common left) (plan.served common left).uncut
    (plan_even jobs planned levels common plan left) (plan_holds jobs planned levels points common plan left rounding.fast_enough) in
    let costs : all_energy jobs points common slots ≡ hull_multiple points * at.0 =
    free_whole (product (gaps_of hull)) (hull_multiple points) (point_at hull 0).power even.left (idle jobs common slots) (all_energy jobs points common slots) (ups hull slots) (downs hull slots) at.0
    (total (map (power_of hull) slots)) (gaps_positive hull (hull_table points hull table (hull_exists points table.rising)).rising) free (energy_is hull slots) even.energy whole in
    let first = subst (HasValue (all_energy jobs points common slots) (common * hull_multiple points)) (sym (spends.1.holds common left).energy)
    (lowest_value (all_energy jobs points common slots) (common * hull_multiple points) (mul-pos some.1.positive wide)) in
    let second = subst (HasValue (all_energy jobs points scale (slots_at scale planned)) (scale * hull_multiple points)) (sym (spends.1.holds scale is).energy)
    (lowest_value (all_energy jobs points scale (slots_at scale planned)) (scale * hull_multiple points) (mul-pos is.positive wide)) in
    record {
      has_parts = rounding.energy_of.has_parts;
      same = value_at (hull_multiple points) common scale (all_energy jobs points common slots) (all_energy jobs points scale (slots_at scale planned)) at.0 (numerator spends.0.energy)
          spends.0.energy.den (numerator energy) energy.den wide some.1.positive first.has_parts first.same costs at.2 second.same;
    }

-- the law
pub squares_cost_at_most : SquaresCostAtMost
squares_cost_at_most p q slowest jobs points planned levels written energy on_power plan fast rounding = record {
  solid = plan.proper.feasible.solid;
  holds = λ scale is.
      let faster = on_power.faster in
      let table : List Point = power_points 2 (slowest ∷ faster) in
      let is_table = is_table 1 p q slowest faster on_power.not_idle on_power.within in
      let rounds : IsRounding jobs table planned levels written energy = subst (λ (all : List Point). IsRounding jobs all planned levels written energy) on_power.points_are rounding in
      let wide_multiple = hull_some_multiple table is_table in
      let hull = hull_is 1 p q slowest faster on_power.not_idle on_power.within in
      let slots : List WholeSlot = slots_at scale planned in
      let total : ℕ = all_energy jobs table scale slots in
      let value = rounded_value jobs table planned levels written energy scale is_table (ap (λ (all : List Point). (point_at all 0).power) hull) plan rounds is in
      let K : ℕ = lengths slots * 1 in
      let forward = run_forward 0 slots (plan.proper.feasible.holds scale is).one_at_a_time in
      let wide : 1 ≤ K = mul-pos (lengths_some slots forward) (omega arith) in
      let have = have_speeds K slots forward (product_divided takes slots 1) in
      let mine = is_spent 1 K slots have in
      let all = all_square p q slowest faster on_power.not_idle on_power.within jobs planned levels plan fast scale K is wide have
      (plan_holds jobs planned levels table scale plan is rounds.fast_enough) in
      let multiple_is : hull_multiple table ≡ multiple 1 p q slowest faster on_power.not_idle on_power.within =
      ap (λ (hull : List Point). multiple_of_all (gaps_of hull)) (hull_is 1 p q slowest faster on_power.not_idle on_power.within) in
      record {
        some = value.has_parts;
        other_some = mul-pos mine.some is.positive;
        factor_some = (let pairs : 1 ≤ p * q = mul-pos (omega (arith, on_power.some, on_power.ratio)) on_power.some in omega (arith, pairs));
        at_most = most_quotient (hull_multiple table) (K ^ 2) ((p + q) * (p + q)) (4 * (p * q)) 0 0 scale (spent 1 K slots) (spending 2 slots).num (spending 2 slots).den total
            (numerator energy) energy.den wide_multiple (one-le-pow 2 K wide) mine.is value.same (omega (arith, rw (← multiple_is) at all));
      };
}
