-- What a plan's slots take at each point, stretch by stretch, is what its levels take, and the time outside them.
use Rattle.yds_model.proofs.Common.{IsJob, ◌≡◌, ℕ, ◌+◌, ◌-◌, ◌*◌, ◌<◌, ◌≤◌, ◌==◌, List, [], ◌∷◌, length, map, get_or, sym, ap, ap₂, subst, ◌∙◌, arith, inl, inr, sum_by, if◌then◌else◌, All, Contains, length-map, get_or-map, All-nil, All-cons, All-append, All-tail, All-filter, All-map, All-from_get_or, sum_by-cons, sum_by-append, sum-map, cases_lt, mul-pos, eq_of_mul-eq-mul_left, eq_of_mul-eq-mul_right, Job, WrittenSlot, WholeSlot, IsScale, slots_at, Piece, Level, no_level, level_at, IsPlan, Point, point_at, AreRising, hull_of, hull_multiple, top_of, IsTooFast, busy, stretches, slots_in, time_at, all_time_at, stretch_at, sum_by-map}
use Rattle.model_lemmas.proofs.Runs.{run_forward}
use Rattle.model_lemmas.proofs.Scale.{given_split}
use Rattle.yds_events.specs.Stretch.{length_of}
use Rattle.yds_events.proofs.Neighbours.{stretches_run, stretch_forward}
use Rattle.yds_energy.proofs.LevelTimes.{levels_long, plan_busy, levels_fit_the_horizon}
use Rattle.yds_energy.proofs.PlanParts.{level_found}
use Rattle.yds_spending.specs.declared.load.Load.{Load}
use Rattle.yds_spending.proofs.Lengths.{as_long}
use Rattle.yds_spending.specs.Load.{level_load, level_loads, IsHeldAt}
use Rattle.yds_spending.specs.Spent.{time_of_loads}
use Rattle.yds_energy.proofs.SpentScale.{time_scaled}
use Rattle.yds_energy.proofs.EvenStretches.{some_or_none, of_level}
use Rattle.yds_energy.proofs.StretchSlots.{lies, sum_in_stretches}
use Rattle.yds_energy.proofs.PointTimes.{idle_time}
use Rattle.yds_energy.proofs.RoundedRuns.{HasRate, rate_together}
use Rattle.yds_energy.proofs.LevelRates.{all_lengths, lengths_positive, rate, rate_member, rates_together, level_rates}

-- A plan on a hull of rising points, at a scale and a speed.
module _ (jobs : List Job) (fit : All IsJob jobs) (planned : List WrittenSlot) (levels : List Level) (points : List Point) (plan : IsPlan jobs planned levels)
    (rising : AreRising (hull_of points)) (some_hull : 1 ≤ length (hull_of points)) (scale : ℕ) (is : IsScale scale planned) (speed : ℕ) where
  -- the time at the point in all the time and work
  abbrev at : ℕ → ℕ → ℕ
  at time work = time_at (hull_multiple points) time work (hull_of points) speed

  -- of a time unit in which nothing is done
  abbrev idle_part : ℕ
  idle_part = if speed == (point_at (hull_of points) 0).speed then hull_multiple points else 0

  idle_at : (time : ℕ) → at time 0 ≡ time * idle_part
  idle_at time =
      sym (idle_time (hull_multiple points) time (hull_of points) rising some_hull speed)
      ∙ given_split time (hull_multiple points) (speed == (point_at (hull_of points) 0).speed)

  abbrev cost : Level → ℕ
  cost level = at level.length level.work

  abbrev costs : List ℕ
  costs = map cost levels

  abbrev slot_cost : WholeSlot → ℕ
  slot_cost slot = rate levels costs slot.job * (slot.to - slot.from)

  abbrev here : Piece → List WholeSlot
  here stretch = slots_in scale stretch (slots_at scale planned)

  abbrev long : Piece → ℕ
  long stretch = (stretch.to - stretch.from) * scale

  -- in the stretch: what its slots take, and the time beside them
  abbrev IsTaken : Piece → Type 0
  IsTaken stretch =
      all_lengths levels * (at (long stretch) (sum_by (λ slot. slot.work) (here stretch)) + idle_part * busy (here stretch))
      ≡ sum_by slot_cost (here stretch) + all_lengths levels * (idle_part * long stretch)

  -- in plain numbers
  full_taken : (all time level_long stretch_long busy_time level_cost total idle : ℕ) → 1 ≤ level_long → level_long * time ≡ stretch_long * level_cost →
      busy_time ≡ stretch_long → total * level_long ≡ all * level_cost * busy_time → all * (time + idle * busy_time) ≡ total + all * (idle * stretch_long)
  full_taken all time level_long stretch_long busy_time level_cost total idle some is_time full is_total =
      let same : all * time ≡ total = eq_of_mul-eq-mul_right level_long some (all * time) total (omega (arith, ap (λ n. all * n) is_time, is_total, ap (λ n. all * level_cost * n) full)) in
      omega (arith, same, ap (λ n. all * idle * n) full)

  taken_at : (k : ℕ) → k < length (stretches jobs) → IsTaken (stretch_at jobs k)
  taken_at k within = elim (some_or_none (here (stretch_at jobs k))) [
    | inl empty ↦
        let stretch = stretch_at jobs k in
        let no_work : sum_by (λ slot. slot.work) (here stretch) ≡ 0 = ap (λ (xs : List WholeSlot). sum_by (λ slot. slot.work) xs) empty in
        let no_time : busy (here stretch) ≡ 0 = ap (λ (xs : List WholeSlot). busy xs) empty in
        let no_cost : sum_by slot_cost (here stretch) ≡ 0 = ap (λ (xs : List WholeSlot). sum_by slot_cost xs) empty in
        let idle : at (long stretch) (sum_by (λ slot. slot.work) (here stretch)) ≡ long stretch * idle_part = ap (at (long stretch)) no_work ∙ idle_at (long stretch) in
        omega (arith, ap (λ n. all_lengths levels * n) idle, ap (λ n. all_lengths levels * idle_part * n) no_time, no_cost)
    | inr some ↦
        let stretch = stretch_at jobs k in
        let of = of_level jobs planned levels scale k plan is within some in
        let place : ℕ = of.has.0 in
        let level = level_at levels place in
        let found = level_found levels of.level of.has in
        let positive = plan.proper.well_formed.positive place no_level of.has.1 in
        let time = long stretch in
        let some_time : 1 ≤ time = mul-pos (let ahead = stretch_forward jobs k within in omega (arith, ahead)) is.positive in
        let speeds : All (HasRate level.work level.length) (here stretch) =
        subst (λ (l : Level). All (HasRate l.work l.length) (here stretch)) (sym found) of.rates in
        let members : All (λ slot. Contains level.members slot.job) (here stretch) =
        subst (λ (l : Level). All (λ (slot : WholeSlot). Contains l.members slot.job) (here stretch)) (sym found) of.members in
        let full : busy (here stretch) ≡ time = of.full.full in
        let work : ℕ = sum_by (λ slot. slot.work) (here stretch) in
        let all_work : work * level.length ≡ level.work * time =
        rate_together level.work level.length (here stretch) speeds ∙ ap (λ n. level.work * n) full in
        let is_time : level.length * at time work ≡ time * cost level =
        sym (time_scaled level.length positive.1 (hull_multiple points) time work (hull_of points) speed)
        ∙ ap₂ at (let same : level.length * time ≡ time * level.length = omega arith in same) (let same : level.length * work ≡ time * level.work = omega (arith, all_work) in same)
        ∙ time_scaled time some_time (hull_multiple points) level.length level.work (hull_of points) speed in
        let known : All (λ slot. slot.job < length jobs) (here stretch) = All-filter (lies scale stretch) (λ slot. slot.job < length jobs) (slots_at scale planned)
        (λ i d inside. ((plan.proper.feasible.holds scale is).in_windows i d inside).known) in
        let rates : All (λ slot. rate levels costs slot.job * level.length ≡ all_lengths levels * cost level) (here stretch) = λ i d inside.
        let slot = get_or (here stretch) i d in
        rate_member levels costs place slot.job (sym (length-map levels cost)) of.has.1 (members i d inside)
        (plan.proper.members slot.job (known i d inside)).at_most_once
        ∙ ap (λ n. all_lengths levels * n) (get_or-map cost levels place no_level 0 of.has.1) in
        full_taken (all_lengths levels) (at time work) level.length time (busy (here stretch)) (cost level) (sum_by slot_cost (here stretch)) idle_part positive.1 is_time full
        (omega (arith, level_rates (rate levels costs) level.length (all_lengths levels * cost level) (here stretch) rates))
  ]

  -- the slots of all stretches
  by_stretches : (f : WholeSlot → ℕ) → sum_by f (slots_at scale planned) ≡ sum_by (λ stretch. sum_by f (here stretch)) (stretches jobs)
  by_stretches f =
      let slots = slots_at scale planned in
      sym (sum_in_stretches f scale 0 (stretches jobs) slots (stretches_run jobs) (run_forward 0 slots (plan.proper.feasible.holds scale is).one_at_a_time) (plan.served scale is).uncut)

  all_taken : All IsTaken (stretches jobs)
  all_taken = All-from_get_or IsTaken (stretches jobs) (record { from = 0; to = 0 }) taken_at

  -- all together
  sums_taken : (pieces : List Piece) → All IsTaken pieces →
      all_lengths levels * (sum_by (λ stretch. at (long stretch) (sum_by (λ slot. slot.work) (here stretch))) pieces + idle_part * sum_by (λ stretch. busy (here stretch)) pieces)
      ≡ sum_by (λ stretch. sum_by slot_cost (here stretch)) pieces + all_lengths levels * (idle_part * (sum_by length_of pieces * scale))
  sums_taken [] each = omega arith
  sums_taken (stretch ∷ pieces) each = omega (
    arith,
    each 0 stretch (omega arith),
    sums_taken pieces (All-tail IsTaken stretch pieces each),
    ap (λ n. all_lengths levels * n) (sum_by-cons (λ (st : Piece). at (long st) (sum_by (λ slot. slot.work) (here st))) stretch pieces),
    ap (λ n. all_lengths levels * (idle_part * n)) (sum_by-cons (λ (st : Piece). busy (here st)) stretch pieces),
    sum_by-cons (λ (st : Piece). sum_by slot_cost (here st)) stretch pieces,
    ap (λ n. all_lengths levels * (idle_part * (n * scale))) (sum_by-cons length_of stretch pieces),
  )

  -- in plain numbers: without the product of the lengths
  without : (all times idle busy_time total level_costs lengths time : ℕ) → 1 ≤ all → all * (times + idle * busy_time) ≡ total + all * (idle * (time * scale)) →
      total ≡ all * (scale * level_costs) → busy_time ≡ scale * lengths → lengths ≤ time → times ≡ scale * (level_costs + (time - lengths) * idle)
  without all times idle busy_time total level_costs lengths time some is_all is_total is_busy fits =
      let rest : lengths + (time - lengths) ≡ time = omega (arith, fits) in
      let same : times + idle * busy_time ≡ scale * level_costs + idle * (time * scale) =
      eq_of_mul-eq-mul_left all some (times + idle * busy_time) (scale * level_costs + idle * (time * scale)) (omega (arith, is_all, is_total)) in
      omega (arith, same, ap (λ n. idle * n) is_busy, ap (λ n. idle * n * scale) rest)

  pub plan_long : all_time_at jobs points scale (slots_at scale planned) speed
      ≡ scale * (sum_by cost levels + (sum_by length_of (stretches jobs) - sum_by (λ level. level.length) levels) * idle_part)
  plan_long =
      without (all_lengths levels) (sum_by (λ stretch. at (long stretch) (sum_by (λ slot. slot.work) (here stretch))) (stretches jobs)) idle_part
      (sum_by (λ stretch. busy (here stretch)) (stretches jobs)) (sum_by (λ stretch. sum_by slot_cost (here stretch)) (stretches jobs)) (sum_by cost levels)
      (sum_by (λ level. level.length) levels) (sum_by length_of (stretches jobs)) (lengths_positive levels plan.proper.well_formed.positive)
      (sums_taken (stretches jobs) all_taken)
      (sym (by_stretches slot_cost) ∙ rates_together scale (slots_at scale planned) levels costs (sym (length-map levels cost)) (levels_long jobs planned levels scale plan is)
      ∙ ap (λ n. all_lengths levels * (scale * n)) (sum-map cost levels))
      (sym (by_stretches (λ slot. slot.to - slot.from)) ∙ plan_busy jobs planned levels scale plan is)
      (omega (arith, as_long jobs fit, levels_fit_the_horizon jobs planned levels plan))

  -- the loads of the levels
  loads_long : (time : ℕ) → time_of_loads points (level_loads levels time) speed ≡ sum_by cost levels + (time - sum_by (λ level. level.length) levels) * idle_part
  loads_long time = grind (arith, ap₂, idle_at, sum_by-append, sum_by-cons, sum_by-map)

  pub plan_as_long : 1 * all_time_at jobs points scale (slots_at scale planned) speed
      ≡ scale * time_of_loads points (level_loads levels (sum_by length_of (stretches jobs))) speed
  plan_as_long = omega (arith, plan_long, ap (λ n. scale * n) (loads_long (sum_by length_of (stretches jobs))))

-- # The loads of the levels

-- the top point is fast enough for them
pub levels_held : (points : List Point) (levels : List Level) (time : ℕ) → All (λ level. IsTooFast points level → ⊥) levels →
    All (IsHeldAt (top_of points)) (level_loads levels time)
levels_held points levels time slow =
    let rest : Load = record { time = time - sum_by (λ level. level.length) levels; work = 0 } in
    let none : IsHeldAt (top_of points) rest = omega arith in
    All-append (IsHeldAt (top_of points)) (map level_load levels) (rest ∷ [])
    (All-map (IsHeldAt (top_of points)) level_load levels (λ i d within. not_less (top_of points * (get_or levels i d).length) (get_or levels i d).work (slow i d within)))
    (All-cons (IsHeldAt (top_of points)) rest [] none (All-nil (IsHeldAt (top_of points))))
  where
    not_less : (a b : ℕ) → (a < b → ⊥) → b ≤ a
    not_less a b never = elim (cases_lt a b) [
      | inl less ↦ absurd (never less)
      | inr more ↦ omega (arith, more)
    ]

-- and they are together as long as the time
pub level_times : (levels : List Level) (time : ℕ) → sum_by (λ level. level.length) levels ≤ time → sum_by (λ load. load.time) (level_loads levels time) ≡ time
level_times levels time fits = grind (arith, sum_by-append, sum_by-cons, sum_by-map)
