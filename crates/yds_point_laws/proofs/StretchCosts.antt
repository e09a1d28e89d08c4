-- What a stretch of one speed costs on points of a power: at least what it spends by the power, and at most so many times that and so much for its
-- work. All times the common multiple of the gaps, and at a multiple at which its slots' speeds are whole.
use Rattle.yds_model.proofs.Common.{◌≡◌, ℕ, suc, ◌+◌, ◌-◌, ◌*◌, ◌^◌, ◌<◌, ◌≤◌, List, [], ◌∷◌, get_or, map, sym, ap, subst, ◌∙◌, refl, arith, inl, inr, All, mul-le-mul_left, sum_by_same, sum_by-mul, mul_comm, Contains-get_or, eq_of_mul-eq-mul_right, WholeSlot, Piece, Point, no_point, point_at, multiple_of_all, gaps_of, top_of, busy, slots_in}
use Rattle.yds_energy.proofs.PointTimes.{point_energy, find_place, place_energy, idle_energy}
use Rattle.yds_energy.proofs.RoundedRuns.{all_work}
use Rattle.yds_energy.proofs.SpentEnergy.{IsEven}
use Rattle.yds_ratios.proofs.WholeSpeeds.{takes, speed, HasSpeed, spent, slot_spent}
use Rattle.yds_point_laws.specs.PowerPoints.{power_point, power_points, RiseWithin}
use Rattle.yds_point_laws.proofs.Chord.{IsBetween, cost_at_least, work_at_least, cost_at_most, cost_near}
use Rattle.yds_point_laws.proofs.PowerTable.{is_table, IsPair, pair_at}

-- # What slots of one speed spend

-- a slot of a full stretch has its speed
pub slot_speed : (K time work : ℕ) (slot : WholeSlot) → HasSpeed K slot → slot.work * time ≡ work * takes slot → speed K slot * time ≡ K * work
slot_speed K time work slot has is =
    eq_of_mul-eq-mul_right (takes slot) has.some (speed K slot * time) (K * work) (omega (arith, ap (λ m. m * time) has.is, ap (λ m. K * m) is))

-- what they spend is their time times the power of one speed
pub record HasOneSpeed (n K time work : ℕ) (slots : List WholeSlot) : Type 0 where
  pub one : ℕ
  pub is : one * time ≡ K * work
  pub spends : spent n K slots ≡ time * one ^ suc n

-- slots of a full stretch do so
pub one_speed : (n K time work : ℕ) (slots : List WholeSlot) → 1 ≤ time → busy slots ≡ time → All (λ slot. slot.work * time ≡ work * takes slot) slots → All (HasSpeed K) slots →
    HasOneSpeed n K time work slots
one_speed n K time work [] some full speeds have = absurd (omega (arith, some, full))
one_speed n K time work (slot ∷ slots) some full speeds have =
    let one : ℕ = speed K slot in
    let is = slot_speed K time work slot (have 0 slot (omega arith)) (speeds 0 slot (omega arith)) in
    record {
      one = one;
      is = is;
      spends = sum_by_same (slot_spent n K) (λ other. one ^ suc n * takes other) (slot ∷ slots) (λ k d within.
          let other : WholeSlot = get_or (slot ∷ slots) k d in
          let same : speed K other ≡ one = eq_of_mul-eq-mul_right time some (speed K other) one
          (slot_speed K time work other (have k d within) (speeds k d within) ∙ sym is) in
          ap (λ m. takes other * m ^ suc n) same ∙ mul_comm (takes other) (one ^ suc n))
          ∙ sum_by-mul (one ^ suc n) takes (slot ∷ slots) ∙ ap (λ m. one ^ suc n * m) full ∙ mul_comm (one ^ suc n) time;
    }

-- # Between two points

-- in plain numbers
between_costs : (low high time work multiple cost low_power high_power : ℕ) → low * time ≤ work → work ≤ high * time → low < high →
    (high - low) * cost + multiple * (low_power * work + high_power * (low * time)) ≡ multiple * (low_power * (high * time) + high_power * work) →
    IsBetween low (high - low) high time work (work - low * time) (high * time - work) multiple cost low_power high_power
between_costs low high time work multiple cost low_power high_power above below rises costs =
    let is_under : (work - low * time) + low * time ≡ work = omega (arith, above) in
    let is_over : (high * time - work) + work ≡ high * time = omega (arith, below) in
    record {
      is_high = omega (arith, rises);
      some = omega (arith, rises);
      is_under = is_under;
      is_over = is_over;
      costs = omega (arith, costs, ap (λ m. multiple * low_power * m) is_over, ap (λ m. multiple * high_power * m) is_under);
    }

module _ (n p q slowest : ℕ) (faster : List ℕ) (not_idle : 1 ≤ slowest) (within : RiseWithin p q (slowest ∷ faster)) where
  -- the points
  abbrev pub points : List Point
  points = power_points (suc n) (slowest ∷ faster)

  -- the common multiple of their gaps
  abbrev pub multiple : ℕ
  multiple = multiple_of_all (gaps_of points)

  -- the cost of so much work in so much time
  abbrev pub cost : ℕ → ℕ → ℕ
  cost time work = point_energy points multiple time work points

  -- the two points around the speed, and the cost between them
  pub record IsCostAt (time work : ℕ) : Type 0 where
    pub low : Point
    pub high : Point
    pub pair : IsPair n p q slowest low high
    pub between : IsBetween low.speed (high.speed - low.speed) high.speed time work (work - low.speed * time) (high.speed * time - work) multiple (cost time work)
        (low.speed ^ suc n) (high.speed ^ suc n)

  pub cost_at : (time work : ℕ) → work ≤ top_of points * time → IsCostAt time work
  cost_at time work holds =
      let table = is_table n p q slowest faster not_idle within in
      let at = find_place multiple time work points (omega arith) (omega arith) holds in
      let pair = pair_at n p q slowest faster at.place not_idle within at.within in
      let low = point_at points at.place in
      let high = point_at points (suc at.place) in
      let costs = place_energy points points time work table.rising table.rising (λ k inside. Contains-get_or points k no_point inside) at in
      record {
        low = low;
        high = high;
        pair = pair;
        between = between_costs low.speed high.speed time work multiple (cost time work) (low.speed ^ suc n) (high.speed ^ suc n) at.above_low at.below_high pair.rises
            (rw (pair.low_power, pair.high_power) at costs);
      }

  -- nothing costs nothing
  pub idle_cost : (time : ℕ) → cost time 0 ≡ 0
  idle_cost time =
      let table = is_table n p q slowest faster not_idle within in
      omega (arith, idle_energy points (record { speed = 0; power = 0 }) (map (power_point (suc n)) (slowest ∷ faster)) multiple time table.rising table.rising (0, omega arith, refl))

  -- # A stretch

  -- both bounds, of what is spent there
  pub record IsBounded (K time work spends : ℕ) : Type 0 where
    pub least : multiple * spends ≤ K ^ suc n * cost time work
    pub most : q ^ n * K ^ suc n * cost time work ≤ multiple * p ^ n * spends + multiple * q ^ n * K ^ suc n * slowest ^ n * work
    pub works : multiple * slowest ^ n * work ≤ cost time work

  -- so it is with a full stretch
  full_bounded : (K time work : ℕ) (slots : List WholeSlot) → 1 ≤ K → 1 ≤ time → HasOneSpeed n K time work slots → IsCostAt time work → IsBounded K time work (spent n K slots)
  full_bounded K time work slots wide some has at = record {
    least = omega (arith, ap (λ m. multiple * m) has.spends, cost_at_least (suc n) at.low.speed (at.high.speed - at.low.speed) at.high.speed time work _ _ multiple (cost time work) K has.one wide some at.between has.is);
    works = work_at_least n slowest at.low.speed (at.high.speed - at.low.speed) at.high.speed time work _ _ multiple (cost time work) at.between
        (elim at.pair.place [ inl (idle, first) ↦ inl idle | inr (above, near) ↦ inr above ])
        (elim at.pair.place [ inl (idle, first) ↦ omega (arith, first) | inr (above, near) ↦ omega (arith, above, at.pair.rises) ]);
    most = elim at.pair.place [
      | inl (idle, first) ↦ omega (
        arith,
        mul-le-mul_left (q ^ n * K ^ suc n) (rw first at (cost_at_most n at.low.speed (at.high.speed - at.low.speed) at.high.speed time work _ _ multiple (cost time work) at.between)),
      )
      | inr (above, near) ↦ omega (
        arith,
        ap (λ m. multiple * (p ^ n * m)) has.spends,
        cost_near n p q at.low.speed (at.high.speed - at.low.speed) at.high.speed time work _ _ multiple (cost time work) K has.one some at.between near has.is,
      )
    ];
  }

  -- so of each even stretch
  pub even_bounded : (K scale : ℕ) (stretch : Piece) (slots : List WholeSlot) → 1 ≤ K → 1 ≤ (stretch.to - stretch.from) * scale → IsEven scale slots stretch →
      All (HasSpeed K) (slots_in scale stretch slots) → all_work (slots_in scale stretch slots) ≤ top_of points * ((stretch.to - stretch.from) * scale) →
      IsBounded K ((stretch.to - stretch.from) * scale) (all_work (slots_in scale stretch slots)) (spent n K (slots_in scale stretch slots))
  even_bounded K scale stretch slots wide some (inl none) have holds =
      subst (λ (here : List WholeSlot). IsBounded K ((stretch.to - stretch.from) * scale) (all_work here) (spent n K here)) (sym none)
      (record {
        least = omega arith;
        works = omega arith;
        most = omega (arith, ap (λ m. q ^ n * K ^ suc n * m) (idle_cost ((stretch.to - stretch.from) * scale)));
      })
  even_bounded K scale stretch slots wide some (inr full) have holds =
      full_bounded K ((stretch.to - stretch.from) * scale) (all_work (slots_in scale stretch slots)) (slots_in scale stretch slots) wide some
      (one_speed n K ((stretch.to - stretch.from) * scale) (all_work (slots_in scale stretch slots)) (slots_in scale stretch slots) some full.full full.speeds have)
      (cost_at ((stretch.to - stretch.from) * scale) (all_work (slots_in scale stretch slots)) holds)
