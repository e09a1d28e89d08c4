-- What slots cost by a convex table, apart from idle time: by the first line, and by what they do above the speed of each later point. So
-- groups of slots that do together no more above any speed than others cost together no more.
use Rattle.yds_model.proofs.Common.{◌≡◌, ℕ, ◌+◌, ◌-◌, ◌*◌, ◌≤◌, List, [], ◌∷◌, refl, ap, arith, sum_by, sum_by-cons, mul-le-mul_left, mul-le-mul_right, mul-sub, le_of_mul-le-mul_left, mul-pos, get_or, WholeSlot, excess, Point, AreRising, IsConvex, gaps_of, busy, product, sum_by-add, sum_by-mul, sum_by_zero, sum_by_same}
use Rattle.yds_energy.proofs.Differences.{total_is}
use Rattle.yds_energy.proofs.Hinges.{gains, losses, turn, hinges, lines_are}
use Rattle.yds_energy.proofs.HullCosts.{power_of}
use Rattle.yds_energy.proofs.RoundedRuns.{all_work}
use Rattle.yds_energy.proofs.SpentEnergy.{ups, downs, energy_is}

-- # Slots

-- how long the slot takes
abbrev time_of : WholeSlot → ℕ
time_of slot = slot.to - slot.from

-- what the slots do above the speeds of the points after the second, each times its weight
abbrev pub all_hinges : ℕ → List Point → List WholeSlot → ℕ
all_hinges before points slots = sum_by (λ slot. hinges before points (time_of slot) slot.work) slots

-- the product of the gaps after the first
abbrev pub later_gaps : Point → List Point → ℕ
later_gaps high points = 1 * product (gaps_of (high ∷ points))

-- their energy by the table is the first line's number, and that
pub slots_cost : (low high : Point) (points : List Point) (slots : List WholeSlot) → AreRising (low ∷ high ∷ points) → IsConvex (low ∷ high ∷ points) →
    ups (low ∷ high ∷ points) slots + later_gaps high points * losses low high (busy slots) (all_work slots)
    ≡ later_gaps high points * gains low high (busy slots) (all_work slots) + all_hinges 1 (low ∷ high ∷ points) slots + downs (low ∷ high ∷ points) slots
slots_cost low high points slots rising convex =
    omega (
      arith,
      energy_is (low ∷ high ∷ points) slots,
      simp (sum_by-add, sum_by-mul) at (total_is
          (λ slot. later_gaps high points * gains low high (time_of slot) slot.work + hinges 1 (low ∷ high ∷ points) (time_of slot) slot.work)
          (λ slot. later_gaps high points * losses low high (time_of slot) slot.work)
          (power_of (low ∷ high ∷ points)) slots (λ slot. lines_are 1 low high points (time_of slot) slot.work rising convex)),
    )

-- the hinges from the next point on
next_hinges : (before : ℕ) (low high next : Point) (points : List Point) (slots : List WholeSlot) →
    all_hinges before (low ∷ high ∷ next ∷ points) slots
    ≡ before * product (gaps_of (next ∷ points)) * turn low high next * excess high.speed 1 slots
    + all_hinges (before * (high.speed - low.speed)) (high ∷ next ∷ points) slots
next_hinges before low high next points slots = simp (sum_by-add, sum_by-mul) (omega arith)

-- # Groups of slots

module _ {X : Type 0} (slots_of : X → List WholeSlot) where
  -- what all groups have together
  abbrev pub together : (List WholeSlot → ℕ) → List X → ℕ
  together amount groups = sum_by (λ group. amount (slots_of group)) groups

  -- as slots cost, so do groups
  pub groups_cost : (low high : Point) (points : List Point) (groups : List X) → AreRising (low ∷ high ∷ points) → IsConvex (low ∷ high ∷ points) →
      together (ups (low ∷ high ∷ points)) groups + later_gaps high points * losses low high (together busy groups) (together all_work groups)
      ≡ later_gaps high points * gains low high (together busy groups) (together all_work groups) + together (all_hinges 1 (low ∷ high ∷ points)) groups
      + together (downs (low ∷ high ∷ points)) groups
  groups_cost low high points [] rising convex = omega arith
  groups_cost low high points (group ∷ groups) rising convex =
      simp sum_by-cons (omega (arith, slots_cost low high points (slots_of group) rising convex, groups_cost low high points groups rising convex))

  module _ (groups : List X) (others : List WholeSlot) (less : (p : ℕ) → together (excess p 1) groups ≤ excess p 1 others) where
    -- groups that do together no more above any speed have together no more of the hinges
    pub hinges_less : (before : ℕ) (low high : Point) (points : List Point) →
        together (all_hinges before (low ∷ high ∷ points)) groups ≤ all_hinges before (low ∷ high ∷ points) others
    hinges_less before low high [] =
        omega (
          arith,
          sum_by_zero (λ group. all_hinges before (low ∷ high ∷ []) (slots_of group)) groups
              (λ k d within. sum_by_zero (λ slot. hinges before (low ∷ high ∷ []) (time_of slot) slot.work) (slots_of (get_or groups k d)) (λ i e inside. refl)),
        )
    hinges_less before low high (next ∷ points) =
        let weight : ℕ = before * product (gaps_of (next ∷ points)) * turn low high next in
        let later = all_hinges (before * (high.speed - low.speed)) (high ∷ next ∷ points) in
        omega (
          arith,
          sum_by_same (λ group. all_hinges before (low ∷ high ∷ next ∷ points) (slots_of group)) (λ group. weight * excess high.speed 1 (slots_of group) + later (slots_of group)) groups
              (λ k d within. next_hinges before low high next points (slots_of (get_or groups k d))),
          sum_by-add (λ group. weight * excess high.speed 1 (slots_of group)) (λ group. later (slots_of group)) groups,
          sum_by-mul weight (λ group. excess high.speed 1 (slots_of group)) groups,
          next_hinges before low high next points others,
          mul-le-mul_left weight (less high.speed),
          hinges_less (before * (high.speed - low.speed)) high next points,
        )

-- # In plain numbers

-- work of less, where running costs at least what idle time does
pub work_apart : (c p r some all : ℕ) → some ≤ all → p ≤ r → c * (r * some) + c * (p * all) ≤ c * (r * all) + c * (p * some)
work_apart c p r some all less dear =
    let more : r * some + p * all ≤ r * all + p * some =
    omega (
      arith,
      mul-le-mul_right (all - some) dear,
      mul-sub p all some,
      mul-sub r all some,
      mul-le-mul_left p less,
      mul-le-mul_left r less,
    ) in
    omega (arith, mul-le-mul_left c more)

-- the groups' energies and the others', with idle time at the first point's power in place of what runs
pub powers_apart : (c p r f low ups_all busy_all work_all hinges_all downs_all ups_one busy_one work_one hinges_one downs_one gaps : ℕ) → low ≡ 0 → gaps ≡ f * c →
    ups_all + c * (p * work_all + r * (low * busy_all)) ≡ c * (p * (f * busy_all) + r * work_all) + hinges_all + downs_all →
    ups_one + c * (p * work_one + r * (low * busy_one)) ≡ c * (p * (f * busy_one) + r * work_one) + hinges_one + downs_one →
    hinges_all ≤ hinges_one → c * (r * work_all) + c * (p * work_one) ≤ c * (r * work_one) + c * (p * work_all) →
    ups_all + downs_one + gaps * (p * busy_one) ≤ ups_one + downs_all + gaps * (p * busy_all)
powers_apart c p r f low ups_all busy_all work_all hinges_all downs_all ups_one busy_one work_one hinges_one downs_one gaps idle is_gaps all one less work =
    omega (
      arith,
      all,
      one,
      less,
      work,
      ap (λ n. c * r * (n * busy_all)) idle,
      ap (λ n. c * r * (n * busy_one)) idle,
      ap (λ n. n * (p * busy_all)) is_gaps,
      ap (λ n. n * (p * busy_one)) is_gaps,
    )

-- so what is spent, with idle time over the other's horizon
pub spends_less : (gaps multiple p scale long_all long_one left_all left_one busy_all busy_one spent_all spent_one ups_all downs_all ups_one downs_one : ℕ) → 1 ≤ gaps →
    left_all + busy_all ≡ scale * long_all → left_one + busy_one ≡ scale * long_one →
    gaps * spent_all + multiple * downs_all ≡ multiple * ups_all + multiple * (gaps * (p * left_all)) →
    gaps * spent_one + multiple * downs_one ≡ multiple * ups_one + multiple * (gaps * (p * left_one)) →
    ups_all + downs_one + gaps * (p * busy_one) ≤ ups_one + downs_all + gaps * (p * busy_all) →
    spent_all + multiple * (p * (scale * long_one)) ≤ spent_one + multiple * (p * (scale * long_all))
spends_less gaps multiple p scale long_all long_one left_all left_one busy_all busy_one spent_all spent_one ups_all downs_all ups_one downs_one some time_all time_one is_all is_one less =
    le_of_mul-le-mul_left {k = gaps} (omega (
      arith,
      is_all,
      is_one,
      mul-le-mul_left multiple less,
      ap (λ n. gaps * multiple * p * n) time_all,
      ap (λ n. gaps * multiple * p * n) time_one,
    )) some

-- and as written fractions
pub bounded : (b d s c e f unit more own costs cost : ℕ) → 1 ≤ c → 1 ≤ unit → (own * d + b) * c ≡ (more * c + s) * d → costs * c ≡ s * unit → cost * f ≡ e * unit →
    costs + unit * more ≤ cost + unit * own → b * f ≤ e * d
bounded b d s c e f unit more own costs cost some some_unit same is_costs is_cost less =
    le_of_mul-le-mul_left {k = c * unit} (omega (
      arith,
      ap (λ n. n * (f * unit)) same,
      ap (λ n. n * (f * d)) is_costs,
      ap (λ n. n * (d * c)) is_cost,
      mul-le-mul_left (f * d * c) less,
    )) (mul-pos some some_unit)
