-- What a unit of a job's time costs, where each level of a plan has a cost: the levels' rates, times the product of their lengths.
use Rattle.yds_model.proofs.Common.{◌≡◌, ℕ, zero, suc, ◌+◌, ◌-◌, ◌*◌, ◌<◌, ◌≤◌, List, [], ◌∷◌, length, get_or, refl, ap, arith, sum, sum_by, All, Contains, All-head, All-tail, sum_by-cons, mul-pos, count, WholeSlot, Level, level_at, all_members, busy, sum_by-add, sum_by-mul, sum_by_zero}
use Rattle.model_lemmas.proofs.Counted.{member_counted, count_joined, contained_counted}
use Rattle.yds_energy.proofs.LevelTimes.{TakesLong}

-- the product of the lengths
abbrev pub all_lengths : List Level → ℕ
all_lengths [] = 1
all_lengths (level ∷ levels) = level.length * all_lengths levels

-- it isn't 0
pub lengths_positive : (levels : List Level) → All (λ level. (1 ≤ level.work) × (1 ≤ level.length)) levels → 1 ≤ all_lengths levels
lengths_positive [] positive = omega arith
lengths_positive (level ∷ levels) positive =
    mul-pos (All-head (λ level. (1 ≤ level.work) × (1 ≤ level.length)) level levels positive).1
    (lengths_positive levels (All-tail (λ level. (1 ≤ level.work) × (1 ≤ level.length)) level levels positive))

-- what a unit of a job's time costs, times the product of the lengths: its level's cost over its length
abbrev pub rate : List Level → List ℕ → ℕ → ℕ
rate [] costs number = 0
rate (level ∷ levels) [] number = 0
rate (level ∷ levels) (cost ∷ costs) number = count number level.members * (cost * all_lengths levels) + level.length * rate levels costs number

-- a job that is no member costs nothing
pub rate_none : (levels : List Level) (costs : List ℕ) (number : ℕ) → count number (all_members levels) ≡ 0 → rate levels costs number ≡ 0
rate_none [] costs number none = refl
rate_none (level ∷ levels) [] number none = refl
rate_none (level ∷ levels) (cost ∷ costs) number none =
    let both = count_joined number level.members (all_members levels) in
    let here : count number level.members ≡ 0 = omega (arith, both, none) in
    let later : count number (all_members levels) ≡ 0 = omega (arith, both, none) in
    omega (arith, ap (λ n. n * (cost * all_lengths levels)) here, ap (λ n. level.length * n) (rate_none levels costs number later))

-- a member costs what its level does, by its share of the length
pub rate_member : (levels : List Level) (costs : List ℕ) (i number : ℕ) → length levels ≡ length costs → i < length levels → Contains (level_at levels i).members number →
    count number (all_members levels) ≤ 1 → rate levels costs number * (level_at levels i).length ≡ all_lengths levels * get_or costs i 0
rate_member [] costs i number same within has once = absurd (omega (arith, within))
rate_member (level ∷ levels) [] i number same within has once = absurd (omega (arith, same))
rate_member (level ∷ levels) (cost ∷ costs) zero number same within has once =
    let both = count_joined number level.members (all_members levels) in
    let some = contained_counted level.members number has in
    let one : count number level.members ≡ 1 = omega (arith, both, some, once) in
    let none : rate levels costs number ≡ 0 = rate_none levels costs number (omega (arith, both, some, once)) in
    omega (arith, ap (λ n. n * (cost * all_lengths levels) * level.length) one, ap (λ n. level.length * n * level.length) none)
rate_member (level ∷ levels) (cost ∷ costs) (suc i) number same within has once =
    let both = count_joined number level.members (all_members levels) in
    let some = member_counted levels i number (omega (arith, within)) has in
    let none : count number level.members ≡ 0 = omega (arith, both, some, once) in
    let rest = rate_member levels costs i number (omega (arith, same)) (omega (arith, within)) has (omega (arith, both, once)) in
    omega (arith, ap (λ n. n * (cost * all_lengths levels) * (level_at levels i).length) none, ap (λ n. level.length * n) rest)

-- the slots together cost what the levels do
pub rates_together : (scale : ℕ) (slots : List WholeSlot) (levels : List Level) (costs : List ℕ) → length levels ≡ length costs → All (TakesLong slots scale) levels →
    sum_by (λ slot. rate levels costs slot.job * (slot.to - slot.from)) slots ≡ all_lengths levels * (scale * sum costs)
rates_together scale slots [] [] same long = omega (arith, sum_by_zero (λ slot. 0 * (slot.to - slot.from)) slots (λ k d within. omega arith))
rates_together scale slots [] (cost ∷ costs) same long = absurd (omega (arith, same))
rates_together scale slots (level ∷ levels) [] same long = absurd (omega (arith, same))
rates_together scale slots (level ∷ levels) (cost ∷ costs) same long =
    simp (each, sum_by-add, sum_by-mul) (omega (
      arith,
      ap (λ n. cost * all_lengths levels * n) (long 0 level (omega arith)),
      ap (λ n. level.length * n) (rates_together scale slots levels costs (omega (arith, same)) (All-tail (TakesLong slots scale) level levels long)),
      ap (λ n. level.length * all_lengths levels * (scale * n)) (sum_by-cons (λ (n : ℕ). n) cost costs),
    ))
  where
    -- a slot's cost in two parts
    each : (often share long rest time : ℕ) → (often * share + long * rest) * time ≡ share * (often * time) + long * (rest * time)
    each often share long rest time = omega arith

-- the slots of jobs of one price cost it, by their share of a length
pub level_rates : (price : ℕ → ℕ) (long share : ℕ) (slots : List WholeSlot) → All (λ slot. price slot.job * long ≡ share) slots →
    sum_by (λ slot. price slot.job * (slot.to - slot.from)) slots * long ≡ share * busy slots
level_rates price long share [] each = omega arith
level_rates price long share (slot ∷ slots) each =
    simp sum_by-cons (omega (
      arith,
      ap (λ n. n * (slot.to - slot.from)) (each 0 slot (omega arith)),
      level_rates price long share slots (All-tail (λ one. price one.job * long ≡ share) slot slots each),
    ))
