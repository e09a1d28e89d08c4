-- A run of Average Rate that rounds: in each stretch it is at most one unit for each part that it rounds up above the policy. And so it spends.
use Rattle.yds_model.proofs.Common.{◌≡◌, ℕ, zero, suc, ◌+◌, ◌-◌, ◌*◌, ◌%◌, ◌^◌, ◌<◌, ◌≤◌, ◌==◌, List, [], ◌∷◌, length, get_or, map, refl, ap, arith, inl, inr, true, cond, count_by, filter, All, All-tail, All-filter, All-from_get_or, sum_by, sum_by-cons, mul-pos, mul-le-mul_left, mul-le-mul_right, le_of_mul-le-mul_left, cases_Bool, filter_passes, Job, Quotient, WholeSlot, slots_at, Piece, stretches, stretch_at, slots_in, work_in, div_up, IsRunAt, is_live, term_numerator, term_of, terms_of, rounds_term, average_rate}
use Rattle.model_lemmas.proofs.Runs.{run_forward}
use Rattle.std.proofs.Math.Nat.{one-le-pow, pow-le-pow_left}
use Rattle.std.proofs.lemmas.Nat.{mul-pow}
use Rattle.yds_events.specs.Stretch.{no_stretch}
use Rattle.yds_events.proofs.Neighbours.{stretches_run, stretch_forward}
use Rattle.yds_laws.proofs.ExactRuns.{does_capacity}
use Rattle.yds_energy.proofs.EvenStretches.{run_even}
use Rattle.yds_energy.proofs.RoundedRuns.{all_work}
use Rattle.yds_energy.proofs.StretchSlots.{lies, sum_in_stretches}
use Rattle.yds_ratios.specs.SpendingByPower.{spending, sum_of_quotients, IsAtMostTimes}
use Rattle.yds_ratios.proofs.Powers.{power_of_sum}
use Rattle.yds_ratios.proofs.WholeSpeeds.{lengths, lengths_some, takes, HasSpeed, have_speeds, spent, slot_spent, is_spent}
use Rattle.yds_ratios.proofs.ListProducts.{product_divided}
use Rattle.yds_point_laws.specs.PolicyRate.{sum_of, rate_of, policy_speed, rounded_speed, speed_in, spent_at, policy_spends, rounded_spends}
use Rattle.yds_point_laws.specs.RateLaws.{RunsAreNearThePolicy, RunsSpendNearThePolicy}
use Rattle.yds_point_laws.proofs.StretchCosts.{one_speed}

-- # Parts that are rounded up

-- a quotient rounded up is at most one part above it
up_most : (x y : ℕ) → 1 ≤ y → div_up x y * y ≤ x + (y - 1)
up_most x y some = omega (arith, some)

-- and it is the quotient where that is whole
up_whole : (x y : ℕ) → (x % y == 0) ≡ true → 1 ≤ y → div_up x y * y ≡ x
up_whole x y whole some = grind arith

-- a live job's window takes time
window_long : (stretch : Piece) (job : Job) → is_live stretch job ≡ true → 1 ≤ job.deadline - job.release
window_long stretch job live = grind arith

-- one part: one unit more where it is rounded up
term_near : (grid : ℕ) (stretch : Piece) (job : Job) → is_live stretch job ≡ true →
    term_of grid stretch job * (job.deadline - job.release)
    ≤ grid * (stretch.to - stretch.from) * job.work + cond (rounds_term grid stretch job) 1 0 * (job.deadline - job.release)
term_near grid stretch job live = elim (cases_Bool (term_numerator grid stretch job % (job.deadline - job.release) == 0)) [
  | inl whole ↦ omega (arith, up_whole (term_numerator grid stretch job) (job.deadline - job.release) whole (window_long stretch job live))
  | inr rounds ↦ rw rounds (omega (arith, up_most (term_numerator grid stretch job) (job.deadline - job.release) (window_long stretch job live)))
]

-- in plain numbers: one part more
terms_more : (grid_time term window work one all den num few : ℕ) → term * window ≤ grid_time * work + one * window → all * den ≤ grid_time * num + few * den →
    (term + all) * (window * den) ≤ grid_time * (work * den + num * window) + (one + few) * (window * den)
terms_more grid_time term window work one all den num few here rest = omega (arith, mul-le-mul_right den here, mul-le-mul_right window rest)

-- and all of them
terms_near : (grid : ℕ) (stretch : Piece) (jobs : List Job) → All (λ job. is_live stretch job ≡ true) jobs →
    sum_by (term_of grid stretch) jobs * (sum_of (map rate_of jobs)).den
    ≤ grid * (stretch.to - stretch.from) * (sum_of (map rate_of jobs)).num + count_by (rounds_term grid stretch) jobs * (sum_of (map rate_of jobs)).den
terms_near grid stretch [] live = omega arith
terms_near grid stretch (job ∷ jobs) live =
    let rest = sum_of (map rate_of jobs) in
    rw (sum_by-cons (term_of grid stretch) job jobs, sum_by-cons (λ one. cond (rounds_term grid stretch one) 1 0) job jobs)
    (terms_more (grid * (stretch.to - stretch.from)) (term_of grid stretch job) (job.deadline - job.release) job.work (cond (rounds_term grid stretch job) 1 0)
    (sum_by (term_of grid stretch) jobs) rest.den rest.num (count_by (rounds_term grid stretch) jobs) (term_near grid stretch job (live 0 job (omega arith)))
    (terms_near grid stretch jobs (All-tail (λ one. is_live stretch one ≡ true) job jobs live)))

-- their sum is over something
rates_some : (stretch : Piece) (jobs : List Job) → All (λ job. is_live stretch job ≡ true) jobs → 1 ≤ (sum_of (map rate_of jobs)).den
rates_some stretch [] live = omega arith
rates_some stretch (job ∷ jobs) live =
    mul-pos (window_long stretch job (live 0 job (omega arith))) (rates_some stretch jobs (All-tail (λ one. is_live stretch one ≡ true) job jobs live))

-- # A stretch

-- in plain numbers
near_by : (grid work scale terms time num den few : ℕ) → grid * work ≤ scale * terms → terms * den ≤ grid * time * num + few * den →
    work * (den * (grid * time)) ≤ 1 * (num * (grid * time) + few * den) * (time * scale)
near_by grid work scale terms time num den few serves most =
    omega (arith, mul-le-mul_right (den * time) serves, mul-le-mul_right (scale * time) most)

-- a stretch of a run
near_rate : (jobs : List Job) (grid scale k : ℕ) (slots : List WholeSlot) → 1 ≤ grid → 1 ≤ scale → IsRunAt jobs grid scale (average_rate jobs grid scale slots) slots →
    k < length (stretches jobs) →
    IsAtMostTimes 1 (speed_in scale slots (stretch_at jobs k)) (sum_of_quotients (policy_speed jobs (stretch_at jobs k)) (rounded_speed jobs grid (stretch_at jobs k)))
near_rate jobs grid scale k slots some positive run here =
    let stretch = stretch_at jobs k in
    let live : List Job = filter (is_live stretch) jobs in
    let are : All (λ job. is_live stretch job ≡ true) live = filter_passes (is_live stretch) jobs in
    let long : 1 ≤ stretch.to - stretch.from = let ahead = stretch_forward jobs k here in omega (arith, ahead) in
    let serves : grid * work_in scale stretch slots ≤ scale * terms_of jobs grid stretch =
    omega (arith, does_capacity jobs grid scale some positive (average_rate jobs grid scale slots) slots run k here) in
    record {
      some = mul-pos long positive;
      other_some = mul-pos (rates_some stretch live are) (mul-pos some long);
      at_most = near_by grid (work_in scale stretch slots) scale (terms_of jobs grid stretch) (stretch.to - stretch.from) (policy_speed jobs stretch).num (policy_speed jobs stretch).den
          (rounded_speed jobs grid stretch).num serves (terms_near grid stretch live are);
    }

-- the law of stretches
pub runs_are_near_the_policy : RunsAreNearThePolicy
runs_are_near_the_policy jobs grid rounded slots some run = record {
  solid = run.run.solid;
  holds = λ scale is.
      All-from_get_or (λ stretch. IsAtMostTimes 1 (speed_in scale (slots_at scale slots) stretch) (sum_of_quotients (policy_speed jobs stretch) (rounded_speed jobs grid stretch)))
      (stretches jobs) no_stretch (λ k here. near_rate jobs grid scale k (slots_at scale slots) some is.positive (run.run.holds scale is) here);
}

-- # What a run spends

-- in plain numbers: a power of a speed that is at most the sum of two
power_near : (n whole time scale long work speed first_num first_den second_num second_den : ℕ) → 1 ≤ time → time ≡ long * scale → speed * time ≡ whole * work →
    work * (first_den * second_den) ≤ 1 * (first_num * second_den + second_num * first_den) * time →
    time * speed ^ suc n * (first_den ^ suc n * second_den ^ suc n)
    ≤ 2 ^ n * whole ^ suc n * scale * (long * first_num ^ suc n * second_den ^ suc n + long * second_num ^ suc n * first_den ^ suc n)
power_near n whole time scale long work speed first_num first_den second_num second_den some is at near =
    let dens : ℕ = first_den * second_den in
    let first : ℕ = first_num * second_den in
    let second : ℕ = second_num * first_den in
    let less : speed * dens ≤ whole * (first + second) =
    le_of_mul-le-mul_left {k = time} (omega (arith, ap (λ m. dens * m) at, mul-le-mul_left whole near)) some in
    let powers : speed ^ suc n * dens ^ suc n ≤ whole ^ suc n * (first + second) ^ suc n =
    omega (arith, mul-pow speed dens (suc n), mul-pow whole (first + second) (suc n), pow-le-pow_left less (suc n)) in
    omega (
      arith,
      ap (λ m. time * speed ^ suc n * m) (mul-pow first_den second_den (suc n)),
      mul-le-mul_left time powers,
      mul-le-mul_left (time * whole ^ suc n) (power_of_sum n first second),
      ap (λ m. time * whole ^ suc n * 2 ^ n * m) (mul-pow first_num second_den (suc n)),
      ap (λ m. time * whole ^ suc n * 2 ^ n * m) (mul-pow second_num first_den (suc n)),
      ap (λ m. m * whole ^ suc n * 2 ^ n * (first_num ^ suc n * second_den ^ suc n)) is,
      ap (λ m. m * whole ^ suc n * 2 ^ n * (second_num ^ suc n * first_den ^ suc n)) is,
    )

-- what is at most so many times the sum of two in each stretch is so in all
pub sums_near : (factor : ℕ) (f : Piece → ℕ) (x y : Piece → Quotient) (all : List Piece) →
    All (λ stretch. f stretch * ((x stretch).den * (y stretch).den) ≤ factor * ((x stretch).num * (y stretch).den + (y stretch).num * (x stretch).den)) all →
    sum_by f all * ((sum_of (map x all)).den * (sum_of (map y all)).den)
    ≤ factor * ((sum_of (map x all)).num * (sum_of (map y all)).den + (sum_of (map y all)).num * (sum_of (map x all)).den)
sums_near factor f x y [] each = omega arith
sums_near factor f x y (stretch ∷ all) each =
    let first = sum_of (map x all) in
    let second = sum_of (map y all) in
    rw (sum_by-cons f stretch all) (omega (
      arith,
      mul-le-mul_right (first.den * second.den) (each 0 stretch (omega arith)),
      mul-le-mul_right ((x stretch).den * (y stretch).den)
          (sums_near factor f x y all (All-tail (λ one. f one * ((x one).den * (y one).den) ≤ factor * ((x one).num * (y one).den + (y one).num * (x one).den)) stretch all each)),
    ))

-- a sum is over something where each of its parts is
pub sum_some : (x : Piece → Quotient) (all : List Piece) → All (λ stretch. 1 ≤ (x stretch).den) all → 1 ≤ (sum_of (map x all)).den
sum_some x [] each = omega arith
sum_some x (stretch ∷ all) each = mul-pos (each 0 stretch (omega arith)) (sum_some x all (All-tail (λ one. 1 ≤ (x one).den) stretch all each))

module _ (n grid scale K : ℕ) (jobs : List Job) (slots : List WholeSlot) (some : 1 ≤ grid) (positive : 1 ≤ scale)
    (run : IsRunAt jobs grid scale (average_rate jobs grid scale slots) slots) (have : All (HasSpeed K) slots) where
  -- the two parts of a stretch's spending
  abbrev policy_part : Piece → Quotient
  policy_part stretch = spent_at (suc n) (stretch.to - stretch.from) (policy_speed jobs stretch)

  -- and that of the units
  abbrev rounded_part : Piece → Quotient
  rounded_part stretch = spent_at (suc n) (stretch.to - stretch.from) (rounded_speed jobs grid stretch)

  -- each stretch
  stretch_near : (k : ℕ) → k < length (stretches jobs) →
      spent n K (slots_in scale (stretch_at jobs k) slots) * ((policy_part (stretch_at jobs k)).den * (rounded_part (stretch_at jobs k)).den)
      ≤ 2 ^ n * K ^ suc n * scale * ((policy_part (stretch_at jobs k)).num * (rounded_part (stretch_at jobs k)).den + (rounded_part (stretch_at jobs k)).num * (policy_part (stretch_at jobs k)).den)
  stretch_near k here =
      let stretch = stretch_at jobs k in
      let time : ℕ = (stretch.to - stretch.from) * scale in
      let long : 1 ≤ stretch.to - stretch.from = let ahead = stretch_forward jobs k here in omega (arith, ahead) in
      let near = near_rate jobs grid scale k slots some positive run here in
      let policy = policy_speed jobs stretch in
      let rounds = rounded_speed jobs grid stretch in
      elim (run_even jobs grid scale (average_rate jobs grid scale slots) slots positive run k no_stretch here) [
        | inl none ↦ omega (arith, ap (λ (all : List WholeSlot). spent n K all * ((policy_part stretch).den * (rounded_part stretch).den)) none)
        | inr full ↦
            let one = one_speed n K time (all_work (slots_in scale stretch slots)) (slots_in scale stretch slots) (mul-pos long positive) full.full full.speeds
            (All-filter (lies scale stretch) (HasSpeed K) slots have) in
            omega (
              arith,
              ap (λ m. m * ((policy_part stretch).den * (rounded_part stretch).den)) one.spends,
              power_near n K time scale (stretch.to - stretch.from) (all_work (slots_in scale stretch slots)) one.one policy.num policy.den rounds.num rounds.den
                  (mul-pos long positive) refl one.is near.at_most,
            )
      ]

  -- so all of them
  all_near : spent n K slots * ((policy_spends (suc n) jobs).den * (rounded_spends (suc n) jobs grid).den)
      ≤ 2 ^ n * K ^ suc n * scale
      * ((policy_spends (suc n) jobs).num * (rounded_spends (suc n) jobs grid).den + (rounded_spends (suc n) jobs grid).num * (policy_spends (suc n) jobs).den)
  all_near =
      let factor : ℕ = 2 ^ n * K ^ suc n * scale in
      let here = λ (stretch : Piece). spent n K (slots_in scale stretch slots) in
      omega (
        arith,
        ap (λ m. m * ((policy_spends (suc n) jobs).den * (rounded_spends (suc n) jobs grid).den))
            (sum_in_stretches (slot_spent n K) scale 0 (stretches jobs) slots (stretches_run jobs) (run_forward 0 slots run.feasible.one_at_a_time) run.served.uncut),
        sums_near factor here policy_part rounded_part (stretches jobs)
            (All-from_get_or (λ stretch. here stretch * ((policy_part stretch).den * (rounded_part stretch).den)
            ≤ factor * ((policy_part stretch).num * (rounded_part stretch).den + (rounded_part stretch).num * (policy_part stretch).den)) (stretches jobs) no_stretch stretch_near),
      )

-- what the policy spends is over something,
pub policy_some : (exponent : ℕ) (jobs : List Job) → 1 ≤ (policy_spends exponent jobs).den
policy_some exponent jobs =
    sum_some (λ stretch. spent_at exponent (stretch.to - stretch.from) (policy_speed jobs stretch)) (stretches jobs)
    (λ k d here. let stretch : Piece = get_or (stretches jobs) k d in
    one-le-pow exponent (policy_speed jobs stretch).den (rates_some stretch (filter (is_live stretch) jobs) (filter_passes (is_live stretch) jobs)))

-- and so is what is rounded up
pub rounded_some : (exponent : ℕ) (jobs : List Job) (grid : ℕ) → 1 ≤ grid → 1 ≤ (rounded_spends exponent jobs grid).den
rounded_some exponent jobs grid some =
    sum_some (λ stretch. spent_at exponent (stretch.to - stretch.from) (rounded_speed jobs grid stretch)) (stretches jobs)
    (All-from_get_or (λ stretch. 1 ≤ (spent_at exponent (stretch.to - stretch.from) (rounded_speed jobs grid stretch)).den) (stretches jobs) no_stretch
    (λ k here. one-le-pow exponent (grid * ((stretch_at jobs k).to - (stretch_at jobs k).from))
    (mul-pos some (let ahead = stretch_forward jobs k here in let long : 1 ≤ (stretch_at jobs k).to - (stretch_at jobs k).from = omega (arith, ahead) in long))))

-- in plain numbers: as quotients
near_quotient : (factor power scale spends num den other_num other_den : ℕ) → 1 ≤ power → spends * den ≡ power * num → spends * other_den ≤ factor * power * scale * other_num →
    num * other_den ≤ factor * other_num * (den * scale)
near_quotient factor power scale spends num den other_num other_den wide is most =
    le_of_mul-le-mul_left {k = power} (omega (arith, ap (λ m. other_den * m) is, mul-le-mul_left den most)) wide

-- the law of what a run spends
pub runs_spend_near_the_policy : RunsSpendNearThePolicy
runs_spend_near_the_policy zero jobs grid rounded slots one some run = absurd (omega (arith, one))
runs_spend_near_the_policy (suc n) jobs grid rounded slots one some run = record {
  solid = run.run.solid;
  holds = λ scale is.
      let whole : List WholeSlot = slots_at scale slots in
      let at = run.run.holds scale is in
      let K : ℕ = lengths whole * 1 in
      let forward = run_forward 0 whole at.feasible.one_at_a_time in
      let wide : 1 ≤ K = mul-pos (lengths_some whole forward) (omega arith) in
      let have = have_speeds K whole forward (product_divided takes whole 1) in
      let mine = is_spent n K whole have in
      let policy = policy_spends (suc n) jobs in
      let rounds = rounded_spends (suc n) jobs grid in
      let less : suc n - 1 ≡ n = omega arith in
      rw less (record {
        some = mul-pos mine.some is.positive;
        other_some = mul-pos (policy_some (suc n) jobs) (rounded_some (suc n) jobs grid some);
        at_most = near_quotient (2 ^ n) (K ^ suc n) scale (spent n K whole) (spending (suc n) whole).num (spending (suc n) whole).den
            (policy.num * rounds.den + rounds.num * policy.den) (policy.den * rounds.den) (one-le-pow (suc n) K wide) mine.is
            (all_near n grid scale K jobs whole some is.positive at have);
      });
}
