-- Average Rate itself spends at most 2 ^ (exponent - 1) times exponent ^ exponent times what any feasible schedule does. So a run that rounds spends at
-- most 2 ^ (exponent - 1) times that and what the units that it rounds up would spend.
use Rattle.yds_model.proofs.Common.{◌≡◌, ℕ, zero, suc, ◌+◌, ◌-◌, ◌*◌, ◌^◌, ◌<◌, ◌≤◌, ◌∣◌, ◌∙◌, List, [], ◌∷◌, length, map, get_or, subst, ap, arith, inl, inr, add-one, cases_lt, sum_by, sum_by-cons, All, All-tail, get_or_default, get_or-le-sum_by, mul-pos, mul-sub, mul-le-mul_left, mul-le-mul_right, lt_of_mul-lt-mul_right, le_of_mul-le-mul_left, eq_of_mul-eq-mul_right, div-mul_cancel, Job, no_job, job_at, Quotient, WholeSlot, slots_at, Piece, PiecesFrom, IsFeasibleAt, stretches, stretch_at, sum_by-mul, sum_by_same}
use Rattle.model_lemmas.proofs.Runs.{run_forward}
use Rattle.model_lemmas.proofs.Time.{here}
use Rattle.base.specs.Numbers.{sum_below}
use Rattle.model_lemmas.proofs.SumsBelow.{sum_below_at_most, sum_below-mul}
use Rattle.std.proofs.Math.Nat.{one-le-pow, pow-le-pow_left}
use Rattle.std.proofs.lemmas.Nat.{mul-pow}
use Rattle.yds_events.specs.Stretch.{no_stretch}
use Rattle.yds_events.proofs.Neighbours.{stretches_run}
use Rattle.yds_laws.proofs.Bound.{scale_left, scale_right}
use Rattle.yds_ratios.specs.SpendingByPower.{spending, IsAtMostTimes}
use Rattle.yds_ratios.proofs.Below.{sum_below_list, count_here}
use Rattle.yds_ratios.proofs.Powers.{power_of_sum}
use Rattle.yds_ratios.proofs.ListProducts.{product_of, product_some, product_divided}
use Rattle.yds_ratios.proofs.WholeSpeeds.{takes, lengths, lengths_some, speed, HasSpeed, have_speeds, spent, is_spent}
use Rattle.yds_ratios.proofs.Telescoped.{left, right}
use Rattle.yds_ratios.proofs.Balanced.{once, here_few, here_told, balanced}
use Rattle.yds_ratios.proofs.AverageSpeeds.{window, share, live_work, begins, ends, rate, whole}
use Rattle.yds_point_laws.specs.PowerPoints.{power_spent}
use Rattle.yds_point_laws.specs.PolicyRate.{sum_of, policy_speed, spent_at, policy_spends, rounded_spends}
use Rattle.yds_point_laws.specs.PointLaws.{rate_factor}
use Rattle.yds_point_laws.specs.RateLaws.{PolicySpendsAtMost, RunsSpendAtMost}
use Rattle.yds_point_laws.proofs.NearRate.{policy_some, rounded_some, runs_spend_near_the_policy}
use Rattle.yds_point_laws.proofs.PolicyUnits.{unit_policy, policy_shares}

-- # Stretches in units

module _ (p : Piece → ℕ) (scale : ℕ) where
  -- once where the unit lies in the piece
  abbrev lies_there : ℕ → Piece → ℕ
  lies_there unit piece = here (piece.from * scale) (piece.to * scale) unit

  -- before it begins it doesn't
  early_there : (from to unit : ℕ) → unit < from → here from to unit ≡ 0
  early_there from to unit early = grind arith

  -- nor after its end
  late_there : (from to unit : ℕ) → to ≤ unit → here from to unit ≡ 0
  late_there from to unit late = grind arith

  -- pieces that begin later have no part in a unit
  pieces_none : (start unit : ℕ) (pieces : List Piece) → PiecesFrom start pieces → unit < start * scale → sum_by (λ piece. p piece * lies_there unit piece) pieces ≡ 0
  pieces_none start unit [] run early = omega arith
  pieces_none start unit (piece ∷ pieces) run early =
      let from : start ≤ piece.from = run.0 in
      let to : start ≤ piece.to = omega (arith, run.0, run.1) in
      simp sum_by-cons (omega (
        arith,
        ap (λ m. p piece * m) (early_there (piece.from * scale) (piece.to * scale) unit (omega (arith, early, mul-le-mul_right scale from))),
        pieces_none piece.to unit pieces run.2 (omega (arith, early, mul-le-mul_right scale to)),
      ))

  -- so at most one has
  one_piece : (start unit most : ℕ) (pieces : List Piece) → PiecesFrom start pieces → All (λ piece. p piece * lies_there unit piece ≤ most) pieces →
      sum_by (λ piece. p piece * lies_there unit piece) pieces ≤ most
  one_piece start unit most [] run each = omega arith
  one_piece start unit most (piece ∷ pieces) run each = elim (cases_lt unit (piece.to * scale)) [
    | inl early ↦ simp sum_by-cons (omega (arith, each 0 piece (omega arith), pieces_none piece.to unit pieces run.2 early))
    | inr late ↦ simp sum_by-cons (omega (
      arith,
      ap (λ m. p piece * m) (late_there (piece.from * scale) (piece.to * scale) unit late),
      one_piece piece.to unit most pieces run.2 (All-tail (λ one. p one * lies_there unit one ≤ most) piece pieces each),
    ))
  ]

  -- what counts at most once is at most once as much
  once_more : (often n m : ℕ) → often ≤ 1 → often * n ≤ often * m → n * often ≤ m
  once_more often n m few less = omega (arith, less, mul-le-mul_right m few)

  -- what is at most g in each unit of each piece is, for all of their time, at most g over all units
  in_units : (end : ℕ) (g : ℕ → ℕ) (pieces : List Piece) → PiecesFrom 0 pieces → All (λ piece. piece.to * scale ≤ end) pieces →
      ((k unit : ℕ) (d : Piece) → k < length pieces → (get_or pieces k d).from * scale ≤ unit → unit < (get_or pieces k d).to * scale → p (get_or pieces k d) ≤ g unit) →
      sum_by (λ piece. (piece.to - piece.from) * scale * p piece) pieces ≤ sum_below end g
  in_units end g pieces run ended each =
      omega (
        arith,
        sum_by_same (λ piece. (piece.to - piece.from) * scale * p piece) (λ piece. sum_below end (here (piece.from * scale) (piece.to * scale)) * p piece) pieces
            (λ k d within.
            let piece = get_or pieces k d in
            let over = ended k d within in
            let all : (piece.to - piece.from) * scale ≡ sum_below end (here (piece.from * scale) (piece.to * scale)) =
            omega (arith, count_here (piece.from * scale) (piece.to * scale) end, over, mul-sub scale piece.to piece.from) in
            ap (λ m. m * p piece) all),
        sum_below_list lies_there p pieces end,
        sum_below_at_most end (λ unit. sum_by (λ piece. lies_there unit piece * p piece) pieces) g
            (λ unit inside. omega (
              arith,
              sum_by_same (λ piece. lies_there unit piece * p piece) (λ piece. p piece * lies_there unit piece) pieces (λ k d within. omega arith),
              one_piece 0 unit (g unit) pieces run (λ k d within.
                  let piece = get_or pieces k d in
                  let few = here_few (piece.from * scale) (piece.to * scale) unit in
                  once_more (lies_there unit piece) (p piece) (g unit) few (once (lies_there unit piece) (p piece) (g unit) few (λ is.
                  let told = here_told (piece.from * scale) (piece.to * scale) unit is in each k unit d within told.0 told.1))),
            )),
      )

-- # What the other schedule spends; the next two, and `powers_spent`, are lemmas of `yds_ratios` (AverageRateSpends), which keeps them to itself

-- a slot's rate times its window is its speed
rate_of_window : (jobs : List Job) (scale base windows : ℕ) (slot : WholeSlot) → slot.job < length jobs → All (λ job. window job ∣ windows) jobs →
    begins jobs scale slot ≤ slot.from → slot.to ≤ ends jobs scale slot → takes slot ∣ base → HasSpeed (whole scale base windows) slot →
    rate jobs base windows slot * (ends jobs scale slot - begins jobs scale slot) ≡ speed (whole scale base windows) slot
rate_of_window jobs scale base windows slot known divided from to divides has =
    let job = job_at jobs slot.job in
    let long : ends jobs scale slot - begins jobs scale slot ≡ scale * (job.deadline - job.release) = omega (arith, mul-sub scale job.deadline job.release) in
    let ahead : job.release < job.deadline = lt_of_mul-lt-mul_right scale (omega (arith, from, to, has.some)) in
    let wide : job.deadline - job.release ≡ window job = omega (arith, ahead) in
    eq_of_mul-eq-mul_right (takes slot) has.some (rate jobs base windows slot * (ends jobs scale slot - begins jobs scale slot)) (speed (whole scale base windows) slot)
    (omega (
      arith,
      has.is,
      ap (λ m. rate jobs base windows slot * m * takes slot) (long ∙ ap (λ m. scale * m) wide),
      ap (λ m. slot.work * m * share jobs windows slot.job * (scale * window job)) (div-mul_cancel (takes slot) divides),
      ap (λ m. slot.work * base * scale * m) (div-mul_cancel (window job) (divided slot.job no_job known)),
    ))

-- n + 1 times it, to the power
power_of_rate : (n rate_in_window speed : ℕ) → rate_in_window ≡ speed → ((n + 1) * rate_in_window) ^ suc n ≡ suc n ^ suc n * speed ^ suc n
power_of_rate n rate_in_window speed is = rw (is, add-one) (mul-pow (suc n) speed (suc n))

module _ (n scale base windows end : ℕ) (jobs : List Job) (others : List WholeSlot) (divided : All (λ job. window job ∣ windows) jobs)
    (feasible : IsFeasibleAt jobs scale others) (divides : All (λ other. takes other ∣ base) others) (also : All (HasSpeed (whole scale base windows)) others)
    (ended : (number : ℕ) → number < length jobs → (job_at jobs number).deadline * scale ≤ end) (all_ended : All (λ stretch. stretch.to * scale ≤ end) (stretches jobs)) where
  -- what is to come of the other's work, in a unit
  abbrev come : ℕ → ℕ
  come unit = left (rate jobs base windows) (begins jobs scale) (ends jobs scale) others unit unit

  -- and what has come of it
  abbrev gone : ℕ → ℕ
  gone unit = right (rate jobs base windows) (begins jobs scale) (ends jobs scale) others unit unit

  -- their powers are at most what the other spends
  powers_spent : sum_below (end) (λ unit. come unit ^ suc n + gone unit ^ suc n) ≤ suc n ^ suc n * spent n (whole scale base windows) others
  powers_spent =
      let speeds = λ (slot : WholeSlot). takes slot * speed (whole scale base windows) slot ^ suc n in
      omega (
        arith,
        balanced (rate jobs base windows) (begins jobs scale) (ends jobs scale) others feasible.one_at_a_time
            (λ i d within. let is = feasible.in_windows i d within in (is.released, is.due)) n (end)
            (λ i d within. let is = feasible.in_windows i d within in
            let over = ended (get_or others i d).job is.known in
            (omega (arith, is.due, over), over)),
        sum_by_same (λ slot. takes slot * ((n + 1) * (rate jobs base windows slot * (ends jobs scale slot - begins jobs scale slot))) ^ suc n)
            (λ slot. suc n ^ suc n * speeds slot) others
            (λ i d within.
            let slot = get_or others i d in
            let is = feasible.in_windows i d within in
            let one = power_of_rate n (rate jobs base windows slot * (ends jobs scale slot - begins jobs scale slot)) (speed (whole scale base windows) slot)
            (rate_of_window jobs scale base windows slot is.known divided is.released is.due (divides i d within) (also i d within)) in
            omega (arith, ap (λ m. takes slot * m) one)),
        sum_by-mul (suc n ^ suc n) speeds others,
      )

  -- what the policy does in a stretch, to the power
  abbrev policy_power : Piece → ℕ
  policy_power stretch = (base * (scale * live_work jobs windows stretch)) ^ suc n

  -- so in all of their time the stretches spend at most so many times that
  policy_spent : sum_by (λ stretch. (stretch.to - stretch.from) * scale * policy_power stretch) (stretches jobs) ≤ 2 ^ n * suc n ^ suc n * spent n (whole scale base windows) others
  policy_spent =
      omega (
        arith,
        in_units policy_power scale end (λ unit. (come unit + gone unit) ^ suc n) (stretches jobs) (stretches_run jobs) all_ended
            (λ k unit d inside from below. stretch_power k unit d inside from below),
        sum_below_at_most end (λ unit. (come unit + gone unit) ^ suc n) (λ unit. 2 ^ n * (come unit ^ suc n + gone unit ^ suc n))
            (λ unit within. power_of_sum n (come unit) (gone unit)),
        sum_below-mul end (2 ^ n) (λ unit. come unit ^ suc n + gone unit ^ suc n),
        mul-le-mul_left (2 ^ n) powers_spent,
      )
    where
      -- in each unit of a stretch
      stretch_power : (k unit : ℕ) (d : Piece) → k < length (stretches jobs) → (get_or (stretches jobs) k d).from * scale ≤ unit → unit < (get_or (stretches jobs) k d).to * scale →
          policy_power (get_or (stretches jobs) k d) ≤ (come unit + gone unit) ^ suc n
      stretch_power k unit d inside from below =
          let is : get_or (stretches jobs) k d ≡ stretch_at jobs k = get_or_default (stretches jobs) k d no_stretch inside in
          let starts : (stretch_at jobs k).from * scale ≤ unit = rw is at from in
          let stops : unit < (stretch_at jobs k).to * scale = rw is at below in
          rw is (pow-le-pow_left (unit_policy jobs scale base windows k unit others inside starts stops feasible divides) (suc n))

  -- a stretch as a quotient
  stretch_same : (stretch : Piece) → (stretch.to - stretch.from) * scale * policy_power stretch * (spent_at (suc n) (stretch.to - stretch.from) (policy_speed jobs stretch)).den
      ≡ scale * whole scale base windows ^ suc n * (spent_at (suc n) (stretch.to - stretch.from) (policy_speed jobs stretch)).num
  stretch_same stretch =
      let speed = policy_speed jobs stretch in
      let shares : ℕ = base * (scale * live_work jobs windows stretch) in
      let same : shares * speed.den ≡ whole scale base windows * speed.num = omega (arith, ap (λ m. base * scale * m) (policy_shares jobs windows stretch divided)) in
      omega (
        arith,
        ap (λ m. (stretch.to - stretch.from) * scale * m) (mul-pow shares speed.den (suc n)),
        ap (λ m. (stretch.to - stretch.from) * scale * m ^ suc n) same,
        ap (λ m. (stretch.to - stretch.from) * scale * m) (mul-pow (whole scale base windows) speed.num (suc n)),
      )

-- what is in proportion in each stretch is so in all
sums_same : (factor : ℕ) (f : Piece → ℕ) (x : Piece → Quotient) (all : List Piece) → ((stretch : Piece) → f stretch * (x stretch).den ≡ factor * (x stretch).num) →
    sum_by f all * (sum_of (map x all)).den ≡ factor * (sum_of (map x all)).num
sums_same factor f x [] each = omega arith
sums_same factor f x (stretch ∷ all) each =
    let rest = sum_of (map x all) in
    rw (sum_by-cons f stretch all) (omega (arith, ap (λ m. m * rest.den) (each stretch), ap (λ m. m * (x stretch).den) (sums_same factor f x all each)))

-- in plain numbers: as quotients
policy_quotient : (factor power scale total spends num den policy_num policy_den : ℕ) → 1 ≤ power → total * policy_den ≡ scale * power * policy_num → total ≤ factor * spends →
    spends * den ≡ power * num → policy_num * (den * scale) ≤ factor * num * policy_den
policy_quotient factor power scale total spends num den policy_num policy_den wide same most is =
    le_of_mul-le-mul_left {k = power} (omega (
      arith,
      ap (λ m. den * m) same,
      mul-le-mul_left (den * policy_den) most,
      ap (λ m. factor * policy_den * m) is,
    )) wide

-- at a scale
policy_at_scale : (n scale : ℕ) (jobs : List Job) (others : List WholeSlot) → 1 ≤ scale → IsFeasibleAt jobs scale others →
    IsAtMostTimes (2 ^ n * suc n ^ suc n) (policy_spends (suc n) jobs) (power_spent (suc n) scale others)
policy_at_scale n scale jobs others positive feasible =
    let ahead = run_forward 0 others feasible.one_at_a_time in
    let base : ℕ = lengths others in
    let windows : ℕ = product_of window jobs in
    let some : 1 ≤ windows = product_some window jobs (λ i d within. omega arith) in
    let one : windows * 1 ≡ windows = omega arith in
    let one_base : base * 1 ≡ base = omega arith in
    let divided : All (λ job. window job ∣ windows) jobs = subst (λ (m : ℕ). All (λ job. window job ∣ m) jobs) one (product_divided window jobs 1) in
    let divides : All (λ other. takes other ∣ base) others = subst (λ (m : ℕ). All (λ other. takes other ∣ m) others) one_base (product_divided takes others 1) in
    let K : ℕ = whole scale base windows in
    let also = have_speeds K others ahead (product_divided takes others (windows * scale)) in
    let wide : 1 ≤ K = mul-pos (lengths_some others ahead) (mul-pos some positive) in
    let end : ℕ = (sum_by (λ (job : Job). job.deadline) jobs + sum_by (λ (stretch : Piece). stretch.to) (stretches jobs)) * scale in
    let theirs = is_spent n K others also in
    record {
      some = policy_some (suc n) jobs;
      other_some = mul-pos theirs.some positive;
      at_most = policy_quotient (2 ^ n * suc n ^ suc n) (K ^ suc n) scale
          (sum_by (λ stretch. (stretch.to - stretch.from) * scale * (base * (scale * live_work jobs windows stretch)) ^ suc n) (stretches jobs)) (spent n K others)
          (spending (suc n) others).num (spending (suc n) others).den (policy_spends (suc n) jobs).num (policy_spends (suc n) jobs).den (one-le-pow (suc n) K wide)
          (sums_same (scale * K ^ suc n) (λ stretch. (stretch.to - stretch.from) * scale * (base * (scale * live_work jobs windows stretch)) ^ suc n)
          (λ stretch. spent_at (suc n) (stretch.to - stretch.from) (policy_speed jobs stretch)) (stretches jobs)
          (stretch_same n scale base windows end jobs others divided feasible divides also (windows_end jobs scale) (stretches_end jobs scale)))
          (policy_spent n scale base windows end jobs others divided feasible divides also (windows_end jobs scale) (stretches_end jobs scale))
          theirs.is;
    }
  where
    -- all windows have ended by then
    windows_end : (jobs : List Job) (scale number : ℕ) → number < length jobs →
        (job_at jobs number).deadline * scale ≤ (sum_by (λ (job : Job). job.deadline) jobs + sum_by (λ (stretch : Piece). stretch.to) (stretches jobs)) * scale
    windows_end jobs scale number known = mul-le-mul_right scale (omega (arith, get_or-le-sum_by (λ (job : Job). job.deadline) jobs number no_job known))

    -- and all stretches
    stretches_end : (jobs : List Job) (scale : ℕ) →
        All (λ stretch. stretch.to * scale ≤ (sum_by (λ (job : Job). job.deadline) jobs + sum_by (λ (stretch : Piece). stretch.to) (stretches jobs)) * scale) (stretches jobs)
    stretches_end jobs scale k d inside = mul-le-mul_right scale (omega (arith, get_or-le-sum_by (λ (stretch : Piece). stretch.to) (stretches jobs) k d inside))

-- the law of the policy itself
pub policy_spends_at_most : PolicySpendsAtMost
policy_spends_at_most zero jobs others one feasible = absurd (omega (arith, one))
policy_spends_at_most (suc n) jobs others one feasible = record {
  solid = feasible.solid;
  holds = λ scale is. let less : suc n - 1 ≡ n = omega arith in rw less (policy_at_scale n scale jobs (slots_at scale others) is.positive (feasible.holds scale is));
}

-- in plain numbers: both together
both_spend : (times factor run_num run_den policy_num policy_den rounded_num rounded_den other_num other_den : ℕ) → 1 ≤ policy_den →
    run_num * (policy_den * rounded_den) ≤ times * (policy_num * rounded_den + rounded_num * policy_den) * run_den → policy_num * other_den ≤ factor * other_num * policy_den →
    run_num * (other_den * rounded_den) ≤ times * (factor * other_num * rounded_den + rounded_num * other_den) * run_den
both_spend times factor run_num run_den policy_num policy_den rounded_num rounded_den other_num other_den some near most =
    le_of_mul-le-mul_left {k = policy_den} (omega (
      arith,
      mul-le-mul_left other_den near,
      mul-le-mul_left (times * rounded_den * run_den) most,
    )) some

-- so a run that rounds
pub runs_spend_at_most : RunsSpendAtMost
runs_spend_at_most exponent jobs grid rounded slots others scale one some run feasible is =
    let near = (runs_spend_near_the_policy exponent jobs grid rounded slots one some run).holds scale (scale_left scale slots others is) in
    let most = (policy_spends_at_most exponent jobs others one feasible).holds scale (scale_right scale slots others is) in
    let policy = policy_spends exponent jobs in
    let rounds = rounded_spends exponent jobs grid in
    let mine = power_spent exponent scale (slots_at scale slots) in
    let theirs = power_spent exponent scale (slots_at scale others) in
    record {
      some = near.some;
      other_some = mul-pos most.other_some (rounded_some exponent jobs grid some);
      at_most = both_spend (2 ^ (exponent - 1)) (rate_factor exponent) mine.num mine.den policy.num policy.den rounds.num rounds.den theirs.num theirs.den most.some near.at_most
          most.at_most;
    }
