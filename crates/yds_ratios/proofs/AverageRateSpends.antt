-- A run of Average Rate that never rounded spends at most 2 ^ (exponent - 1) times exponent ^ exponent times what any feasible schedule does.
use Rattle.yds_model.proofs.Common.{◌≡◌, ℕ, zero, suc, ◌+◌, ◌-◌, ◌*◌, ◌^◌, ◌<◌, ◌≤◌, ◌∣◌, ◌∙◌, List, length, get_or, subst, ap, arith, add-one, sum_by, All, All-append, get_or-le-sum_by, mul-pos, mul-sub, mul-le-mul_left, mul-le-mul_right, lt_of_mul-lt-mul_right, eq_of_mul-eq-mul_right, div-mul_cancel, Job, no_job, job_at, WholeSlot, IsSolid, slots_at, IsFeasibleAt, IsRunAt, stretches, average_rate, sum_by-mul, sum_by_same}
use Rattle.model_lemmas.proofs.Runs.{run_forward}
use Rattle.base.specs.Numbers.{sum_below}
use Rattle.model_lemmas.proofs.SumsBelow.{sum_below_at_most, sum_below-mul}
use Rattle.std.proofs.lemmas.Nat.{mul-pow}
use Rattle.yds_laws.specs.RunLaws.{DoesItsTerms}
use Rattle.yds_laws.proofs.Bound.{scale_left, scale_right}
use Rattle.yds_laws.proofs.ExactRates.{average_rate_is_exact}
use Rattle.yds_ratios.specs.SpendingByPower.{spending, IsAtMostTimes}
use Rattle.yds_ratios.specs.RatioLaws.{AverageRateSpends}
use Rattle.yds_ratios.proofs.Powers.{power_of_sum}
use Rattle.yds_ratios.proofs.ListProducts.{product_of, product_some, product_divided}
use Rattle.yds_ratios.proofs.WholeSpeeds.{takes, lengths, lengths_some, speed, HasSpeed, have_speeds, spent, at_most_times}
use Rattle.yds_ratios.proofs.Telescoped.{left, right}
use Rattle.yds_ratios.proofs.Balanced.{balanced}
use Rattle.yds_ratios.proofs.AverageSpeeds.{window, share, begins, ends, rate, whole, run_powers}

-- a slot's rate times its window is its speed
rate_of_window : (jobs : List Job) (scale base windows : ℕ) (slot : WholeSlot) → slot.job < length jobs → All (λ job. window job ∣ windows) jobs →
    begins jobs scale slot ≤ slot.from → slot.to ≤ ends jobs scale slot → takes slot ∣ base → HasSpeed (whole scale base windows) slot →
    rate jobs base windows slot * (ends jobs scale slot - begins jobs scale slot) ≡ speed (whole scale base windows) slot
rate_of_window jobs scale base windows slot known divided from to divides has =
    let job = job_at jobs slot.job in
    let long : ends jobs scale slot - begins jobs scale slot ≡ scale * (job.deadline - job.release) = omega (arith, mul-sub scale job.deadline job.release) in
    let ahead : job.release < job.deadline = lt_of_mul-lt-mul_right scale (omega (arith, from, to, has.some)) in
    let wide : job.deadline - job.release ≡ window job = omega (arith, ahead) in
    eq_of_mul-eq-mul_right (takes slot) has.some (rate jobs base windows slot * (ends jobs scale slot - begins jobs scale slot)) (speed (whole scale base windows) slot)
    (omega (
      arith,
      has.is,
      ap (λ m. rate jobs base windows slot * m * takes slot) (long ∙ ap (λ m. scale * m) wide),
      ap (λ m. slot.work * m * share jobs windows slot.job * (scale * window job)) (div-mul_cancel (takes slot) divides),
      ap (λ m. slot.work * base * scale * m) (div-mul_cancel (window job) (divided slot.job no_job known)),
    ))

-- n + 1 times it, to the power
power_of_rate : (n rate_in_window speed : ℕ) → rate_in_window ≡ speed → ((n + 1) * rate_in_window) ^ suc n ≡ suc n ^ suc n * speed ^ suc n
power_of_rate n rate_in_window speed is = rw (is, add-one) (mul-pow (suc n) speed (suc n))

-- the time at which all windows have ended
abbrev last : List Job → ℕ → ℕ
last jobs scale = sum_by (λ (job : Job). job.deadline) jobs * scale

-- each has ended then
window_ended : (jobs : List Job) (scale number : ℕ) → number < length jobs → (job_at jobs number).deadline * scale ≤ last jobs scale
window_ended jobs scale number known = mul-le-mul_right scale (get_or-le-sum_by (λ (job : Job). job.deadline) jobs number no_job known)

-- In whole speeds: what the run spends, and what another feasible schedule does.
module _ (n grid scale base windows : ℕ) (jobs : List Job) (slots others : List WholeSlot) (some_grid : 1 ≤ grid) (positive : 1 ≤ scale) (some : 1 ≤ windows)
    (divided : All (λ job. window job ∣ windows) jobs) (run : IsRunAt jobs grid scale (average_rate jobs grid scale slots) slots)
    (does : All (DoesItsTerms jobs grid scale slots) (stretches jobs)) (has : All (HasSpeed (whole scale base windows)) slots)
    (feasible : IsFeasibleAt jobs scale others) (divides : All (λ other. takes other ∣ base) others) (also : All (HasSpeed (whole scale base windows)) others) where
  -- what is to come of the other's work, in a unit
  abbrev come : ℕ → ℕ
  come unit = left (rate jobs base windows) (begins jobs scale) (ends jobs scale) others unit unit

  -- and what has come of it
  abbrev gone : ℕ → ℕ
  gone unit = right (rate jobs base windows) (begins jobs scale) (ends jobs scale) others unit unit

  -- their powers are at most what the other spends
  powers_spent : sum_below (last jobs scale) (λ unit. come unit ^ suc n + gone unit ^ suc n) ≤ suc n ^ suc n * spent n (whole scale base windows) others
  powers_spent =
      let speeds = λ (slot : WholeSlot). takes slot * speed (whole scale base windows) slot ^ suc n in
      omega (
        arith,
        balanced (rate jobs base windows) (begins jobs scale) (ends jobs scale) others feasible.one_at_a_time
            (λ i d within. let is = feasible.in_windows i d within in (is.released, is.due)) n (last jobs scale)
            (λ i d within. let is = feasible.in_windows i d within in
            let ended = window_ended jobs scale (get_or others i d).job is.known in
            (omega (arith, is.due, ended), ended)),
        sum_by_same (λ slot. takes slot * ((n + 1) * (rate jobs base windows slot * (ends jobs scale slot - begins jobs scale slot))) ^ suc n)
            (λ slot. suc n ^ suc n * speeds slot) others
            (λ i d within.
            let slot = get_or others i d in
            let is = feasible.in_windows i d within in
            let one = power_of_rate n (rate jobs base windows slot * (ends jobs scale slot - begins jobs scale slot)) (speed (whole scale base windows) slot)
            (rate_of_window jobs scale base windows slot is.known divided is.released is.due (divides i d within) (also i d within)) in
            omega (arith, ap (λ m. takes slot * m) one)),
        sum_by-mul (suc n ^ suc n) speeds others,
      )

  -- so what the run spends is at most so many times that
  run_spent : spent n (whole scale base windows) slots ≤ 2 ^ n * suc n ^ suc n * spent n (whole scale base windows) others
  run_spent =
      omega (
        arith,
        run_powers n grid scale base windows jobs slots others (average_rate jobs grid scale slots) some_grid positive some divided run does has feasible divides
            (last jobs scale)
            (λ i d within. let is = run.feasible.in_windows i d within in
            let ended = window_ended jobs scale (get_or slots i d).job is.known in
            omega (arith, is.due, ended)),
        sum_below_at_most (last jobs scale) (λ unit. (come unit + gone unit) ^ suc n) (λ unit. 2 ^ n * (come unit ^ suc n + gone unit ^ suc n))
            (λ unit within. power_of_sum n (come unit) (gone unit)),
        sum_below-mul (last jobs scale) (2 ^ n) (λ unit. come unit ^ suc n + gone unit ^ suc n),
        mul-le-mul_left (2 ^ n) powers_spent,
      )

-- # The law

-- at a scale
at_scale_spends : (n grid scale : ℕ) (jobs : List Job) (slots others : List WholeSlot) → 1 ≤ grid → 1 ≤ scale →
    IsRunAt jobs grid scale (average_rate jobs grid scale slots) slots → All (DoesItsTerms jobs grid scale slots) (stretches jobs) → IsFeasibleAt jobs scale others →
    IsAtMostTimes (2 ^ n * suc n ^ suc n) (spending (suc n) slots) (spending (suc n) others)
at_scale_spends n grid scale jobs slots others some_grid positive run does feasible =
    let forward = run_forward 0 slots run.feasible.one_at_a_time in
    let ahead = run_forward 0 others feasible.one_at_a_time in
    let base : ℕ = lengths slots * lengths others in
    let windows : ℕ = product_of window jobs in
    let some : 1 ≤ windows = product_some window jobs (λ i d within. omega arith) in
    let one : windows * 1 ≡ windows = omega arith in
    let divided : All (λ job. window job ∣ windows) jobs = subst (λ (m : ℕ). All (λ job. window job ∣ m) jobs) one (product_divided window jobs 1) in
    let mine : lengths slots * (lengths others * (windows * scale)) ≡ whole scale base windows = omega arith in
    let theirs : lengths others * (lengths slots * (windows * scale)) ≡ whole scale base windows = omega arith in
    let turned : lengths others * lengths slots ≡ base = omega arith in
    let has = have_speeds (whole scale base windows) slots forward
    (subst (λ (m : ℕ). All (λ slot. takes slot ∣ m) slots) mine (product_divided takes slots (lengths others * (windows * scale)))) in
    let also = have_speeds (whole scale base windows) others ahead
    (subst (λ (m : ℕ). All (λ slot. takes slot ∣ m) others) theirs (product_divided takes others (lengths slots * (windows * scale)))) in
    at_most_times n (whole scale base windows) (2 ^ n * suc n ^ suc n) slots others
    (mul-pos (mul-pos (lengths_some slots forward) (lengths_some others ahead)) (mul-pos some positive)) has also
    (run_spent n grid scale base windows jobs slots others some_grid positive some divided run does has feasible
    (subst (λ (m : ℕ). All (λ slot. takes slot ∣ m) others) turned (product_divided takes others (lengths slots))) also)

-- the law
pub average_rate_spends : AverageRateSpends
average_rate_spends zero jobs grid slots others some some_grid run feasible = absurd (omega arith)
average_rate_spends (suc n) jobs grid slots others some some_grid run feasible = record {
  solid = All-append IsSolid slots others run.run.solid feasible.solid;
  at_most = λ scale is.
      let mine = scale_left scale slots others is in
      let less : suc n - 1 ≡ n = omega arith in
      rw less (at_scale_spends n grid scale jobs (slots_at scale slots) (slots_at scale others) some_grid is.positive (run.run.holds scale mine)
      ((average_rate_is_exact jobs grid slots some_grid run).holds scale mine) (feasible.holds scale (scale_right scale slots others is)));
}
