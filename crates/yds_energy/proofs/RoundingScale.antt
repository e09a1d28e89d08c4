-- What is said of schedules on points is free of scale: their energy, and the splits of a rounding.
use Rattle.yds_model.proofs.Common.{◌≡◌, ℕ, zero, suc, ◌+◌, ◌-◌, ◌*◌, ◌≤◌, List, [], ◌∷◌, ◌++◌, map, refl, ap, arith, ◌↔◌, one-mul, map-append, Job, Fraction, numerator, WrittenSlot, WholeSlot, slots_at, Piece, Level, Point, point_at, busy, idle, SpendsAtPoints, IsEnergyOnPoints, jobs_in_turn, RunsAtPoint, RunsOn, IsSplitAt}
use Rattle.model_lemmas.proofs.Scale.{finer, finer_sum, finer_slots, finer_work, IsKept, one_scale_of}
use Rattle.yds_energy.specs.RoundingLaws.{OneScaleDecidesEnergy}
use Rattle.yds_energy.specs.SplitLaws.{OneScaleDecidesSplit}
use Rattle.yds_laws.proofs.Bound.{scale_left, scale_right}
use Rattle.yds_energy.proofs.Finer.{order_of_multiples, factor_out, factor_grouped, factor_of_difference, less_both, same_both, none_both, same_parts, IsFreeOfScale, each_scale_of}
use Rattle.yds_energy.proofs.RoundedRuns.{runs_busy}

module _ (k : ℕ) (some : 1 ≤ k) where
  -- # Energy

  -- a slot at a speed is at it in finer parts, and the other way round
  speed_both : (speed work from to : ℕ) → (k * work ≡ speed * (k * to - k * from)) ↔ (work ≡ speed * (to - from))
  speed_both speed work from to = simp (factor_of_difference k, factor_out k, same_both k some) (λ at. at, λ at. at)

  -- what finer slots spend is k times what the slots do
  spends_both : (points : List Point) (slots : List WholeSlot) (fine : ℕ) →
      SpendsAtPoints points (map (finer k) slots) fine ↔ ((spent : ℕ) × (fine ≡ k * spent) × SpendsAtPoints points slots spent)
  spends_both points [] fine = (λ none. (0, omega (arith, none), refl), λ (spent, is, none). omega (arith, is, ap (λ n. k * n) none))
  spends_both points (slot ∷ slots) fine = (
    λ (point, rest, has, at, later, sum).
        let (spent, is, spends) = (spends_both points slots rest).0 later in (
          point.power * (slot.to - slot.from) + spent,
          omega (arith, sum, is, factor_of_difference k slot.to slot.from, ap (λ n. point.power * n) (factor_of_difference k slot.to slot.from)),
          (point, spent, has, (speed_both point.speed slot.work slot.from slot.to).0 at, spends, refl),
        ),
    λ (spent, is, (point, rest, has, at, later, sum)). (
      point,
      k * rest,
      has,
      (speed_both point.speed slot.work slot.from slot.to).1 at,
      (spends_both points slots (k * rest)).1 (rest, refl, later),
      omega (arith, is, ap (λ n. k * n) sum, ap (λ n. point.power * n) (factor_of_difference k slot.to slot.from)),
    ),
  )

  -- something runs in k times as many parts
  busy_finer : (slots : List WholeSlot) → busy (map (finer k) slots) ≡ k * busy slots
  busy_finer slots = finer_sum k (λ slot. slot.to - slot.from) (λ slot. factor_of_difference k slot.to slot.from) slots

  -- and nothing does
  idle_finer : (jobs : List Job) (scale : ℕ) (slots : List WholeSlot) → idle jobs (k * scale) (map (finer k) slots) ≡ k * idle jobs scale slots
  idle_finer jobs scale slots = rw (busy_finer slots) (simp (factor_grouped k, factor_of_difference k))

  -- so the energy is k times as great
  pub energy_both : (jobs : List Job) (points : List Point) (scale fine : ℕ) (slots : List WholeSlot) →
      IsEnergyOnPoints jobs points (k * scale) (map (finer k) slots) fine ↔ ((energy : ℕ) × (fine ≡ k * energy) × IsEnergyOnPoints jobs points scale slots energy)
  energy_both jobs points scale fine slots =
      let idle_power : ℕ = (point_at points 0).power in
      let waits = ap (λ n. idle_power * n) (idle_finer jobs scale slots) in (
        λ (spent, spends, sum).
            let (less, is, also) = (spends_both points slots spent).0 spends in
            (less + idle_power * idle jobs scale slots, omega (arith, sum, is, waits), (less, also, refl)),
        λ (energy, is, (spent, spends, sum)). (k * spent, (spends_both points slots (k * spent)).1 (spent, refl, spends), omega (arith, is, ap (λ n. k * n) sum, waits)),
      )

  -- # Splits

  -- slots that run at a speed without a gap
  runs_both : (speed from to : ℕ) (slots : List WholeSlot) → RunsAtPoint speed (k * from) (k * to) (map (finer k) slots) ↔ RunsAtPoint speed from to slots
  runs_both speed from to [] = same_both k some from to
  runs_both speed from to (slot ∷ slots) = simp (runs_both speed slot.to to slots, speed_both, same_both k some, less_both k some) (λ runs. runs, λ runs. runs)

  -- the same at the slower point
  runs_on_both : (speed from to : ℕ) (slots : List WholeSlot) → RunsOn speed (k * from) (k * to) (map (finer k) slots) ↔ RunsOn speed from to slots
  runs_on_both zero from to slots = none_both k slots
  runs_on_both (suc speed) from to slots = runs_both (suc speed) from to slots

  -- the jobs come in the same order
  turns_finer : (slots : List WholeSlot) → jobs_in_turn (map (finer k) slots) ≡ jobs_in_turn slots
  turns_finer [] = refl
  turns_finer (slot ∷ []) = refl
  turns_finer (slot ∷ next ∷ slots) = rw (turns_finer (next ∷ slots)) refl

-- what `IsEnergyOf` says at a scale
energy_free : (jobs : List Job) (points : List Point) (energy : Fraction) →
    IsFreeOfScale (λ scale whole. (spent : ℕ) × IsEnergyOnPoints jobs points scale whole spent × (spent * energy.den ≡ numerator energy * scale))
energy_free jobs points energy a b scale slots some more positive (fine, spends, same) =
    let (spent, is, whole) = (energy_both a some jobs points scale fine slots).0 spends in
    let at : spent * energy.den ≡ numerator energy * scale =
    omega (arith, order_of_multiples a (spent * energy.den) (numerator energy * scale) some, ap (λ n. n * energy.den) is, same) in
    (b * spent, (energy_both b more jobs points scale (b * spent) slots).1 (spent, refl, whole), omega (arith, ap (λ n. b * n) at))

-- a split in parts that are a times as fine, in parts that are b times as fine: the time at the faster point is what its slots take
split_free : (level : Level) (low high : Point) (stretch : Piece) (a b scale : ℕ) (planned fast slow : List WholeSlot) → 1 ≤ a → 1 ≤ b →
    IsSplitAt (a * scale) level low high stretch (map (finer a) planned) (map (finer a) fast) (map (finer a) slow) →
    IsSplitAt (b * scale) level low high stretch (map (finer b) planned) (map (finer b) fast) (map (finer b) slow)
split_free level low high stretch a b scale planned fast slow some more split =
    let time : ℕ = busy fast in
    let gap : ℕ = level.length * (high.speed - low.speed) in
    let done : ℕ = (level.work - low.speed * level.length) * ((stretch.to - stretch.from) * scale) in
    let is : split.time ≡ a * time =
    omega (arith, runs_busy high.speed (stretch.from * (a * scale)) _ (map (finer a) fast) split.first, busy_finer a some fast) in
    let is_time : time * gap ≡ done = omega (arith, order_of_multiples a (time * gap) done some, split.is_time, ap (λ n. n * gap) is) in
    let switch = λ (k : ℕ). let s : stretch.from * (k * scale) + k * time ≡ k * (stretch.from * scale + time) = omega arith in s in
    record {
      time = b * time;
      is_time = omega (arith, ap (λ n. b * n) is_time);
      first = rw (switch b, factor_out b stretch.from scale) ((runs_both b more high.speed _ _ fast).1
          ((runs_both a some high.speed (stretch.from * scale) (stretch.from * scale + time) fast).0 (rw (is, switch a, factor_out a stretch.from scale) at split.first)));
      then_slow = rw (switch b, factor_out b stretch.to scale) ((runs_on_both b more low.speed _ _ slow).1
          ((runs_on_both a some low.speed (stretch.from * scale + time) (stretch.to * scale) slow).0 (rw (is, switch a, factor_out a stretch.to scale) at split.then_slow)));
      same_order = rw (← map-append (finer b) fast slow, turns_finer b more (fast ++ slow), turns_finer b more planned)
          (rw (← map-append (finer a) fast slow, turns_finer a some (fast ++ slow), turns_finer a some planned) at split.same_order);
      same_work = λ job. rw (← map-append (finer b) fast slow, finer_work b (fast ++ slow) job, finer_work b planned job)
          (ap (λ n. b * n) ((same_both a some _ _).0 (rw (← map-append (finer a) fast slow, finer_work a (fast ++ slow) job, finer_work a planned job) at (split.same_work job))));
    }

-- so a split of written slots is one at a scale exactly where it is at a multiple
split_kept : (level : Level) (low high : Point) (stretch : Piece) (planned fast slow : List WrittenSlot) →
    IsKept (planned ++ fast ++ slow) (λ scale whole. IsSplitAt scale level low high stretch (slots_at scale planned) (slots_at scale fast) (slots_at scale slow))
split_kept level low high stretch planned fast slow scale k is some =
    let front = scale_left scale (planned ++ fast) slow is in
    let free = λ (a b : ℕ). split_free level low high stretch a b scale (slots_at scale planned) (slots_at scale fast) (slots_at scale slow) in
    rw (
      finer_slots k scale planned (scale_left scale planned fast front),
      finer_slots k scale fast (scale_right scale planned fast front),
      finer_slots k scale slow (scale_right scale (planned ++ fast) slow is),
    ) (
      λ split. free 1 k (omega arith) some (simp (one-mul, same_parts) split),
      λ split. simp (one-mul, same_parts) at (free k 1 some (omega arith) split),
    )

-- # The laws

-- energy: one scale decides
pub one_scale_decides_energy : OneScaleDecidesEnergy
one_scale_decides_energy jobs points slots energy scale spent has is spends same = record {
  has_parts = has;
  at_scales = each_scale_of _ (energy_free jobs points energy) slots scale is (spent, spends, same);
}

-- a split: one scale decides
pub one_scale_decides_split : OneScaleDecidesSplit
one_scale_decides_split level low high stretch planned fast slow scale is split =
    one_scale_of (planned ++ fast ++ slow) _ (split_kept level low high stretch planned fast slow) scale is split
