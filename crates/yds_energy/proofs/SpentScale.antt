-- What schedules spend on the operating points, stretch by stretch, is free of scale.
use Rattle.yds_model.proofs.Common.{◌≡◌, ℕ, ◌-◌, ◌*◌, ◌≤◌, List, [], ◌∷◌, map, get_or, refl, ap, ap₂, ◌∙◌, arith, All, ◌↔◌, mul-pos, fun_ext, IsFirstFailure, Job, WholeSlot, of_parts, Piece, Point, hull_multiple, stretches, slots_in, top_of, work_in, time_at, all_time_at, all_energy, in_parts, Spent, IsSpentAt, HoldsStretch, stretch_at, sum_by-mul}
use Rattle.fraction_lemmas.proofs.Divisor.{lowest_terms_are_one}
use Rattle.model_lemmas.proofs.Scale.{finer, finer_sum}
use Rattle.yds_energy.proofs.Finer.{order_of_multiples, factor_out, factor_grouped, factor_of_difference, factor_of_choice, factor_of_choice_or_none, at_most_test, slots_in_finer, IsFreeOfScale}

-- the time at each point of a hull is k times as much for k times the time and the work
pub time_scaled : (k : ℕ) → 1 ≤ k → (multiple time work : ℕ) (hull : List Point) (speed : ℕ) →
    time_at multiple (k * time) (k * work) hull speed ≡ k * time_at multiple time work hull speed
time_scaled k some multiple time work [] speed = omega arith
time_scaled k some multiple time work (point ∷ []) speed = simp (factor_grouped k, factor_of_choice_or_none k)
time_scaled k some multiple time work (low ∷ high ∷ points) speed =
    simp (time_scaled k some multiple time work (high ∷ points) speed, factor_out k, at_most_test k some, factor_of_difference k, factor_grouped k, factor_of_choice_or_none k, factor_of_choice k)

-- parts of one scale are as many of another in proportion
pub parts_same : (points : List Point) (scale unit parts others : ℕ) → 1 ≤ scale → 1 ≤ unit → 1 ≤ hull_multiple points → unit * parts ≡ scale * others →
    in_parts points scale parts ≡ in_parts points unit others
parts_same points scale unit parts others some some_unit wide same =
    let terms = lowest_terms_are_one parts (scale * hull_multiple points) others (unit * hull_multiple points) (mul-pos some wide) (mul-pos some_unit wide)
    (omega (arith, ap (λ n. n * hull_multiple points) same)) in
    ap₂ of_parts terms.0 terms.1

module _ (k scale : ℕ) (some : 1 ≤ k) where
  -- the work in a stretch, in finer parts
  work_in_finer : (stretch : Piece) (slots : List WholeSlot) → work_in (k * scale) stretch (map (finer k) slots) ≡ k * work_in scale stretch slots
  work_in_finer stretch slots = rw (slots_in_finer k scale stretch slots some) (finer_sum k (λ slot. slot.work) (λ slot. refl) (slots_in scale stretch slots))

  -- the top point is fast enough for a stretch
  holds_both : (points : List Point) (stretch : Piece) (slots : List WholeSlot) →
      HoldsStretch points (k * scale) (map (finer k) slots) stretch ↔ HoldsStretch points scale slots stretch
  holds_both points stretch slots =
      omega (arith, work_in_finer stretch slots, order_of_multiples k (work_in scale stretch slots) (top_of points * ((stretch.to - stretch.from) * scale)) some)

  module _ (jobs : List Job) (points : List Point) (slots : List WholeSlot) where
    -- the time at a point
    all_time_finer : (speed : ℕ) → all_time_at jobs points (k * scale) (map (finer k) slots) speed ≡ k * all_time_at jobs points scale slots speed
    all_time_finer speed = simp work_in_finer (simp (factor_out k, time_scaled k some, sum_by-mul))

    -- and the energy
    all_energy_finer : all_energy jobs points (k * scale) (map (finer k) slots) ≡ k * all_energy jobs points scale slots
    all_energy_finer = simp all_time_finer (simp (factor_out k, sum_by-mul))

-- What is spent is free of scale,
pub spent_free : (jobs : List Job) (points : List Point) (spent : Spent) → 1 ≤ hull_multiple points → IsFreeOfScale (IsSpentAt jobs points spent)
spent_free jobs points spent wide a b scale slots some more positive at =
    let same = λ (x y n : ℕ) (one : x ≡ a * n) (other : y ≡ b * n).
    parts_same points (a * scale) (b * scale) x y (mul-pos some positive) (mul-pos more positive) wide
    (omega (arith, ap (λ m. b * scale * m) one, ap (λ m. a * scale * m) other)) in
    record {
      energy = at.energy ∙ same _ _ (all_energy jobs points scale slots) (all_energy_finer a scale some jobs points slots) (all_energy_finer b scale more jobs points slots);
      times = at.times ∙ ap (λ f. map f points) (fun_ext (λ point.
          same _ _ (all_time_at jobs points scale slots point.speed)
          (all_time_finer a scale some jobs points slots point.speed) (all_time_finer b scale more jobs points slots point.speed)));
    }

-- and whether the top point is fast enough for a stretch,
pub holds_free : (points : List Point) (stretch : Piece) → IsFreeOfScale (λ scale whole. HoldsStretch points scale whole stretch)
holds_free points stretch a b scale slots some more positive at =
    (holds_both b scale more points stretch slots).1 ((holds_both a scale some points stretch slots).0 at)

-- for all of them,
pub all_hold_free : (jobs : List Job) (points : List Point) → IsFreeOfScale (λ scale whole. All (HoldsStretch points scale whole) (stretches jobs))
all_hold_free jobs points a b scale slots some more positive at = λ i other within.
    holds_free points (get_or (stretches jobs) i other) a b scale slots some more positive (at i other within)

-- the first for which it isn't,
pub first_failure_free : (jobs : List Job) (points : List Point) (n place : ℕ) →
    IsFreeOfScale (λ scale whole. IsFirstFailure n (λ i. HoldsStretch points scale whole (stretch_at jobs i)) place)
first_failure_free jobs points n place a b scale slots some more positive at = grind (arith, holds_free)

-- and the units that it serves.
pub units_free : (grid units : ℕ) (stretch : Piece) → IsFreeOfScale (λ scale whole. units * scale ≡ grid * work_in scale stretch whole)
units_free grid units stretch a b scale slots some more positive at =
    let work = work_in scale stretch slots in
    let same : units * scale ≡ grid * work = omega (arith, order_of_multiples a (units * scale) (grid * work) some, rw (work_in_finer a scale some stretch slots) at at) in
    rw (work_in_finer b scale more stretch slots) (omega (arith, ap (λ n. b * n) same))
